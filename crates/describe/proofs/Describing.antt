-- What `describe_record` answers. Assumes nothing.
use Rattle.std.proofs.Common.{◌≡◌, ℕ, true, false, refl, cond, leb, length}
use Rattle.std.specs.Prelude.{Result, Ok, Err}
use Rattle.refusal.specs.declared.Refusal.{Refusal}
use Rattle.refusal.specs.declared.Refusal.TheVariants.{Invalid, Room}
use Rattle.text.specs.Text.{Text, Delivers, over}
use Rattle.records.specs.Bytes.{record_at}
use Rattle.phrases.specs.Line.{line}
use Rattle.phrases.specs.Describe.{is_told, outcome_of, left}

-- The line, delivered.
pub described : (s : Text) (a : ℕ) (t : Text) {out out' : Text} {r : Result ℕ Refusal} → is_told s a ≡ true
    → t ≡ line (record_at s) a → Delivers t out out' r → (r ≡ outcome_of s a out) × (out' ≡ left s a out)
unfolding outcome_of left
described s a t h e d = (rw h (rw e at d.answer), rw h (rw e at d.left))

-- As the tactic of `describe_record`: where it tells a line, and where it doesn't.
pub told-answer : (s : Text) (a : ℕ) (out : Text) → is_told s a ≡ true
    → outcome_of s a out ≡ cond (leb (length (line (record_at s) a)) (length out)) (Ok (length (line (record_at s) a))) (Err Room)
unfolding outcome_of
told-answer s a out e = rw e refl

pub told-left : (s : Text) (a : ℕ) (out : Text) → is_told s a ≡ true
    → left s a out ≡ cond (leb (length (line (record_at s) a)) (length out)) (over out 0 (line (record_at s) a)) out
unfolding left
told-left s a out e = rw e refl

pub untold-answer : (s : Text) (a : ℕ) (out : Text) → is_told s a ≡ false → outcome_of s a out ≡ Err Invalid
unfolding outcome_of
untold-answer s a out e = rw e refl

pub untold-left : (s : Text) (a : ℕ) (out : Text) → is_told s a ≡ false → left s a out ≡ out
unfolding left
untold-left s a out e = rw e refl

pub ruleset describing = (told-answer, told-left, untold-answer, untold-left)
