-- A sheet that was run, and its text: what was written is what the definition says. Assumes nothing.
use mathlib.Core.Bool.{Bool, true, false, cond, ◌&&◌}
use Rattle.std.specs.Prelude.{Result, Ok, Err}
use Rattle.refusal.specs.declared.Refusal.{Refusal}
use Rattle.refusal.specs.declared.Refusal.TheVariants.{Sheet, Room}
use mathlib.Core.List.{List}
use mathlib.Core.Path.{◌≡◌, refl, sym, ap, subst, ◌∙◌}
use Prim.Native.Nat.{ℕ, ◌+◌, ◌*◌, ◌/◌, ◌<◌, ◌≤◌}
use native.Mathlib.Omega.{arith}
use lib.Dec.{leb}
use lib.ListN.{length, get_or, drop}
use lib.Seq.{get_or-drop}
use borrow.Author.Tests.{le-leb, leb-true}
use Rattle.text.specs.declared.Page.{Page}
use Rattle.model.specs.Records.{Record}
use Rattle.text.specs.Text.{Text, over, each_of, Puts, HasRoom, Delivers}
use Rattle.text.proofs.Laws.{over-length, each-room, each-most, room-next}
use Rattle.records.specs.Bytes.{record_at, is_sheet}
use Rattle.records.proofs.Decoding.{room}
use Rattle.phrases.specs.Phrases.{is_listed}
use Rattle.phrases.specs.Line.{line}
use Rattle.phrases.proofs.Listed.{covers}
use Rattle.phrases.proofs.Lengths.{line-most, line-least, value-small}
use Rattle.running.specs.Running.{answers_of}
use Rattle.running.proofs.Playing.{sheet-whole, answers-most}
use Rattle.explain.specs.Explain.{line_at, lines_of, explained, outcome_of, left, LengthsTell}

-- An answer up to 16 is on the list.
pub listed-most : (a : ℕ) → a ≤ 16 → is_listed a ≡ true
listed-most a h = covers.listed a ∙ le-leb a 19 (omega (arith, h))

-- The answers of a run are on the list.
pub all_listed : (s : Text) (i : ℕ) → is_listed (get_or (answers_of s) i 0) ≡ true
all_listed s i = listed-most (get_or (answers_of s) i 0) (answers-most s i)

-- The lines with those answers are the text.
pub told : (s : Text) (ns : List ℕ) {out out' : Text} {r : Result ℕ Refusal} → is_sheet s ≡ true → ns ≡ answers_of s
    → Delivers (lines_of s ns) out out' r → (r ≡ outcome_of s out) × (out' ≡ left s out)
unfolding outcome_of left explained
told s ns {out} {out'} {r} e f d =
    let d' = subst (λ t. Delivers (lines_of s t) out out' r) f d in (rw e d'.answer, rw e d'.left)

-- Lengths

-- Lines with answers on the list have at most 96 bytes each.
pub text-most : (s : Text) (ns : List ℕ) (n : ℕ) → ((i : ℕ) → get_or s i 0 ≤ 255)
    → ((i : ℕ) → i < n → is_listed (get_or ns i 0) ≡ true) → length (each_of (line_at s ns) n) ≤ 96 * n
text-most s ns n b h = each-most (line_at s ns) 96 n short
  where
    short : (i : ℕ) → i < n → length (line_at s ns i) ≤ 96
    short i q =
        let v = value-small (drop (8 * i) s) (λ j. omega (arith, get_or-drop (8 * i) s j 0, b (8 * i + j))) in
        line-most (record_at (drop (8 * i) s)) (get_or ns i 0) v (h i q)

-- Of a sheet with its answers, as the code goes over them

module _ (s : Text) (ns : List ℕ) (n : ℕ) (each : n ≡ length s / 8) where
  pub line-next : {r : Record} (i : ℕ) → r ≡ record_at (drop (8 * i) s) → line r (get_or ns i 0) ≡ line_at s ns i
  line-next i e = ap (λ r. line r (get_or ns i 0)) e

  -- Room for all lines is room for the next,
  pub room-line : {p q : Page} (i : ℕ) → i < n → Puts p (each_of (line_at s ns) i) q → HasRoom p (lines_of s ns)
      → HasRoom q (line_at s ns i)
  room-line i h w r = room-next (line_at s ns) i (length s / 8) (omega arith) w r

  -- and they are n times 96 bytes at most.
  pub room-enough : (room : ℕ) → ((i : ℕ) → get_or s i 0 ≤ 255) → ((i : ℕ) → i < n → is_listed (get_or ns i 0) ≡ true)
      → 96 * n ≤ room → leb (length (lines_of s ns)) room ≡ true
  room-enough room b l h =
      le-leb (length (lines_of s ns)) room
      (omega (arith, text-most s ns (length s / 8) b (λ i q. l i (omega (arith, q)))))

pub lengths-tell : LengthsTell
unfolding LengthsTell explained
lengths-tell s b e =
    let text = line_at s (answers_of s) in
    let n = length s / 8 in
    let some : 0 < n = omega (arith, room (length s) (sheet-whole s e)) in (
      omega (arith, each-room text 0 n some, line-least (record_at (drop 0 s)) (get_or (answers_of s) 0 0)),
      text-most s (answers_of s) n b (λ i q. all_listed s i),
    )

-- A text that is handed out stands within the slice, so a caller can read it back.
pub readable : (s out : Text) {r : Result ℕ Refusal} {out' : Text} {n : ℕ} → (r ≡ outcome_of s out) × (out' ≡ left s out)
    → r ≡ Ok n → n ≤ length out'
unfolding outcome_of left
readable s out {r} {out'} {n} p e = go (is_sheet s) (leb (length (explained s)) (length out)) refl (sym e ∙ p.0) p.1
  where
    go : (t u : Bool) → leb (length (explained s)) (length out) ≡ u
        → Ok n ≡ cond t (cond u (Ok (length (explained s))) (Err Room)) (Err Sheet)
        → out' ≡ cond (t && u) (over out 0 (explained s)) out → n ≤ length out'
    go true true f x y =
        let n' : n ≡ length (explained s) = cc in
        omega (arith, leb-true (length (explained s)) (length out) f, ap length y, over-length out 0 (explained s))
    go true false f x y = absurd (cc)
    go false u f x y = absurd (cc)
