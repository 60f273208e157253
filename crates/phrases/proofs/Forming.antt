-- A line's parts by what is tested of a record and an answer. Assumes nothing.
use mathlib.Core.Bool.{true, false, not, cond, ◌&&◌, ◌||◌}
use mathlib.Core.List.{◌++◌}
use mathlib.Core.Logic.{◌≢◌}
use mathlib.Core.Path.{◌≡◌}
use Prim.Native.Nat.{ℕ, ◌≤◌}
use lib.Dec.{T, leb, eqb, leb→le, eqb→eq}
use borrow.Author.Tests.{eq-eqb, ne_eqb}
use Rattle.model.specs.Members.{is_replica}
use Rattle.model.specs.Records.{Record, boardless, well_formed}
use Rattle.model.proofs.Tests.{of-true, split-and, by-test, is_true, is_false}
use Rattle.lines.specs.Lines.{word}
use Rattle.phrases.specs.Phrases.{no_step}
use Rattle.phrases.specs.Line.{step_text, raw_text, head_text, place, reason_text, verdict_text}

-- What is known of the fields of a well-formed record.
pub record Formed (r : Record) : Type 0 where
  pub step : r.step ≤ 15
  pub board : T (cond (boardless r.step) (eqb r.board 0) (is_replica r.board))
  pub other : T (cond (eqb r.step 9) (is_replica r.other && not (eqb r.board r.other)) (eqb r.other 0))
  pub spare : r.spare ≡ 0
  pub value : T (eqb r.step 1 || eqb r.value 0)

pub formed : (r : Record) → well_formed r ≡ true → Formed r
formed r e =
    let b = cond (boardless r.step) (eqb r.board 0) (is_replica r.board) in
    let o = cond (eqb r.step 9) (is_replica r.other && not (eqb r.board r.other)) (eqb r.other 0) in
    let v = eqb r.step 1 || eqb r.value 0 in
    let l = leb r.step 15 in
    let z = eqb r.spare 0 in
    let t4 = split-and (l && b && o && z) v (of-true e) in
    let t3 = split-and (l && b && o) z t4.0 in
    let t2 = split-and (l && b) o t3.0 in
    let t1 = split-and l b t2.0 in
    record {
      step = leb→le r.step 15 t1.0;
      board = t1.1;
      other = t2.1;
      spare = eqb→eq r.spare 0 t3.1;
      value = t4.1;
    }

-- By whether a record is well formed.
pub by_form : {P : Type 0} (r : Record) → (well_formed r ≡ true → P) → (well_formed r ≡ false → P) → P
by_form r f g = by-test (well_formed r) (λ t. f (is_true (well_formed r) t)) (λ t. g (is_false (well_formed r) t))

module _ (r : Record) where
  pub head-formed : well_formed r ≡ true → step_text r ≡ head_text r
  unfolding head_text
  head-formed e = rw e

  pub head-raw : well_formed r ≡ false → raw_text r ≡ head_text r
  unfolding head_text
  head-raw e = rw e

  pub place-formed : well_formed r ≡ true → r.step ≡ place r
  place-formed e = rw e

  pub place-raw : well_formed r ≡ false → no_step ≡ place r
  place-raw e = rw e

module _ (k a : ℕ) where
  pub verdict-accepted : a ≡ 0 → reason_text k a ≡ verdict_text k a
  unfolding verdict_text
  verdict-accepted e = rw (eq-eqb a 0 e)

  pub verdict-refused : a ≢ 0 → word "refused, " ++ reason_text k a ≡ verdict_text k a
  unfolding verdict_text
  verdict-refused e = rw (ne_eqb a 0 e)
