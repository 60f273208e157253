-- Every record that is drawn is well formed, and read back from its bytes. Assumes nothing.
use mathlib.Core.Bool.{Bool, true, false, not, ◌&&◌, true≢false, false≢true}
use mathlib.Core.List.{List, ◌∷◌, map}
use mathlib.Core.Logic.{◌≢◌}
use mathlib.Core.Path.{◌≡◌, refl, sym, ap, ◌∙◌}
use Prim.Native.Nat.{ℕ, zero, suc, ◌+◌, ◌-◌, ◌*◌, ◌/◌, ◌%◌, ◌^◌, ◌<◌, ◌≤◌}
use native.Mathlib.Nat.{not-suc-le-zero}
use native.Mathlib.Omega.{arith}
use lib.Dec.{eqb}
use lib.ListN.{take, drop}
use borrow.Author.Tests.{le-leb, ne_eqb, eqb-true, eqb-false}
use Rattle.model.specs.Members.{is_replica}
use Rattle.model.specs.State.{entries, outline, Outline, RowState}
use Rattle.model.specs.Steps as S
use Rattle.model.specs.Steps.{answer_of}
use Rattle.model.specs.Runs.{steps_of, answers}
use Rattle.model.specs.Records.{Record, bare, of, of_both, of_value, boardless, is_opening, well_formed, step_of}
use Rattle.model.specs.Ranges.{every}
use Rattle.model.proofs.Tests.{of-true, is_true, is_false, by_cond, ne-fact}
use Rattle.model.proofs.Forms.{forms}
use Rattle.members.proofs.Laws.{replica}
use Rattle.records.specs.Bytes.{record_at, sheet_bytes, whole_records, is_sheet}
use Rattle.records.proofs.Encoding.{Words, record-back, records-back}
use Rattle.draws.specs.Draws.{advance, draw, step_from, board_from, second_board, Drawn, draw_record, later, seed_records}
use Rattle.generator.specs.Seeded.{seed_sheet, is_count, not_opening, not_one, WellMade, SheetsWellMade}
use Rattle.draws.proofs.Drawing.{draw-small}
use Rattle.generator.proofs.Sheets.{seed-length, sheet-bytes, opening-first}

-- A number that a test tells apart from k.
differs : (p : ℕ → Bool) (n k : ℕ) → p n ≡ true → p k ≡ false → eqb n k ≡ false
differs p n k h f = ne_eqb n k (λ (e : n ≡ k). true≢false (sym h ∙ ap p e ∙ f))

-- Boards that are drawn are 1 to 8, and a second board is another one.
board-from : (s : ℕ) → is_replica (board_from s) ≡ true
board-from s = replica (board_from s) (omega arith) (omega arith)

second : (a b : ℕ) → 1 ≤ b → b ≤ 8 → (is_replica (second_board a b) && not (eqb a (second_board a b))) ≡ true
second a b l h =
    by_cond (λ c. (is_replica c && not (eqb a c)) ≡ true) (eqb b a)
    (λ t. let e = eqb-true b a (is_true (eqb b a) t) in
    by_cond (λ c. (is_replica c && not (eqb a c)) ≡ true) (eqb b 8)
    (λ u. let f = eqb-true b 8 (is_true (eqb b 8) u) in rw (ne_eqb a 1 (λ (g : a ≡ 1). omega arith)))
    (λ u. let f : (b ≡ 8) → ⊥ = eqb-false b 8 (is_false (eqb b 8) u) in
    rw (replica (b + 1) (omega arith) (omega (arith, f)), ne_eqb a (b + 1) (λ (g : a ≡ b + 1). omega arith))))
    (λ t. let f : (b ≡ a) → ⊥ = eqb-false b a (is_false (eqb b a) t) in
    rw (replica b l h, ne_eqb a b (λ (g : a ≡ b). f (sym g))))

-- A record that was drawn: well formed, a step's, its value of 32 bits.
abbrev Fine : Record → Type 0
Fine r = (well_formed r ≡ true) × (not_opening r ≡ true) × (r.value < 2 ^ 32)

-- By the form of the record.
module _ (n : ℕ) (low : 1 ≤ n) (high : n ≤ 15) where
  step : not (eqb n 0) ≡ true
  step = rw (ne_eqb n 0 (λ (e : n ≡ 0). omega arith))

  fine-none : boardless n ≡ true → Fine (bare n)
  fine-none t =
      (rw (le-leb n 15 high, t, differs boardless n 9 t refl, differs boardless n 1 t refl), step, omega arith)

  module _ (a : ℕ) (ra : is_replica a ≡ true) (f : boardless n ≡ false) where
    fine-both : (c : ℕ) → (is_replica c && not (eqb a c)) ≡ true → eqb n 9 ≡ true → Fine (of_both n a c)
    fine-both c rc t =
        (rw (le-leb n 15 high, f, t, ra, rc, differs (λ k. eqb k 9) n 1 t refl), step, omega arith)

    fine-value : (v : ℕ) → v < 2 ^ 32 → eqb n 9 ≡ false → eqb n 1 ≡ true → Fine (of_value n a v)
    fine-value v h g t = (rw (le-leb n 15 high, f, g, t, ra), step, h)

    fine-one : eqb n 9 ≡ false → eqb n 1 ≡ false → Fine (of n a)
    fine-one g h = (rw (le-leb n 15 high, f, g, h, ra), step, omega arith)

-- A choice among the forms.
abbrev FineDrawn : Drawn → Type 0
FineDrawn d = Fine d.made

fine : (s : ℕ) → FineDrawn (draw_record s)
unfolding draw_record
fine s =
    let s₂ = advance (advance s) in
    let s₃ = advance s₂ in
    let n = step_from (advance s) in
    let a = board_from s₂ in
    let b = board_from s₃ in
    let low : 1 ≤ n = omega arith in
    let high : n ≤ 15 = omega arith in
    by_cond FineDrawn (boardless n) (λ t. fine-none n low high (is_true (boardless n) t)) (λ t.
    let f = is_false (boardless n) t in
    by_cond FineDrawn (eqb n 9)
    (λ u. let o = second a b (omega arith) (omega arith) in
    fine-both n low high a (board-from s₂) f (second_board a b) o (is_true (eqb n 9) u))
    (λ u. let g = is_false (eqb n 9) u in
    by_cond FineDrawn (eqb n 1)
    (λ w. fine-value n low high a (board-from s₂) f (draw s₃) (draw-small s₃) g (is_true (eqb n 1) w))
    (λ w. fine-one n low high a (board-from s₂) f g (is_false (eqb n 1) w))))

-- All records of a sheet

-- What every such record passes, all of them pass.
every-later : (p : Record → Bool) → ((r : Record) → Fine r → p r ≡ true) → (k s : ℕ)
    → every (map p (later k s)) ≡ true
unfolding later
every-later p f zero s = refl
every-later p f (suc k) s =
    rw (f (draw_record s).made (fine s)) (every-later p f k (draw_record s).state)

words : (k s : ℕ) → Words (later k s)
unfolding later
words zero s = tt
words (suc k) s = ((fine s).2, words k (draw_record s).state)

seed-words : (s n : ℕ) → Words (seed_records s n)
unfolding seed_records
seed-words s zero = tt
seed-words s (suc k) = (omega arith, words k (advance s))

-- The checks of such a record do not answer 1,
not-one : (m : Outline) (r : Record) → Fine r → not_one (answer_of m (step_of r)) ≡ true
not-one m r f = sym (forms.steps m r (not-zero r.step f.1)) ∙ f.0
  where
    not-zero : (n : ℕ) → not (eqb n 0) ≡ true → n ≢ 0
    not-zero n h = ne-fact n 0 (of-true h)

-- so none is answered so in a run.
none-one : (k s : ℕ) (x : RowState) → every (map not_one (answers entries x (steps_of (later k s)))) ≡ true
unfolding later answers
none-one zero s x = refl
none-one (suc k) s x =
    let r = (draw_record s).made in
    rw (not-one (outline x) r (fine s)) (none-one k (draw_record s).state (S.step entries x (step_of r)))

-- Fewer records are the first of them.
later-take : (m k s : ℕ) → m ≤ k → take m (later k s) ≡ later m s
unfolding later
later-take zero k s h = refl
later-take (suc m) zero s h = absurd (not-suc-le-zero h)
later-take (suc m) (suc k) s h =
    ap (λ (l : List Record). (draw_record s).made ∷ l) (later-take m k (draw_record s).state (omega arith))

seed-take : (s m n : ℕ) → m ≤ n → take m (seed_records s n) ≡ seed_records s m
unfolding seed_records
seed-take s zero n h = refl
seed-take s (suc m) zero h = absurd (not-suc-le-zero h)
seed-take s (suc m) (suc n) h =
    ap (λ (l : List Record). of 0 (board_from (advance s)) ∷ l) (later-take m n (advance s) (omega arith))

module _ (s k : ℕ) where
  opens : is_opening (of 0 (board_from (advance s))) ≡ true
  opens = rw (board-from (advance s))

  all-formed : every (map well_formed (seed_records s (suc k))) ≡ true
  unfolding seed_records
  all-formed = rw (board-from (advance s)) (every-later well_formed (λ r f. f.0) k (advance s))

  rest : (p : Record → Bool) → ((r : Record) → Fine r → p r ≡ true)
      → every (map p (drop 1 (seed_records s (suc k)))) ≡ true
  unfolding seed_records
  rest p f = every-later p f k (advance s)

-- Refusal 2 lets n records through, with an opening before them.
whole : (n : ℕ) → is_count n ≡ true → whole_records (8 * n) ≡ true
whole n c =
    let z : 8 * n % 8 ≡ 0 = omega arith in
    let q : 8 * n / 8 ≡ n = omega arith in
    rw (z, q) c

first : (s k : ℕ) → record_at (seed_sheet s (suc k)) ≡ of 0 (board_from (advance s))
first s k =
    ap record_at (opening-first s (suc k) (omega arith))
    ∙ record-back (of 0 (board_from (advance s))) (sheet_bytes (later (suc k - 1) (advance s))) (omega arith)

let_through : (s k : ℕ) → is_count (suc k) ≡ true → is_sheet (seed_sheet s (suc k)) ≡ true
let_through s k c = rw (sheet-bytes s (suc k), whole (suc k) c) (ap is_opening (first s k) ∙ opens s k)

none-one-seed : (s k : ℕ) (x : RowState)
    → every (map not_one (answers entries x (steps_of (drop 1 (seed_records s (suc k)))))) ≡ true
unfolding seed_records
none-one-seed s k x = none-one k (advance s) x

well : (s k : ℕ) → is_count (suc k) ≡ true → WellMade s (suc k)
unfolding seed_sheet
well s k c = record {
  bytes = sheet-bytes s (suc k);
  through = let_through s k c;
  read = records-back (seed_records s (suc k)) (suc k) (seed-words s (suc k)) (sym (seed-length s (suc k)));
  formed = all-formed s k;
  steps = rest s k not_opening (λ r f. f.1);
  answered = none-one-seed s k;
  fewer = λ m h. seed-take s m (suc k) h;
}

pub well-made : SheetsWellMade
well-made s zero c = absurd (false≢true c)
well-made s (suc k) c = well s k c
