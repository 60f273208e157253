-- A record is well formed just where no row answers 1 to its step. Assumes nothing.
use mathlib.Core.Bool.{Bool, true, false, not, cond, ◌&&◌, and-true, and_assoc, and_comm}
use mathlib.Core.List.{List, [], ◌∷◌}
use mathlib.Core.Logic.{◌⊎◌, inl, inr, ◌≢◌}
use mathlib.Core.Path.{◌≡◌, refl, sym, ap, subst, ◌∙◌}
use Prim.Native.Nat.{ℕ, zero, suc, ◌+◌, ◌≤◌}
use native.Mathlib.Nat.{zero-add}
use native.Mathlib.Omega.{arith}
use lib.Dec.{T, eqb}
use lib.ListN.{length, get_or}
use borrow.Author.Tests.{eq-eqb, ne_eqb, lt-leb}
use Rattle.model.specs.Prelude.{Check, ◌else◌, first_failed, asks}
use Rattle.model.specs.Members.{is_replica}
use Rattle.model.specs.State.{Outline}
use Rattle.model.specs.Steps.{Step, append, commit, add, remove, change_leader, refresh, join, receive, acknowledge, refresh_controller, read_leader, read, set_normal, hear, install, malformed, checks, answer_of}
use Rattle.model.specs.Records.{Record, well_formed, is_opening, unused, rules, step_of, Forms}
use Rattle.model.proofs.Tests.{split-and, is_false, by_cond, eq-or-ne}
use Rattle.model.proofs.Refusals.{absent, absent-not}
use Rattle.model.proofs.Theorem.{All}
use Rattle.model.proofs.Rules.{◌then◌}

-- The element at a place, past the end too.
at : {A : Type 0} (P : ℕ → A → Type 0) (d : A) (xs : List A) (k n : ℕ)
    → ((m : ℕ) → k + length xs ≤ m → P m d) → All P k xs → P (k + n) (get_or xs n d)
at P d [] k n out a = out (k + n) (omega arith)
at P d (x ∷ xs) k zero out a = subst (λ m. P m x) (omega arith) a.0
at P d (x ∷ xs) k (suc n) out a =
    subst (λ m. P m (get_or xs n d)) (omega arith) (at P d xs (suc k) n (λ m h. out m (omega arith)) a.1)

-- The tests of a record in document 01's order, and in the order in which a step's are made.
turn : (a b c d : Bool) → (a && b && c && d) ≡ ((b && (c && (d && true))) && a)
turn a b c d = simp (and_assoc, and-true) (simp and_assoc at (and_comm a (b && (c && d))))

turn-pair : (a b c d e : Bool) → (a && (b && c) && d && e) ≡ ((d && (e && true)) && (a && b && c))
turn-pair a b c d e = simp (and_assoc, and-true) (simp and_assoc at (and_comm (a && (b && c)) (d && e)))

same : (a b c d : Bool) → (a && b && c && d) ≡ ((a && (b && (c && (d && true)))) && true)
same a b c d = simp (and_assoc, and-true)

-- A record with r's fields, but the number n.
abbrev at-step : Record → ℕ → Record
at-step r n = record { step = n; board = r.board; other = r.other; spare = r.spare; value = r.value }

-- All fields that a step does not use are zero.
abbrev all_zero : List ℕ → Bool
all_zero [] = true
all_zero (n ∷ ns) = eqb n 0 && all_zero ns

-- The first check alone may have refusal 1.
abbrev leading : List Check → Bool
leading [] = true
leading (c ∷ cs) = absent 1 cs

not-one : (cs : List Check) → T (absent 1 cs) → not (eqb (first_failed cs) 1) ≡ true
not-one cs t = rw (ne_eqb (first_failed cs) 1 (absent-not 1 (λ e. omega arith) cs t))

absent-asks : (cs : List Check) → T (absent 1 cs) → asks 1 cs ≡ true
absent-asks [] t = refl
absent-asks ((c else n) ∷ cs) t =
    let h = split-and (not (eqb 1 n)) (absent 1 cs) t in
    rw (is_false (eqb 1 n) h.0) (absent-asks cs h.1)

-- Then the answer is 1 just where that check fails.
one-asks : (cs : List Check) → T (leading cs) → not (eqb (first_failed cs) 1) ≡ asks 1 cs
one-asks [] t = refl
one-asks ((true else n) ∷ cs) t =
    not-one cs t ∙ sym (by_cond (λ x. x ≡ true) (eqb 1 n) (λ _. refl) (λ _. absent-asks cs t))
one-asks ((false else n) ∷ cs) t = go (eq-or-ne n 1)
  where
    go : (n ≡ 1) ⊎ (n ≢ 1) → not (eqb n 1) ≡ cond (eqb 1 n) false (asks 1 cs)
    go (inl e) = rw (eq-eqb n 1 e, eq-eqb 1 n (sym e))
    go (inr h) = rw (ne_eqb n 1 h, ne_eqb 1 n (λ e. h (sym e))) (sym (absent-asks cs t))

module _ (m : Outline) where
  -- The step st is not answered 1.
  abbrev fine : Step → Bool
  fine st = not (eqb (answer_of m st) 1)

  fine-unused : (ns : List ℕ) (st : Step) → fine (unused ns st) ≡ (all_zero ns && fine st)
  fine-unused [] st = refl
  fine-unused (n ∷ ns) st = go (eqb n 0) (fine-unused ns st)
    where
      go : (t : Bool) → fine (unused ns st) ≡ (all_zero ns && fine st)
          → fine (cond t (unused ns st) malformed) ≡ (t && all_zero ns && fine st)
      go true e = e
      go false e = refl

  -- A rule: unused fields zero, and the first check.
  rule : (ns : List ℕ) (st : Step) → T (leading (checks m st))
      → (all_zero ns && asks 1 (checks m st)) ≡ fine (unused ns st)
  rule ns st t = sym (fine-unused ns st ∙ ap (λ x. all_zero ns && x) (one-asks (checks m st) t))

  module _ (r : Record) where
    open r use {board, other, spare, value}

    -- That one is well formed just where st is not answered 1.
    abbrev Formed : ℕ → Step → Type 0
    Formed n st = n ≢ 0 → well_formed (at-step r n) ≡ fine st

    abbrev rest : List ℕ
    rest = other ∷ spare ∷ value ∷ []

    with-board : (st : Step) → T (leading (checks m st)) → asks 1 (checks m st) ≡ is_replica board
        → (is_replica board && eqb other 0 && eqb spare 0 && eqb value 0) ≡ fine (unused rest st)
    with-board st t e = turn (is_replica board) (eqb other 0) (eqb spare 0) (eqb value 0)
        ∙ ap (λ x. all_zero rest && x) (sym e) ∙ rule rest st t

    with_none : (st : Step) → T (leading (checks m st)) → asks 1 (checks m st) ≡ true
        → (eqb board 0 && eqb other 0 && eqb spare 0 && eqb value 0) ≡ fine (unused (board ∷ rest) st)
    with_none st t e = same (eqb board 0) (eqb other 0) (eqb spare 0) (eqb value 0)
        ∙ ap (λ x. all_zero (board ∷ rest) && x) (sym e) ∙ rule (board ∷ rest) st t

    rules-formed : All Formed 0 (rules r)
    rules-formed = (λ n. absurd (n refl))
        then (λ _. turn (is_replica board) (eqb other 0) (eqb spare 0) true
        ∙ rule (other ∷ spare ∷ []) (append board value) tt)
        then (λ _. with-board (commit board) tt refl)
        then (λ _. with-board (add board) tt refl)
        then (λ _. with-board (remove board) tt refl)
        then (λ _. with_none change_leader tt refl)
        then (λ _. with-board (refresh board) tt refl)
        then (λ _. with-board (join board) tt refl)
        then (λ _. with-board (receive board) tt refl)
        then (λ _. turn-pair (is_replica board) (is_replica other) (not (eqb board other)) (eqb spare 0) (eqb value 0)
        ∙ rule (spare ∷ value ∷ []) (acknowledge board other) tt)
        then (λ _. with_none refresh_controller tt refl)
        then (λ _. with_none read_leader tt refl)
        then (λ _. with-board (read board) tt refl)
        then (λ _. with_none set_normal tt refl)
        then (λ _. with-board (hear board) tt refl)
        then (λ _. with-board (install board) tt refl)
        then tt

    formed : r.step ≢ 0 → well_formed r ≡ fine (step_of r)
    formed n = subst (λ k. Formed k (step_of r)) (zero-add r.step)
        (at Formed malformed (rules r) 0 r.step above rules-formed) n
      where
        above : (k : ℕ) → 16 ≤ k → Formed k malformed
        above k h n = rw (lt-leb k 15 h)

pub forms : Forms
forms = record {
  steps = formed;
  openings = λ r e. subst (λ n. well_formed (at-step r n) ≡ is_opening (at-step r n)) (sym e) refl;
}
