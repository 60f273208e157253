-- A step is accepted just where its answer is 0, and no answer is above 16: refusals have the numbers 1 to 16. What a
-- list of checks that answers as the step's own do says of what the step leaves and hands back. Assumes nothing.
use mathlib.Core.Bool.{Bool, true, false, cond, ◌&&◌}
use mathlib.Core.List.{List, [], ◌∷◌}
use mathlib.Core.Logic.{⊎_elim, ◌≢◌}
use mathlib.Core.Path.{◌≡◌, refl, sym, ap, ◌∙◌}
use Prim.Native.Nat.{ℕ, ◌≤◌}
use native.Mathlib.Omega.{arith}
use lib.Dec.{T, leb, leb→le}
use Rattle.model.specs.Prelude.{Check, ◌else◌, first_failed, passes}
use Rattle.model.specs.Members.{Members, none}
use Rattle.model.specs.State.{Entries, State, Outline, outline}
use Rattle.model.specs.Steps.{Step, append, commit, add, remove, change_leader, refresh, join, receive, acknowledge, refresh_controller, read_leader, read, set_normal, hear, install, malformed, checks, accepted, answer_of, qualified, behind, next, step}
use Rattle.model.proofs.Tests.{split-and, ne-fact, eq-or-ne, of-true, Holds, facts}

-- Refusals have the numbers 1 to 16.
abbrev pub numbered : List Check → Bool
numbered [] = true
numbered ((c else n) ∷ cs) = (leb 1 n && leb n 16) && numbered cs

-- Where the answer is 0, no check fails.
pub zero-passes : (cs : List Check) → T (numbered cs) → first_failed cs ≡ 0 → passes cs ≡ true
zero-passes [] t e = refl
zero-passes ((true else n) ∷ cs) t e = zero-passes cs (split-and (leb 1 n && leb n 16) (numbered cs) t).1 e
zero-passes ((false else n) ∷ cs) t e =
    absurd (omega (
      arith,
      leb→le 1 n (split-and (leb 1 n) (leb n 16) (split-and (leb 1 n && leb n 16) (numbered cs) t).0).0,
      e,
    ))

-- So each of them holds, and is found by its refusal.
pub zero-holds : (cs : List Check) → T (numbered cs) → first_failed cs ≡ 0 → Holds cs
zero-holds cs t e = facts cs (of-true (zero-passes cs t e))

first-most : (cs : List Check) → T (numbered cs) → first_failed cs ≤ 16
first-most [] t = omega arith
first-most ((true else n) ∷ cs) t = first-most cs (split-and (leb 1 n && leb n 16) (numbered cs) t).1
first-most ((false else n) ∷ cs) t =
    leb→le n 16 (split-and (leb 1 n) (leb n 16) (split-and (leb 1 n && leb n 16) (numbered cs) t).0).1

passes-zero : (cs : List Check) → passes cs ≡ true → first_failed cs ≡ 0
passes-zero [] e = refl
passes-zero ((true else n) ∷ cs) e = passes-zero cs e
passes-zero ((false else n) ∷ cs) e = let z : ◌≡◌ {A = ℕ} 0 1 = cc in absurd (ne-fact 0 1 tt z)

all-numbered : (m : Outline) (st : Step) → T (numbered (checks m st))
all-numbered m (append b v) = tt
all-numbered m (commit b) = tt
all-numbered m (add b) = tt
all-numbered m (remove b) = tt
all-numbered m change_leader = tt
all-numbered m (refresh b) = tt
all-numbered m (join b) = tt
all-numbered m (receive b) = tt
all-numbered m (acknowledge a b) = tt
all-numbered m refresh_controller = tt
all-numbered m read_leader = tt
all-numbered m (read b) = tt
all-numbered m set_normal = tt
all-numbered m (hear b) = tt
all-numbered m (install b) = tt
all-numbered m malformed = tt

pub answer-most : (m : Outline) (st : Step) → answer_of m st ≤ 16
answer-most m st = first-most (checks m st) (all-numbered m st)

pub zero-accepted : (m : Outline) (st : Step) → answer_of m st ≡ 0 → accepted m st ≡ true
zero-accepted m st e = zero-passes (checks m st) (all-numbered m st) e

pub nonzero-refused : (m : Outline) (st : Step) → answer_of m st ≢ 0 → accepted m st ≡ false
nonzero-refused m st n = go (accepted m st) refl
  where
    go : (t : Bool) → accepted m st ≡ t → t ≡ false
    go true e = absurd (n (passes-zero (checks m st) e))
    go false e = refl

-- The checks cs answer n, and so does the step st of the state s. What is left of a part of s: refused that part,
-- accepted what the model leaves of it.
module _ (𝓔 : Entries) (s : State 𝓔.Entry) (st : Step) (cs : List Check) (own : T (numbered cs))
    (same : first_failed cs ≡ answer_of (outline s) st) (n : ℕ) (e : n ≡ first_failed cs) {P : Type 0}
    (part : State 𝓔.Entry → P) (p : P) where
  pub part_left : (n ≢ 0 → p ≡ part s) → (n ≡ 0 → Holds cs → p ≡ part (next 𝓔 s st)) → p ≡ part (step 𝓔 s st)
  part_left refused taken = ⊎_elim yes no (eq-or-ne n 0)
    where
      left : {t : Bool} → accepted (outline s) st ≡ t → part (cond t (next 𝓔 s st) s) ≡ part (step 𝓔 s st)
      left q = ap (λ t. part (cond t (next 𝓔 s st) s)) (sym q)

      yes : n ≡ 0 → p ≡ part (step 𝓔 s st)
      yes z = taken z (zero-holds cs own (sym e ∙ z)) ∙ left (zero-accepted (outline s) st (sym (e ∙ same) ∙ z))

      no : n ≢ 0 → p ≡ part (step 𝓔 s st)
      no h = refused h ∙ left (nonzero-refused (outline s) st (λ z. h (e ∙ same ∙ z)))

-- The step st answers n. The set q that is handed back: no one where it is refused, those that qualify where accepted.
pub set-left : (m : Outline) (st : Step) (n : ℕ) → n ≡ answer_of m st → (q : Members) → (n ≢ 0 → q ≡ none)
    → (n ≡ 0 → q ≡ qualified m st) → q ≡ behind m st
set-left m st n e q refused taken = ⊎_elim yes no (eq-or-ne n 0)
  where
    left : {t : Bool} → accepted m st ≡ t → cond t (qualified m st) none ≡ behind m st
    left a = ap (λ t. cond t (qualified m st) none) (sym a)

    yes : n ≡ 0 → q ≡ behind m st
    yes z = taken z ∙ left (zero-accepted m st (sym e ∙ z))

    no : n ≢ 0 → q ≡ behind m st
    no h = refused h ∙ left (nonzero-refused m st (λ z. h (e ∙ z)))
