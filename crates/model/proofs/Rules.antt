-- What holds of what is no step, and of each step under its number, holds of the step that a record stands for. Assumes
-- nothing.
use mathlib.Core.List.{List, [], ◌∷◌}
use mathlib.Core.Path.{subst}
use Prim.Native.Nat.{ℕ, suc}
use native.Mathlib.Nat.{zero-add}
use lib.Dec.{eqb}
use Rattle.model.specs.Steps.{Step, append, commit, add, remove, change_leader, refresh, join, receive, acknowledge, refresh_controller, read_leader, read, set_normal, hear, install, malformed}
use Rattle.model.specs.Records.{Record, unused, rules, step_of}
use Rattle.model.proofs.Tests.{by_cond}
use Rattle.model.proofs.Theorem.{All, nth}

-- A list of facts, one for each element.
infixr 10 ◌then◌
pub ◌then◌ : {A B : Type 0} → A → B → A × B
a then b = (a, b)

module _ (r : Record) where
  open r use {board, other, spare, value}

  -- The steps of its fields, from number 1 on, and the fields that each does not use.
  abbrev pub plain : List Step
  plain = append board value ∷ commit board ∷ add board ∷ remove board ∷ change_leader ∷ refresh board ∷ join board
      ∷ receive board ∷ acknowledge board other ∷ refresh_controller ∷ read_leader ∷ read board ∷ set_normal ∷ hear board
      ∷ install board ∷ []

  abbrev one : List ℕ
  one = other ∷ spare ∷ value ∷ []

  abbrev spares : List (List ℕ)
  spares = (other ∷ spare ∷ []) ∷ one ∷ one ∷ one ∷ (board ∷ one) ∷ one ∷ one ∷ one ∷ (spare ∷ value ∷ [])
      ∷ (board ∷ one) ∷ (board ∷ one) ∷ one ∷ (board ∷ one) ∷ one ∷ one ∷ []

-- Each step, if those fields are zero.
abbrev each : List (List ℕ) → List Step → List Step
each [] sts = []
each (ns ∷ nss) [] = []
each (ns ∷ nss) (st ∷ sts) = unused ns st ∷ each nss sts

module _ (P : ℕ → Step → Type 0) (no : (n : ℕ) → P n malformed) where
  if-zero : (n : ℕ) (ns : List ℕ) (st : Step) → P n st → P n (unused ns st)
  if-zero n [] st p = p
  if-zero n (k ∷ ns) st p = by_cond (P n) (eqb k 0) (λ _. if-zero n ns st p) (λ _. no n)

  each_holds : (n : ℕ) (nss : List (List ℕ)) (sts : List Step) → All P n sts → All P n (each nss sts)
  each_holds n [] sts a = tt
  each_holds n (ns ∷ nss) [] a = tt
  each_holds n (ns ∷ nss) (st ∷ sts) a = (if-zero n ns st a.0, each_holds (suc n) nss sts a.1)

  pub by-rule : (r : Record) → All P 1 (plain r) → P r.step (step_of r)
  by-rule r a = subst (λ n. P n (step_of r)) (zero-add r.step)
      (nth P malformed no (rules r) 0 r.step (no 0, each_holds 1 (spares r) (plain r) a))
