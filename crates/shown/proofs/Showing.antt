-- The shown list, from the lent places and the length found at the leader's seat. Assumes nothing.
use mathlib.Core.Bool.{Bool, true, false, cond}
use mathlib.Core.List.{List, map}
use mathlib.Core.Path.{◌≡◌, refl, sym, ◌∙◌}
use Prim.Native.Nat.{ℕ, ◌≤◌}
use lib.Dec.{eqb}
use lib.ListN.{take}
use Rattle.model.specs.State.{Entry}
use Rattle.model.specs.Ranges.{in_range}
use Rattle.model.proofs.Tests.{of-true}
use Rattle.model.proofs.Range.{to-ranges}
use Rattle.cluster.specs.declared.Cluster.{Cluster}
use Rattle.cluster.specs.Layout.{at, outline_of}
use Rattle.logstore.specs.Log.{log_of, visible_of}
use Rattle.logstore.proofs.Laws.{take-values, take-terms, log-values, log-terms}
use Rattle.refinement.specs.Refinement.{Places, logged, listed, abs}
use Rattle.shown.specs.Shown.{valid, shown_part, shown_values, shown_terms}
use Rattle.shown.proofs.Valid.{valid-full}

-- The shown list: the part that the leader's length cuts out of the numbers f of the entries.
module _ (row : Cluster) (p : Places) (f : Entry → ℕ) (store list : List ℕ)
    (logs : (b n : ℕ) → map f (log_of (logged p) b n) ≡ log_of store b n)
    (given : (n : ℕ) → map f (take n (listed p)) ≡ take n list) where
  abbrev leader : ℕ
  leader = row.registry.view.leader

  shown-is : valid row p ≡ true → visible_of store list leader (at 0 row.len leader) row.issued
      ≡ map f (cond (eqb leader 0) (abs row p).committed ((abs row p).log leader))
  shown-is v = go (eqb leader 0)
    where
      go : (t : Bool) → cond t (take row.issued list) (log_of store leader (at 0 row.len leader))
          ≡ map f (cond t (abs row p).committed ((abs row p).log leader))
      go true = sym (given row.issued)
      go false = sym (logs leader (at 0 row.len leader))

-- So it is for the values and for the terms.
module _ (row : Cluster) (p : Places) where
  pub shown-values : shown_part row p p.store p.list ≡ shown_values row p
  shown-values = go (valid row p) refl
    where
      go : (t : Bool) → valid row p ≡ t → shown_part row p p.store p.list ≡ shown_values row p
      go true v = let f = valid-full row p v in
          rw v (shown-is row p (λ x. x.value) p.store p.list
          (λ b n. log-values p.store p.store2 b n (f.store ∙ sym f.store2))
          (λ n. take-values p.list p.list2 n (f.list ∙ sym f.list2)) v)
      go false v = rw v refl

  pub shown-terms : shown_part row p p.store2 p.list2 ≡ shown_terms row p
  shown-terms = go (valid row p) refl
    where
      go : (t : Bool) → valid row p ≡ t → shown_part row p p.store2 p.list2 ≡ shown_terms row p
      go true v = let f = valid-full row p v in
          rw v (shown-is row p (λ x. x.term) p.store2 p.list2
          (λ b n. log-terms p.store p.store2 b n (f.store ∙ sym f.store2))
          (λ n. take-terms p.list p.list2 n (f.list ∙ sym f.list2)) v)
      go false v = rw v refl

pub leader-small : (row : Cluster) → in_range (outline_of row) ≡ true → row.registry.view.leader ≤ 8
leader-small row e = (to-ranges (outline_of row) (of-true e)).registry.leader
