-- Refusal 1 by its tests; a row that it lets through is ready. Assumes nothing.
use mathlib.Core.Bool.{true, false, ◌&&◌}
use mathlib.Core.List.{List}
use mathlib.Core.Logic.{◌⊎◌, inl, inr}
use mathlib.Core.Path.{◌≡◌, sym, subst}
use Prim.Native.Nat.{ℕ, zero, suc, ◌≤◌, ◌<◌}
use native.Mathlib.Omega.{arith}
use lib.Dec.{T, eqb, eqb→eq}
use lib.ListN.{length}
use borrow.Author.Tests.{eq-eqb}
use Rattle.model.specs.Members.{is_replica}
use Rattle.model.specs.Ranges.{in_range, kept_in_range}
use Rattle.model.proofs.Tests.{of-true, is_true, split-and, le-or-lt}
use Rattle.model.proofs.Range.{to-ranges}
use Rattle.members.proofs.Laws.{replica}
use Rattle.cluster.specs.declared.Cluster.{Cluster}
use Rattle.cluster.specs.Layout.{at, no_view, outline_of}
use Rattle.refinement.specs.Refinement.{Places, Full, abs, Shape, Ready}
use Rattle.refinement.proofs.Turning.{at_none}
use Rattle.shown.specs.Shown.{lengths_fit, valid}

-- Ranges of the replicas are bounds for every number.
pub bounded : {A : Type 0} (d : A) (xs : List A) (f : A → ℕ) (n : ℕ) → length xs ≡ 8 → f d ≤ n
    → ((b : ℕ) → T (is_replica b) → f (at d xs b) ≤ n) → (b : ℕ) → f (at d xs b) ≤ n
bounded d xs f n e z h zero = z
bounded d xs f n e z h (suc b) = go (le-or-lt (suc b) 8)
  where
    go : (suc b ≤ 8) ⊎ (8 < suc b) → f (at d xs (suc b)) ≤ n
    go (inl l) = h (suc b) (of-true (replica (suc b) (omega arith) l))
    go (inr l) = subst (λ x. f x ≤ n) (sym (at_none d xs (suc b) e l)) z

pub ready : (row : Cluster) → Shape row → in_range (outline_of row) ≡ true → Ready row
ready row s e =
    let r = to-ranges (outline_of row) (of-true e) in
    record {
      shape = s;
      short = record { eight = s.len; most = bounded 0 row.len (λ x. x) 512 s.len (omega arith) r.logs };
      issued = r.committed;
      leaders = bounded no_view row.views (λ v. v.leader) 8 s.views (omega arith) (λ b k. (r.views b k).leader);
      reads = λ g. let n = r.reads g in
          replica row.controller.view.leader (omega (arith, n)) r.controller.leader;
    }

-- Refusal 1 by its three tests.
module _ (row : Cluster) (p : Places) where
  full-fits : Full p → lengths_fit p ≡ true
  full-fits f = rw (
    eq-eqb (length p.store) 4096 f.store,
    eq-eqb (length p.store2) 4096 f.store2,
    eq-eqb (length p.list) 512 f.list,
    eq-eqb (length p.list2) 512 f.list2,
  )

  pub fits-full : lengths_fit p ≡ true → Full p
  fits-full e =
      let a = split-and (eqb (length p.store) 4096 && eqb (length p.store2) 4096 && eqb (length p.list) 512)
      (eqb (length p.list2) 512) (of-true e) in
      let b = split-and (eqb (length p.store) 4096 && eqb (length p.store2) 4096) (eqb (length p.list) 512)
      a.0 in
      let c = split-and (eqb (length p.store) 4096) (eqb (length p.store2) 4096) b.0 in
      record {
        store = eqb→eq (length p.store) 4096 c.0;
        store2 = eqb→eq (length p.store2) 4096 c.1;
        list = eqb→eq (length p.list) 512 b.1;
        list2 = eqb→eq (length p.list2) 512 a.1;
      }

  pub bad-lengths : lengths_fit p ≡ false → valid row p ≡ false
  bad-lengths e = rw e

  pub bad-range : lengths_fit p ≡ true → in_range (outline_of row) ≡ false → valid row p ≡ false
  bad-range e r = rw (e, r)

  pub all-tests : Full p → in_range (outline_of row) ≡ true → valid row p ≡ kept_in_range (abs row p)
  all-tests f r = rw (full-fits f, r)

  valid-tests : valid row p ≡ true → T (lengths_fit p && in_range (outline_of row))
  valid-tests v = (split-and (lengths_fit p && in_range (outline_of row)) (kept_in_range (abs row p)) (of-true v)).0

  pub valid-full : valid row p ≡ true → Full p
  valid-full v =
      fits-full (is_true (lengths_fit p) (split-and (lengths_fit p) (in_range (outline_of row)) (valid-tests v)).0)

  pub valid-range : valid row p ≡ true → in_range (outline_of row) ≡ true
  valid-range v =
      is_true (in_range (outline_of row)) (split-and (lengths_fit p) (in_range (outline_of row)) (valid-tests v)).1
