-- The test of the calls' entries is exact: it says whether they are the same entry. Assumes nothing.
use Rattle.std.specs.Prelude.{Bool, true, false, ◌&&◌, ◌↔◌, ◌≡◌, T, eqb}
use Rattle.std.proofs.Common.{subst, eqb→eq}
use Rattle.std.proofs.Math.Dec.{eqb_refl}
use Rattle.model.specs.State.{Entry, entry, same_entry}

-- (Used for the next alone: a conjunction of tests holds just where both do.)
both : (a b : Bool) → T (a && b) ↔ (T a × T b)
both true b = (λ t. (tt, t), λ h. h.1)
both false b = (λ t. absurd t, λ h. h.0)

-- The test is exact: it says whether they are the same entry.
pub same-entry : (x y : Entry) → T (same_entry x y) ↔ (x ≡ y)
same-entry x y = (
  λ t. let h = (both (eqb x.value y.value) (eqb x.term y.term)).0 t in
      λ i. entry (eqb→eq x.value y.value h.0 i) (eqb→eq x.term y.term h.1 i),
  λ e. subst (λ z. T (same_entry x z)) e
      ((both (eqb x.value x.value) (eqb x.term x.term)).1 (eqb_refl x.value, eqb_refl x.term)),
)
