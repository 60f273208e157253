-- Places by replica, and a controller that has heard nothing. Assumes nothing.
use mathlib.Core.List.{List, ◌∷◌}
use mathlib.Core.Path.{◌≡◌, refl, ap, ◌∙◌, fun_ext}
use Prim.Native.Nat.{ℕ, zero, suc, ◌-◌, ◌≤◌}
use native.Mathlib.Omega.{arith}
use lib.ListN.{length, get_or, set, replicate}
use lib.Seq.{get_or-set_same, get_or-set_other}
use borrow.Author.Tests.{ne_eqb}
use Rattle.model.specs.Prelude.{upd}
use Rattle.model.specs.State.{zeros}
use Rattle.model.specs.Steps.{deaf}
use Rattle.model.proofs.Tests.{at-or, eqb_same}
use Rattle.cluster.specs.declared.View.{View}
use Rattle.cluster.specs.declared.Stage.{Stage}
use Rattle.cluster.specs.Layout.{view_of, stage_of, at, controller_of}

-- A list of what is found outside it.
pub get_d-same : {A : Type 0} (d : A) (n i : ℕ) → get_or (replicate n d) i d ≡ d
get_d-same d zero i = refl
get_d-same d (suc n) zero = refl
get_d-same d (suc n) (suc i) = get_d-same d n i

-- A controller with nothing heard.
pub deaf-of : (v : View) (g : Stage)
    → controller_of (record { view = v; stage = g; heard = replicate 8 0; joined = replicate 8 0 })
    ≡ deaf (view_of v) (stage_of g)
deaf-of v g =
    let none : at 0 (replicate 8 0) ≡ zeros = fun_ext (get_d-same 0 9) in
    λ i. record { view = view_of v; stage = stage_of g; heard = none i; heard_joined = none i }

-- What a replica's number finds in a list.
pub at-index : {A : Type 0} (d : A) (xs : List A) (b : ℕ) → 1 ≤ b → at d xs b ≡ get_or xs (b - 1) d
at-index d xs b h = let p : b ≡ suc (b - 1) = omega arith in ap (λ n. get_or (d ∷ xs) n d) p

-- A write at a replica's place is the model's point update.
pub at_set : {A : Type 0} (d : A) (xs : List A) (b : ℕ) (v : A) → 1 ≤ b → b ≤ 8 → length xs ≡ 8
    → at d (set xs (b - 1) v) ≡ upd (at d xs) b v
at_set d xs b v h k e =
    fun_ext (λ x. ap (λ l. get_or l x d) shift ∙ at-or {P = λ x. get_or (set (d ∷ xs) b v) x d ≡ upd (at d xs) b v x} b
    (rw (eqb_same b) (get_or-set_same (d ∷ xs) b v d (omega arith)))
    (λ x n. rw (ne_eqb x b n) (get_or-set_other (d ∷ xs) b x v d n)) x)
  where
    shift : d ∷ set xs (b - 1) v ≡ set (d ∷ xs) b v
    shift = let p : suc (b - 1) ≡ b = omega arith in ap (λ n. set (d ∷ xs) n v) p
