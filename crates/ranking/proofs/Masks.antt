-- Those of a mask that are below a replica: one test that antt computes, over 8 replicas and 8. Assumes nothing.
use mathlib.Core.Bool.{Bool, true, false, ◌&&◌, and_comm, beq}
use mathlib.Core.Path.{◌≡◌, refl, sym, ap, ◌∙◌, fun_ext}
use Prim.Native.Nat.{ℕ, ◌-◌, ◌*◌, ◌%◌, ◌^◌, ◌≤◌}
use lib.Bits.{bit_and}
use lib.Dec.{ltb}
use Rattle.model.specs.Members.{Members, is_replica, ◌∩◌}
use Rattle.members.specs.Mask.{bits}
use Rattle.members.proofs.Finite.{each, at-replicas, beq-true}
use Rattle.members.proofs.Laws.{replica-range, bits_out, bits-both}

-- The mask of all below b.
abbrev pub below_mask : ℕ → ℕ
below_mask b = 255 - 255 * 2 ^ (b - 1) % 256

below_test : ℕ → ℕ → Bool
below_test b x = beq (bits (below_mask b) x) (ltb x b)

below-passes : each (λ b. each (below_test b)) ≡ true
unfolding bits below_test
below-passes = refl

pub bits-below : (m b : ℕ) → 1 ≤ b → b ≤ 8 → bits (bit_and m (below_mask b)) ≡ (λ x. ltb x b) ∩ bits m
unfolding below_test
bits-below m b h k = bits-both m (below_mask b) ∙ fun_ext (λ x. go x (is_replica x) refl)
  where
    no : (t : Bool) → false ≡ (t && false)
    no true = refl
    no false = refl

    go : (x : ℕ) (t : Bool) → is_replica x ≡ t → (bits m x && bits (below_mask b) x) ≡ (ltb x b && bits m x)
    go x true e =
        let r = replica-range x e in
        ap (λ t. bits m x && t) (beq-true _ _ (at-replicas below_test below-passes b x h k r.0 r.1))
        ∙ and_comm (bits m x) (ltb x b)
    go x false e = rw (bits_out m x e) (no (ltb x b))
