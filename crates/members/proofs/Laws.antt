-- Masks and the sets that they stand for. A law over all masks is one test that antt computes, over 256 masks and 8
-- replicas. Assumes nothing.
use mathlib.Core.Bool.{Bool, true, false, cond, ◌&&◌, and-eq-true_iff, beq}
use mathlib.Core.Path.{◌≡◌, refl, sym, ap, ap₂, ◌∙◌, fun_ext}
use Prim.Native.Nat.{ℕ, ◌+◌, ◌-◌, ◌*◌, ◌/◌, ◌%◌, ◌^◌, ◌<◌, ◌≤◌}
use native.Mathlib.Omega.{arith}
use lib.Bits.{bit_and, bit_or, and_shr, and_mod}
use lib.Count.{ones, ones_in, count_trailing_zeros}
use lib.Dec.{eqb, leb, ltb}
use mir.Val.{bool_byte}
use borrow.Author.Tests.{eqb-true, eqb-false, leb-true, ltb-true, ltb-false, le-leb, lt-ltb, le-ltb, ne_eqb}
use Rattle.model.specs.Prelude.{upd}
use Rattle.model.specs.Members.{Members, is_replica, none, only, ◌∩◌, bit, size, lowest}
use Rattle.members.specs.Mask.{bits, under}
use Rattle.members.proofs.Finite.{all, below, each, at-replica, at-replicas, beq-true}

-- Replicas

pub replica : (b : ℕ) → 1 ≤ b → b ≤ 8 → is_replica b ≡ true
replica b h k = rw (le-leb 1 b h, le-leb b 8 k)

pub replica-range : (b : ℕ) → is_replica b ≡ true → (1 ≤ b) × (b ≤ 8)
replica-range b e =
    let p = (and-eq-true_iff (leb 1 b) (leb b 8)).0 e in
    (leb-true 1 b p.0, leb-true b 8 p.1)

-- What is no replica differs from one.
apart : (b x : ℕ) → 1 ≤ b → b ≤ 8 → is_replica x ≡ false → x ≡ b → ⊥
apart b x h k e q =
    let z : ◌≡◌ {A = ℕ} 0 1 = cc (ap is_replica q, replica b h k) in
    omega arith

-- Two sets with the same replicas, and the same of what is no replica, are equal.
pub same-members :
    (p q : Members) → ((x : ℕ) → is_replica x ≡ false → p x ≡ q x) → ((x : ℕ) → 1 ≤ x → x ≤ 8 → p x ≡ q x) → p ≡ q
same-members p q out inside = fun_ext (λ x. go x (is_replica x) refl)
  where
    go : (x : ℕ) (t : Bool) → is_replica x ≡ t → p x ≡ q x
    go x true e = let h = replica-range x e in inside x h.0 h.1
    go x false e = out x e

-- Masks

-- No mask has what is no replica.
pub bits_out : (m x : ℕ) → is_replica x ≡ false → bits m x ≡ false
unfolding bits
bits_out m x e = rw e

-- A replica is in a mask if its bit is set.
pub bits_at : (m b : ℕ) → 1 ≤ b → b ≤ 8 → bits m b ≡ eqb (m / 2 ^ (b - 1) % 2) 1
unfolding bits
bits_at m b h k = rw (replica b h k)

-- A mask's set is the set that has the same replicas, and nothing else.
pub bits_is :
    (m : ℕ) (p : Members) → ((x : ℕ) → is_replica x ≡ false → p x ≡ false) → ((x : ℕ) → 1 ≤ x → x ≤ 8 → bits m x ≡ p x)
    → bits m ≡ p
bits_is m p out inside = same-members (bits m) p (λ x e. bits_out m x e ∙ sym (out x e)) inside

-- What put makes of a mask: the bit of b taken out, then present put there.
abbrev pub put_mask : ℕ → ℕ → Bool → ℕ
put_mask m b present = bit_or (bit_and m (255 - 1 * 2 ^ (b - 1) % 256)) (bool_byte present * 2 ^ (b - 1) % 256)

put_test : Bool → ℕ → ℕ → ℕ → Bool
put_test present m b x = beq (bits (put_mask m b present) x) (upd (bits m) b present x)

put-passes : (present : Bool) → all (λ m. each (λ b. each (put_test present m b))) 256 ≡ true
unfolding bits put_test
put-passes true = refl
put-passes false = refl

-- A mask after put.
pub bits_put : (m b : ℕ) (present : Bool) → m < 256 → 1 ≤ b → b ≤ 8
    → bits (put_mask m b present) ≡ upd (bits m) b present
unfolding put_test
bits_put m b present hm h k =
    let passes = below (λ n. each (λ c. each (put_test present n c))) 256 (put-passes present) m hm in
    bits_is (put_mask m b present) (upd (bits m) b present) (λ x e. rw (ne_eqb x b (apart b x h k e), bits_out m x e))
    (λ x hx kx. beq-true _ _ (at-replicas (put_test present m) passes b x h k hx kx))

single_test : ℕ → ℕ → Bool
single_test b x = beq (bits (1 * 2 ^ (b - 1) % 256) x) (only b x)

single-passes : each (λ b. each (single_test b)) ≡ true
unfolding bits single_test
single-passes = refl

-- The mask of one replica.
pub bits-single : (b : ℕ) → 1 ≤ b → b ≤ 8 → bits (1 * 2 ^ (b - 1) % 256) ≡ only b
unfolding single_test
bits-single b h k =
    bits_is (1 * 2 ^ (b - 1) % 256) (only b) (λ x e. ne_eqb x b (apart b x h k e))
    (λ x hx kx. beq-true _ _ (at-replicas single_test single-passes b x h k hx kx))

-- The mask of no replica.
pub bits_none : bits 0 ≡ none
unfolding bits
bits_none =
    bits_is 0 none (λ x e. refl) (λ x h k. beq-true _ _ (at-replica (λ b. beq (bits 0 b) false) refl x h k))

and_test : ℕ → ℕ → Bool
and_test a c = beq (eqb (bit_and a c) 1) (eqb a 1 && eqb c 1)

digit_and : (a c : ℕ) → a < 2 → c < 2 → eqb (bit_and a c) 1 ≡ (eqb a 1 && eqb c 1)
unfolding and_test
digit_and a c ha hc = beq-true _ _ (below (and_test a) 2 (below (λ d. all (and_test d) 2) 2 refl a ha) c hc)

-- The members of both masks.
pub bits-both : (m q : ℕ) → bits (bit_and m q) ≡ bits m ∩ bits q
bits-both m q = bits_is (bit_and m q) (bits m ∩ bits q) (λ x e. rw (bits_out m x e)) inside
  where
    inside : (x : ℕ) → 1 ≤ x → x ≤ 8 → bits (bit_and m q) x ≡ (bits m x && bits q x)
    inside x h k =
        let d = 2 ^ (x - 1) in
        rw (
          bits_at (bit_and m q) x h k,
          bits_at m x h k,
          bits_at q x h k,
          and_shr m q (x - 1),
          and_mod (m / d) (q / d) 1,
        )
        (digit_and (m / d % 2) (q / d % 2) (omega arith) (omega arith))

-- The mask of a set: bits the other way.
abbrev pub mask_of : Members → ℕ
mask_of p =
    bit (p 1) + 2 * bit (p 2) + 4 * bit (p 3) + 8 * bit (p 4) + 16 * bit (p 5) + 32 * bit (p 6) + 64 * bit (p 7)
    + 128 * bit (p 8)

pub mask-bits : (m : ℕ) → m < 256 → mask_of (bits m) ≡ m
unfolding bits
mask-bits m h = eqb-true _ _ (below (λ n. eqb (mask_of (bits n)) n) 256 refl m h)

-- No two masks stand for one set.
pub bits-injective : (m n : ℕ) → m < 256 → n < 256 → bits m ≡ bits n → m ≡ n
bits-injective m n hm hn e = sym (mask-bits m hm) ∙ ap mask_of e ∙ mask-bits n hn

-- Sizes

bit_le : (t : Bool) → bit t ≤ 1
bit_le true = omega arith
bit_le false = omega arith

-- A set has at most eight replicas.
pub size-le : (p : Members) → size p ≤ 8
size-le p =
    omega (
      arith,
      bit_le (p 1),
      bit_le (p 2),
      bit_le (p 3),
      bit_le (p 4),
      bit_le (p 5),
      bit_le (p 6),
      bit_le (p 7),
      bit_le (p 8),
    )

-- A mask has as many replicas as ones.
pub ones-size : (m : ℕ) → m < 256 → ones m ≡ size (bits m)
unfolding bits ones ones_in
ones-size m h = eqb-true _ _ (below (λ n. eqb (ones n) (size (bits n))) 256 refl m h)

-- The lowest member is the lowest bit.
pub zeros-lowest : (m : ℕ) → m < 256 → cond (eqb m 0) 0 (count_trailing_zeros 8 m + 1) ≡ lowest (bits m)
unfolding bits count_trailing_zeros
zeros-lowest m h =
    eqb-true _ _ (below (λ n. eqb (cond (eqb n 0) 0 (count_trailing_zeros 8 n + 1)) (lowest (bits n))) 256 refl m h)

side : (b x : ℕ) (t : Bool) → ltb x b ≡ t → (x ≡ b → ⊥) → t ≡ ltb x (b + 1)
side b x true e d = let h = ltb-true x b e in sym (lt-ltb x (b + 1) (omega arith))
side b x false e d = let h = ltb-false x b e in sym (le-ltb x (b + 1) (omega arith))

-- The replicas that pass a test, gathered in a loop: none before 1, one more at each b, all of them before 9.
module _ (p : Members) where
  pub under_none : bits 0 ≡ under 1 p
  under_none = bits_is 0 (under 1 p) (λ x e. rw e) (λ x h k. rw (replica x h k, le-ltb x 1 h, bits_none))

  more : (b x : ℕ) (t : Bool) → eqb x b ≡ t → cond t (p b) (ltb x b && p x) ≡ (ltb x (b + 1) && p x)
  more b x true e = let q = eqb-true x b e in rw (lt-ltb x (b + 1) (omega arith)) (ap p (sym q))
  more b x false e = ap (λ t. t && p x) (side b x (ltb x b) refl (eqb-false x b e))

  pub under_more : (b : ℕ) → 1 ≤ b → b ≤ 8 → upd (under b p) b (p b) ≡ under (b + 1) p
  under_more b h k =
      same-members (upd (under b p) b (p b)) (under (b + 1) p) (λ x e. rw (ne_eqb x b (apart b x h k e), e))
      (λ x hx kx. rw (replica x hx kx) (more b x (eqb x b) refl))

  -- The mask q of those before b becomes q' as the outcome t of b's test is put.
  pub gathered : (b q q' : ℕ) (t : Bool) → 1 ≤ b → b ≤ 8 → bits q ≡ under b p → bits q' ≡ upd (bits q) b t → t ≡ p b
      → bits q' ≡ under (b + 1) p
  gathered b q q' t h k eq eq' et = eq' ∙ ap₂ (λ m u. upd m b u) eq et ∙ under_more b h k

  -- The members among those gathered are the members that pass.
  pub under-meet : (m : ℕ) → bits m ∩ under 9 p ≡ bits m ∩ p
  under-meet m = same-members (bits m ∩ under 9 p) (bits m ∩ p) (λ x e. rw (bits_out m x e))
      (λ x h k. rw (replica x h k, lt-ltb x 9 (omega arith)))
