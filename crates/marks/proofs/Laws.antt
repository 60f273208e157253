-- The bytes of a scratch and the set that they mark: zeros, and one bit more. A byte is a mask, so what a bit more does
-- to it is `members`' law. Assumes nothing.
use mathlib.Core.Bool.{Bool, true, false, cond, ◌||◌}
use mathlib.Core.List.{List}
use mathlib.Core.Path.{◌≡◌, refl, ap, ◌∙◌, fun_ext}
use Prim.Native.Nat.{ℕ, zero, suc, ◌+◌, ◌-◌, ◌/◌, ◌%◌, ◌<◌, ◌≤◌}
use native.Mathlib.Omega.{arith}
use lib.Dec.{eqb, ltb}
use lib.ListN.{length, get_or, set, replicate, length-replicate, get_or-replicate, get_or-eq_default}
use lib.Seq.{get_or-set_same, get_or-set_other}
use borrow.Author.Tests.{eqb-true, eqb-false, ltb-true, ltb-false, eq-eqb, ne_eqb}
use Rattle.model.specs.Prelude.{upd}
use Rattle.members.specs.Mask.{bits}
use Rattle.members.proofs.Laws.{bits_at, bits_none}
use Rattle.marks.specs.Marks.{none, adding, marked}

-- A byte of zeros is 0, past the end too.
zero-at : (n i : ℕ) (t : Bool) → ltb i n ≡ t → get_or {A = ℕ} (replicate n 0) i 0 ≡ 0
zero-at n i true e = get_or-replicate n i 0 0 (ltb-true i n e)
zero-at n i false e =
    get_or-eq_default (replicate n 0) 0 (omega (arith, length-replicate {A = ℕ} n 0, ltb-false i n e))

-- The byte of a number and its bit there, 1 the lowest.
abbrev byte_of : ℕ → ℕ
byte_of k = (k - 1) / 8

abbrev bit_of : ℕ → ℕ
bit_of k = (k - 1) % 8 + 1

-- The number after i is marked if its byte, as a mask, has its bit.
marked-mask : (s : List ℕ) (i : ℕ) → marked s (suc i) ≡ bits (get_or s (i / 8) 0) (i % 8 + 1)
unfolding marked
marked-mask s i =
    let e : i % 8 + 1 - 1 ≡ i % 8 = omega arith in
    rw (bits_at (get_or s (i / 8) 0) (i % 8 + 1) (omega arith) (omega arith), e)

-- Zeros mark nothing.
pub marked-none : (n : ℕ) → marked (replicate n 0) ≡ none
unfolding marked
marked-none n = fun_ext go
  where
    go : (k : ℕ) → marked (replicate n 0) k ≡ false
    go zero = refl
    go (suc i) = marked-mask (replicate n 0) i ∙ rw (zero-at n (i / 8) (ltb (i / 8) n) refl, bits_none)

-- Whether k is marked, by its byte.
pub marked-at : (s : List ℕ) (k : ℕ) → 1 ≤ k → marked s k ≡ bits (get_or s (byte_of k) 0) (bit_of k)
marked-at s k h = let e : k ≡ suc (k - 1) = omega arith in ap (marked s) e ∙ marked-mask s (k - 1)

-- Where a byte that has the bit of k too takes the place of the byte of k, one number more is marked.
module _ (s : List ℕ) (k m : ℕ) (low : 1 ≤ k) (high : byte_of k < length s)
    (more : bits m ≡ upd (bits (get_or s (byte_of k) 0)) (bit_of k) true) where
  -- Two numbers of one byte have two bits.
  same_byte : (i : ℕ) (t : Bool) → eqb (suc i) k ≡ t → i / 8 ≡ byte_of k → eqb (i % 8 + 1) (bit_of k) ≡ t
  same_byte i true q e = eq-eqb (i % 8 + 1) (bit_of k) (omega (arith, eqb-true (suc i) k q))
  same_byte i false q e =
      let d = eqb-false (suc i) k q in
      ne_eqb (i % 8 + 1) (bit_of k) (λ (p : i % 8 + 1 ≡ bit_of k). d (omega arith))

  or_is : (t x : Bool) → cond t true x ≡ (t || x)
  or_is true x = refl
  or_is false x = refl

  -- The number after i.
  after : (i : ℕ) (t : Bool) → eqb (i / 8) (byte_of k) ≡ t
      → bits (get_or (set s (byte_of k) m) (i / 8) 0) (i % 8 + 1) ≡ (eqb (suc i) k || bits (get_or s (i / 8) 0) (i % 8 + 1))
  after i true q =
      let e : i / 8 ≡ byte_of k = eqb-true (i / 8) (byte_of k) q in
      rw (e, get_or-set_same s (byte_of k) m 0 high, more, same_byte i (eqb (suc i) k) refl e) (or_is (eqb (suc i) k) _)
  after i false q =
      let d = eqb-false (i / 8) (byte_of k) q in
      let f : suc i ≡ k → ⊥ = λ (p : suc i ≡ k). d (omega arith) in
      rw (get_or-set_other s (byte_of k) (i / 8) m 0 d, ne_eqb (suc i) k f)

  pub marked-set : marked (set s (byte_of k) m) ≡ adding k (marked s)
  unfolding marked
  marked-set = fun_ext go
    where
      go : (j : ℕ) → marked (set s (byte_of k) m) j ≡ (eqb j k || marked s j)
      go zero = let d : 0 ≡ k → ⊥ = λ (p : 0 ≡ k). omega arith in rw (ne_eqb 0 k d)
      go (suc i) =
          rw (marked-mask (set s (byte_of k) m) i, marked-mask s i) (after i (eqb (i / 8) (byte_of k)) refl)
