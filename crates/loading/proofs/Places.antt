-- What stands in the lent places after a reading: a list within its length, and past it what was there. Assumes
-- nothing.
use mathlib.Core.Bool.{true}
use mathlib.Core.List.{List, [], map}
use mathlib.Core.Path.{◌≡◌, refl, ap, subst, ◌∙◌}
use Prim.Native.Nat.{ℕ, zero, suc, ◌+◌, ◌*◌, ◌<◌, ◌≤◌}
use native.Mathlib.Nat.{not-suc-le-zero, add-zero}
use native.Mathlib.Omega.{arith}
use lib.ListN.{length, get_or, take, drop, length-map}
use Rattle.chains.specs.Image.{next_of, list_of, firsts_from, holds}
use Rattle.chains.specs.Chain.{chains_of}
use Rattle.loading.specs.Read.{boards_of, laid}
use Rattle.loading.proofs.Boards.{sound-at}
use Rattle.loading.proofs.Laid.{AllShort, laid-past, laid-log}

module _ (f : ℕ → ℕ) (image : List ℕ) where
  -- The list i of those from b on.
  lists_at : (m b i : ℕ) → i < m
      → get_or (map (map f) (chains_of (next_of image) (firsts_from image b m))) i [] ≡ map f (list_of image (b + i))
  unfolding chains_of firsts_from
  lists_at zero b i h = absurd (not-suc-le-zero h)
  lists_at (suc m) b zero h = rw (add-zero b)
  lists_at (suc m) b (suc i) h =
      let e : b + suc i ≡ suc b + i = omega arith in
      rw e (lists_at m (suc b) i (omega arith))

  lists-count : (m b : ℕ) → length (map (map f) (chains_of (next_of image) (firsts_from image b m))) ≡ m
  unfolding chains_of firsts_from
  lists-count zero b = refl
  lists-count (suc m) b = ap suc (lists-count m (suc b))

  module _ (n : ℕ) (ok : holds n image ≡ true) where
    lists-short : (m b : ℕ) → b + m ≤ 9 → AllShort (map (map f) (chains_of (next_of image) (firsts_from image b m)))
    unfolding chains_of firsts_from AllShort
    lists-short zero b h = tt
    lists-short (suc m) b h = (
      rw (length-map (list_of image b) f) (sound-at n image b (omega arith) ok).short,
      lists-short m (suc b) (omega arith),
    )

    module _ (s : List ℕ) (b : ℕ) (h : b < 8) where
      abbrev after : List ℕ
      after = laid s 0 (map (map f) (boards_of image))

      at : get_or (map (map f) (boards_of image)) b [] ≡ map f (list_of image b)
      at = let z : 0 + b ≡ b = omega arith in lists_at 8 0 b h ∙ rw z

      -- The list of a board stands in its part,
      pub list-there : length s ≡ 4096 → take (length (list_of image b)) (drop (512 * b) after) ≡ map f (list_of image b)
      list-there l =
          let m : length (map f (list_of image b)) ≡ length (list_of image b) = length-map (list_of image b) f in
          let k : length (map f (list_of image b)) ≤ 512 = omega (arith, (sound-at n image b (omega arith) ok).short) in
          let c = lists-count 8 0 in
          let short = lists-short 8 0 (omega arith) in
          let r = laid-log s (map (map f) (boards_of image)) b short (omega arith) (omega arith) in
          rw (← m) (subst (λ x. length x ≤ 512 → take (length x) (drop (512 * b) after) ≡ x) at r k)

      -- and no place past it is another.
      pub rest-left : (i : ℕ) → i < 512 → length (list_of image b) ≤ i
          → get_or after (512 * b + i) 0 ≡ get_or s (512 * b + i) 0
      rest-left i g k =
          let z : 0 + 512 * b + i ≡ 512 * b + i = omega arith in
          let q : length (get_or (map (map f) (boards_of image)) b []) ≤ i = rw (at, length-map (list_of image b) f) k in
          let short = lists-short 8 0 (omega arith) in
          subst (λ j. get_or after j 0 ≡ get_or s j 0) z (laid-past i g s 0 (map (map f) (boards_of image)) b short q)
