-- The tests of the eight, made one after the other. Assumes nothing.
use mathlib.Core.Bool.{Bool, true, false, ◌&&◌, and-true, and_assoc}
use mathlib.Core.List.{List, [], ◌∷◌, map}
use mathlib.Core.Path.{◌≡◌, refl, sym, ◌∙◌}
use Prim.Native.Nat.{ℕ, ◌+◌, ◌*◌, ◌-◌, ◌<◌, ◌≤◌}
use native.Mathlib.Omega.{arith}
use lib.Dec.{leb}
use lib.ListN.{length, get_or, take, drop, length-drop}
use lib.Seq.{get_or-drop}
use Rattle.std.specs.List.{fold}
use Rattle.std.proofs.Common.{lit<}
use Rattle.model.specs.Members.{Members}
use Rattle.model.specs.Ranges.{every, eight}
use Rattle.model.proofs.Tests.{of-true}
use Rattle.model.proofs.Quorum.{by-replica}
use Rattle.members.proofs.Laws.{replica}
use Rattle.cluster.specs.Layout.{at_pair}

and-false : (a : Bool) → (a && false) ≡ false
and-false true = refl
and-false false = refl

-- The tests of the eight, by place.
module _ (p : Members) where
  pub passed-all : ((k : ℕ) → k < 8 → p (k + 1) ≡ true) → every (eight p) ≡ true
  passed-all f =
      rw (
        f 0 (lit< tt),
        f 1 (lit< tt),
        f 2 (lit< tt),
        f 3 (lit< tt),
        f 4 (lit< tt),
        f 5 (lit< tt),
        f 6 (lit< tt),
        f 7 (lit< tt),
      )

  pub passed-not : (k : ℕ) → k < 8 → p (k + 1) ≡ false → every (eight p) ≡ false
  passed-not k h =
      by-replica (λ k. p k ≡ false → every (eight p) ≡ false)
      (λ e. rw e) (λ e. simp (e, and-false)) (λ e. simp (e, and-false)) (λ e. simp (e, and-false))
      (λ e. simp (e, and-false)) (λ e. simp (e, and-false)) (λ e. simp (e, and-false)) (λ e. simp (e, and-false))
      (k + 1) (of-true (replica (k + 1) (omega arith) (omega arith)))

-- The counts of one replica

-- The first eight of a list, by place.
first_eight : (xs : List ℕ) → 8 ≤ length xs
    → take 8 xs
    ≡ get_or xs 0 0 ∷ get_or xs 1 0 ∷ get_or xs 2 0 ∷ get_or xs 3 0 ∷ get_or xs 4 0 ∷ get_or xs 5 0 ∷ get_or xs 6 0
    ∷ get_or xs 7 0 ∷ []
first_eight [] h = absurd (omega (arith, h))
first_eight (a ∷ []) h = absurd (omega (arith, h))
first_eight (a ∷ b ∷ []) h = absurd (omega (arith, h))
first_eight (a ∷ b ∷ c ∷ []) h = absurd (omega (arith, h))
first_eight (a ∷ b ∷ c ∷ d ∷ []) h = absurd (omega (arith, h))
first_eight (a ∷ b ∷ c ∷ d ∷ e ∷ []) h = absurd (omega (arith, h))
first_eight (a ∷ b ∷ c ∷ d ∷ e ∷ f ∷ []) h = absurd (omega (arith, h))
first_eight (a ∷ b ∷ c ∷ d ∷ e ∷ f ∷ g ∷ []) h = absurd (omega (arith, h))
first_eight (a ∷ b ∷ c ∷ d ∷ e ∷ f ∷ g ∷ i ∷ xs) h = refl

-- The tests from the front, after those that were ok.
pub from_front : (xs : List ℕ) (ok : Bool)
    → fold (λ t n. t && leb n 512) ok xs ≡ (ok && every (map (λ n. leb n 512) xs))
from_front [] ok = sym (and-true ok)
from_front (x ∷ xs) ok = from_front xs (ok && leb x 512) ∙ and_assoc ok (leb x 512) (every (map (λ n. leb n 512) xs))

-- The eight numbers of a's row pass where its counts do.
pub counted-all : (xs : List ℕ) (a i n : ℕ) → 1 ≤ a → a ≤ 8 → length xs ≡ 64 → i ≡ a - 1 → n ≡ 8
    → every (map (λ n. leb n 512) (take n (drop (8 * i) xs))) ≡ every (eight (λ b. leb (at_pair xs a b) 512))
counted-all xs a i n h k l q e =
    let from = 8 * (a - 1) in
    rw (
      q,
      e,
      first_eight (drop from xs) (omega (arith, length-drop from xs)),
      get_or-drop from xs 0 0,
      get_or-drop from xs 1 0,
      get_or-drop from xs 2 0,
      get_or-drop from xs 3 0,
      get_or-drop from xs 4 0,
      get_or-drop from xs 5 0,
      get_or-drop from xs 6 0,
      get_or-drop from xs 7 0,
      replica a h k,
    )
