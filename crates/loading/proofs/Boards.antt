-- Every chain of a well-linked image is sound, and the boards' chains in turn. Assumes nothing.
use mathlib.Core.Bool.{Bool, true, and-eq-true_iff}
use mathlib.Core.List.{List, [], ◌∷◌, append-nil, map}
use mathlib.Core.Path.{◌≡◌, refl, sym, ap, subst, ◌∙◌}
use Prim.Native.Nat.{ℕ, zero, suc, ◌+◌, ◌-◌, ◌*◌, ◌<◌}
use native.Mathlib.Nat.{not-suc-le-zero, add-zero}
use native.Mathlib.Numerals.{add-one}
use native.Mathlib.Omega.{arith}
use lib.ListN.{length, set, length-set, drop_of_length-le}
use lib.Seq.{sets, sets-eq, length-sets}
use borrow.Author.Tests.{leb-true}
use Rattle.chains.specs.Image.{next_of, first_of, firsts_from, firsts_of, holds}
use Rattle.chains.specs.Chain.{chain_of, chains_of, is_short, is_record, every, joined}
use Rattle.loading.specs.Read.{Sound, laid, boards_of}
use Rattle.chains.proofs.Meeting.{every_append, well-linked-tests}

-- What holds of every chain holds of the chain of the list b + i.
every_first : (p : List ℕ → Bool) (image : List ℕ) (m b i : ℕ) → i < m
    → every p (chains_of (next_of image) (firsts_from image b m)) ≡ true
    → p (chain_of (next_of image) (first_of image (b + i))) ≡ true
unfolding chains_of firsts_from every
every_first p image zero b i h e = absurd (not-suc-le-zero h)
every_first p image (suc m) b zero h e =
    rw (add-zero b) ((and-eq-true_iff (p (chain_of (next_of image) (first_of image b))) _).0 e).0
every_first p image (suc m) b (suc i) h e =
    let q : b + suc i ≡ suc b + i = omega arith in
    let rest = ((and-eq-true_iff (p (chain_of (next_of image) (first_of image b))) _).0 e).1 in
    rw q (every_first p image m (suc b) i (omega arith) rest)

-- What holds of every record that chains meet holds of every chain's.
every-joined : (p : ℕ → Bool) (kss : List (List ℕ)) → every p (joined kss) ≡ every (every p) kss
unfolding joined every
every-joined p [] = refl
every-joined p (ks ∷ kss) = every_append p ks (joined kss) ∙ rw (every-joined p kss)

-- A chain of a well-linked image can be copied.
pub sound-at : (n : ℕ) (image : List ℕ) (b : ℕ) → b < 9 → holds n image ≡ true
    → Sound n (chain_of (next_of image) (first_of image b))
sound-at n image b h e =
    let kss = chains_of (next_of image) (firsts_of image) in
    let p = (and-eq-true_iff (every is_short kss) _).0 (sym (well-linked-tests n kss) ∙ e) in
    let q = (and-eq-true_iff (every (is_record n) (joined kss)) _).0 p.1 in
    let z : 0 + b ≡ b = omega arith in
    let r : every (every (is_record n)) kss ≡ true = sym (every-joined (is_record n) kss) ∙ q.0 in
    let at : (t : List ℕ → Bool) → t (chain_of (next_of image) (first_of image (0 + b))) ≡ true
    → t (chain_of (next_of image) (first_of image b)) ≡ true =
    λ t. subst (λ i. t (chain_of (next_of image) (first_of image i)) ≡ true) z in
    record {
      records = at (every (is_record n)) (every_first (every (is_record n)) image 9 0 b h r);
      short = leb-true (length (chain_of (next_of image) (first_of image b))) 512
          (at is_short (every_first is_short image 9 0 b h p.0));
    }

-- The chains of the boards from b on.
abbrev pub boards_from : List ℕ → ℕ → List (List ℕ)
boards_from image b = chains_of (next_of image) (firsts_from image b (8 - b))

boards-step : (image : List ℕ) (b : ℕ) → b < 8
    → boards_from image b ≡ chain_of (next_of image) (first_of image b) ∷ boards_from image (b + 1)
unfolding chains_of firsts_from
boards-step image b h = let e : 8 - b ≡ suc (8 - (b + 1)) = omega arith in rw (e, add-one b)

boards-end : (image : List ℕ) (b : ℕ) → b ≡ 8 → boards_from image b ≡ []
unfolding chains_of firsts_from
boards-end image b h = rw h

-- The lists f of what is left, laid from the part b on, are those of all boards laid from 0 on.
pub record Laying (f : List ℕ → List ℕ) (image s₀ s : List ℕ) (b : ℕ) : Type 0 where
  pub long : length s ≡ length s₀
  pub lays : laid s₀ 0 (map f (boards_of image)) ≡ laid s (512 * b) (map f (boards_from image b))

-- All are left.
pub lays_all : (f : List ℕ → List ℕ) (image s : List ℕ) → Laying f image s s 0
lays_all f image s = record { long = refl; lays = refl }

-- One more is laid.
pub lays-on : (f : List ℕ → List ℕ) (image s₀ s : List ℕ) (b : ℕ) → b < 8 → Laying f image s₀ s b
    → (t : List ℕ) → t ≡ sets s (512 * b) (f (chain_of (next_of image) (first_of image b)))
    → Laying f image s₀ t (b + 1)
unfolding laid
lays-on f image s₀ s b h w t e =
    let q : 512 * (b + 1) ≡ 512 * b + 512 = omega arith in
    record {
      long = ap length e ∙ length-sets s (512 * b) (f (chain_of (next_of image) (first_of image b))) ∙ w.long;
      lays = w.lays ∙ rw (boards-step image b h, q, e);
    }

-- All are laid.
pub laid-all : (f : List ℕ → List ℕ) (image s₀ s : List ℕ) (b : ℕ) → b ≡ 8 → Laying f image s₀ s b
    → s ≡ laid s₀ 0 (map f (boards_of image))
unfolding laid
laid-all f image s₀ s b e w = sym (w.lays ∙ rw (boards-end image b e))

-- As many values as a list has, stored from 0 on, are the list.
sets-whole : (vs s : List ℕ) → length vs ≡ length s → sets s 0 vs ≡ vs
sets-whole vs s e =
    sets-eq vs s 0 (omega arith) ∙ rw (drop_of_length-le s {i = 0 + length vs} (omega arith)) (append-nil vs)

-- The lengths of what is left, stored from b on, are those of all boards.
pub record Counting (image s₀ s : List ℕ) (b : ℕ) : Type 0 where
  pub long : length s ≡ 8
  pub counts : sets s₀ 0 (map length (boards_of image)) ≡ sets s b (map length (boards_from image b))

-- All are left.
pub counts_all : (image s : List ℕ) → length s ≡ 8 → Counting image s s 0
counts_all image s l = record { long = l; counts = refl }

-- One more is stored.
pub counts-on : (image s₀ s : List ℕ) (b : ℕ) → b < 8 → Counting image s₀ s b
    → (r : ℕ) → r ≡ length (chain_of (next_of image) (first_of image b)) → Counting image s₀ (set s b r) (b + 1)
counts-on image s₀ s b h w r e = record {
  long = length-set s b r ∙ w.long;
  counts = w.counts ∙ rw (boards-step image b h, e, add-one b);
}

-- All are stored.
pub counted-all : (image s₀ s : List ℕ) (b : ℕ) → b ≡ 8 → length s₀ ≡ 8 → Counting image s₀ s b
    → s ≡ map length (boards_of image)
unfolding chains_of firsts_from
counted-all image s₀ s b e l w =
    sym (w.counts ∙ rw (boards-end image b e)) ∙ sets-whole (map length (boards_of image)) s₀ (sym l)
