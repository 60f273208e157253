-- A copy of one chain: what is left of it against what is stored. Assumes nothing.
use mathlib.Core.Bool.{true, ◌&&◌, and-eq-true_iff}
use mathlib.Core.List.{List, [], ◌∷◌, map}
use mathlib.Core.Path.{◌≡◌, refl, sym, ap, subst, ◌∙◌}
use Prim.Native.Nat.{ℕ, suc, ◌+◌, ◌-◌, ◌<◌, ◌≤◌}
use native.Mathlib.Numerals.{add-one}
use native.Mathlib.Omega.{arith}
use lib.Dec.{leb}
use lib.ListN.{length, set, length-set}
use lib.Seq.{sets}
use borrow.Author.Tests.{leb-true}
use Rattle.chains.specs.Chain.{chain, chain_of, is_record, every}
use Rattle.loading.specs.Read.{Sound}
use Rattle.chains.proofs.Walking.{chain-end, chain-step}

-- len records of the chain ks are passed, and at is the next.
pub record Copying (next : ℕ → ℕ) (n : ℕ) (ks : List ℕ) (at len : ℕ) : Type 0 where
  pub short : length ks ≤ 512
  pub records : every (is_record n) (chain next (513 - len) at) ≡ true
  pub size : length ks ≡ len + length (chain next (513 - len) at)

-- None is passed.
pub begins : (next : ℕ → ℕ) (n first : ℕ) → Sound n (chain_of next first) → Copying next n (chain_of next first) first 0
begins next n first s = record { short = s.short; records = s.records; size = omega arith }

-- The values `f` of what is left, stored from len on, are those of ks stored from 0 on.
pub record Storing (next f : ℕ → ℕ) (ks s₀ s : List ℕ) (at len : ℕ) : Type 0 where
  pub long : length s ≡ length s₀
  pub stores : sets s₀ 0 (map f ks) ≡ sets s len (map f (chain next (513 - len) at))

-- None is stored.
pub stores-all : (next f : ℕ → ℕ) (first : ℕ) (s : List ℕ) → Storing next f (chain_of next first) s s first 0
stores-all next f first s = record { long = refl; stores = refl }

module _ (next : ℕ → ℕ) (n : ℕ) (ks : List ℕ) (at len : ℕ) (w : Copying next n ks at len) where
  pub passed : len ≤ 512
  passed = omega (arith, w.size, w.short)

  -- At the end all are.
  pub copied : at ≡ 0 → len ≡ length ks
  copied e =
      let none : chain next (513 - len) at ≡ [] = rw (e, chain-end next (513 - len)) in
      omega (arith, w.size, ap length none)

  module _ (h : 1 ≤ at) where
    there : chain next (513 - len) at ≡ at ∷ chain next (513 - (len + 1)) (next at)
    there =
        let e : 513 - len ≡ suc (513 - (len + 1)) = omega (arith, passed) in
        rw (e, chain-step next (513 - (len + 1)) at h)

    -- There is room for the record,
    pub place : len < 512
    place = omega (arith, w.size, w.short, ap length there)

    tests : (is_record n at && every (is_record n) (chain next (513 - (len + 1)) (next at))) ≡ true
    unfolding every
    tests = subst (λ l. every (is_record n) l ≡ true) there w.records

    -- and it is the image's.
    pub inside : at ≤ n
    inside =
        let rest = every (is_record n) (chain next (513 - (len + 1)) (next at)) in
        let p = (and-eq-true_iff (is_record n at) rest).0 tests in
        leb-true at n ((and-eq-true_iff (leb 1 at) (leb at n)).0 p.0).1

    -- One more is passed,
    pub more : (at' : ℕ) → at' ≡ next at → Copying next n ks at' (len + 1)
    more at' a =
        let rest = every (is_record n) (chain next (513 - (len + 1)) (next at)) in
        record {
          short = w.short;
          records = rw a ((and-eq-true_iff (is_record n at) rest).0 tests).1;
          size = rw a (omega (arith, w.size, ap length there));
        }

    -- and stored.
    pub stored : (f : ℕ → ℕ) (s₀ s : List ℕ) → Storing next f ks s₀ s at len → (v : ℕ) → v ≡ f at
        → (at' : ℕ) → at' ≡ next at → Storing next f ks s₀ (set s len v) at' (len + 1)
    stored f s₀ s g v e at' a = record {
      long = length-set s len v ∙ g.long;
      stores = g.stores ∙ rw (there, a, e, add-one len);
    }

  -- 512 records are all.
  pub full : len ≡ 512 → at ≡ 0
  full e = let f : 1 ≤ at → len < 512 = place in grind (arith, f)

  -- At the end all are stored.
  pub stored-all : (f : ℕ → ℕ) (s₀ s : List ℕ) → at ≡ 0 → Storing next f ks s₀ s at len → s ≡ sets s₀ 0 (map f ks)
  stored-all f s₀ s e g = sym (g.stores ∙ rw (e, chain-end next (513 - len)))
