-- A walk of one chain: what is left of it against what is marked. Assumes nothing.
use mathlib.Core.Bool.{true, false, and-false, true≢false}
use mathlib.Core.List.{List, [], ◌∷◌}
use mathlib.Core.Path.{◌≡◌, refl, sym, ap, ◌∙◌}
use Prim.Native.Nat.{ℕ, zero, suc, ◌+◌, ◌-◌, ◌<◌, ◌≤◌}
use native.Mathlib.Omega.{arith}
use lib.ListN.{length}
use borrow.Author.Tests.{le-leb, lt-leb}
use Rattle.std.specs.Prelude.{Ok, Err}
use Rattle.refusal.specs.declared.Refusal.TheVariants.{ImageLinks}
use Rattle.marks.specs.Marks.{Numbers, adding}
use Rattle.chains.specs.Chain.{chain, chain_of, linked, adding_all, good, Walked}

-- 0 ends it.
pub chain-end : (next : ℕ → ℕ) (f : ℕ) → chain next f 0 ≡ []
unfolding chain
chain-end next zero = refl
chain-end next (suc f) = refl

-- A record, and the chain from the next on.
pub chain-step : (next : ℕ → ℕ) (f k : ℕ) → 1 ≤ k → chain next (suc f) k ≡ k ∷ chain next f (next k)
unfolding chain
chain-step next f k h = let e : k ≡ suc (k - 1) = omega arith in rw e

-- A chain is no longer than its steps.
pub chain_length : (next : ℕ → ℕ) (f k : ℕ) → length (chain next f k) ≤ f
unfolding chain
chain_length next zero k = omega arith
chain_length next (suc f) zero = omega arith
chain_length next (suc f) (suc k) = omega (arith, chain_length next f (next (suc k)))

-- len records of the chain ks are passed, and at is the next: what is left of the chain does from met what ks does from
-- met₀.
pub record Walking (next : ℕ → ℕ) (n : ℕ) (ks : List ℕ) (met₀ met : Numbers) (at len : ℕ) : Type 0 where
  pub passed : len ≤ 513
  pub links : linked n met₀ ks ≡ linked n met (chain next (513 - len) at)
  pub size : length ks ≡ len + length (chain next (513 - len) at)
  pub marks : adding_all ks met₀ ≡ adding_all (chain next (513 - len) at) met

-- None is passed.
pub starts : (next : ℕ → ℕ) (n : ℕ) (met : Numbers) (first : ℕ) → Walking next n (chain_of next first) met met first 0
starts next n met first = record { passed = omega arith; links = refl; size = omega arith; marks = refl }

-- A chain that is not good is refused, whatever is marked by then.
refused : (n : ℕ) (ks : List ℕ) (met met' : Numbers) → good n met ks ≡ false → Walked n ks met met' (Err ImageLinks)
refused n ks met met' e = record { answer = rw e; marks = λ g. absurd (true≢false (sym g ∙ e)) }

module _ (next : ℕ → ℕ) (n : ℕ) (ks : List ℕ) (met₀ met : Numbers) (at len : ℕ)
    (w : Walking next n ks met₀ met at len) where
  abbrev left : List ℕ
  left = chain next (513 - len) at

  -- It passes 512 records.
  pub long : len ≡ 513 → (met' : Numbers) → Walked n ks met₀ met' (Err ImageLinks)
  long e met' =
      let s : 512 < length ks = omega (arith, w.size, e) in
      refused n ks met₀ met' (rw (lt-leb (length ks) 512 s) (and-false (linked n met₀ ks)))

  module _ (l : len < 513) where
    -- The chain ends here.
    pub ends : at ≡ 0 → Walked n ks met₀ met (Ok len)
    unfolding linked adding_all
    ends e =
        let none : left ≡ [] = rw (e, chain-end next (513 - len)) in
        let s : length ks ≡ len = omega (arith, w.size, ap length none) in
        let k : linked n met₀ ks ≡ true = w.links ∙ rw none in
        let a : adding_all ks met₀ ≡ met = w.marks ∙ rw none in
        record { answer = rw (k, s, le-leb len 512 (omega arith)); marks = λ g. sym a }

    module _ (h : 1 ≤ at) where
      there : left ≡ at ∷ chain next (512 - len) (next at)
      there = let e : 513 - len ≡ suc (512 - len) = omega arith in rw (e, chain-step next (512 - len) at h)

      -- It points past the last record.
      pub past : n < at → (met' : Numbers) → Walked n ks met₀ met' (Err ImageLinks)
      unfolding linked
      past b met' =
          let k : linked n met₀ ks ≡ false = w.links ∙ rw (there, le-leb 1 at h, lt-leb at n b) in
          refused n ks met₀ met' (rw k)

      module _ (b : at ≤ n) where
        -- The record was met before.
        pub again : met at ≡ true → (met' : Numbers) → Walked n ks met₀ met' (Err ImageLinks)
        unfolding linked
        again e met' =
            let k : linked n met₀ ks ≡ false = w.links ∙ rw (there, le-leb 1 at h, le-leb at n b, e) in
            refused n ks met₀ met' (rw k)

        -- The walk goes on.
        pub on : met at ≡ false → (met' : Numbers) → met' ≡ adding at met → (at' : ℕ) → at' ≡ next at
            → Walking next n ks met₀ met' at' (len + 1)
        unfolding linked adding_all
        on e met' m at' a =
            let f : 513 - (len + 1) ≡ 512 - len = omega arith in
            record {
              passed = omega arith;
              links = w.links ∙ rw (there, le-leb 1 at h, le-leb at n b, e, f, m, a);
              size = rw (f, a) (omega (arith, w.size, ap length there));
              marks = w.marks ∙ rw (there, f, m, a);
            }
