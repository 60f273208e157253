-- A walk of several chains in turn: those that are left against what is marked. Assumes nothing.
use mathlib.Core.Bool.{Bool, true, false, and-eq-true_iff}
use mathlib.Core.List.{List, [], ◌∷◌}
use mathlib.Core.Path.{◌≡◌, refl, sym, subst, ◌∙◌}
use Prim.Native.Nat.{ℕ, suc, ◌+◌, ◌-◌, ◌<◌, ◌≤◌}
use native.Mathlib.Numerals.{add-one}
use native.Mathlib.Omega.{arith}
use lib.Dec.{eqb}
use lib.ListN.{length, length-append}
use borrow.Author.Tests.{leb-true}
use Rattle.std.specs.Prelude.{cond, Ok, Err}
use Rattle.refusal.specs.declared.Refusal.{Refusal}
use Rattle.refusal.specs.declared.Refusal.TheVariants.{ImageLinks}
use Rattle.marks.specs.Marks.{Numbers, none}
use Rattle.chains.specs.Chain.{chain_of, chains_of, is_short, every, joined, linked, good, well_linked, linking, Walked}
use Rattle.chains.specs.Image.{next_of, first_of, firsts_from, firsts_of, holds}
use Rattle.chains.proofs.Meeting.{good_all, good-cons, well-linked-is}

-- A good chain is short.
short : (n : ℕ) (met : Numbers) (ks : List ℕ) → good n met ks ≡ true → length ks ≤ 512
short n met ks e = leb-true (length ks) 512 ((and-eq-true_iff (linked n met ks) (is_short ks)).0 e).1

module _ {n : ℕ} {ks : List ℕ} {met met' : Numbers} where
  -- A walk that is not refused was of a good chain, and answers its length.
  pub was-good : {r : ℕ} → Walked n ks met met' (Ok r) → (good n met ks ≡ true) × (r ≡ length ks) × (r ≤ 512)
  was-good {r} w = go (good n met ks) refl w.answer
    where
      go : (t : Bool) → good n met ks ≡ t → Ok r ≡ cond t (Ok (length ks)) (Err ImageLinks)
          → (good n met ks ≡ true) × (r ≡ length ks) × (r ≤ 512)
      go true e a = let l : r ≡ length ks = cc in (e, l, omega (arith, short n met ks e))
      go false e a = absurd cc

  -- One that is refused was not, and the refusal is 19.
  pub was-not : {x : Refusal} → Walked n ks met met' (Err x) → (good n met ks ≡ false) × (x ≡ ImageLinks)
  was-not {x} w = go (good n met ks) refl w.answer
    where
      go : (t : Bool) → good n met ks ≡ t → Err x ≡ cond t (Ok (length ks)) (Err ImageLinks)
          → (good n met ks ≡ false) × (x ≡ ImageLinks)
      go true e a = absurd cc
      go false e a = (e, cc)

-- The chains from firsts are left: from met on they do what kss does from nothing met; total is what is passed.
pub record Crossing (next : ℕ → ℕ) (n : ℕ) (kss : List (List ℕ)) (met : Numbers) (firsts : List ℕ) (total : ℕ)
    : Type 0 where
  pub links : good_all n none kss ≡ good_all n met (chains_of next firsts)
  pub size : length (joined kss) ≡ total + length (joined (chains_of next firsts))

-- All chains are left.
pub sets-out : (next : ℕ → ℕ) (n : ℕ) (firsts : List ℕ) (met : Numbers) → met ≡ none
    → Crossing next n (chains_of next firsts) met firsts 0
sets-out next n firsts met e = record { links = rw e; size = omega arith }

module _ (next : ℕ → ℕ) (n : ℕ) (kss : List (List ℕ)) (met : Numbers) (first : ℕ) (firsts : List ℕ) (total : ℕ)
    (w : Crossing next n kss met (first ∷ firsts) total) (met' : Numbers) where
  -- The next chain was refused.
  pub turned-away : (x : Refusal) → Walked n (chain_of next first) met met' (Err x) → Err x ≡ linking (well_linked n kss)
  unfolding chains_of
  turned-away x h =
      let t = was-not h in
      let g : good_all n none kss ≡ false =
      w.links ∙ good-cons n met (chain_of next first) (chains_of next firsts) ∙ rw t.0 in
      rw (t.1, well-linked-is n kss, g)

  -- It was good.
  pub goes_on : (r : ℕ) → Walked n (chain_of next first) met met' (Ok r) → Crossing next n kss met' firsts (total + r)
  unfolding chains_of joined
  goes_on r h =
      let t = was-good h in
      record {
        links = w.links ∙ good-cons n met (chain_of next first) (chains_of next firsts) ∙ rw (t.0, h.marks t.0);
        size =
            let both = length-append (chain_of next first) (joined (chains_of next firsts)) in
            omega (arith, w.size, both, t.1);
      }

-- All chains are passed.
pub arrives : (next : ℕ → ℕ) (n : ℕ) (kss : List (List ℕ)) (met : Numbers) (total : ℕ)
    → Crossing next n kss met [] total → eqb total n ≡ well_linked n kss
unfolding chains_of joined every linked
arrives next n kss met total w =
    let e : length (joined kss) ≡ total = omega (arith, w.size) in
    let g : good_all n none kss ≡ true = w.links in
    sym (well-linked-is n kss ∙ rw (g, e))

-- The same over the nine chains of an image, of which those from the list b on are left.
module _ (image : List ℕ) (n : ℕ) (met : Numbers) (b total : ℕ) where
  abbrev all : List (List ℕ)
  all = chains_of (next_of image) (firsts_of image)

  abbrev pub Left : Type 0
  Left = Crossing (next_of image) n all met (firsts_from image b (9 - b)) total

  module _ (w : Left) (h : b < 9) (start : ℕ) (s : start ≡ first_of image b) where
    opened : Crossing (next_of image) n all met (start ∷ firsts_from image (b + 1) (9 - (b + 1))) total
    unfolding firsts_from
    opened =
        let e : 9 - b ≡ suc (9 - (b + 1)) = omega arith in
        let f : firsts_from image b (9 - b) ≡ start ∷ firsts_from image (b + 1) (9 - (b + 1)) = rw (e, s, add-one b) in
        subst (λ fs. Crossing (next_of image) n all met fs total) f w

    pub stopped : (met' : Numbers) (x : Refusal) → Walked n (chain_of (next_of image) start) met met' (Err x)
        → Err x ≡ linking (holds n image)
    stopped met' x v =
        let others = firsts_from image (b + 1) (9 - (b + 1)) in
        turned-away (next_of image) n all met start others total opened met' x v

    pub passes : (met' : Numbers) (r : ℕ) → Walked n (chain_of (next_of image) start) met met' (Ok r)
        → Crossing (next_of image) n all met' (firsts_from image (b + 1) (9 - (b + 1))) (total + r)
    passes met' r v =
        let others = firsts_from image (b + 1) (9 - (b + 1)) in
        goes_on (next_of image) n all met start others total opened met' r v

  pub over : Left → b ≡ 9 → eqb total n ≡ well_linked n all
  unfolding firsts_from
  over w e =
      let f : firsts_from image b (9 - b) ≡ [] = rw e in
      arrives (next_of image) n all met total (subst (λ fs. Crossing (next_of image) n all met fs total) f w)
