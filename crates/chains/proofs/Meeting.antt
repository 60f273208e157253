-- Chains one after the other meet each record of an image once just where they are good in turn and their lengths add
-- up. Assumes nothing.
use mathlib.Core.Bool.{Bool, true, false, not, ◌&&◌, ◌||◌, and-false, and-true, and-eq-true_iff, or-false}
use mathlib.Core.List.{List, [], ◌∷◌, ◌++◌, map}
use mathlib.Core.Path.{◌≡◌, refl, sym, ap, ◌∙◌, fun_ext}
use Prim.Native.Nat.{ℕ, zero, suc, ◌+◌, ◌≤◌}
use native.Mathlib.Nat.{add-zero}
use native.Mathlib.Omega.{arith}
use lib.Dec.{eqb, leb, eqb-suc-suc}
use lib.ListN.{length}
use borrow.Author.Tests.{le-leb, lt-leb, leb-true, leb-false, eqb-true, eqb-false, eq-eqb, ne_eqb, not-true}
use Rattle.std.specs.List.{list_all, range_with_len}
use Rattle.model.specs.Ranges as R
use Rattle.marks.specs.Marks.{Numbers, none, adding}
use Rattle.chains.specs.Chain.{is_short, is_record, every, joined, has, distinct, up_to, well_linked, linked, adding_all, good}

-- The tests of a list's elements are the model's.
pub every-is : {A : Type 0} (p : A → Bool) (xs : List A) → every p xs ≡ R.every (map p xs)
unfolding every
every-is p [] = refl
every-is p (x ∷ xs) = rw (every-is p xs)

-- Chains in turn

pub every_append : {A : Type 0} (p : A → Bool) (xs ys : List A) → every p (xs ++ ys) ≡ (every p xs && every p ys)
unfolding every
every_append p [] ys = refl
every_append p (x ∷ xs) ys = rw (every_append p xs ys) (and-assoc' (p x) (every p xs) (every p ys))
  where
    and-assoc' : (a b c : Bool) → (a && (b && c)) ≡ ((a && b) && c)
    and-assoc' true b c = refl
    and-assoc' false b c = refl

third : (a b c d : Bool) → (a && (b && (c && d))) ≡ ((a && (b && c)) && d)
third true true c d = refl
third true false c d = refl
third false b c d = refl

linked-append : (n : ℕ) (met : Numbers) (ks js : List ℕ)
    → linked n met (ks ++ js) ≡ (linked n met ks && linked n (adding_all ks met) js)
unfolding linked adding_all
linked-append n met [] js = refl
linked-append n met (k ∷ ks) js =
    rw (linked-append n (adding k met) ks js)
    (third (is_record n k) (not (met k)) (linked n (adding k met) ks) (linked n (adding_all ks (adding k met)) js))

-- Chains that are good in turn.
abbrev pub good_all : ℕ → Numbers → List (List ℕ) → Bool
good_all n met kss = every is_short kss && linked n met (joined kss)

swap : (a b c d : Bool) → ((a && b) && (c && d)) ≡ ((c && a) && (b && d))
swap true b true d = refl
swap true b false d = and-false b
swap false b true d = refl
swap false b false d = refl

pub good-cons : (n : ℕ) (met : Numbers) (ks : List ℕ) (kss : List (List ℕ))
    → good_all n met (ks ∷ kss) ≡ (good n met ks && good_all n (adding_all ks met) kss)
unfolding every joined
good-cons n met ks kss =
    rw (linked-append n met ks (joined kss))
    (swap (is_short ks) (every is_short kss) (linked n met ks) (linked n (adding_all ks met) (joined kss)))

-- What is linked from nothing met is of the image and distinct

-- None of these is in the set.
unfoldable apart : Numbers → List ℕ → Bool
apart met [] = true
apart met (k ∷ ks) = not (met k) && apart met ks

over : (e a h p : Bool) → (not (e || a) && (not h && p)) ≡ (not (e || h) && (not a && p))
over true a h p = refl
over false true h p = sym (and-false (not h))
over false false h p = refl

apart-adding : (k : ℕ) (met : Numbers) (ks : List ℕ) → apart (adding k met) ks ≡ (not (has ks k) && apart met ks)
unfolding apart has
apart-adding k met [] = refl
apart-adding k met (j ∷ js) = rw (apart-adding k met js, eqb-sym j k) (over (eqb k j) (met j) (has js k) (apart met js))
  where
    eqb-sym : (a b : ℕ) → eqb a b ≡ eqb b a
    eqb-sym a b = go (eqb b a) refl
      where
        go : (t : Bool) → eqb b a ≡ t → eqb a b ≡ t
        go true e = eq-eqb a b (sym (eqb-true b a e))
        go false e = ne_eqb a b (λ q. eqb-false b a e (sym q))

sorted : (l x w d h a : Bool) → (l && (x && (w && (d && (h && a))))) ≡ ((l && w) && ((h && d) && (x && a)))
sorted false x w d h a = refl
sorted true true true d true a = refl
sorted true true true d false a = and-false d
sorted true true false d h a = refl
sorted true false true d h a = sym (and-false (h && d))
sorted true false false d h a = refl

linked-is : (n : ℕ) (met : Numbers) (ks : List ℕ)
    → linked n met ks ≡ (every (is_record n) ks && (distinct ks && apart met ks))
unfolding linked every distinct apart
linked-is n met [] = refl
linked-is n met (k ∷ ks) =
    rw (linked-is n (adding k met) ks, apart-adding k met ks)
    (sorted (is_record n k) (not (met k)) (every (is_record n) ks) (distinct ks) (not (has ks k)) (apart met ks))

apart_none : (ks : List ℕ) → apart none ks ≡ true
unfolding apart
apart_none [] = refl
apart_none (k ∷ ks) = apart_none ks

pub linked-none : (n : ℕ) (ks : List ℕ) → linked n none ks ≡ (every (is_record n) ks && distinct ks)
linked-none n ks = linked-is n none ks ∙ rw (apart_none ks, and-true (distinct ks))

-- How many

bit : Bool → ℕ
bit true = 1
bit false = 0

-- How many of 1 to n are in the set.
unfoldable count : ℕ → Numbers → ℕ
count zero m = 0
count (suc n) m = bit (m (suc n)) + count n m

count_most : (n : ℕ) (m : Numbers) → count n m ≤ n
unfolding count bit
count_most zero m = omega arith
count_most (suc n) m = go (m (suc n)) (count_most n m)
  where
    go : (t : Bool) → count n m ≤ n → bit t + count n m ≤ suc n
    go true h = omega arith
    go false h = omega arith

count_none : (n : ℕ) → count n none ≡ 0
unfolding count bit
count_none zero = refl
count_none (suc n) = rw (count_none n)

leb-next : (k n : ℕ) → (suc n ≡ k → ⊥) → leb k (suc n) ≡ leb k n
leb-next k n d = go (leb k n) refl
  where
    go : (t : Bool) → leb k n ≡ t → leb k (suc n) ≡ t
    go true e = le-leb k (suc n) (omega (arith, leb-true k n e))
    go false e = lt-leb k (suc n) (omega (arith, leb-false k n e))

-- One more, where k is among them and was not in the set.
count-adding : (n k : ℕ) (met : Numbers) → 1 ≤ k → met k ≡ false → count n (adding k met) ≡ bit (leb k n) + count n met
unfolding count bit
count-adding zero k met h e = rw (lt-leb k 0 h)
count-adding (suc n) k met h e = go (eqb (suc n) k) refl (count-adding n k met h e)
  where
    go : (t : Bool) → eqb (suc n) k ≡ t → count n (adding k met) ≡ bit (leb k n) + count n met
        → bit (eqb (suc n) k || met (suc n)) + count n (adding k met)
        ≡ bit (leb k (suc n)) + (bit (met (suc n)) + count n met)
    go true q r =
        let s : k ≡ suc n = sym (eqb-true (suc n) k q) in
        let e' : met (suc n) ≡ false = ap met (sym s) ∙ e in
        rw (q, r, lt-leb k n (omega arith), le-leb k (suc n) (omega arith), e')
    go false q r = rw (q, r, leb-next k n (eqb-false (suc n) k q)) (omega arith)

-- As many are met as there are records in a chain that is linked.
count-linked : (n : ℕ) (met : Numbers) (ks : List ℕ) → linked n met ks ≡ true
    → count n (adding_all ks met) ≡ length ks + count n met
unfolding linked adding_all bit
count-linked n met [] e = omega arith
count-linked n met (k ∷ ks) e =
    let p = (and-eq-true_iff (is_record n k) (not (met k) && linked n (adding k met) ks)).0 e in
    let q = (and-eq-true_iff (leb 1 k) (leb k n)).0 p.0 in
    let r = (and-eq-true_iff (not (met k)) (linked n (adding k met) ks)).0 p.1 in
    let one = count-adding n k met (leb-true 1 k q.0) (not-true (met k) r.0) in
    let b : bit (leb k n) ≡ 1 = ap bit q.1 in
    omega (arith, count-linked n (adding k met) ks r.1, one, b)

-- All of 1 to n are in the set just where n of them are.
up_to-count : (n : ℕ) (m : Numbers) → up_to n m ≡ eqb (count n m) n
unfolding up_to count bit
up_to-count zero m = refl
up_to-count (suc n) m = rw (up_to-count n m) (go (m (suc n)))
  where
    go : (t : Bool) → (t && eqb (count n m) n) ≡ eqb (bit t + count n m) (suc n)
    go true = let e : 1 + count n m ≡ suc (count n m) = omega arith in sym (rw e (eqb-suc-suc (count n m) n))
    go false = sym (ne_eqb (0 + count n m) (suc n) (λ q. omega (arith, count_most n m)))

-- What is met after some records is them, and what was met before.
adding-has : (ks : List ℕ) (met : Numbers) (k : ℕ) → adding_all ks met k ≡ (has ks k || met k)
unfolding adding_all has
adding-has [] met k = refl
adding-has (j ∷ js) met k = rw (adding-has js (adding j met) k) (go (has js k) (eqb k j) (met k))
  where
    go : (h e m : Bool) → (h || (e || m)) ≡ ((e || h) || m)
    go true true m = refl
    go true false m = refl
    go false true m = refl
    go false false m = refl

has_all : (ks : List ℕ) → adding_all ks none ≡ has ks
has_all ks = fun_ext (λ k. adding-has ks none k ∙ or-false (has ks k))

-- Records that are linked from nothing met are all of the image's just where there are as many.
pub met_all : (n : ℕ) (ks : List ℕ) → linked n none ks ≡ true → up_to n (has ks) ≡ eqb (length ks) n
met_all n ks e =
    let c : count n (has ks) ≡ length ks =
    ap (count n) (sym (has_all ks)) ∙ count-linked n none ks e ∙ rw (count_none n, add-zero) in
    up_to-count n (has ks) ∙ ap (λ x. eqb x n) c

-- The test of a walk is the definition

closing : (s e d u q : Bool) → ((e && d) ≡ true → u ≡ q) → (s && (e && (d && u))) ≡ ((s && (e && d)) && q)
closing false e d u q f = refl
closing true false d u q f = refl
closing true true false u q f = refl
closing true true true u q f = f refl

-- The definition with its tests as `every`.
pub well-linked-tests : (n : ℕ) (kss : List (List ℕ))
    → well_linked n kss
    ≡ (every is_short kss && (every (is_record n) (joined kss) && (distinct (joined kss) && up_to n (has (joined kss)))))
unfolding well_linked
well-linked-tests n kss = rw (every-is is_short kss, every-is (is_record n) (joined kss))

-- Error 19 holds just where the chains are not good in turn from nothing met, or their lengths do not add up to n.
pub well-linked-is : (n : ℕ) (kss : List (List ℕ))
    → well_linked n kss ≡ (good_all n none kss && eqb (length (joined kss)) n)
well-linked-is n kss =
    rw (well-linked-tests n kss, linked-none n (joined kss))
    (closing (every is_short kss) (every (is_record n) (joined kss)) (distinct (joined kss)) (up_to n (has (joined kss)))
    (eqb (length (joined kss)) n) (λ e. met_all n (joined kss) (linked-none n (joined kss) ∙ e)))

-- One after the other

-- A test of numbers from a on, with its last one first.
list_all-last : (m : Numbers) (a n : ℕ)
    → list_all m (range_with_len a (suc n)) ≡ (m (a + n) && list_all m (range_with_len a n))
list_all-last m a zero = rw (add-zero a)
list_all-last m a (suc n) =
    let e : a + 1 + n ≡ a + suc n = omega arith in
    rw (list_all-last m (a + 1) n, e) (go (m a) (m (a + suc n)) (list_all m (range_with_len (a + 1) n)))
  where
    go : (x y z : Bool) → (x && (y && z)) ≡ (y && (x && z))
    go true y z = refl
    go false true z = refl
    go false false z = refl

-- The numbers 1 to n in turn.
pub up_to-list : (n : ℕ) (m : Numbers) → list_all m (range_with_len 1 n) ≡ up_to n m
unfolding up_to
up_to-list zero m = refl
up_to-list (suc n) m = let e : 1 + n ≡ suc n = omega arith in rw (list_all-last m 1 n, e, up_to-list n m)
