-- What a stored text leaves as it was, texts one after the other, and how many digits a number has. Assumes nothing.
use mathlib.Core.Bool.{Bool, true, false, cond}
use mathlib.Core.List.{[], ◌∷◌, ◌++◌, append_assoc}
use mathlib.Core.Path.{◌≡◌, refl, sym, ap, ap₂, subst, ◌∙◌}
use Prim.Native.Nat.{ℕ, zero, suc, zero-le, ◌+◌, ◌-◌, ◌*◌, ◌/◌, ◌%◌, ◌^◌, ◌<◌, ◌≤◌}
use native.Mathlib.Nat.{zero-add, add-zero, add-suc, suc-add, mul-suc, not-suc-le-zero, pow-le-pow_right}
use native.Mathlib.Numerals.{add-one}
use native.Mathlib.Omega.{arith}
use lib.Dec.{ltb, leb}
use lib.ListN.{length, take, drop, get_or, set, length-append}
use lib.Seq.{length-sets, sets-eq, length-take-le, take-suc, drop_at, take-append_seam, take-set-le, drop-set-lt, set_comm}
use borrow.Author.Tests.{leb-true, lt-ltb, le-ltb, ltb-true, ltb-false, lt-leb, le-leb}
use Rattle.std.specs.Prelude.{Result, Ok, Err}
use Rattle.refusal.specs.declared.Refusal.{Refusal}
use Rattle.refusal.specs.declared.Refusal.TheVariants.{Room}
use Rattle.refusal.specs.Refusal.{returned}
use Rattle.text.specs.declared.Page.{Page}
use Rattle.text.specs.Text.{Text, over, Wrote, Puts, HasRoom, Delivered, Delivers, each_of, digits_within, digits}

-- Storing a text

pub over_none : (d : Text) (at : ℕ) → over d at [] ≡ d
unfolding over
over_none d at = refl

pub over-one : (d : Text) (at v : ℕ) → over d at (v ∷ []) ≡ set d at v
unfolding over
over-one d at v = refl

pub over_cons : (d : Text) (at v : ℕ) (xs : Text) → over d at (v ∷ xs) ≡ over (over d at (v ∷ [])) (at + 1) xs
unfolding over
over_cons d at v xs = rw (add-one at)

pub over-append : (d : Text) (at : ℕ) (xs ys : Text) → over d at (xs ++ ys) ≡ over (over d at xs) (at + length xs) ys
unfolding over
over-append d at [] ys = rw add-zero
over-append d at (x ∷ xs) ys = over-append (set d at x) (suc at) xs ys ∙ rw (suc-add, add-suc)

pub over-length : (d : Text) (at : ℕ) (xs : Text) → length (over d at xs) ≡ length d
unfolding over
over-length d at xs = length-sets d at xs

-- What stands before the text stays.
pub over-before : (d : Text) (at : ℕ) (xs : Text) (n : ℕ) → n ≤ at → take n (over d at xs) ≡ take n d
unfolding over
over-before d at [] n h = refl
over-before d at (x ∷ xs) n h = over-before (set d at x) (suc at) xs n (omega arith) ∙ take-set-le n d at x h

-- What stands after the text stays.
pub over-after : (d : Text) (at : ℕ) (xs : Text) (n : ℕ) → at + length xs ≤ n → drop n (over d at xs) ≡ drop n d
unfolding over
over-after d at [] n h = refl
over-after d at (x ∷ xs) n h = over-after (set d at x) (suc at) xs n (omega arith) ∙ drop-set-lt n d at x (omega arith)

-- The text itself is read back, where it fits.
pub over-holds : (d : Text) (at : ℕ) (xs : Text) → at + length xs ≤ length d
    → take (length xs) (drop at (over d at xs)) ≡ xs
unfolding over
over-holds d at xs h =
    let l : length (take at d) ≡ at = length-take-le at d (omega arith) in
    let rest = drop (at + length xs) d in
    rw (sets-eq xs d at h, append_assoc (take at d) xs rest, drop_at (take at d) (xs ++ rest) at l)
    (take-append_seam xs rest)

-- The first i bytes of a text and then the next are the first i + 1.
pub over-more : (d : Text) (at : ℕ) (xs : Text) (i : ℕ) → i < length xs
    → set (over d at (take i xs)) (at + i) (get_or xs i 0) ≡ over d at (take (i + 1) xs)
over-more d at xs i h =
    let l : length (take i xs) ≡ i = length-take-le i xs (omega arith) in
    sym (rw (
      add-one i,
      take-suc xs i 0 h,
      over-append d at (take i xs) (get_or xs i 0 ∷ []),
      l,
      over-one (over d at (take i xs)) (at + i) (get_or xs i 0),
    ))

-- A store past the text may as well come before it.
pub over-set : (d : Text) (at : ℕ) (xs : Text) (i v : ℕ) → at + length xs ≤ i
    → over (set d i v) at xs ≡ set (over d at xs) i v
unfolding over
over-set d at [] i v h = refl
over-set d at (x ∷ xs) i v h =
    rw (set_comm d i at v x (λ (e : i ≡ at). omega arith)) (over-set (set d at x) (suc at) xs i v (omega arith))

-- Writing a text

pub nothing : (d : Text) (at : ℕ) → Wrote d at [] d at
nothing d at = record { next = omega arith; text = sym (over_none d at) }

-- A text and another from the place after it on are one text.
pub then : {d e f : Text} {at p q : ℕ} {xs ys : Text} → Wrote d at xs e p → Wrote e p ys f q → Wrote d at (xs ++ ys) f q
then {d} {e} {f} {at} {p} {q} {xs} {ys} w v =
    record {
      next = omega (arith, length-append xs ys);
      text = v.text ∙ rw (w.text, w.next) (sym (over-append d at xs ys));
    }

-- Room for two texts is room for the first,
pub fits : (at : ℕ) {n : ℕ} (xs ys : Text) → at + length (xs ++ ys) ≤ n → at + length xs ≤ n
fits at xs ys h = omega (arith, length-append xs ys, h)

-- room for one byte is a place,
pub byte : (at : ℕ) {n : ℕ} → at + 1 ≤ n → at < n
byte at h = omega (arith, h)

-- and, once the first is written, there is room for the second.
pub rest : {d e : Text} {at p : ℕ} (xs ys : Text) → Wrote d at xs e p → at + length (xs ++ ys) ≤ length d
    → p + length ys ≤ length e
rest {d = d} {e = e} {at = at} {p = p} xs ys w h =
    omega (arith, w.next, ap length w.text ∙ over-length d at xs, length-append xs ys, h)

-- The three again where what is written first is two texts, such as a number and the space after it.
pub fits_both : (at : ℕ) {n : ℕ} (xs ys zs : Text) → at + length (xs ++ (ys ++ zs)) ≤ n → at + length (xs ++ ys) ≤ n
fits_both at {n} xs ys zs h = fits at (xs ++ ys) zs (subst (λ t. at + length t ≤ n) (sym (append_assoc xs ys zs)) h)

pub rest_both : {d e : Text} {at p : ℕ} (xs ys zs : Text) → Wrote d at (xs ++ ys) e p
    → at + length (xs ++ (ys ++ zs)) ≤ length d → p + length zs ≤ length e
rest_both {d = d} {at = at} xs ys zs w h =
    rest (xs ++ ys) zs w (subst (λ t. at + length t ≤ length d) (sym (append_assoc xs ys zs)) h)

pub then-both : {d e f : Text} {at p q : ℕ} (xs ys : Text) {zs : Text} → Wrote d at (xs ++ ys) e p → Wrote e p zs f q
    → Wrote d at (xs ++ (ys ++ zs)) f q
then-both {d} {e} {f} {at} {p} {q} xs ys {zs} w v = subst (λ t. Wrote d at t f q) (append_assoc xs ys zs) (then w v)

-- The same text, known by another name.
pub wrote_as : {d e xs ys : Text} {at r : ℕ} → xs ≡ ys → Wrote d at xs e r → Wrote d at ys e r
wrote_as {d} {e} {at = at} {r} q w = subst (λ t. Wrote d at t e r) q w

-- A writer leaves the slice as long as it was.
pub wrote-length : {d e xs : Text} {at r : ℕ} → Wrote d at xs e r → length e ≡ length d
wrote-length {d} {e} {xs} {at} w = ap length w.text ∙ over-length d at xs

-- What was written at the start of a slice is read back from there.
pub read_back : {d xs e : Text} {r : ℕ} → Wrote d 0 xs e r → r ≤ length d → take r e ≡ xs
read_back {d} {xs} {e} {r} w h =
    let n : r ≡ length xs = omega (arith, w.next) in
    rw (n, w.text) (over-holds d 0 xs (omega (arith, h, n)))

-- Writing on a page

-- A text and another after it are one text.
pub puts-then : {p q r : Page} {xs ys : Text} → Puts p xs q → Puts q ys r → Puts p (xs ++ ys) r
puts-then v w = record { wrote = then v.wrote w.wrote; same = w.same ∙ v.same }

pub puts-nothing : (p : Page) → Puts p [] p
puts-nothing p = record { wrote = nothing p.out.now p.at; same = refl }

-- The same text, known by another name.
pub puts_as : {p q : Page} {xs ys : Text} → xs ≡ ys → Puts p xs q → Puts p ys q
puts_as {p} {q} e w = subst (λ t. Puts p t q) e w

pub room_as : (p : Page) {xs ys : Text} → xs ≡ ys → HasRoom p xs → HasRoom p ys
room_as p {xs} {ys} e h = subst (λ t. p.at + length t ≤ length p.out.now) e h

-- Room for two texts is room for the first, and, once it is written, for the second.
pub room-first : (p : Page) (xs ys : Text) → HasRoom p (xs ++ ys) → HasRoom p xs
room-first p xs ys h = fits p.at xs ys h

pub room-rest : {p q : Page} (xs ys : Text) → Puts p xs q → HasRoom p (xs ++ ys) → HasRoom q ys
room-rest xs ys w h = rest xs ys w.wrote h

-- The same where what is written first is two texts, such as a number and the space after it.
pub puts-both : {p q r : Page} (xs ys : Text) {zs : Text} → Puts p (xs ++ ys) q → Puts q zs r → Puts p (xs ++ (ys ++ zs)) r
puts-both xs ys {zs} v w = puts_as (append_assoc xs ys zs) (puts-then v w)

-- A page's slice stays as long as it was.
pub puts-length : {p q : Page} {xs : Text} → Puts p xs q → length q.out.now ≡ length p.out.now
puts-length w = wrote-length w.wrote

-- What was written from the start of a page on is read back from there.
pub puts_back : {p q : Page} {xs : Text} → Puts p xs q → p.at ≡ 0 → q.at ≤ length q.out.now → take q.at q.out.now ≡ xs
puts_back {p} {q} {xs} w z h =
    let v = subst (λ k. Wrote p.out.now k xs q.out.now q.at) z w.wrote in
    read_back v (omega (arith, puts-length w))

-- A text that is too long, and one that was written.
pub too_long : {text out : Text} → length out < length text → Delivered text out out 3
too_long {text} {out} h =
    record { answer = rw (lt-leb (length text) (length out) h); left = rw (lt-leb (length text) (length out) h) }

pub fitting : {text out out' : Text} {r : ℕ} → length text ≤ length out → Wrote out 0 text out' r
    → Delivered text out out' r
fitting {text} {out} h w =
    record {
      answer = w.next ∙ rw (le-leb (length text) (length out) h, zero-add (length text));
      left = w.text ∙ rw (le-leb (length text) (length out) h);
    }

-- The same for a result.
pub not_delivered : {text out : Text} → length out < length text → Delivers text out out (Err Room)
not_delivered {text} {out} h =
    record { answer = rw (lt-leb (length text) (length out) h); left = rw (lt-leb (length text) (length out) h) }

pub delivers-wrote : {text out out' : Text} {r : ℕ} → length text ≤ length out → Wrote out 0 text out' r
    → Delivers text out out' (Ok r)
delivers-wrote {text} {out} h w =
    record {
      answer = ap (λ k. Ok k) (w.next ∙ zero-add (length text)) ∙ rw (le-leb (length text) (length out) h);
      left = w.text ∙ rw (le-leb (length text) (length out) h);
    }

either_returned : (b : Bool) (n : ℕ) → returned (cond b (Ok n) (Err Room)) ≡ cond b n 3
either_returned true n = refl
either_returned false n = refl

-- A length that is handed back, of a text delivered after a check, is one within the slice.
pub ok-within : (a t : Bool) (n m k : ℕ) (e f : Refusal) → leb n m ≡ t
    → Ok k ≡ cond a (cond t (Ok n) (Err e)) (Err f) → k ≤ m
ok-within true true n m k _ _ e q = let same : k ≡ n = cc in omega (arith, leb-true n m e)
ok-within true false n m k _ _ e q = absurd cc
ok-within false t n m k _ _ e q = absurd cc

-- A text delivered by a result is delivered.
pub delivers-returned : {text out out' : Text} {r : Result ℕ Refusal} → Delivers text out out' r
    → Delivered text out out' (returned r)
delivers-returned {text} {out} {out'} {r} d =
    record {
      answer = ap returned d.answer ∙ either_returned (leb (length text) (length out)) (length text);
      left = d.left;
    }

-- Texts of numbers, one after the other

-- One more takes no less room,
pub each_more : (text : ℕ → Text) (i d : ℕ) → length (each_of text i) ≤ length (each_of text (i + d))
unfolding each_of
each_more text i zero = rw (add-zero i) (omega arith)
each_more text i (suc d) =
    rw (add-suc i d)
    (omega (arith, each_more text i d, length-append (each_of text (i + d)) (text (i + d))))

-- so room for n of them is room for each after those before it.
pub each-room : (text : ℕ → Text) (i n : ℕ) → i < n
    → length (each_of text i) + length (text i) ≤ length (each_of text n)
unfolding each_of
each-room text i n h =
    let e : suc i + (n - suc i) ≡ n = omega (arith, h) in
    let m = subst (λ k. length (each_of text (suc i)) ≤ length (each_of text k)) e
    (each_more text (suc i) (n - suc i)) in
    omega (arith, m, length-append (each_of text i) (text i))

pub each_none : (text : ℕ → Text) → each_of text 0 ≡ []
unfolding each_of
each_none text = refl

pub each_next : (text : ℕ → Text) (i : ℕ) → each_of text (i + 1) ≡ each_of text i ++ text i
unfolding each_of
each_next text i = rw (add-one i)

-- Texts of at most k bytes are n times k at most.
pub each-most : (text : ℕ → Text) (k n : ℕ) → ((i : ℕ) → i < n → length (text i) ≤ k) → length (each_of text n) ≤ k * n
unfolding each_of
each-most text k zero h = omega arith
each-most text k (suc n) h =
    let l = each-most text k n (λ i q. h i (omega (arith, q))) in
    let m : k * suc n ≡ k * n + k = mul-suc k n in
    omega (arith, l, m, h n (omega arith), length-append (each_of text n) (text n))

-- Texts that are the same one by one are the same together.
pub each_same : (f g : ℕ → Text) (n : ℕ) → ((i : ℕ) → i < n → f i ≡ g i) → each_of f n ≡ each_of g n
unfolding each_of
each_same f g zero h = refl
each_same f g (suc n) h = ap₂ (λ x y. x ++ y) (each_same f g n (λ i q. h i (omega (arith, q)))) (h n (omega arith))

-- Room for n texts is room for each after those before it.
pub room-next : {p q : Page} (text : ℕ → Text) (i n : ℕ) → i < n → Puts p (each_of text i) q
    → HasRoom p (each_of text n) → HasRoom q (text i)
room-next text i n h w r = omega (arith, w.wrote.next, puts-length w, each-room text i n h, r)

-- For a writer on a page, as its crate's tactic: room for what is next, and what was written so far.
pub ruleset pages = (over_none, over_cons, over-length, over-append, length-append)

-- The same for one that writes such texts in a loop, whose invariant is `Puts l.fn.page (each_of text l.i) l.page`. Room for the next is `room-next`.
pub ruleset each_page = (over_none, over_cons, over-length, over-append, length-append, each_none, each_next)

-- Digits

-- What stands before the last digit matters from 10 on only.
step :
    (t : Bool) (n : ℕ) (xs ys : Text) → ltb n 10 ≡ t → (10 ≤ n → xs ≡ ys)
    → cond (ltb n 10) ((48 + n) ∷ []) (xs ++ ((48 + n % 10) ∷ []))
    ≡ cond (ltb n 10) ((48 + n) ∷ []) (ys ++ ((48 + n % 10) ∷ []))
step true n xs ys e p = rw e
step false n xs ys e p = rw (p (ltb-false n 10 e))

-- More digits than enough are no other digits.
enough : (f g n : ℕ) → n < f → n < g → digits_within f n ≡ digits_within g n
unfolding digits_within
enough zero g n h k = absurd (not-suc-le-zero h)
enough (suc f) zero n h k = absurd (not-suc-le-zero k)
enough (suc f) (suc g) n h k =
    step (ltb n 10) n (digits_within f (n / 10)) (digits_within g (n / 10)) refl
    (λ (q : 10 ≤ n). enough f g (n / 10) (omega arith) (omega arith))

pub digits-one : (n : ℕ) → n < 10 → digits n ≡ (48 + n) ∷ []
unfolding digits digits_within
digits-one n h = rw (lt-ltb n 10 h)

pub digits_more : (n : ℕ) → 10 ≤ n → digits n ≡ digits (n / 10) ++ ((48 + n % 10) ∷ [])
unfolding digits digits_within
digits_more n h = rw (le-ltb n 10 h, enough n (suc (n / 10)) (n / 10) (omega arith) (omega arith))

pub digits-one-length : (n : ℕ) → n < 10 → length (digits n) ≡ 1
digits-one-length n h = rw (digits-one n h)

pub digits-more-length : (n : ℕ) → 10 ≤ n → length (digits n) ≡ length (digits (n / 10)) + 1
digits-more-length n h = rw (digits_more n h) (length-append (digits (n / 10)) ((48 + n % 10) ∷ []))

-- A number from 10 ^ k on and below the next power has k + 1 digits.
pub digits-length : (k n : ℕ) → 10 ^ k ≤ n → n < 10 ^ suc k → length (digits n) ≡ suc k
digits-length zero n h l = digits-one-length n (omega arith)
digits-length (suc k) n h l =
    let some : 1 ≤ 10 ^ k = pow-le-pow_right (omega arith) zero-le in
    omega (arith, digits-more-length n (omega arith), digits-length k (n / 10) (omega arith) (omega arith))

-- The same by each length, for a match over them.
pub digits-length-2 : (n : ℕ) → 10 ≤ n → n < 100 → length (digits n) ≡ 2
digits-length-2 n h l = digits-length 1 n (omega arith) (omega arith)

pub digits-length-3 : (n : ℕ) → 100 ≤ n → n < 1000 → length (digits n) ≡ 3
digits-length-3 n h l = digits-length 2 n (omega arith) (omega arith)

pub digits-length-4 : (n : ℕ) → 1000 ≤ n → n < 10000 → length (digits n) ≡ 4
digits-length-4 n h l = digits-length 3 n (omega arith) (omega arith)

pub digits-length-5 : (n : ℕ) → 10000 ≤ n → n < 100000 → length (digits n) ≡ 5
digits-length-5 n h l = digits-length 4 n (omega arith) (omega arith)

pub digits-length-6 : (n : ℕ) → 100000 ≤ n → n < 1000000 → length (digits n) ≡ 6
digits-length-6 n h l = digits-length 5 n (omega arith) (omega arith)

pub digits-length-7 : (n : ℕ) → 1000000 ≤ n → n < 10000000 → length (digits n) ≡ 7
digits-length-7 n h l = digits-length 6 n (omega arith) (omega arith)

pub digits-length-8 : (n : ℕ) → 10000000 ≤ n → n < 100000000 → length (digits n) ≡ 8
digits-length-8 n h l = digits-length 7 n (omega arith) (omega arith)

pub digits-length-9 : (n : ℕ) → 100000000 ≤ n → n < 1000000000 → length (digits n) ≡ 9
digits-length-9 n h l = digits-length 8 n (omega arith) (omega arith)

pub digits-length-10 : (n : ℕ) → 1000000000 ≤ n → n < 2 ^ 32 → length (digits n) ≡ 10
digits-length-10 n h l = digits-length 9 n (omega arith) (omega arith)

pub ruleset digit_lengths = (
  digits-one-length,
  digits-length-2,
  digits-length-3,
  digits-length-4,
  digits-length-5,
  digits-length-6,
  digits-length-7,
  digits-length-8,
  digits-length-9,
  digits-length-10,
)

-- One digit more than n / 10 has, or one.
next : (t : Bool) (k n : ℕ) → ltb n 10 ≡ t → (10 ≤ n → length (digits (n / 10)) ≤ k) → length (digits n) ≤ suc k
next true k n e p = omega (arith, digits-one-length n (ltb-true n 10 e))
next false k n e p = omega (arith, digits-more-length n (ltb-false n 10 e), p (ltb-false n 10 e))

-- A number below 10 ^ (k + 1) has at most k + 1 digits.
pub digits-most : (k n : ℕ) → n < 10 ^ suc k → length (digits n) ≤ suc k
digits-most zero n h = omega (arith, digits-one-length n (omega arith))
digits-most (suc k) n h = next (ltb n 10) (suc k) n refl (λ (q : 10 ≤ n). digits-most k (n / 10) (omega arith))

pub digits-most-4 : (n : ℕ) → n < 10000 → length (digits n) ≤ 4
digits-most-4 n h = digits-most 3 n h

pub digits-most-10 : (n : ℕ) → n < 2 ^ 32 → length (digits n) ≤ 10
digits-most-10 n h = digits-most 9 n (omega arith)

-- The last digit of n may be stored before the others.
pub last_first : (d : Text) (at i n : ℕ) → 10 ≤ n → i ≡ at + length (digits (n / 10))
    → over (set d i (48 + n % 10)) at (digits (n / 10)) ≡ over d at (digits n)
last_first d at i n h e =
    let xs = digits (n / 10) in
    over-set d at xs i (48 + n % 10) (omega arith)
    ∙ sym (rw (digits_more n h, over-append d at xs ((48 + n % 10) ∷ []), ← e, over-one (over d at xs) i (48 + n % 10)))

-- Where n is one digit, that digit is left to store.
pub last_one : (d : Text) (at n : ℕ) → n < 10 → set d at (48 + n) ≡ over d at (digits n)
last_one d at n h = sym (rw (digits-one n h, over-one d at (48 + n)))

-- The definition, tried.
tried : (digits 0 ≡ 48 ∷ []) × (digits 4095 ≡ 52 ∷ 48 ∷ 57 ∷ 53 ∷ []) × (length (digits 4294967295) ≡ 10)
unfolding digits digits_within
tried = (refl, refl, refl)
