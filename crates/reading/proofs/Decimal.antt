-- The decimal digits of a number: they are read back, no two numbers have the same, and where they end is known.
-- Assumes nothing.
use mathlib.Core.Bool.{Bool, true, false}
use mathlib.Core.List.{[], ◌∷◌, ◌++◌, append_assoc, append-nil, append_cancel_left}
use mathlib.Core.Path.{◌≡◌, refl, sym, ap, ◌∙◌}
use Prim.Native.Nat.{ℕ, zero, suc, ◌+◌, ◌-◌, ◌*◌, ◌/◌, ◌%◌, ◌<◌, ◌≤◌}
use native.Mathlib.Nat.{not-suc-le-zero}
use native.Mathlib.Omega.{arith}
use lib.Dec.{ltb}
use borrow.Author.Tests.{le-leb, ltb-true, ltb-false}
use Rattle.text.specs.Text.{Text, digits}
use Rattle.text.proofs.Laws.{digits-one, digits_more}
use Rattle.reading.specs.Reading.{is_digit, leading, reads}

-- A fact of every number's digits, by the last digit.
module _ (P : ℕ → Text → Type 0) (one : (n : ℕ) → n < 10 → P n ((48 + n) ∷ []))
    (more : (n : ℕ) (xs : Text) → 10 ≤ n → P (n / 10) xs → P n (xs ++ ((48 + n % 10) ∷ []))) where
  within : (k n : ℕ) → n < k → P n (digits n)
  within zero n h = absurd (not-suc-le-zero h)
  within (suc k) n h = by_size (ltb n 10) refl (λ (l : 10 ≤ n). within k (n / 10) (omega arith))
    where
      by_size : (t : Bool) → ltb n 10 ≡ t → (10 ≤ n → P (n / 10) (digits (n / 10))) → P n (digits n)
      by_size true e f = let l = ltb-true n 10 e in rw (digits-one n l) (one n l)
      by_size false e f = let l = ltb-false n 10 e in rw (digits_more n l) (more n (digits (n / 10)) l (f l))

  pub by_digits : (n : ℕ) → P n (digits n)
  by_digits n = within (suc n) n (omega arith)

reads-append : (v : ℕ) (xs ys : Text) → reads v (xs ++ ys) ≡ reads (reads v xs) ys
reads-append v [] ys = refl
reads-append v (x ∷ xs) ys = reads-append (10 * v + (x - 48)) xs ys

-- A number is read back.
pub digits-back : (n : ℕ) → reads 0 (digits n) ≡ n
digits-back =
    by_digits (λ n xs. reads 0 xs ≡ n) (λ n h. omega arith) (λ n xs l h. reads-append 0 xs _ ∙ omega (arith, h))

-- No two numbers have the same digits.
pub digits-differ : (n m : ℕ) → digits n ≡ digits m → n ≡ m
digits-differ n m e = sym (digits-back n) ∙ ap (reads 0) e ∙ digits-back m

is_digit_lem : (x : ℕ) → 48 ≤ x → x ≤ 57 → is_digit x ≡ true
is_digit_lem x l h = rw (le-leb 48 x l, le-leb x 57 h)

-- The digits of a number are all digits,
digits-lead : (n : ℕ) (rest : Text) → leading is_digit (digits n ++ rest) ≡ digits n ++ leading is_digit rest
digits-lead =
    by_digits (λ n xs. (rest : Text) → leading is_digit (xs ++ rest) ≡ xs ++ leading is_digit rest)
    (λ n h rest. rw (is_digit_lem (48 + n) (omega arith) (omega arith)))
    (λ n xs l h rest.
    let d = (48 + n % 10) ∷ [] in
    let e = is_digit_lem (48 + n % 10) (omega arith) (omega arith) in
    rw (append_assoc xs d rest, append_assoc xs d (leading is_digit rest), h (d ++ rest), e))

-- and they end where no digit follows.
number-ends : (n : ℕ) (xs : Text) → leading is_digit xs ≡ [] → leading is_digit (digits n ++ xs) ≡ digits n
number-ends n xs e = digits-lead n xs ∙ ap (λ t. digits n ++ t) e ∙ append-nil (digits n)

pub number-lead : (n c : ℕ) (cs : Text) → is_digit c ≡ false → leading is_digit (digits n ++ (c ∷ cs)) ≡ digits n
number-lead n c cs e = number-ends n (c ∷ cs) (rw e)

-- So number and rest are known.
pub cut-digits : (n m : ℕ) (xs ys : Text) → leading is_digit xs ≡ [] → leading is_digit ys ≡ []
    → digits n ++ xs ≡ digits m ++ ys → (n ≡ m) × (xs ≡ ys)
cut-digits n m xs ys h k e = (digits-differ n m same, append_cancel_left (digits m) xs ys rest)
  where
    same : digits n ≡ digits m
    same = sym (number-ends n xs h) ∙ ap (leading is_digit) e ∙ number-ends m ys k

    rest : digits m ++ xs ≡ digits m ++ ys
    rest = ap (λ l. l ++ xs) (sym same) ∙ e

pub cut-number : (n m c d : ℕ) (xs ys : Text) → is_digit c ≡ false → is_digit d ≡ false
    → digits n ++ (c ∷ xs) ≡ digits m ++ (d ∷ ys) → (n ≡ m) × (c ∷ xs ≡ d ∷ ys)
cut-number n m c d xs ys h k e = cut-digits n m (c ∷ xs) (d ∷ ys) (rw h) (rw k) e
