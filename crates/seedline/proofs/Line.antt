-- The line of a seed and a count: its length, and its numbers read back. Assumes nothing.
use mathlib.Core.Bool.{Bool, true, false, ◌&&◌, true≢false}
use mathlib.Core.List.{[], ◌++◌, tail-eq_of_cons-eq}
use mathlib.Core.Logic.{◌⊎◌, inl, inr, ◌↔◌}
use mathlib.Core.Path.{◌≡◌, refl, sym, ap, subst, ◌∙◌}
use Prim.Native.Nat.{ℕ, ◌+◌, ◌^◌, ◌<◌, ◌≤◌}
use native.Mathlib.Omega.{arith}
use lib.Dec.{ltb, lit≤}
use lib.ListN.{length, take, drop, length-append, length-take}
use lib.Seq.{drop-drop, drop_at, take_all, length-take-le}
use borrow.Author.Tests.{lt-ltb}
use Rattle.std.specs.Str.{bytes_eq}
use Rattle.std.proofs.lemmas.Slice.Eq.{bytes_eq-Decides}
use Rattle.model.proofs.Tests.{le-or-lt}
use Rattle.text.specs.Text.{Text, Wrote, digits_within, digits}
use Rattle.text.proofs.Laws.{digits-most-4, digits-most-10, wrote-length, puts_back}
use Rattle.lines.specs.Lines.{word, space, newline}
use Rattle.reading.specs.Reading.{is_digit, leading, digits_at, reads}
use Rattle.reading.proofs.Decimal.{digits-back, number-lead, cut-number}
use Rattle.generator.specs.Seeded.{seed_sheet, is_count}
use Rattle.generator.proofs.Sheets.{count-range, sheet-bytes}
use Rattle.seedline.specs.Line.{seed_line, Asks, IsOther, Prints, bytes_read, LinesDiffer, LinesSeen, LinesLook, OthersRefused}

-- No line that asks for a sheet has more than 16 bytes.
pub line-most : (m n : ℕ) → m < 2 ^ 32 → n ≤ 4095 → length (seed_line m n) ≤ 16
unfolding seed_line
line-most m n h l =
    omega (
      arith,
      length-append (digits m) (space ++ (digits n ++ newline)),
      length-append (digits n) newline,
      digits-most-10 m h,
      digits-most-4 n (omega arith),
    )

module _ {input : Text} {m n : ℕ} (a : Asks input m n) where
  line-short : length input ≤ 16
  line-short = omega (arith, ap length a.line, line-most m n a.seed (count-range n a.count).1)

  -- Its digits, up to the space and behind it.
  first-digits : digits_at input 0 ≡ digits m
  unfolding seed_line
  first-digits = ap (leading is_digit) a.line ∙ number-lead m 32 (digits n ++ newline) refl

  second-digits : (k : ℕ) → k ≡ length (digits_at input 0) → digits_at input (k + 1) ≡ digits n
  unfolding seed_line
  second-digits k e = ap (leading is_digit) behind ∙ number-lead n 10 [] refl
    where
      behind : drop (k + 1) input ≡ digits n ++ newline
      behind =
          let rest = space ++ (digits n ++ newline) in
          sym (drop-drop 1 k input)
          ∙ ap (λ l. drop 1 l) (ap (drop k) a.line ∙ drop_at (digits m) rest k (sym (e ∙ ap length first-digits)))

  -- So its numbers are read back, and there is a byte after the seed.
  seed-back : reads 0 (digits_at input 0) ≡ m
  seed-back = ap (reads 0) first-digits ∙ digits-back m

  count-back : (k : ℕ) → k ≡ length (digits_at input 0) → reads 0 (digits_at input (k + 1)) ≡ n
  count-back k e = ap (reads 0) (second-digits k e) ∙ digits-back n

  seed-within : length (digits_at input 0) < length input
  unfolding seed_line
  seed-within =
      let rest = space ++ (digits n ++ newline) in
      omega (arith, ap length first-digits, ap length a.line, length-append (digits m) rest)

-- What an input that asks for a sheet is not: too long, or without a byte after its first number; and its numbers are
-- those of the sheet.
pub other-long : {input : Text} {m n : ℕ} → Asks input m n → 16 < length input → ⊥
other-long a h = omega (arith, line-short a)

pub other-end : {input : Text} {m n : ℕ} → Asks input m n → (k : ℕ) → k ≡ 0 + length (digits_at input 0) → length input ≤ k
    → ⊥
other-end a k e h = omega (arith, seed-within a)

pub seed-read : {input : Text} {m n : ℕ} → Asks input m n → (v : ℕ) → v ≡ reads 0 (digits_at input 0) → v ≡ m
seed-read a v e = e ∙ seed-back a

pub count-read : {input : Text} {m n : ℕ} → Asks input m n → (k v : ℕ) → k ≡ 0 + length (digits_at input 0)
    → v ≡ reads 0 (digits_at input (k + 1)) → v ≡ n
count-read a k v e f = f ∙ count-back a k (omega arith)

-- A line is that of one seed and one count.
pub lines-differ : LinesDiffer
unfolding seed_line
lines-differ s n s' n' e =
    let x = cut-number s s' 32 32 (digits n ++ newline) (digits n' ++ newline) refl refl e in
    let y = cut-number n n' 10 10 [] [] refl refl (tail-eq_of_cons-eq x.1) in
    (x.0, y.0)

-- One byte more than the longest line shows all.
seen-in : (input : Text) (s n k : ℕ) → 17 ≤ k → Asks (take k input) s n ↔ Asks input s n
seen-in input s n k m =
    (λ a. subst (λ l. Asks l s n) (all (seen a)) a, λ a. subst (λ l. Asks l s n) (sym (all (line-short a))) a)
  where
    all : length input ≤ 16 → take k input ≡ input
    all h = take_all k input (omega (arith, h))

    seen : Asks (take k input) s n → length input ≤ 16
    seen a = omega (arith, line-short a, length-take k input)

pub lines-seen : LinesSeen
lines-seen input s n = seen-in input s n bytes_read (lit≤ tt)

pub lines-look : LinesLook
unfolding seed_line digits digits_within
lines-look = (refl, refl)

-- Other inputs, by a test that is computed

-- Whether the input is the line of the numbers that are read from it.
abbrev asks : Text → Bool
asks input =
    let s = reads 0 (digits_at input 0) in
    let n = reads 0 (digits_at input (length (digits_at input 0) + 1)) in
    ltb s (2 ^ 32) && is_count n && bytes_eq input (seed_line s n)

other : (input : Text) → asks input ≡ false → IsOther input
other input f s n a = true≢false (sym yes ∙ f)
  where
    yes : asks input ≡ true
    yes =
        rw (seed-back a, count-back a _ refl, lt-ltb s (2 ^ 32) a.seed, a.count, sym a.line)
        ((bytes_eq-Decides input input).1 refl)

pub others-refused : OthersRefused
unfolding seed_line digits digits_within
others-refused = (
  other _ refl,
  other _ refl,
  other _ refl,
  other _ refl,
  other _ refl,
  other _ refl,
  other _ refl,
  other _ refl,
  other _ refl,
  other _ refl,
  other _ refl,
  other _ refl,
  other _ refl,
  other _ refl,
  other _ refl,
)

-- What the program prints

-- Where the line was read, the sheet is printed that it asks for, and no other,
pub prints-sheet : {input d e : Text} {r s n : ℕ} → Asks input s n → Wrote d 0 (seed_sheet s n) e r → Prints input d e r
prints-sheet {input} {d} {e} {r} {s} {n} a w = record {
  sheet = λ s' n' b. let q = lines-differ s n s' n' (sym a.line ∙ b.line) in rw (← q.0, ← q.1) w;
  refusal = λ f. absurd (f s n a);
}

-- and the refusal where there is none to read.
pub prints-refusal : {input d e : Text} {r : ℕ} → IsOther input → Wrote d 0 (word "refused 2" ++ newline) e r
    → Prints input d e r
prints-refusal f w = record { sheet = λ s n a. absurd (f s n a); refusal = λ _. w }

-- What is printed stands in the slice.
pub printed-within : {input d e : Text} {r : ℕ} → 32760 ≤ length d → Prints input d e r → r ≤ length e
printed-within {input} {d} {e} {r} h p = go (le-or-lt r (length e))
  where
    go : (r ≤ length e) ⊎ (length e < r) → r ≤ length e
    go (inl l) = l
    go (inr l) =
        let none : IsOther input =
        λ s n a. let w = p.sheet s n a in
        omega (arith, w.next, sheet-bytes s n, wrote-length w, count-range n a.count, h, l) in
        let w = p.refusal none in
        omega (arith, w.next, wrote-length w, h, l)

-- For `read`, as its tactic.
pub same-true : (xs ys : Text) → bytes_eq xs ys ≡ true → xs ≡ ys
same-true xs ys e = (bytes_eq-Decides xs ys).0 e

pub same-false : (xs ys : Text) → bytes_eq xs ys ≡ false → xs ≡ ys → ⊥
same-false xs ys e q = true≢false (sym ((bytes_eq-Decides xs ys).1 q) ∙ e)

pub ruleset asked =
    (other-long, other-end, seed-read, count-read, line-most, count-range, puts_back, length-take-le, same-true, same-false)
