-- Texts one after the other, and where each stands: a law about any list of texts. Assumes nothing.
use mathlib.Core.List.{List, [], ◌∷◌, ◌++◌}
use mathlib.Core.Path.{◌≡◌, refl}
use Prim.Native.Nat.{ℕ, zero, suc, ◌+◌, ◌-◌, ◌<◌, ◌≤◌}
use native.Mathlib.Nat.{not-suc-le-zero, le_of_suc-le-suc}
use native.Mathlib.Numerals.{add-one}
use native.Mathlib.Omega.{arith}
use lib.ListN.{length, take, drop, get_or, length-append}
use lib.Seq.{drop-append-add, take-append_seam}
use Rattle.text.specs.Text.{Text}

abbrev pub whole : List Text → Text
whole [] = []
whole (x ∷ xs) = x ++ whole xs

-- Where each begins, from place n on, and where the last ends.
abbrev pub ends : ℕ → List Text → List ℕ
ends n [] = n ∷ []
ends n (x ∷ xs) = n ∷ ends (n + length x) xs

-- The text t stands in a list of bytes from a to e.
pub record Part (list : Text) (a e : ℕ) (t : Text) : Type 0 where
  pub low : a ≤ e
  pub high : e ≤ length list
  pub is : take (e - a) (drop a list) ≡ t

ends-first : (n : ℕ) (xs : List Text) → get_or (ends n xs) 0 0 ≡ n
ends-first n [] = refl
ends-first n (x ∷ xs) = refl

parts : (d : Text) (n : ℕ) (xs : List Text) (k : ℕ) → k < length xs
    → let a = get_or (ends n xs) k 0 in let e = get_or (ends n xs) (suc k) 0 in
    (n ≤ a) × (a ≤ e) × (e ≤ n + length (whole xs)) × (take (e - a) (drop (a - n) (whole xs)) ≡ get_or xs k d)
parts d n [] k h = absurd (not-suc-le-zero h)
parts d n (x ∷ xs) zero h =
    let f = ends-first (n + length x) xs in
    let u : n - n ≡ 0 = omega arith in
    let v : get_or (ends (n + length x) xs) 0 0 - n ≡ length x = omega arith in
    (omega arith, omega arith, omega (arith, length-append x (whole xs)), rw (u, v) (take-append_seam x (whole xs)))
parts d n (x ∷ xs) (suc k) h =
    let a = get_or (ends (n + length x) xs) k 0 in
    let r = parts d (n + length x) xs k (le_of_suc-le-suc h) in
    let u : a - n ≡ length x + (a - (n + length x)) = omega (arith, r.0) in (
      omega (arith, r.0),
      r.1,
      omega (arith, r.2, length-append x (whole xs)),
      rw (u, drop-append-add x (whole xs) (a - (n + length x))) r.3,
    )

pub part_at : (d : Text) (xs : List Text) (k : ℕ) → k < length xs
    → Part (whole xs) (get_or (ends 0 xs) k 0) (get_or (ends 0 xs) (k + 1) 0) (get_or xs k d)
part_at d xs k h =
    let r = parts d 0 xs k h in
    let z : get_or (ends 0 xs) k 0 - 0 ≡ get_or (ends 0 xs) k 0 = omega arith in
    rw (add-one k) (record { low = r.1; high = omega (arith, r.2); is = rw z at r.3 })
