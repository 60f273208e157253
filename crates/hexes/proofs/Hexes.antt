-- Bytes in hexadecimal: how many digits there are, one byte more, and that the digits tell the bytes. Assumes nothing.
use mathlib.Core.Bool.{cond}
use mathlib.Core.List.{[], ◌∷◌, ◌++◌}
use mathlib.Core.Path.{◌≡◌, refl, sym, ap, ◌∙◌}
use Prim.Native.Nat.{ℕ, suc, ◌+◌, ◌-◌, ◌*◌, ◌/◌, ◌%◌, ◌<◌, ◌≤◌}
use native.Mathlib.Numerals.{add-one}
use native.Mathlib.Omega.{arith}
use lib.Dec.{ltb, ltb→lt, nltb→le}
use lib.ListN.{length, take, get_or}
use lib.Seq.{take-suc}
use Rattle.std.proofs.lemmas.List.{take_all, length-take}
use borrow.Author.Tests.{lt-ltb, le-ltb}
use Rattle.model.proofs.Tests.{by-test}
use Rattle.text.specs.Text.{Text}
use Rattle.lines.specs.Lines.{space}
use Rattle.hexes.specs.Hex.{hex_digit, hex, hexes}

hexes-append : (xs ys : Text) → hexes (xs ++ ys) ≡ hexes xs ++ hexes ys
unfolding hexes
hexes-append [] ys = refl
hexes-append (x ∷ xs) ys = ap (λ t. space ++ (hex x ++ t)) (hexes-append xs ys)

pub hexes-triple : (s : Text) → length (hexes s) ≡ 3 * length s
unfolding hexes
hexes-triple [] = refl
hexes-triple (x ∷ s) = omega (arith, hexes-triple s)

pub hexes_none : hexes [] ≡ []
unfolding hexes
hexes_none = refl

pub hexes-next : (s : Text) (i : ℕ) → i < length s → hexes (take (i + 1) s) ≡ hexes (take i s) ++
    (space ++ hex (get_or s i 0))
hexes-next s i h =
    rw (add-one i, take-suc s i 0 h)
    (hexes-append (take i s) (get_or s i 0 ∷ []) ∙ ap (λ t. hexes (take i s) ++ t) (one (get_or s i 0)))
  where
    one : (b : ℕ) → hexes (b ∷ []) ≡ space ++ hex b
    one b = unfold hexes in refl

-- For a writer of bytes one after the other.
pub ruleset hexes_page = (hexes_none, hexes-next, hexes-triple, take_all, length-take)

-- The number below 16 of a digit.
abbrev unhex : ℕ → ℕ
unhex x = cond (ltb x 65) (x - 48) (x - 55)

unhex-hex : (x : ℕ) → x < 16 → unhex (hex_digit x) ≡ x
unhex-hex x h =
    by-test (ltb x 10)
    (λ t. let l : x < 10 = ltb→lt x 10 t in rw (lt-ltb x 10 l, lt-ltb (48 + x) 65 (omega arith)) (omega arith))
    (λ t. let l : 10 ≤ x = nltb→le x 10 t in rw (le-ltb x 10 l, le-ltb (55 + x) 65 (omega arith)) (omega arith))

-- A byte is known from its two digits,
hex-differ : (b b' : ℕ) → b < 256 → b' < 256 → hex b ≡ hex b' → b ≡ b'
hex-differ b b' h h' e =
    let high : hex_digit (b / 16) ≡ hex_digit (b' / 16) = cc in
    let low : hex_digit (b % 16) ≡ hex_digit (b' % 16) = cc in
    let p = sym (unhex-hex (b / 16) (omega arith)) ∙ ap unhex high ∙ unhex-hex (b' / 16) (omega arith) in
    let q = sym (unhex-hex (b % 16) (omega arith)) ∙ ap unhex low ∙ unhex-hex (b' % 16) (omega arith) in
    omega (arith, p, q)

-- and bytes from theirs.
abbrev pub Bytes : Text → Type 0
Bytes s = (i : ℕ) → get_or s i 0 < 256

pub hexes-differ : (s s' : Text) → Bytes s → Bytes s' → length s ≡ length s' → hexes s ≡ hexes s' → s ≡ s'
unfolding hexes
hexes-differ [] [] h h' l e = refl
hexes-differ [] (b ∷ s') h h' l e = absurd (omega arith)
hexes-differ (b ∷ s) [] h h' l e = absurd (omega arith)
hexes-differ (b ∷ s) (b' ∷ s') h h' l e =
    let one : hex b ≡ hex b' = cc in
    let rest : hexes s ≡ hexes s' = cc in
    let r = hexes-differ s s' (λ i. h (suc i)) (λ i. h' (suc i)) (omega arith) rest in
    let x = hex-differ b b' (h 0) (h' 0) one in
    rw (x, r)
