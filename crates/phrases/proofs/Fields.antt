-- The bytes of a record, and its fields in a line: these are digits, those of hexadecimal numbers
-- too, and spaces: no small letters, no colon, and all printable. Assumes nothing.
use mathlib.Core.Bool.{Bool, true, false, not, cond, ◌&&◌}
use mathlib.Core.List.{[], ◌∷◌, ◌++◌}
use mathlib.Core.Path.{◌≡◌, refl, sym, ap, subst, ◌∙◌}
use Prim.Native.Nat.{ℕ, zero, suc, ◌+◌, ◌*◌, ◌/◌, ◌%◌, ◌<◌, ◌≤◌}
use native.Mathlib.Omega.{arith}
use lib.Dec.{T, leb, ltb, eqb, ltb→lt, nltb→le}
use lib.ListN.{length, get_or}
use borrow.Author.Tests.{lt-ltb, le-ltb, le-leb, ne_eqb}
use Rattle.model.specs.Records.{Record, boardless}
use Rattle.model.proofs.Tests.{split-and, join-and, by-test}
use Rattle.text.specs.Text.{Text, digits}
use Rattle.reading.proofs.Decimal.{by_digits}
use Rattle.records.specs.Bytes.{record_at, record_bytes}
use Rattle.hexes.specs.Hex.{hex_digit, hexes}
use Rattle.hexes.proofs.Hexes.{Bytes}
use Rattle.phrases.specs.Line.{board_part, second_part}
use Rattle.phrases.specs.Describe.{EightBytes}

-- Bytes that pass a test

abbrev pub every : (ℕ → Bool) → Text → Bool
every p [] = true
every p (x ∷ xs) = p x && every p xs

pub every_append : (p : ℕ → Bool) (xs ys : Text) → T (every p xs) → T (every p ys) → T (every p (xs ++ ys))
every_append p [] ys h k = k
every_append p (x ∷ xs) ys h k =
    let e = split-and (p x) (every p xs) h in
    join-and (p x) (every p (xs ++ ys)) e.0 (every_append p xs ys e.1 k)

pub every_more : (p q : ℕ → Bool) → ((x : ℕ) → T (p x) → T (q x)) → (xs : Text) → T (every p xs) → T (every q xs)
every_more p q f [] h = tt
every_more p q f (x ∷ xs) h =
    let e = split-and (p x) (every p xs) h in
    join-and (q x) (every q xs) (f x e.0) (every_more p q f xs e.1)

-- What the fields of a record are made of: digits, those of hexadecimal numbers too, and spaces. All are 32 to 70, and
-- none is a colon.
abbrev pub is_field : ℕ → Bool
is_field x = leb 32 x && leb x 70 && not (eqb x 58)

is_field_lem : (x : ℕ) → 32 ≤ x → x ≤ 70 → (x ≡ 58 → ⊥) → T (is_field x)
is_field_lem x l h n = rw (le-leb 32 x l, le-leb x 70 h, ne_eqb x 58 n) tt

digits-fields : (n : ℕ) → T (every is_field (digits n))
digits-fields =
    by_digits (λ n xs. T (every is_field xs))
    (λ n h. join-and (is_field (48 + n)) true (is_field_lem (48 + n) (omega arith) (omega arith)
    (λ (e : 48 + n ≡ 58). omega arith)) tt)
    (λ n xs l h. every_append is_field xs ((48 + n % 10) ∷ []) h
    (join-and (is_field (48 + n % 10)) true (is_field_lem (48 + n % 10) (omega arith) (omega arith)
    (λ (e : 48 + n % 10 ≡ 58). omega arith)) tt))

hex-field : (x : ℕ) → x < 16 → T (is_field (hex_digit x))
hex-field x h =
    by-test (ltb x 10)
    (λ t. let l = ltb→lt x 10 t in rw (lt-ltb x 10 l)
    (is_field_lem (48 + x) (omega arith) (omega arith) (λ (e : 48 + x ≡ 58). omega arith)))
    (λ t. let l = nltb→le x 10 t in rw (le-ltb x 10 l)
    (is_field_lem (55 + x) (omega arith) (omega arith) (λ (e : 55 + x ≡ 58). omega arith)))

pub hexes-fields : (s : Text) → Bytes s → T (every is_field (hexes s))
unfolding hexes
hexes-fields [] h = tt
hexes-fields (b ∷ s) h =
    let l = h 0 in
    join-and (is_field (hex_digit (b / 16))) _ (hex-field (b / 16) (omega arith))
    (join-and (is_field (hex_digit (b % 16))) _ (hex-field (b % 16) (omega arith)) (hexes-fields s (λ i. h (suc i))))

pub board-fields : (r : Record) → T (every is_field (board_part r))
board-fields r = go (boardless r.step)
  where
    go : (b : Bool) → T (every is_field (cond b [] (digits r.board)))
    go true = tt
    go false = digits-fields r.board

pub second-fields : (r : Record) → T (every is_field (second_part r))
second-fields r = go (eqb r.step 9) (eqb r.step 1)
  where
    go : (b c : Bool) → T (every is_field (cond b (digits r.other) (cond c (digits r.value) [])))
    go true c = digits-fields r.other
    go false true = digits-fields r.value
    go false false = tt

-- The bytes of a record are bytes.
abbrev pub Small : Record → Type 0
Small r = Bytes (record_bytes r)

-- A text is its bytes, place by place.
abbrev listed : ℕ → (ℕ → ℕ) → Text
listed zero f = []
listed (suc n) f = f 0 ∷ listed n (λ i. f (suc i))

listed-is : (n : ℕ) (s : Text) → length s ≡ n → s ≡ listed n (λ i. get_or s i 0)
listed-is zero [] l = refl
listed-is zero (x ∷ s) l = absurd (omega arith)
listed-is (suc n) [] l = absurd (omega arith)
listed-is (suc n) (x ∷ s) l = ap (λ t. x ∷ t) (listed-is n s (omega arith))

pub bytes_back : (s : Text) → EightBytes s → record_bytes (record_at s) ≡ s
unfolding record_bytes
bytes_back s h =
    let v = (record_at s).value in
    let b4 : v % 256 ≡ get_or s 4 0 = omega (arith, h.byte 4) in
    let q5 : v / 256 ≡ get_or s 5 0 + 256 * (get_or s 6 0 + 256 * get_or s 7 0) = omega (arith, h.byte 4) in
    let b5 : v / 256 % 256 ≡ get_or s 5 0 = rw q5 (omega (arith, h.byte 5)) in
    let q6 : v / 65536 ≡ get_or s 6 0 + 256 * get_or s 7 0 = omega (arith, h.byte 4, h.byte 5) in
    let b6 : v / 65536 % 256 ≡ get_or s 6 0 = rw q6 (omega (arith, h.byte 6)) in
    let q7 : v / 16777216 ≡ get_or s 7 0 = omega (arith, h.byte 4, h.byte 5, h.byte 6) in
    let b7 : v / 16777216 % 256 ≡ get_or s 7 0 = rw q7 (omega (arith, h.byte 7)) in
    (λ i. get_or s 0 0 ∷ get_or s 1 0 ∷ get_or s 2 0 ∷ get_or s 3 0 ∷ b4 i ∷ b5 i ∷ b6 i ∷ b7 i ∷ [])
    ∙ sym (listed-is 8 s h.eight)

pub small : (s : Text) → EightBytes s → Small (record_at s)
small s h = subst Bytes (sym (bytes_back s h)) h.byte
