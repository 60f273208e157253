-- The lines of a sheet's records: one more, and the room they take. Assumes nothing.
use mathlib.Core.Bool.{Bool, true, false}
use mathlib.Core.List.{List, [], ◌∷◌, ◌++◌, map, append_assoc, append-nil, map-append}
use mathlib.Core.Path.{◌≡◌, refl, sym, subst, ap, ap₂, ◌∙◌}
use Prim.Native.Nat.{ℕ, zero, suc, ◌+◌, ◌*◌, ◌^◌, ◌≤◌, ◌<◌}
use native.Mathlib.Nat.{add-zero}
use native.Mathlib.Numerals.{add-one}
use native.Mathlib.Omega.{arith}
use lib.ListN.{length, take, drop, get_or, length-append, length-map}
use lib.Seq.{take-suc, length-take-le, get_or-drop, get_or-take}
use Rattle.model.specs.Members.{Members}
use Rattle.model.specs.Records.{Record}
use Rattle.cluster.specs.Layout.{bits}
use Rattle.model.proofs.Made.{All}
use Rattle.text.specs.Text.{Text, each_of}
use Rattle.text.proofs.Laws.{each_none, each_next, digits-most, digits-most-4, digits-most-10}
use Rattle.records.specs.Bytes.{record_at, records}
use Rattle.records.proofs.Decoding.{records-suc, records-length}
use Rattle.lines.specs.Lines.{has_fourth, answer_line}
use Rattle.lines.proofs.Lengths.{line-length, members-most, fourth-of, fourth-none, fourth-some}
use Rattle.listing.specs.Listing.{answer_lines, lines}

-- One record, one answer and one set more are one line more.
answer_lines-suc : (k : ℕ) (rs : List Record) (ns : List ℕ) (qs : List Members) → length rs ≡ length ns
    → length rs ≡ length qs → (r : Record) (n : ℕ) (q : Members)
    → answer_lines k (rs ++ (r ∷ [])) (ns ++ (n ∷ [])) (qs ++ (q ∷ []))
    ≡ answer_lines k rs ns qs ++ answer_line (k + length rs) r.step n q
unfolding answer_lines
answer_lines-suc k [] [] [] e f r n q =
    append-nil (answer_line k r.step n q) ∙ ap (λ j. answer_line j r.step n q) (sym (add-zero k))
answer_lines-suc k (t ∷ rs) (m ∷ ns) (p ∷ qs) e f r n q =
    let j : suc k + length rs ≡ k + suc (length rs) = omega arith in
    ap (λ z. answer_line k t.step m p ++ z)
    (answer_lines-suc (suc k) rs ns qs (omega (arith, e)) (omega (arith, f)) r n q)
    ∙ sym (append_assoc (answer_line k t.step m p) (answer_lines (suc k) rs ns qs)
    (answer_line (suc k + length rs) r.step n q))
    ∙ ap (λ i. (answer_line k t.step m p ++ answer_lines (suc k) rs ns qs) ++ answer_line i r.step n q) j
answer_lines-suc k [] [] (p ∷ qs) e f r n q = absurd (omega (arith, f))
answer_lines-suc k [] (m ∷ ns) qs e f r n q = absurd (omega (arith, e))
answer_lines-suc k (t ∷ rs) [] qs e f r n q = absurd (omega (arith, e))
answer_lines-suc k (t ∷ rs) (m ∷ ns) [] e f r n q = absurd (omega (arith, f))

-- The line of the record after i others.
abbrev pub line_at : Text → List ℕ → List ℕ → ℕ → Text
line_at s ns ms i = answer_line (i + 1) (get_or s (8 * i) 0) (get_or ns i 0) (bits (get_or ms i 0))

pub lines_none : (s : Text) (ns ms : List ℕ) → lines s ns ms 0 ≡ []
unfolding lines records answer_lines
lines_none s ns ms = refl

pub one_more : (s : Text) (ns ms : List ℕ) (i : ℕ) → i < length ns → i < length ms
    → lines s ns ms (i + 1) ≡ lines s ns ms i ++ line_at s ns ms i
unfolding lines
one_more s ns ms i h k =
    let l : length (records i s) ≡ length (take i ns) = records-length i s ∙ sym (length-take-le i ns (omega arith)) in
    let l' : length (records i s) ≡ length (map bits (take i ms)) =
    records-length i s ∙ sym (length-map (take i ms) bits ∙ length-take-le i ms (omega arith)) in
    let n : 1 + length (records i s) ≡ suc i = omega (arith, records-length i s) in
    let d : get_or (drop (8 * i) s) 0 0 ≡ get_or s (8 * i) 0 = get_or-drop (8 * i) s 0 0
    ∙ ap (λ j. get_or s j 0) (add-zero (8 * i)) in
    let sets : map bits (take (suc i) ms) ≡ map bits (take i ms) ++ (bits (get_or ms i 0) ∷ []) =
    ap (map bits) (take-suc ms i 0 k) ∙ map-append bits (take i ms) (get_or ms i 0 ∷ []) in
    rw (add-one i) (
    (λ j. answer_lines 1 (records-suc i s j) (take-suc ns i 0 h j) (sets j))
    ∙ answer_lines-suc 1 (records i s) (take i ns) (map bits (take i ms)) l l' (record_at (drop (8 * i) s))
    (get_or ns i 0) (bits (get_or ms i 0))
    ∙ ap₂ (λ j m. answer_lines 1 (records i s) (take i ns) (map bits (take i ms))
    ++ answer_line j m (get_or ns i 0) (bits (get_or ms i 0))) n d
    )

-- So they are such lines, one after the other.
pub lines-each : (s : Text) (ns ms : List ℕ) (n : ℕ) → n ≤ length ns → n ≤ length ms
    → lines s ns ms n ≡ each_of (line_at s ns ms) n
unfolding each_of
lines-each s ns ms zero h k = lines_none s ns ms
lines-each s ns ms (suc n) h k =
    ap (lines s ns ms) (sym (add-one n)) ∙ one_more s ns ms n (omega arith) (omega arith)
    ∙ rw (lines-each s ns ms n (omega arith) (omega arith))

-- For lines one after the other.
pub ruleset each_line = (each_none, each_next, length-append, lines-each)

-- A line has at most four digits of its number and byte 10. With a fourth field: three spaces, two digits of its step,
-- one of its answer, eight of the set, 19 bytes in all; with none: two spaces, three digits of the step's byte, two of
-- an answer, 12.
pub line-most : (k n a : ℕ) (q : Members) → k ≤ 4095 → n < 256 → a < 100 → length (answer_line k n a q) ≤ 19
line-most k n a q hk hn ha = go (has_fourth n a) refl
  where
    go : (t : Bool) → has_fourth n a ≡ t → length (answer_line k n a q) ≤ 19
    go true e =
        let h = fourth-of n a e in
        omega (
          arith,
          line-length k n a q,
          ap length (fourth-some n a q e),
          members-most q,
          digits-most-4 k (omega (arith, hk)),
          digits-most 1 n (omega (arith, h.1)),
          digits-most 0 a (omega (arith, h.0)),
        )
    go false e = omega (
      arith,
      line-length k n a q,
      ap length (fourth-none n a q e),
      digits-most-4 k (omega (arith, hk)),
      digits-most 2 n (omega (arith, hn)),
      digits-most 1 a (omega (arith, ha)),
    )

-- So have the lines of records whose step is a byte, with answers of two digits.
pub each-most : (k : ℕ) (rs : List Record) (ns : List ℕ) (qs : List Members) → All (λ r. r.step < 256) rs
    → ((i : ℕ) → i < length rs → get_or ns i 0 < 100) → k + length rs ≤ 4096
    → length (answer_lines k rs ns qs) ≤ 19 * length rs
unfolding answer_lines
each-most k [] ns qs a h l = omega arith
each-most k (r ∷ rs) [] qs a h l = omega arith
each-most k (r ∷ rs) (n ∷ ns) [] a h l = omega arith
each-most k (r ∷ rs) (n ∷ ns) (q ∷ qs) a h l = omega (
  arith,
  length-append (answer_line k r.step n q) (answer_lines (suc k) rs ns qs),
  line-most k r.step n q (omega (arith, l)) a.0 (h 0 (omega arith)),
  each-most (suc k) rs ns qs a.1 (λ i g. h (suc i) (omega (arith, g))) (omega (arith, l)),
)

-- The records of bytes: a step is a byte, and a value has 32 bits.
pub records-small : (n : ℕ) (s : Text) → ((i : ℕ) → get_or s i 0 < 256)
    → All (λ r. r.step < 256) (records n s) × All (λ r. r.value < 2 ^ 32) (records n s)
unfolding records
records-small zero s h = (tt, tt)
records-small (suc n) s h =
    let z = records-small n (drop 8 s) (λ i. subst (λ b. b < 256) (sym (get_or-drop 8 s i 0)) (h (8 + i))) in
    ((h 0, z.0), (omega (arith, h 4, h 5, h 6, h 7), z.1))

pub lines-most : (s : Text) (ns ms : List ℕ) → ((i : ℕ) → get_or s i 0 < 256) → (n : ℕ)
    → ((i : ℕ) → i < n → get_or ns i 0 < 100) → n ≤ 4095 → length (lines s ns ms n) ≤ 19 * n
unfolding lines
lines-most s ns ms hs n hn h =
    let l = records-length n s in
    omega (
      arith,
      l,
      each-most 1 (records n s) (take n ns) (map bits (take n ms)) (records-small n s hs).0
          (λ i g. subst (λ a. a < 100) (sym (get_or-take n ns i 0 (omega (arith, g, l)))) (hn i (omega (arith, g, l))))
          (omega (arith, l, h)),
    )
