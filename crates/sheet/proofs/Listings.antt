-- A sheet that was run, and its listing: what was written is what the definition says. Assumes nothing.
use mathlib.Core.Bool.{Bool, true, false, ◌&&◌, true≢false}
use mathlib.Core.List.{List, [], ◌∷◌, ◌++◌, append_assoc}
use mathlib.Core.Path.{◌≡◌, refl, sym, subst, ap, ap₂, ◌∙◌}
use Prim.Native.Nat.{ℕ, suc, ◌+◌, ◌-◌, ◌*◌, ◌/◌, ◌^◌, ◌<◌, ◌≤◌}
use native.Mathlib.Omega.{arith}
use lib.Dec.{leb}
use lib.ListN.{length, take, drop, get_or, length-append}
use lib.Seq.{get_or-drop}
use borrow.Author.Tests.{eq-eqb, ne_eqb}
use Rattle.std.specs.Prelude.{Result, Ok, Err}
use Rattle.refusal.specs.declared.Refusal.{Refusal}
use Rattle.refusal.specs.declared.Refusal.TheVariants.{Sheet, Room}
use Rattle.refusal.specs.Refusal.{returned}
use Rattle.model.specs.Members.{none}
use Rattle.model.specs.State.{entries, outline, Opening, opened}
use Rattle.model.specs.Records.{opening_of, Record}
use Rattle.model.specs.Runs.{steps_of, answers, sets_behind}
use Rattle.model.specs.Steps.{Step}
use Rattle.model.specs.Claim.{after, receipts}
use Rattle.model.specs.Ranges.{every, eight, in_range, terms_in_range}
use Rattle.model.proofs.Tests.{of-true, is_true, split-and}
use Rattle.model.proofs.Range.{to-ranges}
use Rattle.model.proofs.Entries.{same-entry}
use Rattle.model.proofs.Bounds.{in-range}
use Rattle.model.proofs.Made.{All, kept_in, terms-run, words-run}
use Rattle.model.proofs.Theorem.{safe}
use Rattle.cluster.specs.declared.Cluster.{Cluster}
use Rattle.cluster.specs.Layout.{outline_of}
use Rattle.refinement.specs.Refinement.{Places, listed}
use Rattle.text.specs.Text.{Text, Delivers}
use Rattle.text.proofs.Laws.{ok-within}
use Rattle.records.specs.Bytes.{record_at, records, whole_records, is_opening, is_sheet}
use Rattle.lines.specs.Lines.{answer_line}
use Rattle.listing.specs.Listing.{answer_lines, lines}
use Rattle.ending.specs.Ending.{ending}
use Rattle.unopened.specs.Unopened.{unopened}
use Rattle.listing.proofs.AnswerLines.{line-most, each-most, records-small}
use Rattle.ending.proofs.Endings.{ending-least, ending-most}
use Rattle.sheet.specs.Sheet.{listing_of, is_empty, listing, has_listing, outcome_of, left, opening_bytes, Refused, RefusedHolds, LengthsTell}
use Rattle.running.specs.Running.{following, state_at, Ran}
use Rattle.records.proofs.Decoding.{room, records-length}
use Rattle.running.proofs.Results.{kept-length}
use Rattle.running.proofs.Playing.{sheet-whole, sheet-some, sheet-most, sheet-step, sheet-real, all_most}

-- The first lines of the listing.
pub lines_are : (s : Text) (k : ℕ) (row : Cluster) (p : Places) (ns ms : List ℕ) → is_sheet s ≡ true
    → Ran s k row p ns ms
    → lines s ns ms (suc k)
    ≡ answer_line 1 0 0 none
    ++ answer_lines 2 (following s k) (answers entries (opened (opening_of (record_at s))) (steps_of (following s k)))
    (sets_behind entries (opened (opening_of (record_at s))) (steps_of (following s k)))
unfolding lines records answer_lines
lines_are s k row p ns ms e h =
    ap₂ (answer_lines 1 (record_at s ∷ following s k)) h.answered h.behind
    ∙ ap (λ n. answer_line 1 n 0 none ++ answer_lines 2 (following s k)
    (answers entries (opened (opening_of (record_at s))) (steps_of (following s k)))
    (sets_behind entries (opened (opening_of (record_at s))) (steps_of (following s k)))) (sheet-step s e)

-- How long a listing is: that of records, by its ending alone.
opened-long : (o : Opening) (rs : List Record) → 20 ≤ length (listing_of o rs)
unfolding listing_of
opened-long o rs =
    let end = ending (outline (after entries o (steps_of rs))) (receipts entries o (steps_of rs)) in
    let lines = answer_lines 2 rs (answers entries (opened o) (steps_of rs)) (sets_behind entries (opened o) (steps_of rs)) in
    omega (
      arith,
      length-append (answer_line 1 0 0 none) (lines ++ end),
      length-append lines end,
      ending-least (outline (after entries o (steps_of rs))) (receipts entries o (steps_of rs)),
    )

-- A sheet with records: its listing is theirs,
module _ (s : Text) (some : 1 ≤ length s) where
  not-empty : is_empty s ≡ false
  not-empty = ne_eqb (length s) 0 (λ (q : length s ≡ 0). omega (arith, q, some))

  pub listing-is : listing s ≡ listing_of (opening_of (record_at s)) (records (length s / 8 - 1) (drop 8 s))
  unfolding listing
  listing-is = rw not-empty

  -- so it is longer than `unopened`,
  records-long : 20 ≤ length (listing s)
  records-long = rw listing-is (opened-long (opening_of (record_at s)) (records (length s / 8 - 1) (drop 8 s)))

  -- and refusal 2 is asked of them.
  has-records : has_listing s ≡ is_sheet s
  has-records = rw not-empty

long-enough : (s : Text) → 9 ≤ length (listing s)
unfolding listing
long-enough [] = omega arith
long-enough (b ∷ s) = omega (arith, records-long (b ∷ s) (omega arith))

longer : (s : Text) → is_empty s ≡ false → 10 ≤ length (listing s)
longer [] e = absurd (true≢false e)
longer (b ∷ s) e = omega (arith, records-long (b ∷ s) (omega arith))

-- 19 bytes for each record's line, and those of the longest ending.
module _ (s : Text) (bytes : (i : ℕ) → get_or s i 0 < 256) (e : is_sheet s ≡ true) where
  abbrev rs : List Record
  rs = records (length s / 8 - 1) (drop 8 s)

  abbrev first : Opening
  first = opening_of (record_at s)

  small : All (λ r. r.step < 256) rs × All (λ r. r.value < 2 ^ 32) rs
  small = records-small (length s / 8 - 1) (drop 8 s)
      (λ i. subst (λ b. b < 256) (sym (get_or-drop 8 s i 0)) (bytes (8 + i)))

  end : length (ending (outline (after entries first (steps_of rs))) (receipts entries first (steps_of rs))) ≤ 8650
  end =
      let real = sheet-real s e in
      let m = outline (after entries first (steps_of rs)) in
      let ok = is_true (in_range m) (in-range entries same-entry first real (steps_of rs)) in
      let given = (safe entries same-entry first real (steps_of rs)).kept in
      let kept = (split-and (terms_in_range (after entries first (steps_of rs)).committed)
      (every (eight (λ b. terms_in_range ((after entries first (steps_of rs)).log b))))
      (kept_in (terms-run first real (steps_of rs)))).0 in
      subst (λ xs. length (ending m xs) ≤ 8650) given
      (ending-most m (after entries first (steps_of rs)).committed ok (to-ranges m (of-true ok)).committed
      (words-run first real rs small.1).committed (is_true _ kept))

  short-enough : length (listing_of first rs) ≤ 19 * (length s / 8) + 8650
  unfolding listing_of
  short-enough =
      let k = length s / 8 - 1 in
      let ns = answers entries (opened first) (steps_of rs) in
      let qs = sets_behind entries (opened first) (steps_of rs) in
      let n = records-length k (drop 8 s) in
      let one = room (length s) (sheet-whole s e) in
      omega (
        arith,
        one,
        n,
        length-append (answer_line 1 0 0 none) (answer_lines 2 rs ns qs
            ++ ending (outline (after entries first (steps_of rs))) (receipts entries first (steps_of rs))),
        length-append (answer_lines 2 rs ns qs)
            (ending (outline (after entries first (steps_of rs))) (receipts entries first (steps_of rs))),
        line-most 1 0 0 none (omega arith) (omega arith) (omega arith),
        each-most 2 rs ns qs small.0 (λ i _. omega (arith, all_most (opened first) (steps_of rs) (suc i)))
            (omega (arith, n, one, sheet-most s e)),
        end,
      )

all_short : (s : Text) → ((i : ℕ) → get_or s i 0 < 256) → has_listing s ≡ true
    → length (listing s) ≤ 19 * (length s / 8) + 8650
unfolding listing
all_short [] bytes e = omega arith
all_short (b ∷ s) bytes e =
    omega (
      arith,
      short-enough (b ∷ s) bytes (sym (has-records (b ∷ s) (omega arith)) ∙ e),
      ap length (listing-is (b ∷ s) (omega arith)),
    )

pub lengths-tell : LengthsTell
unfolding LengthsTell
lengths-tell s = (long-enough s, longer s, λ h e. all_short s (λ i. omega (arith, h i)) e)

-- Refusal 2.
pub no-sheet : (s out : Text) → 1 ≤ length s → is_sheet s ≡ false → (Err Sheet ≡ outcome_of s out) × (out ≡ left s out)
unfolding outcome_of left
no-sheet s out some e = let h = has-records s some ∙ e in (rw h, rw h)

-- P2's sheets: the board of the first record is none, so it is no valid opening.
and-false : (t : Bool) → (t && false) ≡ false
and-false true = refl
and-false false = refl

refused : (s out : Text) → 1 ≤ length s → is_sheet s ≡ false → Refused s out
refused s out some e = let n = no-sheet s out some e in (ap returned (sym n.0), sym n.1)

pub refused-holds : RefusedHolds
unfolding RefusedHolds
refused-holds rest out = (
  refused (opening_bytes 0 ++ rest) out (omega arith) (and-false (whole_records (length (opening_bytes 0 ++ rest)))),
  refused (opening_bytes 9 ++ rest) out (omega arith) (and-false (whole_records (length (opening_bytes 9 ++ rest)))),
)

-- All wrong lengths but that of the empty sheet.
pub still-refused : (s out : Text) → is_empty s ≡ false → whole_records (length s) ≡ false → Refused s out
still-refused [] out h e = absurd (true≢false h)
still-refused (b ∷ s) out h e = refused (b ∷ s) out (omega arith) (ap (λ t. t && is_opening (record_at (b ∷ s))) e)

-- What is delivered of a listing is what the call answers and leaves.
as-listing : (s : Text) {out out' : Text} {r : Result ℕ Refusal} → has_listing s ≡ true → Delivers (listing s) out out' r
    → (r ≡ outcome_of s out) × (out' ≡ left s out)
unfolding outcome_of left
as-listing s {out} h d = (d.answer ∙ rw h, d.left ∙ rw h)

-- The empty sheet.
pub delivered-unopened : (s : Text) {out out' : Text} {r : Result ℕ Refusal} → length s ≡ 0
    → Delivers unopened out out' r → (r ≡ outcome_of s out) × (out' ≡ left s out)
unfolding listing
delivered-unopened s {out} {out'} {r} e d =
    let h : is_empty s ≡ true = eq-eqb (length s) 0 e in
    as-listing s (rw h) (subst (λ x. Delivers x out out' r) (rw h) d)

module _ (s : Text) (e : is_sheet s ≡ true) (row : Cluster) (p : Places) (ns ms : List ℕ)
    (h : Ran s (length s / 8 - 1) row p ns ms) where
  abbrev k : ℕ
  k = length s / 8 - 1

  abbrev opening : Opening
  opening = opening_of (record_at s)

  abbrev past : List Step
  past = steps_of (following s k)

  -- The list holds the receipts given.
  kept : take row.issued (listed p) ≡ receipts entries opening past
  kept = ap (λ x. x.committed) h.state ∙ (safe entries same-entry opening (sheet-real s e) past).kept

  some : 1 ≤ length s
  some = omega (arith, room (length s) (sheet-whole s e))

  whole : lines s ns ms (length s / 8) ++ ending (outline_of row) (take row.issued (listed p))
      ≡ listing_of opening (following s k)
  unfolding listing_of
  whole =
      ap₂ (λ x y. x ++ y) (ap (lines s ns ms) (sym (sheet-some s e)) ∙ lines_are s k row p ns ms e h)
      (ap₂ ending h.outlined kept)
      ∙ append_assoc (answer_line 1 0 0 none)
      (answer_lines 2 (following s k) (answers entries (opened opening) past) (sets_behind entries (opened opening) past))
      (ending (outline (state_at s k)) (receipts entries opening past))

  pub delivered : {text out out' : Text} {r : Result ℕ Refusal} → text ≡ ending (outline_of row) (take row.issued (listed p))
      → Delivers (lines s ns ms (length s / 8) ++ text) out out' r → (r ≡ outcome_of s out) × (out' ≡ left s out)
  delivered {text} {out} {out'} {r} t d =
      let l : lines s ns ms (length s / 8) ++ text ≡ listing s =
      ap (λ x. lines s ns ms (length s / 8) ++ x) t ∙ whole ∙ sym (listing-is s some) in
      as-listing s (has-records s some ∙ e) (subst (λ x. Delivers x out out' r) l d)

-- The slice is as long as it was,
left-length : (s out : Text) → length (left s out) ≡ length out
unfolding left
left-length s out = kept-length (has_listing s && leb (length (listing s)) (length out)) out (listing s)

-- and an accepted listing is within it.
outcome-within : (s out : Text) (n : ℕ) → Ok n ≡ outcome_of s out → n ≤ length out
unfolding outcome_of
outcome-within s out n e =
    ok-within (has_listing s) (leb (length (listing s)) (length out)) (length (listing s)) (length out) n Room Sheet refl e

-- So a caller can read the listing back.
pub readable : (s out : Text) {n : ℕ} {out' : Text} → Ok n ≡ outcome_of s out → out' ≡ left s out → n ≤ length out'
readable s out {n} e l = omega (arith, outcome-within s out n e, ap length l, left-length s out)
