-- How long a line is at least and at most. Assumes nothing.
use mathlib.Core.Bool.{Bool, true, false, not, cond, ◌&&◌}
use mathlib.Core.List.{[], ◌++◌}
use mathlib.Core.Path.{◌≡◌, refl, subst}
use Prim.Native.Nat.{ℕ, ◌+◌, ◌^◌, ◌<◌, ◌≤◌}
use native.Mathlib.Omega.{arith}
use lib.Dec.{T, leb, eqb, leb→le}
use lib.ListN.{length, length-append}
use borrow.Author.Tests.{ne_eqb}
use Rattle.model.specs.Members.{is_replica}
use Rattle.model.specs.Records.{Record, boardless, well_formed}
use Rattle.model.proofs.Tests.{split-and}
use Rattle.text.specs.Text.{Text, digits}
use Rattle.text.proofs.Laws.{digits-one-length, digits-most-10}
use Rattle.lines.specs.Lines.{word, newline}
use Rattle.records.specs.Bytes.{record_at, record_bytes}
use Rattle.records.proofs.Encoding.{bytes-length}
use Rattle.hexes.specs.Hex.{hexes}
use Rattle.hexes.proofs.Hexes.{Bytes, hexes-triple}
use Rattle.phrases.specs.Phrases.{no_step, phrase_in, is_listed}
use Rattle.phrases.specs.Line.{lead_text, trail_text, board_part, second_part, step_text, raw_text, head_text, place, verdict_text, line}
use Rattle.phrases.specs.Describe.{LengthsTell}
use Rattle.phrases.proofs.Testing.{passes, passes-both}
use Rattle.phrases.proofs.Forming.{by_form, Formed, formed, head-formed, head-raw, place-formed, place-raw}
use Rattle.phrases.proofs.Listed.{listed_below}

one-digit : (b : ℕ) → T (is_replica b) → length (digits b) ≡ 1
one-digit b t =
    let h = leb→le b 8 (split-and (leb 1 b) (leb b 8) t).1 in
    digits-one-length b (omega arith)

-- The board of a step, and its second number, at most.
abbrev board_most : ℕ → ℕ
board_most k = cond (boardless k) 0 1

abbrev second_most : ℕ → ℕ
second_most k = cond (eqb k 9) 1 (cond (eqb k 1) 10 0)

board-most : (none : Bool) (b : ℕ) → T (cond none (eqb b 0) (is_replica b))
    → length (cond none [] (digits b)) ≤ cond none 0 1
board-most true b t = omega arith
board-most false b t = omega (arith, one-digit b t)

second-most : (nine one : Bool) (x : Bool) (o v : ℕ) → T (cond nine (is_replica o && x) (eqb o 0)) → v < 2 ^ 32
    → length (cond nine (digits o) (cond one (digits v) [])) ≤ cond nine 1 (cond one 10 0)
second-most true one x o v t h = omega (arith, one-digit o (split-and (is_replica o) x t).0)
second-most false true x o v t h = digits-most-10 v h
second-most false false x o v t h = omega arith

-- What stands before the colon, at most, by the step or, at 16, for a malformed record.
abbrev head_most : ℕ → ℕ
head_most k = cond (eqb k no_step) 30 (length (lead_text k) + (board_most k + (length (trail_text k) + second_most k)))

module _ (r : Record) (h : r.value < 2 ^ 32) where
  step-most : Formed r
      → length (step_text r)
      ≤ length (lead_text r.step) + (board_most r.step + (length (trail_text r.step) + second_most r.step))
  unfolding step_text
  step-most f =
      let k = r.step in omega (
        arith,
        length-append (lead_text k) (board_part r ++ (trail_text k ++ second_part r)),
        length-append (board_part r) (trail_text k ++ second_part r),
        length-append (trail_text k) (second_part r),
        board-most (boardless k) r.board f.board,
        second-most (eqb k 9) (eqb k 1) (not (eqb r.board r.other)) r.other r.value f.other h,
      )

  raw-most : length (raw_text r) ≤ 30
  unfolding raw_text
  raw-most = omega (
    arith,
    length-append (lead_text no_step) (hexes (record_bytes r)),
    hexes-triple (record_bytes r),
    bytes-length r,
  )

  head-most : length (head_text r) ≤ head_most (place r)
  head-most = by_form r yes no
    where
      yes : well_formed r ≡ true → length (head_text r) ≤ head_most (place r)
      yes e =
          let f = formed r e in
          let n = ne_eqb r.step no_step (λ (q : r.step ≡ no_step). omega (arith, f.step, q)) in
          subst (λ t. length t ≤ head_most (place r)) (head-formed r e)
          (subst (λ k. length (step_text r) ≤ head_most k) (place-formed r e) (rw n (step-most f)))

      no : well_formed r ≡ false → length (head_text r) ≤ head_most (place r)
      no e =
          subst (λ t. length t ≤ head_most (place r)) (head-raw r e)
          (subst (λ k. length (raw_text r) ≤ head_most k) (place-raw r e) raw-most)

pub place-below : (r : Record) → place r < 17
place-below r = by_form r yes no
  where
    yes : well_formed r ≡ true → place r < 17
    yes e = omega (arith, place-formed r e, (formed r e).step)

    no : well_formed r ≡ false → place r < 17
    no e = omega (arith, place-raw r e)

all_most : (k a : ℕ) → k < 17 → a < 20 → head_most k + (2 + (length (verdict_text k a) + 1)) ≤ 96
unfolding verdict_text phrase_in
all_most k a h l =
    leb→le _ 96 (passes-both 17 20 (λ k a. leb (head_most k + (2 + (length (verdict_text k a) + 1))) 96) refl k a h l)

line-length : (r : Record) (a : ℕ)
    → length (line r a) ≡ length (head_text r) + (2 + (length (verdict_text (place r) a) + 1))
unfolding line
line-length r a =
    omega (
      arith,
      length-append (head_text r) (word ": " ++ (verdict_text (place r) a ++ newline)),
      length-append (verdict_text (place r) a) newline,
    )

pub line-most : (r : Record) (a : ℕ) → r.value < 2 ^ 32 → is_listed a ≡ true → length (line r a) ≤ 96
line-most r a h e =
    omega (arith, line-length r a, head-most r h, all_most (place r) a (place-below r) (listed_below a e))

-- Its beginning alone has three bytes.
lead-least : (k : ℕ) → k < 17 → 3 ≤ length (lead_text k)
lead-least k h = leb→le 3 _ (passes 17 (λ k. leb 3 (length (lead_text k))) refl k h)

head-least : (r : Record) → 3 ≤ length (head_text r)
unfolding step_text raw_text
head-least r = by_form r yes no
  where
    yes : well_formed r ≡ true → 3 ≤ length (head_text r)
    yes e =
        let l = lead-least r.step (omega (arith, (formed r e).step)) in
        subst (λ t. 3 ≤ length t) (head-formed r e)
        (omega (arith, l, length-append (lead_text r.step) (board_part r ++ (trail_text r.step ++ second_part r))))

    no : well_formed r ≡ false → 3 ≤ length (head_text r)
    no e =
        subst (λ t. 3 ≤ length t) (head-raw r e)
        (omega (arith, length-append (lead_text no_step) (hexes (record_bytes r))))

pub line-least : (r : Record) (a : ℕ) → 4 ≤ length (line r a)
line-least r a = omega (arith, line-length r a, head-least r)

pub value-small : (s : Text) → Bytes s → (record_at s).value < 2 ^ 32
value-small s h = omega (arith, h 4, h 5, h 6, h 7)

pub lengths-tell : LengthsTell
unfolding LengthsTell
lengths-tell s a h e = (
  line-least (record_at s) a,
  line-most (record_at s) a (value-small s h.byte) e,
)
