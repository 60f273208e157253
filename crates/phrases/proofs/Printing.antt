-- A line is one line: its bytes are printable, but for byte 10 at the end. Assumes nothing.
use mathlib.Core.Bool.{Bool, true, false, not, ◌&&◌}
use mathlib.Core.List.{[], ◌∷◌, ◌++◌, append_assoc}
use mathlib.Core.Logic.{◌⊎◌, inl, inr, ◌≢◌}
use mathlib.Core.Path.{◌≡◌, refl, sym, ap, subst}
use Prim.Native.Nat.{ℕ, ◌<◌}
use native.Mathlib.Omega.{arith}
use lib.Dec.{T, leb, eqb, leb→le}
use lib.ListN.{length}
use borrow.Author.Tests.{le-leb}
use Rattle.model.specs.Records.{Record, well_formed}
use Rattle.model.proofs.Tests.{split-and, join-and, is_true, eq-or-ne}
use Rattle.text.specs.Text.{Text}
use Rattle.lines.specs.Lines.{word, newline}
use Rattle.records.specs.Bytes.{record_at, record_bytes}
use Rattle.hexes.specs.Hex.{hexes}
use Rattle.phrases.specs.Phrases.{no_step, reasons, is_listed}
use Rattle.phrases.specs.Line.{lead_text, trail_text, board_part, second_part, step_text, raw_text, head_text, place, reason_text, verdict_text, line}
use Rattle.phrases.specs.Describe.{is_one_line, OneLine}
use Rattle.phrases.specs.Layout.{reason_at}
use Rattle.phrases.proofs.Testing.{passes}
use Rattle.phrases.proofs.Listed.{there, place_of}
use Rattle.phrases.proofs.Fields.{every, every_append, every_more, is_field, board-fields, second-fields, Small, small, hexes-fields}
use Rattle.phrases.proofs.Forming.{by_form, formed, head-formed, head-raw, verdict-accepted, verdict-refused}
use Rattle.phrases.proofs.Lengths.{place-below}

abbrev printable : ℕ → Bool
printable x = leb 32 x && leb x 126

abbrev Printed : Text → Type 0
Printed xs = T (every printable xs)

both : (xs ys : Text) → Printed xs → Printed ys → Printed (xs ++ ys)
both = every_append printable

one_line : (xs : Text) → Printed xs → is_one_line (xs ++ newline) ≡ true
one_line [] h = refl
one_line (x ∷ []) h = rw (is_true (printable x) (split-and (printable x) true h).0)
one_line (x ∷ y ∷ xs) h =
    let e = split-and (printable x) (every printable (y ∷ xs)) h in
    rw (is_true (printable x) e.0) (one_line (y ∷ xs) e.1)

fields-printed : (xs : Text) → T (every is_field xs) → Printed xs
fields-printed = every_more is_field printable (λ x t.
    let e = split-and (leb 32 x) (leb x 70) (split-and (leb 32 x && leb x 70) (not (eqb x 58)) t).0 in
    let h = leb→le x 70 e.1 in
    join-and (leb 32 x) (leb x 126) e.0 (subst T (sym (le-leb x 126 (omega arith))) tt))

words-printed : (k : ℕ) → k < 17 → Printed (lead_text k) × Printed (trail_text k)
words-printed k h =
    split-and (every printable (lead_text k)) (every printable (trail_text k))
    (passes 17 (λ k. every printable (lead_text k) && every printable (trail_text k)) refl k h)

step-printed : (r : Record) → r.step < 17 → Printed (step_text r)
unfolding step_text
step-printed r h =
    let k = r.step in
    let w = words-printed k h in
    both (lead_text k) (board_part r ++ (trail_text k ++ second_part r)) w.0
    (both (board_part r) (trail_text k ++ second_part r) (fields-printed (board_part r) (board-fields r))
    (both (trail_text k) (second_part r) w.1 (fields-printed (second_part r) (second-fields r))))

raw-printed : (r : Record) → Small r → Printed (raw_text r)
unfolding raw_text
raw-printed r h =
    both (lead_text no_step) (hexes (record_bytes r)) tt
    (fields-printed (hexes (record_bytes r)) (hexes-fields (record_bytes r) h))

head-printed : (r : Record) → Small r → Printed (head_text r)
head-printed r h = by_form r yes no
  where
    yes : well_formed r ≡ true → Printed (head_text r)
    yes e = subst Printed (head-formed r e) (step-printed r (omega (arith, (formed r e).step)))

    no : well_formed r ≡ false → Printed (head_text r)
    no e = subst Printed (head-raw r e) (raw-printed r h)

reason-printed : (k a : ℕ) → k < 17 → is_listed a ≡ true → Printed (reason_text k a)
reason-printed k a h e =
    let i = place_of k a reasons (there k a h e) in
    subst Printed (sym (ap word i.2))
    (passes (length reasons) (λ i. every printable (word (reason_at i).phrase)) refl i.0 i.1)

verdict-printed : (k a : ℕ) → k < 17 → is_listed a ≡ true → Printed (verdict_text k a)
verdict-printed k a h e = go (eq-or-ne a 0)
  where
    go : (a ≡ 0) ⊎ (a ≢ 0) → Printed (verdict_text k a)
    go (inl z) = subst Printed (verdict-accepted k a z) (reason-printed k a h e)
    go (inr n) =
        subst Printed (verdict-refused k a n) (both (word "refused, ") (reason_text k a) tt (reason-printed k a h e))

pub lines-one : OneLine
unfolding OneLine line
lines-one s a h e =
    let r = record_at s in
    let v = verdict_text (place r) a in
    let p = both (head_text r) (word ": " ++ v) (head-printed r (small s h))
    (both (word ": ") v tt (verdict-printed (place r) a (place-below r) e)) in
    subst (λ t. is_one_line t ≡ true) (append_assoc (head_text r) (word ": " ++ v) newline)
    (one_line (head_text r ++ (word ": " ++ v)) p)
