-- Two lines differ: what stands before the colon tells the record, what stands after it the answer. Assumes nothing.
use mathlib.Core.Bool.{Bool, true, false, not, cond, ◌&&◌, ◌||◌}
use mathlib.Core.List.{[], ◌∷◌, ◌++◌, append-nil, append_cancel_left, append_cancel_right, tail-eq_of_cons-eq}
use mathlib.Core.Logic.{◌≢◌, ◌⊎◌, inl, inr}
use mathlib.Core.Path.{◌≡◌, refl, sym, ap, subst, ◌∙◌}
use Prim.Native.Nat.{ℕ, ◌<◌}
use native.Mathlib.Omega.{arith}
use lib.Dec.{T, leb, eqb, eqb→eq, leb→le}
use lib.ListN.{length, get_or}
use borrow.Author.Tests.{lt-leb}
use Rattle.model.specs.Members.{is_replica}
use Rattle.model.specs.Records.{Record, boardless, well_formed}
use Rattle.model.proofs.Tests.{split-and, by-test, is_true, is_false, eq-or-ne}
use Rattle.text.specs.Text.{Text, digits}
use Rattle.lines.specs.Lines.{word, newline}
use Rattle.reading.specs.Reading.{is_digit, leading}
use Rattle.reading.proofs.Decimal.{digits-differ, cut-digits}
use Rattle.records.specs.Bytes.{record_at, record_bytes}
use Rattle.records.proofs.Encoding.{bytes-length}
use Rattle.hexes.specs.Hex.{hexes}
use Rattle.hexes.proofs.Hexes.{hexes-differ}
use Rattle.phrases.specs.Phrases.{no_step, reasons, phrase_in, is_listed}
use Rattle.phrases.specs.Line.{lead_text, trail_text, board_part, second_part, step_text, raw_text, head_text, place, reason_text, verdict_text, line}
use Rattle.phrases.specs.Describe.{LinesDiffer}
use Rattle.phrases.specs.Layout.{reason_at}
use Rattle.phrases.proofs.Testing.{passes, passes-both, same, told-apart}
use Rattle.phrases.proofs.Fields.{every, every_append, every_more, is_field, board-fields, second-fields, Small, small, bytes_back, hexes-fields}
use Rattle.phrases.proofs.Listed.{there, place_of}
use Rattle.phrases.proofs.Forming.{by_form, Formed, formed, head-formed, head-raw, place-formed, place-raw, verdict-accepted, verdict-refused}
use Rattle.phrases.proofs.Lengths.{place-below}

-- Cutting at the colon

abbrev no_colon : ℕ → Bool
no_colon x = not (eqb x 58)

-- A text is cut in one way at its first colon.
before_colon : (xs ys : Text) → T (every no_colon xs) → leading no_colon (xs ++ (58 ∷ ys)) ≡ xs
before_colon [] ys h = refl
before_colon (x ∷ xs) ys h =
    let e = split-and (not (eqb x 58)) (every no_colon xs) h in
    rw (is_true (not (eqb x 58)) e.0) (ap (λ t. x ∷ t) (before_colon xs ys e.1))

cut-colon : (xs xs' ys ys' : Text) → T (every no_colon xs) → T (every no_colon xs')
    → xs ++ (58 ∷ ys) ≡ xs' ++ (58 ∷ ys') → (xs ≡ xs') × (ys ≡ ys')
cut-colon xs xs' ys ys' h h' e =
    let q = sym (before_colon xs ys h) ∙ ap (leading no_colon) e ∙ before_colon xs' ys' h' in
    (q, tail-eq_of_cons-eq (append_cancel_left xs' (58 ∷ ys) (58 ∷ ys') (ap (λ t. t ++ (58 ∷ ys)) (sym q) ∙ e)))

-- The words of a head

-- The small letters of a text: what is left of a head without its fields.
abbrev letters : Text → Text
letters [] = []
letters (x ∷ xs) = cond (leb 97 x) (x ∷ letters xs) (letters xs)

letters-append : (xs ys : Text) → letters (xs ++ ys) ≡ letters xs ++ letters ys
letters-append [] ys = refl
letters-append (x ∷ xs) ys = go (leb 97 x) (letters-append xs ys)
  where
    go : (b : Bool) → letters (xs ++ ys) ≡ letters xs ++ letters ys
        → cond b (x ∷ letters (xs ++ ys)) (letters (xs ++ ys)) ≡ cond b (x ∷ letters xs) (letters xs) ++ letters ys
    go true e = ap (λ t. x ∷ t) e
    go false e = e

no-letters : (xs : Text) → T (every is_field xs) → letters xs ≡ []
no-letters [] h = refl
no-letters (x ∷ xs) h =
    let e = split-and (is_field x) (every is_field xs) h in
    let l = leb→le x 70 (split-and (leb 32 x) (leb x 70) (split-and (leb 32 x && leb x 70) (no_colon x) e.0).0).1 in
    rw (lt-leb 97 x (omega arith)) (no-letters xs e.1)

abbrev stem : ℕ → Text
stem k = letters (lead_text k) ++ letters (trail_text k)

-- The stems differ: two steps have not the same words.
stems-differ : (j k : ℕ) → j < 17 → k < 17 → stem j ≡ stem k → j ≡ k
stems-differ j k h l e =
    eqb→eq j k (told-apart (stem j) (stem k) (eqb j k)
    (passes-both 17 17 (λ j k. not (same (stem j) (stem k)) || eqb j k) refl j k h l) e)

-- No colon in them either.
words-plain : (k : ℕ) → k < 17 → T (every no_colon (lead_text k)) × T (every no_colon (trail_text k))
words-plain k h =
    split-and (every no_colon (lead_text k)) (every no_colon (trail_text k))
    (passes 17 (λ k. every no_colon (lead_text k) && every no_colon (trail_text k)) refl k h)

field_plain : (xs : Text) → T (every is_field xs) → T (every no_colon xs)
field_plain = every_more is_field no_colon (λ x t. (split-and (leb 32 x && leb x 70) (no_colon x) t).1)

-- What is known of a head: its small letters are a stem, and it has no colon.
abbrev Head : ℕ → Text → Type 0
Head k t = (letters t ≡ stem k) × T (every no_colon t)

step-head : (r : Record) → r.step < 17 → Head r.step (step_text r)
unfolding step_text
step-head r h =
    let k = r.step in
    let w = words-plain k h in
    let bs = no-letters (board_part r) (board-fields r) in
    let ss = no-letters (second_part r) (second-fields r) in (
      letters-append (lead_text k) (board_part r ++ (trail_text k ++ second_part r))
          ∙ ap (λ t. letters (lead_text k) ++ t)
          (letters-append (board_part r) (trail_text k ++ second_part r) ∙ ap
          (λ t. t ++ letters (trail_text k ++ second_part r)) bs
          ∙ letters-append (trail_text k) (second_part r) ∙ ap (λ t. letters (trail_text k) ++ t) ss ∙ append-nil
          (letters (trail_text k))),
      every_append no_colon (lead_text k) (board_part r ++ (trail_text k ++ second_part r)) w.0
          (every_append no_colon (board_part r) (trail_text k ++ second_part r) (field_plain (board_part r) (board-fields r))
          (every_append no_colon (trail_text k) (second_part r) w.1 (field_plain (second_part r) (second-fields r)))),
    )

raw-head : (r : Record) → Small r → Head no_step (raw_text r)
unfolding raw_text
raw-head r h =
    let f = hexes-fields (record_bytes r) h in (
      letters-append (lead_text no_step) (hexes (record_bytes r)) ∙ ap (λ t. letters (lead_text no_step) ++ t)
          (no-letters (hexes (record_bytes r)) f),
      every_append no_colon (lead_text no_step) (hexes (record_bytes r)) tt (field_plain (hexes (record_bytes r)) f),
    )

head-is : (r : Record) → Small r → Head (place r) (head_text r)
head-is r h = by_form r yes no
  where
    yes : well_formed r ≡ true → Head (place r) (head_text r)
    yes e =
        let l = (formed r e).step in
        subst (λ k. Head k (head_text r)) (place-formed r e)
        (subst (Head r.step) (head-formed r e) (step-head r (omega arith)))

    no : well_formed r ≡ false → Head (place r) (head_text r)
    no e = subst (λ k. Head k (head_text r)) (place-raw r e) (subst (Head no_step) (head-raw r e) (raw-head r h))

-- The fields of a step

-- A text that begins with no digit, whatever follows it.
abbrev opens : Text → Bool
opens [] = false
opens (x ∷ xs) = not (is_digit x)

abbrev is_nil : Text → Bool
is_nil [] = true
is_nil (x ∷ xs) = false

-- No digit follows the board: what stands between it and the second number, if there is one, begins with none.
no_digit : (nine one : Bool) (xs o v : Text) → T (opens xs || (is_nil xs && not (nine || one)))
    → leading is_digit (xs ++ cond nine o (cond one v [])) ≡ []
no_digit true one [] o v t = absurd t
no_digit false true [] o v t = absurd t
no_digit false false [] o v t = refl
no_digit nine one (x ∷ xs) o v t = rw (is_false (is_digit x) (left (not (is_digit x)) t))
  where
    left : (b : Bool) → T (b || false) → T b
    left true t = tt
    left false t = t

trail-stops : (r : Record) → r.step < 17 → leading is_digit (trail_text r.step ++ second_part r) ≡ []
trail-stops r h =
    no_digit (eqb r.step 9) (eqb r.step 1) (trail_text r.step) (digits r.other) (digits r.value)
    (passes 17 (λ k. opens (trail_text k) || (is_nil (trail_text k) && not (eqb k 9 || eqb k 1))) refl r.step h)

both_zero : (x y : ℕ) → T (eqb x 0) → T (eqb y 0) → x ≡ y
both_zero x y t u = eqb→eq x 0 t ∙ sym (eqb→eq y 0 u)

board-differ : (none : Bool) (b b' : ℕ) (xs ys : Text) → T (cond none (eqb b 0) (is_replica b))
    → T (cond none (eqb b' 0) (is_replica b')) → leading is_digit xs ≡ [] → leading is_digit ys ≡ []
    → cond none [] (digits b) ++ xs ≡ cond none [] (digits b') ++ ys → (b ≡ b') × (xs ≡ ys)
board-differ true b b' xs ys t u h k e = (both_zero b b' t u, e)
board-differ false b b' xs ys t u h k e = cut-digits b b' xs ys h k e

second-differ : (nine one x x' : Bool) (o o' v v' : ℕ) → T (not (nine && one))
    → T (cond nine x (eqb o 0)) → T (cond nine x' (eqb o' 0)) → T (one || eqb v 0) → T (one || eqb v' 0)
    → cond nine (digits o) (cond one (digits v) []) ≡ cond nine (digits o') (cond one (digits v') [])
    → (o ≡ o') × (v ≡ v')
second-differ true true x x' o o' v v' n t t' u u' e = absurd n
second-differ true false x x' o o' v v' n t t' u u' e = (digits-differ o o' e, both_zero v v' u u')
second-differ false true x x' o o' v v' n t t' u u' e = (both_zero o o' t t', digits-differ v v' e)
second-differ false false x x' o o' v v' n t t' u u' e = (both_zero o o' t t', both_zero v v' u u')

not-both : (k : ℕ) → T (not (eqb k 9 && eqb k 1))
not-both k =
    by-test (eqb k 9) (λ t. subst (λ n. T (not (eqb n 9 && eqb n 1))) (sym (eqb→eq k 9 t)) tt)
    (λ t. rw (is_false (eqb k 9) t) tt)

-- A record with another step.
abbrev with : ℕ → Record → Record
with k r = record { step = k; board = r.board; other = r.other; spare = r.spare; value = r.value }

-- Two records of one step.
fields-differ : (r r' : Record) → r.step < 17 → Formed r → Formed (with r.step r')
    → step_text r ≡ step_text (with r.step r')
    → (r.board ≡ r'.board) × (r.other ≡ r'.other) × (r.spare ≡ r'.spare) × (r.value ≡ r'.value)
unfolding step_text
fields-differ r r' h f f' e =
    let k = r.step in
    let w = with k r' in
    let e1 = append_cancel_left (lead_text k) (board_part r ++ (trail_text k ++ second_part r))
    (board_part w ++ (trail_text k ++ second_part w)) e in
    let b = board-differ (boardless k) r.board r'.board (trail_text k ++ second_part r)
    (trail_text k ++ second_part w)
    f.board f'.board (trail-stops r h) (trail-stops w h) e1 in
    let e2 = append_cancel_left (trail_text k) (second_part r) (second_part w) b.1 in
    let c = second-differ (eqb k 9) (eqb k 1) (is_replica r.other && not (eqb r.board r.other))
    (is_replica r'.other && not (eqb r'.board r'.other)) r.other r'.other r.value r'.value
    (not-both k)
    f.other f'.other f.value f'.value e2 in
    (b.0, c.0, f.spare ∙ sym f'.spare, c.1)

steps-differ : (r r' : Record) → well_formed r ≡ true → well_formed r' ≡ true → r.step ≡ r'.step
    → step_text r ≡ step_text r' → r ≡ r'
steps-differ r r' t t' q e =
    let f = formed r t in
    let f' = subst (λ k. Formed (with k r')) (sym q) (formed r' t') in
    let x = fields-differ r r' (omega (arith, f.step)) f f' (e ∙ ap (λ k. step_text (with k r')) (sym q)) in
    λ i. record { step = q i; board = x.0 i; other = x.1 i; spare = x.2 i; value = x.3 i }

raws-differ : (r r' : Record) → Small r → Small r' → raw_text r ≡ raw_text r' → record_bytes r ≡ record_bytes r'
unfolding raw_text
raws-differ r r' h h' e =
    hexes-differ (record_bytes r) (record_bytes r') h h' (bytes-length r ∙ sym (bytes-length r'))
    (append_cancel_left (lead_text no_step) (hexes (record_bytes r)) (hexes (record_bytes r')) e)

-- Heads tell records: by their words the step, or that there is none, and then by their fields.
heads-differ : (r r' : Record) → Small r → Small r' → head_text r ≡ head_text r' → record_bytes r ≡ record_bytes r'
heads-differ r r' h h' e = go (well_formed r) (well_formed r') refl refl
  where
    places : place r ≡ place r'
    places =
        stems-differ (place r) (place r') (place-below r) (place-below r')
        (sym (head-is r h).0 ∙ ap letters e ∙ (head-is r' h').0)

    go : (t t' : Bool) → well_formed r ≡ t → well_formed r' ≡ t' → record_bytes r ≡ record_bytes r'
    go true true t t' =
        ap record_bytes (steps-differ r r' t t' (place-formed r t ∙ places ∙ sym (place-formed r' t'))
        (head-formed r t ∙ e ∙ sym (head-formed r' t')))
    go true false t t' =
        absurd (omega (arith, (formed r t).step, place-formed r t, places, place-raw r' t'))
    go false true t t' =
        absurd (omega (arith, (formed r' t').step, place-formed r' t', places, place-raw r t))
    go false false t t' = raws-differ r r' h h' (head-raw r t ∙ e ∙ sym (head-raw r' t'))

-- Answers

-- No phrase is of two answers.
phrases-differ : (i j : ℕ) → i < length reasons → j < length reasons
    → word (reason_at i).phrase ≡ word (reason_at j).phrase → (reason_at i).answer ≡ (reason_at j).answer
phrases-differ i j h l e =
    eqb→eq (reason_at i).answer (reason_at j).answer
    (told-apart (word (reason_at i).phrase) (word (reason_at j).phrase) (eqb (reason_at i).answer (reason_at j).answer)
    (passes-both (length reasons) (length reasons)
    (λ i j. not (same (word (reason_at i).phrase) (word (reason_at j).phrase)) || eqb (reason_at i).answer
    (reason_at j).answer)
    refl i j h l) e)

module _ (k k' a a' : ℕ) (h : k < 17) (h' : k' < 17) (l : is_listed a ≡ true) (l' : is_listed a' ≡ true) where
  reasons-differ : reason_text k a ≡ reason_text k' a' → a ≡ a'
  reasons-differ e =
      let i = place_of k a reasons (there k a h l) in
      let j = place_of k' a' reasons (there k' a' h' l') in
      i.3 ∙ phrases-differ i.0 j.0 i.1 j.1 (ap word (sym i.2) ∙ e ∙ ap word j.2) ∙ sym j.3

-- An accepted step's answer begins with another letter than a refused one's.
accepted-first : (k : ℕ) → k < 17 → get_or (reason_text k 0) 0 0 ≡ 97
unfolding phrase_in
accepted-first k h =
    eqb→eq (get_or (reason_text k 0) 0 0) 97 (passes 17 (λ k. eqb (get_or (reason_text k 0) 0 0) 97) refl k h)

apart : (k k' a a' : ℕ) → k < 17 → a ≡ 0 → a' ≢ 0 → verdict_text k a ≡ verdict_text k' a' → ⊥
apart k k' a a' h z n e =
    let q = verdict-accepted k a z ∙ e ∙ sym (verdict-refused k' a' n) in
    let x : ◌≡◌ {A = ℕ} 97 114 = sym (accepted-first k h) ∙ ap (λ m. get_or (reason_text k m) 0 0) (sym z) ∙ ap
    (λ t. get_or t 0 0) q in
    omega (arith, x)

verdicts-differ : (k k' a a' : ℕ) → k < 17 → k' < 17 → is_listed a ≡ true → is_listed a' ≡ true
    → verdict_text k a ≡ verdict_text k' a' → a ≡ a'
verdicts-differ k k' a a' h h' l l' e = go (eq-or-ne a 0) (eq-or-ne a' 0)
  where
    go : (a ≡ 0) ⊎ (a ≢ 0) → (a' ≡ 0) ⊎ (a' ≢ 0) → a ≡ a'
    go (inl z) (inl z') = z ∙ sym z'
    go (inl z) (inr n') = absurd (apart k k' a a' h z n' e)
    go (inr n) (inl z') = absurd (apart k' k a' a h' z' n (sym e))
    go (inr n) (inr n') =
        reasons-differ k k' a a' h h' l l' (append_cancel_left (word "refused, ") (reason_text k a) (reason_text k' a')
        (verdict-refused k a n ∙ e ∙ sym (verdict-refused k' a' n')))

-- Lines

pub lines-differ : LinesDiffer
unfolding LinesDiffer line
lines-differ s s' a a' h h' l l' e =
    let r = record_at s in
    let r' = record_at s' in
    let b = small s h in
    let b' = small s' h' in
    let c = cut-colon (head_text r) (head_text r') (32 ∷ (verdict_text (place r) a ++ newline))
    (32 ∷ (verdict_text (place r') a' ++ newline)) (head-is r b).1 (head-is r' b').1 e in
    let v = append_cancel_right (verdict_text (place r) a) (verdict_text (place r') a') newline
    (tail-eq_of_cons-eq c.1) in (
      sym (bytes_back s h) ∙ heads-differ r r' b b' c.0 ∙ bytes_back s' h',
      verdicts-differ (place r) (place r') a a' (place-below r) (place-below r') l l' v,
    )
