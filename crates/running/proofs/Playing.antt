-- One record more of a sheet that is run: the call's promise is the model's step. The answers of a whole run. Assumes
-- nothing.
use mathlib.Core.Bool.{true, cond, ◌&&◌}
use mathlib.Core.List.{List, [], ◌∷◌, ◌++◌, map, map-append}
use mathlib.Core.Path.{◌≡◌, refl, sym, subst, ap, ap₂, ◌∙◌}
use Prim.Native.Nat.{ℕ, zero, suc, ◌+◌, ◌-◌, ◌*◌, ◌/◌, ◌%◌, ◌≤◌, ◌<◌}
use native.Mathlib.Numerals.{add-one}
use native.Mathlib.Omega.{arith}
use lib.Dec.{T, eqb, leb, leb→le, eqb→eq}
use lib.ListN.{length, take, drop, get_or, set, length-set}
use lib.Seq.{take-suc-set, drop-drop, get_or-take}
use Rattle.std.specs.Prelude.{Result, Ok, Err}
use Rattle.std.specs.Result.{result_unwrap_or}
use Rattle.refusal.specs.declared.Refusal.{Refusal}
use Rattle.refusal.specs.Refusal.{handed}
use Rattle.model.specs.Members.{is_replica, none}
use Rattle.model.specs.State.{RowState, entries, outline, Opening, opening_with, can_open, opened}
use Rattle.model.specs.Steps.{Step, answer_of, behind, step}
use Rattle.model.specs.Records.{opening_of, Record, step_of}
use Rattle.model.specs.Runs.{steps_of, run, answers, sets_behind}
use Rattle.model.specs.Ranges.{every, eight, in_range, terms_in_range, kept_in_range}
use Rattle.model.specs.Claim.{after}
use Rattle.model.proofs.Tests.{split-and, is_true, of-true}
use Rattle.model.proofs.Answer.{answer-most}
use Rattle.model.proofs.Range.{to-ranges}
use Rattle.model.proofs.Entries.{same-entry}
use Rattle.model.proofs.Bounds.{in-range}
use Rattle.model.proofs.Made.{kept_in, terms-run}
use Rattle.model.proofs.Theorem.{run-append}
use Rattle.cluster.specs.declared.Cluster.{Cluster}
use Rattle.cluster.specs.Ended.{Outcome}
use Rattle.cluster.specs.Layout.{bits, outline_of}
use Rattle.refinement.specs.Refinement.{Places, Full, abs, Shape, Ready, Turns}
use Rattle.refinement.proofs.Turning.{bits_none}
use Rattle.steps_central.specs.Opening.{Opens, OpenedWith}
use Rattle.steps.specs.Call.{valid, Did}
use Rattle.shown.proofs.Valid.{ready, all-tests}
use Rattle.steps.proofs.Calling.{did-step, did-full}
use Rattle.text.specs.Text.{Text}
use Rattle.records.specs.Bytes.{record_at, records, whole_records, is_opening, is_sheet}
use Rattle.records.proofs.Decoding.{room, records-suc}
use Rattle.running.specs.Running.{following, state_at, answers_of, Ran}

-- What refusal 2 has seen.
module _ (s : Text) (e : is_sheet s ≡ true) where
  parts : T (whole_records (length s)) × T (is_opening (record_at s))
  parts = split-and (whole_records (length s)) (is_opening (record_at s)) (of-true e)

  pub sheet-whole : whole_records (length s) ≡ true
  sheet-whole = is_true (whole_records (length s)) parts.0

  pub sheet-some : suc (length s / 8 - 1) ≡ length s / 8
  sheet-some = omega (arith, room (length s) sheet-whole)

  pub sheet-most : length s / 8 ≤ 4095
  sheet-most =
      leb→le (length s / 8) 4095
      (split-and (eqb (length s % 8) 0 && leb 1 (length s / 8)) (leb (length s / 8) 4095) parts.0).1

  first : T (eqb (record_at s).step 0) × T (is_replica (record_at s).board)
  first =
      let r = record_at s in
      split-and (eqb r.step 0) (is_replica r.board)
      (split-and (eqb r.step 0 && is_replica r.board) (eqb r.other 0)
      (split-and (eqb r.step 0 && is_replica r.board && eqb r.other 0) (eqb r.spare 0)
      (split-and (eqb r.step 0 && is_replica r.board && eqb r.other 0 && eqb r.spare 0) (eqb r.value 0)
      parts.1).0).0).0

  pub sheet-step : (record_at s).step ≡ 0
  sheet-step = eqb→eq (record_at s).step 0 first.0

  pub sheet-real : T (is_replica (record_at s).board)
  sheet-real = first.1

-- The opening call on its board.
pub begun : (s : Text) → is_sheet s ≡ true → (b : ℕ) → b ≡ (record_at s).board → (x : Outcome) → Opens (opening_with b) x
    → OpenedWith (opening_of (record_at s)) x.row
begun s e b h x o =
    let first = opening_of (record_at s) in
    subst (λ p. OpenedWith p x.row)
    (ap (λ n. cond (is_replica n) (opening_with n) (opening_with 1)) h
    ∙ ap (λ t. cond t first (opening_with 1)) (is_true (can_open first) (sheet-real s e)))
    o.row

-- One record more.
pub following-suc : (s : Text) (k : ℕ) → following s (suc k) ≡ following s k ++ (record_at (drop (8 * k + 8) s) ∷ [])
following-suc s k =
    let n : 8 + 8 * k ≡ 8 * k + 8 = omega arith in
    let d : drop (8 * k) (drop 8 s) ≡ drop (8 * k + 8) s = drop-drop (8 * k) 8 s ∙ ap (λ m. drop m s) n in
    records-suc k (drop 8 s) ∙ ap (λ t. records k (drop 8 s) ++ (record_at t ∷ [])) d

steps-suc : (rs : List Record) (r : Record) → steps_of (rs ++ (r ∷ [])) ≡ steps_of rs ++ (step_of r ∷ [])
steps-suc [] r = refl
steps-suc (q ∷ rs) r = ap (λ sts. step_of q ∷ sts) (steps-suc rs r)

answers-suc : (s : RowState) (sts : List Step) (st : Step)
    → answers entries s (sts ++ (st ∷ [])) ≡ answers entries s sts ++ (answer_of (outline (run entries s sts)) st ∷ [])
unfolding answers run
answers-suc s [] st = refl
answers-suc s (q ∷ sts) st = ap (λ ns. answer_of (outline s) q ∷ ns) (answers-suc (step entries s q) sts st)

sets-suc : (s : RowState) (sts : List Step) (st : Step)
    → sets_behind entries s (sts ++ (st ∷ [])) ≡ sets_behind entries s sts
    ++ (behind (outline (run entries s sts)) st ∷ [])
unfolding sets_behind run
sets-suc s [] st = refl
sets-suc s (q ∷ sts) st = ap (λ qs. behind (outline s) q ∷ qs) (sets-suc (step entries s q) sts st)

-- No answer is above 16.
later-most : (t : RowState) (sts : List Step) (i : ℕ) → get_or (answers entries t sts) i 0 ≤ 16
unfolding answers
later-most t [] i = omega arith
later-most t (st ∷ sts) zero = omega (arith, answer-most (outline t) st)
later-most t (st ∷ sts) (suc i) = later-most (step entries t st) sts i

pub all_most : (t : RowState) (sts : List Step) (i : ℕ) → get_or (0 ∷ answers entries t sts) i 0 ≤ 16
all_most t sts zero = omega arith
all_most t sts (suc i) = later-most t sts i

pub answers-most : (s : Text) (i : ℕ) → get_or (answers_of s) i 0 ≤ 16
unfolding answers_of
answers-most s i =
    all_most (opened (opening_of (record_at s))) (steps_of (records (length s / 8 - 1) (drop 8 s))) i

module _ (s : Text) (sheet : is_sheet s ≡ true) (k : ℕ) (row : Cluster) (p : Places) (ns ms : List ℕ)
    (h : Ran s k row p ns ms) where
  abbrev opening : Opening
  opening = opening_of (record_at s)

  abbrev past : List Step
  past = steps_of (following s k)

  pub ran-fits : in_range (outline_of row) ≡ true
  ran-fits =
      ap in_range h.outlined
      ∙ is_true (in_range (outline (state_at s k))) (in-range entries same-entry opening (sheet-real s sheet) past)

  -- The kept epochs are in range too.
  pub kept-fits : T (kept_in_range (state_at s k))
  kept-fits = kept_in (terms-run opening (sheet-real s sheet) past)

  pub ran-terms : terms_in_range (abs row p).committed ≡ true
  ran-terms =
      ap (λ (x : RowState). terms_in_range x.committed) h.state
      ∙ is_true (terms_in_range (state_at s k).committed)
      (split-and (terms_in_range (state_at s k).committed)
      (every (eight (λ b. terms_in_range ((state_at s k).log b)))) kept-fits).0

  pub ran-issued : row.issued ≤ length p.list
  ran-issued = omega (arith, h.full.list, (to-ranges (outline_of row) (of-true ran-fits)).committed)

  -- No answer is above 16.
  pub ran-most : (i : ℕ) → i ≤ k → get_or ns i 0 ≤ 16
  ran-most i q =
      let n : get_or ns i 0 ≡ get_or (0 ∷ answers entries (opened opening) past) i 0 =
      sym (get_or-take (suc k) ns i 0 (omega (arith, q))) ∙ ap (λ xs. get_or xs i 0) h.answered in
      subst (λ m. m ≤ 16) (sym n) (all_most (opened opening) past i)

  pub ran-ready : Shape row → Ready row
  ran-ready shape = ready row shape ran-fits

  -- The record r that stands next, and the call of it.
  module _ (r : Record) (place : r ≡ record_at (drop (8 * k + 8) s)) {x : Outcome} {p' : Places}
      (t : Turns (step_of r) row p x p') (small : k + 1 < length ns) (few : k + 1 < length ms) where
    valid-here : valid row p ≡ true
    valid-here =
        all-tests row p h.full ran-fits ∙ ap kept_in_range h.state ∙ is_true (kept_in_range (state_at s k)) kept-fits

    did : Did (step_of r) row p x p'
    did = did-step (step_of r) row p valid-here h.full t

    more : steps_of (following s (suc k)) ≡ past ++ (step_of r ∷ [])
    more =
        ap steps_of (following-suc s k ∙ ap (λ q. following s k ++ (q ∷ [])) (sym place)) ∙ steps-suc (following s k) r

    reached : step entries (state_at s k) (step_of r) ≡ state_at s (suc k)
    unfolding run
    reached = sym (run-append entries same-entry (opened opening) past (step_of r ∷ [])) ∙ ap (after entries opening) (sym more)

    pub ran-more : Ran s (k + 1) x.row p' (set ns (k + 1) x.answer) (set ms (k + 1) x.behind)
    ran-more = rw (add-one k) record {
      state = t.state ∙ ap (λ y. step entries y (step_of r)) h.state ∙ reached;
      outlined =
          did.outlined ∙ ap (λ u. cond u (outline (step entries (abs row p) (step_of r))) (outline_of row)) valid-here
          ∙ ap (λ y. outline (step entries y (step_of r))) h.state ∙ ap outline reached;
      answered = take-suc-set ns (suc k) x.answer (omega arith)
          ∙ ap₂ (λ xs n. xs ++ (n ∷ [])) h.answered (t.answer ∙ ap (λ o. answer_of o (step_of r)) h.outlined)
          ∙ ap (λ xs. 0 ∷ xs) (sym (answers-suc (opened opening) past (step_of r))
          ∙ ap (answers entries (opened opening)) (sym more));
      behind = ap (map bits) (take-suc-set ms (suc k) x.behind (omega arith))
          ∙ map-append bits (take (suc k) ms) (x.behind ∷ [])
          ∙ ap₂ (λ xs q. xs ++ (q ∷ [])) h.behind (t.behind ∙ ap (λ o. behind o (step_of r)) h.outlined)
          ∙ ap (λ xs. none ∷ xs) (sym (sets-suc (opened opening) past (step_of r))
          ∙ ap (sets_behind entries (opened opening)) (sym more));
      full = did-full (step_of r) row p did h.full;
      room = length-set ns (suc k) x.answer ∙ h.room;
      set_room = length-set ms (suc k) x.behind ∙ h.set_room;
    }

-- The same by the record's place among all.
pub ran-next : (s : Text) → is_sheet s ≡ true → (k : ℕ) (row : Cluster) (p : Places) (ns ms : List ℕ) → 1 ≤ k
    → Ran s (k - 1) row p ns ms → (r : Record) → r ≡ record_at (drop (8 * k) s) → (x : Outcome) (p' : Places)
    → Turns (step_of r) row p x p' → k < length s / 8
    → Ran s (k + 1 - 1) x.row p' (set ns k x.answer) (set ms k x.behind)
ran-next s sheet k row p ns ms some h r place x p' t last =
    let e : k - 1 + 1 ≡ k = omega arith in
    let e' : k + 1 - 1 ≡ k = omega arith in
    let n : 8 * (k - 1) + 8 ≡ 8 * k = omega arith in
    let most = sheet-most s sheet in
    rw e' (subst (λ m. Ran s m x.row p' (set ns m x.answer) (set ms m x.behind)) e
    (ran-more s sheet (k - 1) row p ns ms h r (place ∙ ap (λ m. record_at (drop m s)) (sym n)) t
    (omega (arith, h.room)) (omega (arith, h.set_room))))

-- Nothing but the opening.
pub ran-none : (s : Text) (row : Cluster) → OpenedWith (opening_of (record_at s)) row → (p : Places) → Full p
    → (ns ms : List ℕ) → length ns ≡ 4096 → length ms ≡ 4096 → Ran s 0 row p (set ns 0 0) (set ms 0 0)
unfolding records run answers sets_behind
ran-none s row o p full ns ms room sets = record {
  state = o.state p;
  outlined = o.outline;
  answered = take-suc-set ns 0 0 (omega arith);
  behind = ap (map bits) (take-suc-set ms 0 0 (omega arith)) ∙ ap (λ q. q ∷ []) bits_none;
  full = full;
  room = length-set ns 0 0 ∙ room;
  set_room = length-set ms 0 0 ∙ sets;
}

-- The answers that were kept are those of the run.
pub answers-are : (s : Text) → is_sheet s ≡ true → (row : Cluster) (p : Places) (ns ms : List ℕ)
    → Ran s (length s / 8 - 1) row p ns ms → take (length s / 8) ns ≡ answers_of s
unfolding answers_of
answers-are s e row p ns ms h = ap (λ n. take n ns) (sym (sheet-some s e)) ∙ h.answered

-- The set behind a step, none behind one that was refused.
pub unwrapped : (x : Result ℕ Refusal) → result_unwrap_or x 0 ≡ handed 0 x
unwrapped (Ok q) = refl
unwrapped (Err e) = refl
