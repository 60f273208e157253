-- What the tables tell is what the phrase list tells. Assumes nothing.
use Rattle.std.proofs.Common.{◌≡◌, ℕ, ◌<◌, ◌≤◌, Bool, true, false, ◌&&◌, ◌||◌, cond, T, eqb, List, [], ◌∷◌, map, length, get_or, refl, sym, ap, ap₂, ◌∙◌, Option, Some, None, IsSome, Bor, arith}
use Rattle.std.proofs.lemmas.Bool.Decides.{nat_tests}
use Rattle.std.proofs.lemmas.List.{get_or_default}
use Rattle.std.specs.Option.{option_map}
use Rattle.std.specs.List.{list_any, find}
use lib.Dec.{leb, leb→le}
use lib.ListN.{get_or-map, length-map}
use Rattle.text.specs.Text.{Text}
use Rattle.lines.specs.Lines.{word}
use Rattle.phrases.specs.Phrases as P
use Rattle.phrases.specs.Phrases.{forms, malformed, of, reasons, has, is_for, phrase_in, is_listed_in, is_listed}
use Rattle.phrases.specs.Layout.{reason_at}
use Rattle.phrases.specs.Line.{lead_text, trail_text, reason_text}
use Rattle.phrases.proofs.Testing.{passes}
use Rattle.phrases.proofs.Listed.{is_there, there}
use Rattle.wording.specs.declared.Form.{Form}
use Rattle.wording.specs.declared.Reason.{Reason}
use Rattle.wording.specs.Tables.{words_in, steps_in, form_row, form_line, reason_row, reason_line, HoldsForms, HoldsReasons}

-- The forms

form_at : (fs : List Form) (k : ℕ) (d : Form) → HoldsForms fs → k < 17
    → (words_in (get_or fs k d).lead ≡ lead_text k) × (words_in (get_or fs k d).trail ≡ trail_text k)
unfolding HoldsForms
form_at fs k d h l = (ap (λ p. p.0) e, ap (λ p. p.1) e)
  where
    e : form_row (get_or fs k d) ≡ form_line (get_or forms k malformed)
    e =
        sym (get_or-map form_row fs k d) ∙ ap (λ xs. get_or xs k (form_row d)) h
        ∙ get_or_default (map form_line forms) k (form_row d) (form_line malformed) l
        ∙ get_or-map form_line forms k malformed

pub forms-length : (fs : List Form) → HoldsForms fs → length fs ≡ 17
unfolding HoldsForms
forms-length fs h = sym (length-map fs form_row) ∙ ap length h

pub lead-at : (fs : List Form) (k : ℕ) (d : Form) → HoldsForms fs → k < 17 → words_in (get_or fs k d).lead ≡ lead_text k
lead-at fs k d h l = (form_at fs k d h l).0

pub trail-at : (fs : List Form) (k : ℕ) (d : Form) → HoldsForms fs → k < 17 → words_in (get_or fs k d).trail ≡ trail_text k
trail-at fs k d h l = (form_at fs k d h l).1

pub ruleset form_words = (forms-length, lead-at, trail-at)

-- Whether a phrase is for a step

eqb_comm : (m n : ℕ) → eqb m n ≡ eqb n m
eqb_comm m n = grind (arith, nat_tests)

pub has_any : (k : ℕ) (ks : List ℕ) → list_any (λ y. eqb y k) ks ≡ has k ks
has_any k [] = refl
has_any k (n ∷ ns) = ap₂ (λ (x y : Bool). x || y) (eqb_comm n k) (has_any k ns)

-- The first phrase that is

abbrev pub test : ℕ → ℕ → Reason → Bool
test k a r = eqb a r.answer && has k (steps_in r.steps)

-- The words that a list of rows tells.
tell : List (ℕ × List ℕ × Text) → ℕ → ℕ → Option Text
tell [] k a = None
tell (x ∷ xs) k a = cond (eqb a x.0 && has k x.1) (Some x.2) (tell xs k a)

words_of : Option Reason → Option Text
words_of o = option_map (λ r. words_in r.words) o

pick : (b : Bool) (r : Reason) (o : Option Reason) → words_of (cond b (Some r) o) ≡ cond b (Some (words_in r.words)) (words_of o)
unfolding words_of
pick true r o = refl
pick false r o = refl

found : (rs : List Reason) (k a : ℕ) → words_of (find (test k a) rs) ≡ tell (map reason_row rs) k a
unfolding tell words_of
found [] k a = refl
found (r ∷ rs) k a =
    pick (test k a r) r (find (test k a) rs) ∙ ap (λ o. cond (test k a r) (Some (words_in r.words)) o) (found rs k a)

told : (qs : List P.Reason) (k a : ℕ) → T (is_there qs k a)
    → tell (map reason_line qs) k a ≡ Some (word (phrase_in qs k a))
unfolding tell phrase_in
told [] k a t = absurd t
told (q ∷ qs) k a t = go (is_for k a q) t (told qs k a)
  where
    go : (b : Bool) → T (b || is_there qs k a)
        → (T (is_there qs k a) → tell (map reason_line qs) k a ≡ Some (word (phrase_in qs k a)))
        → cond b (Some (word q.phrase)) (tell (map reason_line qs) k a) ≡ Some (word (cond b q.phrase (phrase_in qs k a)))
    go true u f = refl
    go false u f = f u

-- What a search of the table comes to.
pub record Found (o : Option (Bor Reason)) (t : Text) : Type 0 where
  pub some : IsSome o
  pub words : (x : Bor Reason) → o ≡ Some x → words_in x.now.words ≡ t

pub finds : (rs : List Reason) (o : Option (Bor Reason)) (k a : ℕ) → HoldsReasons rs
    → option_map (λ x. x.now) o ≡ find (test k a) rs → k < 17 → is_listed a ≡ true → Found o (reason_text k a)
unfolding HoldsReasons words_of
finds rs o k a h f l e = go o (ap words_of f ∙ found rs k a ∙ ap (λ xs. tell xs k a) h ∙ told reasons k a (there k a l e))
  where
    go : (o : Option (Bor Reason)) → words_of (option_map (λ x. x.now) o) ≡ Some (reason_text k a)
        → Found o (reason_text k a)
    go None z = absurd (cc)
    go (Some r) z = record { some = refl; words = λ x q. cc }

-- The answers

answers : List (ℕ × List ℕ × Text) → ℕ → Bool
answers [] a = false
answers (x ∷ xs) a = eqb a x.0 || answers xs a

any_answers : (rs : List Reason) (a : ℕ) → list_any (λ r. eqb r.answer a) rs ≡ answers (map reason_row rs) a
unfolding answers
any_answers [] a = refl
any_answers (r ∷ rs) a = ap₂ (λ (x y : Bool). x || y) (eqb_comm r.answer a) (any_answers rs a)

listed_answers : (qs : List P.Reason) (a : ℕ) → answers (map reason_line qs) a ≡ is_listed_in qs a
unfolding answers is_listed_in
listed_answers [] a = refl
listed_answers (q ∷ qs) a = ap (λ y. eqb a q.answer || y) (listed_answers qs a)

pub lists : (rs : List Reason) (a : ℕ) → HoldsReasons rs → list_any (λ r. eqb r.answer a) rs ≡ is_listed a
unfolding HoldsReasons
lists rs a h = any_answers rs a ∙ ap (λ xs. answers xs a) h ∙ listed_answers reasons a

-- The answers and the steps of the table, place by place

answers_of : (rs : List Reason) → map (λ r. r.answer) rs ≡ map (λ (x : ℕ × List ℕ × Text). x.0) (map reason_row rs)
answers_of [] = refl
answers_of (r ∷ rs) = ap (λ xs. r.answer ∷ xs) (answers_of rs)

steps_of : (rs : List Reason) → map (λ r. steps_in r.steps) rs ≡ map (λ (x : ℕ × List ℕ × Text). x.1) (map reason_row rs)
steps_of [] = refl
steps_of (r ∷ rs) = ap (λ xs. (steps_in r.steps) ∷ xs) (steps_of rs)

-- They are those of the list.
pub answer_at : (rs : List Reason) (i : ℕ) → HoldsReasons rs → get_or (map (λ r. r.answer) rs) i 0 ≡ (reason_at i).answer
unfolding HoldsReasons
answer_at rs i h =
    ap (λ ns. get_or ns i 0) (answers_of rs ∙ ap (map (λ (x : ℕ × List ℕ × Text). x.0)) h)
    ∙ get_or-map (λ (q : P.Reason). q.answer) reasons i (of 0 [] "")

pub answer-small : (rs : List Reason) (i : ℕ) → HoldsReasons rs → i < length reasons
    → get_or (map (λ r. r.answer) rs) i 0 ≤ 19
answer-small rs i h l =
    let t = passes (length reasons) (λ i. leb (reason_at i).answer 19) refl i l in
    omega (arith, answer_at rs i h, leb→le (reason_at i).answer 19 t)

pub step-at : (rs : List Reason) (i k : ℕ) → HoldsReasons rs
    → has k (get_or (map (λ r. steps_in r.steps) rs) i []) ≡ has k (reason_at i).steps
unfolding HoldsReasons
step-at rs i k h =
    ap (has k) (ap (λ ks. get_or ks i []) (steps_of rs ∙ ap (map (λ (x : ℕ × List ℕ × Text). x.1)) h)
    ∙ get_or-map (λ (q : P.Reason). q.steps) reasons i (of 0 [] ""))
