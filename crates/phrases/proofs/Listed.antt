-- The answers on the phrase list, and that each has a phrase for every step. Assumes nothing.
use mathlib.Core.Bool.{Bool, true, false, ◌&&◌, ◌||◌}
use mathlib.Core.List.{List, [], ◌∷◌}
use mathlib.Core.Logic.{◌⊎◌, inl, inr}
use mathlib.Core.Path.{◌≡◌, refl, sym, ◌∙◌}
use Prim.Native.Nat.{ℕ, suc, ◌<◌, ◌≤◌}
use native.Mathlib.Omega.{arith}
use lib.Dec.{T, leb, eqb, leb→le, eqb→eq}
use lib.ListN.{length, get_or}
use borrow.Author.Tests.{ne_eqb, le-leb, lt-leb, leb-true}
use Rattle.model.proofs.Tests.{is_true, of-true, split-and, le-or-lt}
use Rattle.phrases.specs.Phrases.{Reason, of, reasons, has, is_for, phrase_in, is_listed_in, is_listed}
use Rattle.phrases.specs.Line.{reason_text}
use Rattle.phrases.specs.Describe.{Covers}
use Rattle.phrases.proofs.Testing.{passes, passes-both}

-- The first phrase that is for an answer to a step

abbrev pub is_there : List Reason → ℕ → ℕ → Bool
is_there [] k a = false
is_there (r ∷ rs) k a = is_for k a r || is_there rs k a

-- The place of a phrase for the answer a to the step k, which has its words, and that answer.
abbrev pub Placed : ℕ → ℕ → List Reason → Type 0
Placed k a rs =
    (i : ℕ) × (i < length rs) × (phrase_in rs k a ≡ (get_or rs i (of 0 [] "")).phrase)
    × (a ≡ (get_or rs i (of 0 [] "")).answer)

module _ (k a : ℕ) where
  -- It has its place.
  pub place_of : (rs : List Reason) → T (is_there rs k a) → Placed k a rs
  unfolding phrase_in
  place_of [] t = absurd t
  place_of (r ∷ rs) t = go (is_for k a r) refl t (λ u. place_of rs u)
    where
      go : (b : Bool) → is_for k a r ≡ b → T (b || is_there rs k a) → (T (is_there rs k a) → Placed k a rs)
          → Placed k a (r ∷ rs)
      go true e t f =
          let same = (split-and (eqb a r.answer) (has k r.steps) (of-true e)).0 in
          (0, omega arith, rw e, eqb→eq a r.answer same)
      go false e t f = let x = f t in (suc x.0, omega (arith, x.1), rw e x.2, x.3)

-- The answers on the list are 0 to 19.
abbrev all_pass : List Reason → Bool
all_pass [] = true
all_pass (r ∷ rs) = leb r.answer 19 && all_pass rs

unlisted : (rs : List Reason) (a : ℕ) → T (all_pass rs) → 19 < a → is_listed_in rs a ≡ false
unfolding is_listed_in
unlisted [] a t h = refl
unlisted (r ∷ rs) a t h =
    let x = split-and (leb r.answer 19) (all_pass rs) t in
    rw (ne_eqb a r.answer (λ (e : a ≡ r.answer). omega (arith, leb→le r.answer 19 x.0, h)))
    (unlisted rs a x.1 h)

listed-tells : (a : ℕ) → is_listed a ≡ leb a 19
unfolding is_listed_in
listed-tells a = go (le-or-lt a 19)
  where
    go : (a ≤ 19) ⊎ (19 < a) → is_listed a ≡ leb a 19
    go (inl h) = is_true (is_listed a) (passes 20 is_listed refl a (omega arith)) ∙ sym (le-leb a 19 h)
    go (inr h) = unlisted reasons a tt h ∙ sym (lt-leb a 19 h)

worded : (k a : ℕ) → k < 17 → a < 20 → 1 ≤ length (reason_text k a)
unfolding phrase_in
worded k a h l = leb→le 1 _ (passes-both 17 20 (λ k a. leb 1 (length (reason_text k a))) refl k a h l)

pub covers : Covers
covers = record { listed = listed-tells; worded = λ k a h l. worded k a (omega (arith, h)) (omega (arith, l)) }

pub listed_below : (a : ℕ) → is_listed a ≡ true → a < 20
listed_below a e = let h = leb-true a 19 (sym (listed-tells a) ∙ e) in omega arith

-- Each of them has a phrase for every step.
pub there : (k a : ℕ) → k < 17 → is_listed a ≡ true → T (is_there reasons k a)
there k a h e = passes-both 17 20 (λ k a. is_there reasons k a) refl k a h (listed_below a e)
