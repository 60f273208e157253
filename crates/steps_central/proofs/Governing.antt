-- The steps that change the registry and the controller at most: from what such a step makes of them to what it makes
-- of the row. Assumes nothing.
use mathlib.Core.Bool.{Bool, true, false, cond}
use mathlib.Core.List.{List}
use mathlib.Core.Logic.{◌≢◌}
use mathlib.Core.Path.{◌≡◌, refl, sym, ap, ◌∙◌}
use Prim.Native.Nat.{ℕ}
use lib.ListN.{length, get_or}
use Rattle.std.proofs.Common.{Result, Err}
use Rattle.refusal.specs.declared.Refusal.{Refusal}
use Rattle.refusal.specs.Refusal.{number, answer, handed}
use Rattle.model.specs.Members.{none}
use Rattle.model.specs.State.{RowState, Outline, outline, entries}
use Rattle.model.specs.Steps.{Step, nothing, writes, accepted, answer_of, qualified, behind, next, step, with_registry, with_controller}
use Rattle.model.proofs.Tests.{same-choice}
use Rattle.members.specs.Mask.{bits}
use Rattle.members.proofs.Laws.{bits_none}
use Rattle.cluster.specs.declared.Registry.{Registry}
use Rattle.cluster.specs.declared.Controller.{Controller}
use Rattle.cluster.specs.declared.Cluster.{Cluster}
use Rattle.cluster.specs.declared.View.{View}
use Rattle.cluster.specs.Ended.{Settled, ruled, told, settled}
use Rattle.cluster.specs.Layout.{at, no_view, outline_of}
use Rattle.cluster.specs.Parts.{Rules, Tells, Settles}
use Rattle.cluster.proofs.Steps.{number-positive}
use Rattle.refinement.specs.Refinement.{Places, logged, Full, abs, row_of, Short, written, Governs}
use Rattle.refinement.proofs.Turning.{logged-full, log-len, outline-abs, turns-refused}

-- A step that writes no lent place, and changes at most what put takes over from its second state.
pub record Only (put : RowState → RowState → RowState) (st : Step) : Type 0 where
  pub state : (s : RowState) → next entries s st ≡ put s (next entries s st)
  pub places : writes st ≡ nothing

abbrev pub take_registry : RowState → RowState → RowState
take_registry s x = with_registry s x.registry

abbrev pub take_controller : RowState → RowState → RowState
take_controller s x = with_controller s x.controller

abbrev pub take_both : RowState → RowState → RowState
take_both s x = with_controller (with_registry s x.registry) x.controller

-- So it is for the step as a whole, which may be refused.
whole : (put : RowState → RowState → RowState) (st : Step) → Only put st → ((s : RowState) → put s s ≡ s)
    → (s : RowState) → put s (step entries s st) ≡ step entries s st
whole put st o idle s = go (accepted (outline s) st)
  where
    go : (t : Bool) → put s (cond t (next entries s st) s) ≡ cond t (next entries s st) s
    go true = sym (o.state s)
    go false = idle s

module _ (st : Step) (g : Registry) (c : Controller) (views : List View) (joined len : List ℕ) (s : Short len) where
  abbrev row : List ℕ → ℕ → Cluster
  row acked issued = row_of g c views joined acked len issued

  -- One that asks no majority has no one behind it.
  nobody : ((m : Outline) → qualified m st ≡ none) → (m : Outline) → bits 0 ≡ behind m st
  nobody quiet m = bits_none ∙ same-choice (accepted m st) (quiet m)

  -- It answers and leaves what the model's does.
  governs : (put : RowState → RowState → RowState) → ((s : RowState) → put s s ≡ s) → Only put st → (x : Settled)
      → ((acked : List ℕ) (issued : ℕ) (p : Places) → Full p
      → (x.answer ≡ answer_of (outline (abs (row acked issued) p)) st)
      × (bits x.behind ≡ behind (outline (abs (row acked issued) p)) st)
      × (abs (row_of x.registry x.controller views joined acked len issued) p
      ≡ put (abs (row acked issued) p) (step entries (abs (row acked issued) p) st)))
      → (x.answer ≢ 0 → (x.registry ≡ g) × (x.controller ≡ c))
      → Governs st g c views joined len x
  governs put idle o x f r acked issued p few full =
      let m = outline-abs (row acked issued) s few p full in
      let h = f acked issued p full in
      record {
        answer = h.0 ∙ ap (λ m. answer_of m st) m;
        behind = h.1 ∙ ap (λ m. behind m st) m;
        state = h.2 ∙ whole put st o idle (abs (row acked issued) p);
        short = s;
        issued = few;
        places = same-choice (accepted (outline_of (row acked issued)) st)
            (ap (λ w. written w (row acked issued) p) o.places);
        refused = λ z. let q = r z in λ i. row_of (q.0 i) (q.1 i) views joined acked len issued;
      }

  -- A step of the registry alone.
  pub rules_govern : Only take_registry st → ((m : Outline) → qualified m st ≡ none)
      → (x : Result Unit Refusal) (y : Result ℕ Refusal) → answer y ≡ answer x → handed 0 y ≡ 0
      → (r : Registry) → Rules st g (ruled x r) → Governs st g c views joined len (settled y r c)
  rules_govern o quiet x y same zero r h =
      governs take_registry (λ s. refl) o (settled y r c)
      (λ acked issued p _. let s = abs (row acked issued) p in
      (same ∙ h.answer s, ap bits zero ∙ nobody quiet (outline s), ap (with_registry s) (h.after s)))
      (λ z. (h.refused (λ e. z (same ∙ e)), refl))

  -- A step of the controller alone, which is told what is so of the row. Refused it leaves the controller.
  pub tells_govern : {Known : RowState → Type 0} → Only take_controller st → ((m : Outline) → qualified m st ≡ none)
      → (x : Result Controller Refusal) (y : Result ℕ Refusal) → answer y ≡ answer x → handed 0 y ≡ 0
      → Tells Known st c (told c x)
      → ((acked : List ℕ) (issued : ℕ) (p : Places) → Full p → Known (abs (row acked issued) p))
      → Governs st g c views joined len (settled y g (handed c x))
  tells_govern o quiet x y same zero h k =
      governs take_controller (λ s. refl) o (settled y g (handed c x))
      (λ acked issued p full. let s = abs (row acked issued) p in let e = k acked issued p full in
      (same ∙ h.answer s e, ap bits zero ∙ nobody quiet (outline s), ap (with_controller s) (h.after s e)))
      (λ z. (refl, h.refused (λ e. z (same ∙ e))))

  -- A step of both.
  pub settles_govern : Only take_both st → (y : Result ℕ Refusal) (r : Registry) (k : Controller)
      → Settles st g c (settled y r k) → Governs st g c views joined len (settled y r k)
  settles_govern o y r k h = governs take_both (λ s. refl) o (settled y r k)
      (λ acked issued p _. let s = abs (row acked issued) p in
      (h.answer s, h.behind s, λ i. with_controller (with_registry s (h.registry s i)) (h.controller s i)))
      h.refused

  -- One that is refused.
  pub refused_governs : (e : Refusal)
      → ((acked : List ℕ) (issued : ℕ) → number e ≡ answer_of (outline_of (row acked issued)) st)
      → Governs st g c views joined len (settled (Err e) g c)
  refused_governs e same acked issued p few full =
      turns-refused (row acked issued) s few p full st (number e) (same acked issued) (number-positive e)

-- What a row has of a replica, so has its state.
pub found : (row : Cluster) (b : ℕ) (p : Places) → Short row.len → Full p
    → (((abs row p).view b).epoch ≡ (at no_view row.views b).epoch)
    × ((abs row p).joined b ≡ at 0 row.joined b)
    × (length ((abs row p).log b) ≡ at 0 row.len b)
found row b p short full = (refl, refl, log-len (logged p) (logged-full p full) row.len short b)
