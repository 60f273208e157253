-- Calls follow the model's run: by induction over the list, each call's promise is the model's step. Assumes nothing.
use mathlib.Core.Bool.{true, cond}
use mathlib.Core.List.{List, ◌∷◌, ◌++◌, map}
use mathlib.Core.Path.{◌≡◌, refl, sym, subst, ap, ◌∙◌}
use Prim.Native.Nat.{ℕ}
use native.Mathlib.Omega.{arith}
use Rattle.model.specs.Prelude.{◌⊑◌}
use Rattle.model.specs.Members.{none}
use Rattle.model.specs.State.{RowState, entries, Entry, outline, Opening, opening_with, can_open, opened}
use Rattle.model.specs.Steps.{Step, answer_of, behind, step}
use Rattle.model.specs.Runs.{run, answers, sets_behind}
use Rattle.model.specs.Ranges.{in_range, kept_in_range}
use Rattle.model.specs.Claim.{LeadsUnder, after, receipts, Safe}
use Rattle.model.proofs.Tests.{is_true}
use Rattle.model.proofs.Invariant.{Inv}
use Rattle.model.proofs.Range.{from-ranges}
use Rattle.model.proofs.Entries.{same-entry}
use Rattle.model.proofs.Theorem.{opened-inv, step_keeps, run-append, safe}
use Rattle.model.proofs.Bounds.{Bounds, opened-bounds, step-bounds, all_in}
use Rattle.model.proofs.Made.{Kept, TermIn, kept_in, terms-opened, terms-step}
use Rattle.cluster.specs.Layout.{bits, outline_of}
use Rattle.refinement.specs.Refinement.{Full, abs}
use Rattle.image.specs.Keeping.{Resumes}
use Rattle.image.proofs.Resuming.{resumes, read-full}
use Rattle.steps.specs.Call.{valid}
use Rattle.steps.specs.Calls.{Held, state_of, Called, TakenUp, Calls, stop, call, resume, Begins, Follows, CallsSafe}
use Rattle.shown.proofs.Valid.{all-tests}
use Rattle.steps.proofs.Calling.{did-full}

-- A caller holds the state s, which a run reaches.
pub record Holds (s : RowState) (h : Held) : Type 0 where
  pub state : state_of h ≡ s
  pub outlined : outline_of h.row ≡ outline s
  pub full : Full h.places

-- what the run knows of it
pub record Reached (s : RowState) : Type 0 where
  pub history : ℕ → ℕ
  pub inv : Inv history s
  pub bounds : Bounds s
  pub kept : Kept TermIn s

pub fit : {s : RowState} {h : Held} → Reached s → Holds s h → valid h.row h.places ≡ true
fit {s} {h} k m =
    all-tests h.row h.places m.full (ap in_range m.outlined
    ∙ is_true (in_range (outline s)) (from-ranges (outline s) (all_in k.inv k.bounds)))
    ∙ ap kept_in_range m.state ∙ is_true (kept_in_range s) (kept_in k.kept)

-- A call goes on to the model's next state, with the model's answer and set.
pub record Goes (s : RowState) (st : Step) (h : Held) (n q : ℕ) : Type 0 where
  pub answered : n ≡ answer_of (outline s) st
  pub behind : bits q ≡ behind (outline s) st
  pub reached : Reached (step entries s st)
  pub holds : Holds (step entries s st) h

pub goes : {s : RowState} {st : Step} {h h' : Held} {n q : ℕ} → Reached s → Holds s h → Called st h h' n q
    → Goes s st h' n q
goes {s} {st} {h} {h'} k m d =
    let v = fit k m in
    let i = step_keeps entries same-entry k.inv st in
    record {
      answered = d.answer ∙ ap (λ t. cond t (answer_of (outline_of h.row) st) 1) v
          ∙ ap (λ x. answer_of x st) m.outlined;
      behind = d.behind ∙ ap (λ t. cond t (behind (outline_of h.row) st) none) v
          ∙ ap (λ x. behind x st) m.outlined;
      reached = record {
        history = i.history;
        inv = i.inv;
        bounds = step-bounds entries same-entry k.inv k.bounds st;
        kept = terms-step k.inv k.bounds k.kept st;
      };
      holds = record {
        state = d.state ∙ ap (λ t. cond t (step entries (state_of h) st) (state_of h)) v
            ∙ ap (λ x. step entries x st) m.state;
        outlined = d.outlined ∙ ap (λ t. cond t (outline (step entries (state_of h) st)) (outline_of h.row)) v
            ∙ ap (λ x. outline (step entries x st)) m.state;
        full = did-full st h.row h.places d m.full;
      };
    }

-- A row that is taken up from its image is the row that was kept: the caller holds the same state again.
pub takes-up : {s : RowState} {h h' : Held} → Holds s h → TakenUp h h' → Holds s h'
unfolding Resumes
takes-up {s} {h} {h'} m t =
    let r = resumes h.row h.places t.typed t.out t.n t.out' t.saves t.written.0 t.written.1
    t.given.row t.given.places t.scratch _ h'.places t.scratch' t.loads
    (λ e. omega (arith, e)) (λ e. omega (arith, e)) in
    record {
      state = ap (λ row. abs row h'.places) r.1 ∙ r.2 ∙ m.state;
      outlined = ap outline_of r.1 ∙ m.outlined;
      full = read-full t.loads (λ e. omega (arith, e)) (λ e. omega (arith, e));
    }

-- After calls of sts from s: the model's answers and sets, and the model's state.
pub record Ends (s : RowState) (sts : List Step) (h : Held) (ns qs : List ℕ) : Type 0 where
  pub answered : ns ≡ answers entries s sts
  pub behind : map bits qs ≡ sets_behind entries s sts
  pub reached : Reached (run entries s sts)
  pub holds : Holds (run entries s sts) h

pub follow : {h h' : Held} {sts : List Step} {ns qs : List ℕ} → Calls h sts h' ns qs → (s : RowState) → Reached s
    → Holds s h → Ends s sts h' ns qs
unfolding run answers sets_behind
follow stop s k m = record { answered = refl; behind = refl; reached = k; holds = m }
follow (call {st = st} d cs) s k m =
    let g = goes k m d in
    let z = follow cs (step entries s st) g.reached g.holds in
    record {
      answered = λ j. g.answered j ∷ z.answered j;
      behind = λ j. g.behind j ∷ z.behind j;
      reached = z.reached;
      holds = z.holds;
    }
follow (resume t cs) s k m = follow cs s k (takes-up m t)

module _ (o : Opening) (h : Held) (start : Begins o h) where
  pub opening : Holds (opened o) h
  opening = record {
    state = start.opens.row.state h.places
        ∙ ap (λ t. opened (cond t o (opening_with 1))) (is_true (can_open o) start.real);
    outlined = start.opens.row.outline
        ∙ ap (λ t. outline {E = Entry} (opened (cond t o (opening_with 1)))) (is_true (can_open o) start.real);
    full = start.full;
  }

  pub open-reached : Reached (opened o)
  open-reached = record {
    history = λ _. o.board;
    inv = opened-inv o start.real;
    bounds = opened-bounds o start.real;
    kept = terms-opened o;
  }

  module _ (sts : List Step) (h' : Held) (ns qs : List ℕ) (calls : Calls h sts h' ns qs) where
    here : Ends (opened o) sts h' ns qs
    here = follow calls (opened o) open-reached opening

    model : Safe entries o sts
    model = safe entries same-entry o start.real sts

    later : (more : List Step) (h'' : Held) (ms ps : List ℕ) → Calls h' more h'' ms ps → state_of h''
        ≡ after entries o (sts ++ more)
    later more h'' ms ps cs = (follow cs (after entries o sts) here.reached here.holds).holds.state
        ∙ sym (run-append entries same-entry (opened o) sts more)

    leader : h'.row.registry.view.leader ≡ (after entries o sts).registry.view.leader
    leader = ap (λ s. s.registry.view.leader) here.holds.state

    kept : (state_of h').committed ≡ receipts entries o sts
    kept = ap (λ s. s.committed) here.holds.state ∙ model.kept

    pub follows : Follows o sts h' ns qs
    follows = record {
      answered = here.answered;
      behind = here.behind;
      state = here.holds.state;
      outlined = here.holds.outlined;
      fit = fit here.reached here.holds;
      leading = λ n. subst (λ s. receipts entries o sts ⊑ s.log s.registry.view.leader) (sym here.holds.state)
          (model.leading (λ z. n (leader ∙ z)));
      kept = kept;
      lasting = λ more h'' ms ps cs. subst (λ x. x ⊑ (state_of h'').committed) (sym kept)
          (subst (λ x. receipts entries o sts ⊑ x)
          (sym (ap (λ s. s.committed) (later more h'' ms ps cs) ∙ (safe entries same-entry o start.real (sts ++ more)).kept))
          (model.lasting more));
      alone = λ more h'' ms ps cs x y t p q. model.alone_later more x y t
          (subst (λ s. LeadsUnder s x t) here.holds.state p)
          (subst (λ s. LeadsUnder s y t) (later more h'' ms ps cs) q);
    }

pub calls-safe : CallsSafe
unfolding CallsSafe
calls-safe o h start sts h' ns qs calls = follows o h start sts h' ns qs calls
