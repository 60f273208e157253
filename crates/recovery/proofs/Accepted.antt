-- Whatever the state: a list that exists is accepted in turn, ends normal and has 2,064 records at most. Assumes
-- nothing.
use mathlib.Core.Bool.{Bool, true, false, cond, ◌&&◌}
use mathlib.Core.List.{List, [], ◌∷◌, ◌++◌}
use mathlib.Core.Path.{◌≡◌, refl, sym, subst, ap, ◌∙◌}
use Prim.Native.Nat.{ℕ, zero, suc, ◌≤◌}
use native.Mathlib.Omega.{arith}
use lib.Dec.{T, eqb, leb, leb→le}
use lib.ListN.{length}
use Rattle.model.specs.Prelude.{Check, ◌else◌, first_failed, passes}
use Rattle.model.specs.Members.{Members}
use Rattle.model.specs.State.{outline, Entries, IsExact, Status, normal, waiting, State}
use Rattle.model.specs.Steps.{Step, set_normal, accepted, answer_of, checks, next, step}
use Rattle.model.specs.Records.{Record, bare, of, step_of}
use Rattle.model.specs.Runs.{steps_of, run, answers}
use Rattle.model.proofs.Tests.{by_cond, join-and, split-and, is_true, of-true}
use Rattle.model.proofs.Theorem.{run-append}
use Rattle.recovery.specs.Plan.{Draft, start, in_boards, found, error, times, turns, put, put_unless, need, informs_controller, hears, choosing_part, informs, receives, follows, reads_leader, waiting_part, draft, plan}
use Rattle.recovery.specs.Claim.{all_zero, Leads}

passes-zero : (cs : List Check) → T (passes cs) → first_failed cs ≡ 0
passes-zero [] t = refl
passes-zero ((c else n) ∷ cs) t = let h = split-and c (passes cs) t in rw (is_true c h.0) (passes-zero cs h.1)

zero-append : (xs ys : List ℕ) → T (all_zero xs) → T (all_zero ys) → T (all_zero (xs ++ ys))
zero-append [] ys h k = k
zero-append (x ∷ xs) ys h k =
    let z = split-and (eqb x 0) (all_zero xs) h in
    join-and (eqb x 0) (all_zero (xs ++ ys)) z.0 (zero-append xs ys z.1 k)

steps-append : (rs more : List Record) → steps_of (rs ++ more) ≡ steps_of rs ++ steps_of more
steps-append [] more = refl
steps-append (r ∷ rs) more = ap (λ sts. step_of r ∷ sts) (steps-append rs more)

-- A list that is found is sound, has no more records than are let through, and is the draft's.
found-only : (ok : Bool) (xs : List Record) (n : ℕ) {ys : List Record}
    → cond (ok && leb (length xs) n) (found xs) error ≡ found ys → T ok × (length xs ≤ n) × (xs ≡ ys)
found-only ok xs n {ys} e = go (ok && leb (length xs) n) refl e
  where
    go : (t : Bool) → ok && leb (length xs) n ≡ t → cond t (found xs) error ≡ found ys
        → T ok × (length xs ≤ n) × (xs ≡ ys)
    go true q e =
        let h = split-and ok (leb (length xs) n) (of-true q) in (h.0, leb→le (length xs) n h.1, cc)
    go false q e = let z : ◌≡◌ {A = ℕ} 0 1 = cc in absurd (omega arith)

module _ (𝓔 : Entries) (exact : IsExact 𝓔) where
  open 𝓔 use {Entry}

  answers-append : (s : State Entry) (sts more : List Step)
      → answers 𝓔 s (sts ++ more) ≡ answers 𝓔 s sts ++ answers 𝓔 (run 𝓔 s sts) more
  unfolding run answers
  answers-append s [] more = refl
  answers-append s (st ∷ sts) more =
      ap (λ xs. answer_of (outline s) st ∷ xs) (answers-append (step 𝓔 s st) sts more)

  run-one : (s : State Entry) (st : Step) → run 𝓔 s (st ∷ []) ≡ step 𝓔 s st
  unfolding run
  run-one s st = refl

  zero_one : (s : State Entry) (st : Step) → T (accepted (outline s) st) → T (all_zero (answers 𝓔 s (st ∷ [])))
  unfolding answers
  zero_one s st t = rw (passes-zero (checks (outline s) st) t) tt

  module _ (s : State Entry) where
    -- The steps lead from s to t, and are accepted in turn if ok.
    record Leading (ok : Bool) (t : State Entry) (sts : List Step) : Type 0 where
      reaches : run 𝓔 s sts ≡ t
      zeros : T ok → T (all_zero (answers 𝓔 s sts))

    -- The records of a draft lead to its state, and are accepted in turn if no error was met.
    abbrev Fair : Draft Entry → Type 0
    Fair d = Leading d.sound d.state (steps_of d.records)

    -- Every piece keeps it so.
    abbrev Keeps : (Draft Entry → Draft Entry) → Type 0
    Keeps f = (d : Draft Entry) → Fair d → Fair (f d)

    put-fair : (r : Record) → Keeps (put 𝓔 r)
    unfolding put
    put-fair r d k = subst (Leading (d.sound && new) (step 𝓔 t st)) (sym (steps-append d.records (r ∷ []))) record {
      reaches = run-append 𝓔 exact s sts (st ∷ []) ∙ ap (λ x. run 𝓔 x (st ∷ [])) k.reaches ∙ run-one t st;
      zeros = λ h.
          let z = split-and d.sound new h in
          subst (λ xs. T (all_zero xs)) (sym (answers-append s sts (st ∷ [])))
          (zero-append (answers 𝓔 s sts) (answers 𝓔 (run 𝓔 s sts) (st ∷ [])) (k.zeros z.0)
          (subst (λ x. T (all_zero (answers 𝓔 x (st ∷ [])))) (sym k.reaches) (zero_one t st z.1)));
    }
      where
        t : State Entry
        t = d.state

        st : Step
        st = step_of r

        sts : List Step
        sts = steps_of d.records

        new : Bool
        new = accepted (outline t) st

    unless-fair : (n : ℕ) (r : Record) → Keeps (put_unless 𝓔 n r)
    unfolding put_unless
    unless-fair n r d k =
        by_cond Fair (eqb (answer_of (outline d.state) (step_of r)) n) (λ _. k) (λ _. put-fair r d k)

    need-fair : (t : Bool) → Keeps (need 𝓔 t)
    unfolding need
    need-fair t d k = record { reaches = k.reaches; zeros = λ h. k.zeros (split-and d.sound t h).0 }

    times-fair : (n : ℕ) (f : Draft Entry → Draft Entry) → Keeps f → Keeps (times n f)
    unfolding times
    times-fair zero f h d k = k
    times-fair (suc n) f h d k = times-fair n f h (f d) (h d k)

    turns-fair : (n : ℕ) (q : Members) (f : ℕ → Draft Entry → Draft Entry) → ((b : ℕ) → Keeps (f b))
        → Keeps (turns n q f)
    unfolding turns
    turns-fair zero q f h d k = k
    turns-fair (suc n) q f h d k =
        let z = turns-fair n q f h d k in by_cond Fair (q (suc n)) (λ _. h (suc n) _ z) (λ _. z)

    controller-fair : Keeps (informs_controller 𝓔)
    unfolding informs_controller
    controller-fair d k = unless-fair _ _ d k

    hears-fair : (b : ℕ) → Keeps (hears 𝓔 b)
    unfolding hears
    hears-fair b d k = unless-fair _ _ _ (unless-fair _ _ d k)

    choosing-fair : Keeps (choosing_part 𝓔)
    unfolding choosing_part
    choosing-fair d k = put-fair _ _ (turns-fair _ _ (hears 𝓔) hears-fair _ (controller-fair d k))

    informs-fair : (l b : ℕ) → Keeps (informs 𝓔 l b)
    unfolding informs
    informs-fair l b d k = need-fair _ _ (unless-fair _ _ d k)

    receives-fair : (l b : ℕ) → Keeps (receives 𝓔 l b)
    unfolding receives
    receives-fair l b d k = times-fair _ _ (put-fair _) d k

    follows-fair : (l b : ℕ) → Keeps (follows 𝓔 l b)
    unfolding follows
    follows-fair l b d k = unless-fair _ _ _ (receives-fair l b _ (unless-fair _ _ _ (informs-fair l b d k)))

    leader-fair : Keeps (reads_leader 𝓔)
    unfolding reads_leader
    leader-fair d k = by_cond Fair (in_boards d.state.controller.stage) (λ _. k) (λ _. put-fair _ d k)

    waiting-fair : Keeps (waiting_part 𝓔)
    unfolding waiting_part
    waiting-fair d k =
        let l = d.state.registry.view.leader in
        put-fair _ _ (turns-fair _ _ (follows 𝓔 l) (follows-fair l) _
        (leader-fair _ (informs-fair l l _ (controller-fair _ (need-fair _ d k)))))

  -- Set normal ends it.
  sets-normal : (d : Draft Entry) → T (put 𝓔 (bare 13) d).sound
      → (put 𝓔 (bare 13) d).state.registry.status ≡ normal
  unfolding put
  sets-normal d t =
      ap (λ x. (cond x (next 𝓔 d.state set_normal) d.state).registry.status)
      (is_true (accepted (outline d.state) set_normal)
      (split-and d.sound (accepted (outline d.state) set_normal) t).1)

  waiting-ends : (d : Draft Entry) → T (waiting_part 𝓔 d).sound → (waiting_part 𝓔 d).state.registry.status ≡ normal
  unfolding waiting_part
  waiting-ends d t = sets-normal _ t

  module _ (s : State Entry) where
    start-fair : Fair s (start s)
    unfolding run answers
    start-fair = record { reaches = refl; zeros = λ _. tt }

    draft-fair : (g : Status) → Fair s (draft 𝓔 g (start s))
    unfolding draft
    draft-fair normal = start-fair
    draft-fair waiting = waiting-fair s (start s) start-fair
    draft-fair Status.choosing = waiting-fair s (choosing_part 𝓔 (start s)) (choosing-fair s (start s) start-fair)

    draft-ends : (g : Status) → s.registry.status ≡ g → T (draft 𝓔 g (start s)).sound
        → (draft 𝓔 g (start s)).state.registry.status ≡ normal
    unfolding draft
    draft-ends normal e t = e
    draft-ends waiting e t = waiting-ends (start s) t
    draft-ends Status.choosing e t = waiting-ends (choosing_part 𝓔 (start s)) t

    pub any-plan : (list : List Record) → plan 𝓔 s ≡ found list → Leads 𝓔 s list
    unfolding plan
    any-plan list e =
        let d = draft 𝓔 s.registry.status (start s) in
        let z = found-only d.sound d.records _ e in
        let f = draft-fair s.registry.status in
        subst (Leads 𝓔 s) z.2 record {
          accepted = f.zeros z.0;
          ends = ap (λ (t : State Entry). t.registry.status) f.reaches
              ∙ draft-ends s.registry.status refl z.0;
          few = z.1;
        }
