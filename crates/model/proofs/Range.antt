-- The ranges as facts, and back. Assumes nothing.
use mathlib.Core.Bool.{Bool, true, false, not, ◌||◌}
use mathlib.Core.List.{List, [], ◌∷◌}
use mathlib.Core.Logic.{◌≢◌}
use mathlib.Core.Path.{◌≡◌, refl}
use Prim.Native.Nat.{ℕ, ◌≤◌}
use native.Mathlib.Omega.{arith}
use lib.Dec.{T, leb, eqb, eqb→eq, leb→le, le→leb, not_T}
use Rattle.model.specs.Members.{Members, is_replica}
use Rattle.model.specs.State.{View, Stage, idle, leader, boards, Outline, is_choosing, stage_number}
use Rattle.model.specs.Ranges.{every, eight, is_epoch, view_ranges, replica_ranges, ranges, in_range}
use Rattle.model.proofs.Tests.{split-and, join-and, ne-fact}
use Rattle.model.proofs.Quorum.{by-replica}

abbrev pub IsEpoch : ℕ → Type 0
IsEpoch e = (1 ≤ e) × (e ≤ 4000)

pub record ViewInRange (v : View) : Type 0 where
  pub epoch : IsEpoch v.epoch
  pub term : IsEpoch v.term
  pub leader : v.leader ≤ 8

pub record InRange (m : Outline) : Type 0 where
  pub registry : ViewInRange m.registry.view
  pub controller : ViewInRange m.controller.view
  pub views : (b : ℕ) → T (is_replica b) → ViewInRange (m.view b)
  pub joined : (b : ℕ) → T (is_replica b) → IsEpoch (m.joined b)
  pub heard : (b : ℕ) → T (is_replica b) → m.controller.heard b ≤ 513
  pub heard_joined : (b : ℕ) → T (is_replica b) → m.controller.heard_joined b ≤ 4000
  pub acked : (a b : ℕ) → T (is_replica a) → T (is_replica b) → m.acked a b ≤ 512
  pub logs : (b : ℕ) → T (is_replica b) → m.len b ≤ 512
  pub committed : m.issued ≤ 512
  pub named : T (not (is_choosing m.registry.status)) → m.registry.view.leader ≢ 0
  pub reads : stage_number m.controller.stage ≡ 1 → m.controller.view.leader ≢ 0
  pub reads_on : stage_number m.controller.stage ≡ 2 → m.controller.view.leader ≢ 0

-- Lists of tests, as facts and back.
abbrev pub AllTrue : List Bool → Type 0
AllTrue [] = Unit {0}
AllTrue (t ∷ ts) = T t × AllTrue ts

pub of-every : (ts : List Bool) → T (every ts) → AllTrue ts
of-every [] h = tt
of-every (t ∷ ts) h = let z = split-and t (every ts) h in (z.0, of-every ts z.1)

pub to-every : (ts : List Bool) → AllTrue ts → T (every ts)
to-every [] h = tt
to-every (t ∷ ts) h = join-and t (every ts) h.0 (to-every ts h.1)

pub to-eight : (p : Members) → ((b : ℕ) → T (is_replica b) → T (p b)) → T (every (eight p))
to-eight p f = to-every (eight p) (f 1 tt, (f 2 tt, (f 3 tt, (f 4 tt, (f 5 tt, (f 6 tt, (f 7 tt, (f 8 tt, tt))))))))

pub of-eight : (p : Members) → T (every (eight p)) → (b : ℕ) → T (is_replica b) → T (p b)
of-eight p t =
    let h = of-every (eight p) t in
    by-replica (λ b. T (p b)) h.0 h.1.0 h.1.1.0 h.1.1.1.0 h.1.1.1.1.0 h.1.1.1.1.1.0
    h.1.1.1.1.1.1.0 h.1.1.1.1.1.1.1.0

pub epoch-of : (e : ℕ) → T (is_epoch e) → IsEpoch e
epoch-of e t = let h = split-and (leb 1 e) (leb e 4000) t in (leb→le 1 e h.0, leb→le e 4000 h.1)

pub to-epoch : (e : ℕ) → IsEpoch e → T (is_epoch e)
to-epoch e h = join-and (leb 1 e) (leb e 4000) (le→leb 1 e h.0) (le→leb e 4000 h.1)

pub view_of : (v : View) → T (every (view_ranges v)) → ViewInRange v
view_of v t =
    let h = of-every (view_ranges v) t in
    record {
      epoch = epoch-of v.epoch h.0;
      term = epoch-of v.term h.1.0;
      leader = leb→le v.leader 8 h.1.1.0;
    }

to-view : (v : View) → ViewInRange v → T (every (view_ranges v))
to-view v r =
    to-every (view_ranges v) (
      to-epoch v.epoch r.epoch,
      (to-epoch v.term r.term, (le→leb v.leader 8 r.leader, tt)),
    )

nonzero : (n : ℕ) → n ≢ 0 → T (not (eqb n 0))
nonzero n h = not_T (eqb n 0) (λ t. h (eqb→eq n 0 t))

-- The leaders that are asked for

named-of : (a b : Bool) → T (a || b) → T (not a) → T b
named-of true b t n = absurd n
named-of false b t n = t

to_named : (a b : Bool) → (T (not a) → T b) → T (a || b)
to_named true b f = tt
to_named false b f = f tt

read_of : (g : Stage) (b : Bool) → T (eqb (stage_number g) 0 || eqb (stage_number g) 3 || b) → stage_number g ≢ 0
    → stage_number g ≢ 3 → T b
read_of idle b t h k = absurd (h refl)
read_of leader b t h k = t
read_of boards b t h k = t
read_of Stage.choosing b t h k = absurd (k refl)

to_read : (g : Stage) (b : Bool) → (stage_number g ≡ 1 → T b) → (stage_number g ≡ 2 → T b)
    → T (eqb (stage_number g) 0 || eqb (stage_number g) 3 || b)
to_read idle b f g = tt
to_read leader b f g = f refl
to_read boards b f g = g refl
to_read Stage.choosing b f g = tt

module _ (m : Outline) where
  open m use {registry, controller, view, joined, acked, len, issued}

  pub to-ranges : T (in_range m) → InRange m
  to-ranges t =
      let h = of-every (ranges m) t in
      let r : (b : ℕ) → T (is_replica b) → AllTrue (replica_ranges m b) =
      λ b k. of-every (replica_ranges m b) (of-eight (λ x. every (replica_ranges m x)) h.1.1.1.1.1.0 b k) in
      let read : stage_number controller.stage ≢ 0 → stage_number controller.stage ≢ 3
      → controller.view.leader ≢ 0 = λ n k.
      ne-fact controller.view.leader 0
      (read_of controller.stage (not (eqb controller.view.leader 0)) h.1.1.1.0 n k) in
      record {
        registry = view_of registry.view h.0;
        controller = view_of controller.view h.1.0;
        views = λ b k. view_of (view b) (r b k).0;
        joined = λ b k. epoch-of (joined b) (r b k).1.0;
        logs = λ b k. leb→le (len b) 512 (r b k).1.1.0;
        heard = λ b k. leb→le (controller.heard b) 513 (r b k).1.1.1.0;
        heard_joined = λ b k. leb→le (controller.heard_joined b) 4000 (r b k).1.1.1.1.0;
        acked = λ a b k j. leb→le (acked a b) 512 (of-eight (λ x. leb (acked a x) 512) (r a k).1.1.1.1.1.0 b j);
        committed = leb→le issued 512 h.1.1.1.1.0;
        named = λ n. ne-fact registry.view.leader 0
            (named-of (is_choosing registry.status) (not (eqb registry.view.leader 0)) h.1.1.0 n);
        reads = λ e. read (λ z. omega arith) (λ z. omega arith);
        reads_on = λ e. read (λ z. omega arith) (λ z. omega arith);
      }

  pub from-ranges : InRange m → T (in_range m)
  from-ranges r =
      let c = controller.view.leader in
      to-every (ranges m) (
        to-view registry.view r.registry,
        (
          to-view controller.view r.controller,
          (
            to_named (is_choosing registry.status) (not (eqb registry.view.leader 0))
                (λ n. nonzero registry.view.leader (r.named n)),
            (
              to_read controller.stage (not (eqb c 0)) (λ e. nonzero c (r.reads e)) (λ e. nonzero c (r.reads_on e)),
              (
                le→leb issued 512 r.committed,
                (
                  to-eight (λ b. every (replica_ranges m b)) (λ b k. to-every (replica_ranges m b) (
                    to-view (view b) (r.views b k),
                    (
                      to-epoch (joined b) (r.joined b k),
                      (
                        le→leb (len b) 512 (r.logs b k),
                        (
                          le→leb (controller.heard b) 513 (r.heard b k),
                          (
                            le→leb (controller.heard_joined b) 4000 (r.heard_joined b k),
                            (
                              to-eight (λ x. leb (acked b x) 512) (λ x j. le→leb (acked b x) 512 (r.acked b x k j)),
                              tt,
                            ),
                          ),
                        ),
                      ),
                    ),
                  )),
                  tt,
                ),
              ),
            ),
          ),
        ),
      )
