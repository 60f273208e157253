-- `pieces::Sketch::receives` meets its contract: as many as b lacks, and one order for them. Assumes nothing.
use Rattle.std.proofs.Common.{◌≡◌, ◌&&◌, ◌-◌, refl, sym, ap, ap₂, subst, ◌∙◌, arith}
use Rattle.model.specs.State.{entries}
use Rattle.model.specs.Records.{of}
use Rattle.recovery.specs.Plan.{times, put}
use Rattle.pieces.specs.Pieces.{Plays}
use Rattle.pieces.proofs.Keeping.{keeps-receive}
use Rattle.pieces.proofs.Standing.{same-lent, same-still, times_none, plays-more, receives-moves}
use Rattle.pieces.proofs.Sketch.receives.Goals as goal

pub loop-init : goal.loop-init
loop-init c =
    let s = c.args.self.now in
    (refl, same-lent s.places, λ m k. subst (λ d. Plays d s) (sym (times_none (put entries (of 8 c.args.b)) m)) k)

pub attempt-requires : goal.attempt-requires
attempt-requires c = keeps-receive c.args.b

pub loop-preserved : goal.loop-preserved
loop-preserved c =
    let l = c.loop in (
      c.attempt.ensures.orders ∙ l.invariant.0,
      same-still l.invariant.1 c.attempt.ensures.same,
      λ m k. plays-more c.attempt.ensures l.counter m (l.invariant.2 m k) _ refl
          (ap (λ b. c.attempt.new.self.sound && b) c.is_ok-ok.ensures.value),
    )

pub returns : goal.returns
returns c =
    let a = c.args in
    let l = c.loop in
    let all : l.counter ≡ c.saturating_sub-n.result = omega (arith, l.auto.counter-end, c.loop-test.false) in
    receives-moves a.l a.b c.saturating_sub-n.result a.self.now l.self _
    (c.saturating_sub-n.ensures ∙ ap₂ ◌-◌ c.length_of.ensures c.length_of-2.ensures) l.invariant.0
    (λ m k. subst (λ i. Plays (times i (put entries (of 8 a.b)) m) l.self) all (l.invariant.2 m k)) l.invariant.1
    refl (same-lent _) refl c.push.ensures.more c.push.ensures.count c.push.ensures.same
