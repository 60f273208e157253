-- `drafting::waiting_part` meets its contract. Assumes nothing.
use Rattle.std.proofs.Common.{◌≡◌, ◌&&◌, ◌-◌, refl, sym, ap, ap₂, ◌∙◌, arith}
use Rattle.model.specs.State.{entries}
use Rattle.members.specs.Mask.{bits}
use Rattle.recovery.specs.Plan.{first_of, follows}
use Rattle.pieces.proofs.Keeping.{keeps-set-normal}
use Rattle.pieces.proofs.Standing.{same-lent, moves-then}
use Rattle.drafting.proofs.Turning.{turns-none, turns-more, turns-skip, turns-all}
use Rattle.drafting.proofs.Parts.{prepared, waited, need-first, waiting-moves}
use Rattle.drafting.proofs.waiting_part.Goals as goal
use Rattle.drafting.proofs.waiting_part.Goals.{then-has, else-has}

pub loop-i-init : goal.loop-i-init
loop-i-init c = turns-none (bits c.first-q.result) (follows entries c.args.s.now.row.registry.view.leader) _

pub loop-i-preserved : goal.loop-i-preserved
loop-i-preserved c =
    let q = bits c.first-q.result in
    let f = follows entries c.args.s.now.row.registry.view.leader in
    let l = c.loop-i in
    elim c.if-has.branch [
      | then-has w ↦
          turns-more q f 4 l.i l.invariant _ c.at-b.ensures (sym c.has.ensures ∙ w.if-has.true) w.follows.ensures w.s-is
      | else-has w ↦ turns-skip q f 4 l.i l.invariant _ c.at-b.ensures (sym c.has.ensures ∙ w.if-has.false) w.s-is
    ]

pub put-requires-clause-keeps : goal.put-requires-clause-keeps
put-requires-clause-keeps c = keeps-set-normal

pub returns : goal.returns
unfolding prepared waited
returns c =
    let s = c.args.s.now in
    let v = s.row.registry.view in
    let q = c.first-q.result in
    let all : c.loop-i.i ≡ 8 = omega (arith, c.loop-i.auto.i-end, c.loop-i-test.false) in
    waiting-moves s q (c.first-q.ensures ∙ ap₂ first_of (ap (λ n. n - 1) c.majority.ensures) c.without.ensures)
    (moves-then
    (moves-then
    (moves-then
    (moves-then
    (need-first (bits v.members v.leader) s c.put_unless.ensures refl refl (same-lent _)
    (ap (λ t. s.sound && t) c.contains.ensures))
    c.informs.ensures)
    c.reads_leader.ensures)
    (turns-all (bits q) (follows entries v.leader) 4 c.loop-i.i all c.loop-i.invariant))
    c.put.ensures)
