-- `drafting::choosing_part` meets its contract. Assumes nothing.
use Rattle.std.proofs.Common.{◌≡◌, sym, ap, ◌∙◌, arith}
use Rattle.model.specs.State.{entries}
use Rattle.members.specs.Mask.{bits}
use Rattle.recovery.specs.Plan.{first_of, hears}
use Rattle.pieces.proofs.Keeping.{keeps-install}
use Rattle.pieces.proofs.Standing.{moves-then}
use Rattle.drafting.proofs.Turning.{turns-none, turns-more, turns-skip, turns-all}
use Rattle.drafting.proofs.Parts.{heard, choosing-moves}
use Rattle.drafting.proofs.choosing_part.Goals as goal
use Rattle.drafting.proofs.choosing_part.Goals.{then-has, else-has}

pub loop-i-init : goal.loop-i-init
loop-i-init c = turns-none (bits c.first-q.result) (hears entries) _

pub loop-i-preserved : goal.loop-i-preserved
loop-i-preserved c =
    let q = bits c.first-q.result in
    let l = c.loop-i in
    elim c.if-has.branch [
      | then-has w ↦
          turns-more q (hears entries) 2 l.i l.invariant _ c.at-b.ensures (sym c.has.ensures ∙ w.if-has.true)
          w.hears.ensures w.s-is
      | else-has w ↦
          turns-skip q (hears entries) 2 l.i l.invariant _ c.at-b.ensures (sym c.has.ensures ∙ w.if-has.false) w.s-is
    ]

pub put-requires-clause-keeps : goal.put-requires-clause-keeps
put-requires-clause-keeps c = keeps-install c.highest-b.result

pub returns : goal.returns
unfolding heard
returns c =
    let q = c.first-q.result in
    let m = bits c.args.s.now.row.registry.view.members in
    let l = c.loop-i in
    let all : l.i ≡ 8 = omega (arith, l.auto.i-end, c.loop-i-test.false) in
    choosing-moves c.args.s.now q (c.first-q.ensures ∙ ap (λ n. first_of n m) c.majority.ensures)
    (moves-then c.put_unless.ensures (turns-all (bits q) (hears entries) 2 l.i all l.invariant))
    c.highest-b.result c.highest-b.ensures c.put.ensures
