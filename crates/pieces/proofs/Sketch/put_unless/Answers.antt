-- `pieces::Sketch::put_unless` meets its contract: the record is tried, and noted unless it is left out. Assumes
-- nothing.
use Rattle.std.proofs.Common.{◌&&◌, refl, sym, ap, ◌∙◌}
use Rattle.pieces.proofs.Standing.{same-lent, put-moves, kept-moves, left-moves}
use Rattle.pieces.proofs.Sketch.put_unless.Goals as goal

pub returns-then-answer-skip : goal.returns-then-answer-skip
returns-then-answer-skip c =
    left-moves c.attempt-x.ensures c.args.skip c.requires.refusal (sym c.answer.ensures ∙ c.if-answer-skip.true)

pub returns : goal.returns
returns c =
    kept-moves c.attempt-x.ensures c.args.skip (λ e. c.if-answer-skip.false (c.answer.ensures ∙ e))
    (put-moves c.attempt-x.ensures _ refl (same-lent _) c.push.ensures.more c.push.ensures.count c.push.ensures.same
    (ap (λ b. c.attempt-x.new.self.sound && b) c.is_ok.ensures.value))
