-- The next line is told. Assumes nothing.
use Rattle.std.proofs.Common.{length, ap, ◌∙◌, arith, length-take, length-append}
use Rattle.text.specs.Text.{each_of}
use Rattle.text.proofs.Laws.{each_next}
use Rattle.explain.specs.Explain.{line_at}
use Rattle.explain.proofs.Explaining.{line-next}
use Rattle.explain.proofs.answered.Answered.length.Goals as goal

pub loop-i-preserved : goal.loop-i-preserved
loop-i-preserved c =
    let self = c.args.self.now in
    let text = line_at self.sheet.now self.answers.now in
    let t = c.text.ensures.text ∙ c.new-told.ensures ∙ line-next self.sheet.now self.answers.now _ self.each c.loop-i.i c.at.ensures in
    let told = c.new-told.result in (
      omega (
        arith,
        ap length t,
        ap length (each_next text c.loop-i.i),
        length-append (each_of text c.loop-i.i) (text c.loop-i.i),
        c.loop-i.invariant.0,
      ),
      omega (arith, ap length c.text.ensures.text, length-take told.length told.bytes, told.short, c.loop-i.invariant.1),
    )
