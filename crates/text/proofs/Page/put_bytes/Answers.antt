-- `text::Page::put_bytes` meets its contract. Assumes nothing.
use Rattle.std.proofs.Common.{sym, refl}
use Rattle.text.proofs.Laws.{over_none, over-more}
use Rattle.text.proofs.Page.put_bytes.Goals as goal

pub loop-i-init : goal.loop-i-init
loop-i-init c = (refl, refl, sym (over_none _ _))

pub loop-i-preserved : goal.loop-i-preserved
loop-i-preserved c =
    let v = c.loop-i.invariant in (
      v.0,
      v.1,
      rw (v.2, v.0) (over-more c.args.self.now.out.now c.args.self.now.at c.args.text.now c.loop-i.i c.loop-i-test.true),
    )
