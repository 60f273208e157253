-- `telling::put_verdict` meets its contract. Assumes nothing.
use Rattle.text.proofs.Laws.{puts-then, puts_as}
use Rattle.phrases.proofs.Forming.{verdict-accepted, verdict-refused}
use Rattle.telling.proofs.put_verdict.Goals as goal
use Rattle.telling.proofs.put_verdict.Goals.{then-a-ne0, else-a-ne0}

pub returns : goal.returns
returns c =
    elim c.if-a-ne0.branch [
      | then-a-ne0 w ↦
          puts_as (verdict-refused c.args.k c.args.a w.if-a-ne0.true)
          (puts-then w.put_bytes.ensures (rw w.page-is at c.put_reason.ensures))
      | else-a-ne0 w ↦
          puts_as (verdict-accepted c.args.k c.args.a w.if-a-ne0.false) (rw w.page-is at c.put_reason.ensures)
    ]
