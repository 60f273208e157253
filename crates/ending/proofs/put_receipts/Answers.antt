-- The line's parts, one after the other. Assumes nothing.
use mathlib.Core.Path.{sym}
use borrow.Author.Rules.{rules}
use Rattle.text.proofs.Laws.{puts-then, puts_as}
use Rattle.ending.proofs.Endings.{receipts-line-is}
use Rattle.ending.proofs.put_receipts.Goals as goal

pub returns : goal.returns
returns c =
    puts_as (sym (receipts-line-is c.args.values.now c.args.terms.now c.requires.same)) (search (rules, puts-then))
