-- The line's parts, one after the other. Assumes nothing.
use borrow.Author.Rules.{rules}
use Rattle.text.proofs.Laws.{puts-then, puts-both}
use Rattle.lines.specs.Lines.{registry_line}
use Rattle.state_lines.proofs.put_registry.Goals as goal

pub returns : goal.returns
unfolding registry_line
returns c = search (rules, puts-both, puts-then)
