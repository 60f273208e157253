-- The line's parts, one after the other. Assumes nothing.
use borrow.Author.Rules.{rules}
use Rattle.text.proofs.Laws.{puts-then, puts-both}
use Rattle.lines.specs.Lines.{board_text}
use Rattle.state_lines.proofs.put_board.Goals as goal

pub returns : goal.returns
unfolding board_text
returns c = search (rules, puts-both, puts-then)
