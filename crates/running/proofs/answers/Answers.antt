-- What was kept are the answers of the run.
use Rattle.running.proofs.Playing.{answers-are}
use Rattle.running.proofs.answers.Goals as goal

pub returns : goal.returns
returns c = answers-are c.args.sheet.now c.requires _ _ _ _ c.play.ensures.run
