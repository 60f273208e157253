-- By computation, and by laws of every image. Assumes nothing.
use mathlib.Core.Path.{refl}
use Rattle.archive.specs.Archive.{save_outcome, save_left, EmptyRefused}
use Rattle.archive.proofs.Lengths.{sample-holds, lengths-tell}
use Rattle.archive.proofs.sample.Goals as goal

pub returns : goal.returns
unfolding EmptyRefused save_outcome save_left
returns c = (sample-holds, λ out. (refl, refl), lengths-tell)
