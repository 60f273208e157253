-- What a writer on a page asks of a record and its line. Assumes nothing.
use Rattle.std.proofs.Common.{◌≡◌, ℕ, ◌<◌, ◌≤◌, ◌^◌, true, length}
use Rattle.model.specs.Records.{Record, well_formed}
use Rattle.text.proofs.Laws.{puts_back, puts-length}
use Rattle.phrases.specs.Phrases.{is_listed}
use Rattle.phrases.specs.Line.{line}
use Rattle.phrases.proofs.Forming.{formed}
use Rattle.phrases.proofs.Lengths.{line-most}

pub last_step : (r : Record) → well_formed r ≡ true → r.step ≤ 15
last_step r e = (formed r e).step

pub longest : (r : Record) (a : ℕ) → r.value < 2 ^ 32 → is_listed a ≡ true → length (line r a) ≤ 96
longest r a h e = line-most r a h e

pub ruleset aside = (longest, puts_back, puts-length)
