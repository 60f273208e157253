-- `drafting::contains` meets its contract: a number that is no replica is in no set. Assumes nothing.
use Rattle.std.proofs.Common.{◌≡◌, sym, false, rules}
use Rattle.model.specs.Members.{is_replica}
use Rattle.members.proofs.Laws.{bits_out}
use Rattle.drafting.proofs.contains.Goals as goal

pub returns-in-Err : goal.returns-in-Err
returns-in-Err c =
    let none : is_replica c.args.b ≡ false = search rules in sym (bits_out c.args.m c.args.b none)
