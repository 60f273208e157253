-- What the logs share is the i entries passed, and what they share from i on. Assumes nothing.
use Rattle.std.proofs.Common.{◌≡◌, ◌+◌, length}
use Rattle.model.specs.State.{same_entry}
use Rattle.model.specs.Steps.{shared}
use Rattle.logstore.specs.Log.{pairs, log_of}
use Rattle.logstore.proofs.Laws.{shared_from}
use Rattle.logstore.proofs.shared.Given as goal

abbrev pub invariant-loop-i : goal.invariant-loop-i
invariant-loop-i l =
    let xs = log_of (pairs l.store l.terms) l.a.number l.m in
    let ys = log_of (pairs l.store l.terms) l.b.number l.n in
    length (shared same_entry xs ys) ≡ l.i + shared_from same_entry xs ys l.i
