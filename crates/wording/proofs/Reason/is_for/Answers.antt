-- `wording::Reason::is_for` meets its contract. Assumes nothing.
use Rattle.std.proofs.Common.{sym, ap, ◌∙◌, eq-eqb}
use Rattle.wording.specs.Tables.{steps_in}
use Rattle.wording.proofs.Tables.{has_any}
use Rattle.wording.proofs.Reason.is_for.Goals as goal

pub returns-then-self-a : goal.returns-then-self-a
returns-then-self-a c =
    let r = c.args.self.now in
    rw (eq-eqb c.args.a r.answer (sym c.if-self-a.true))
    (c.contains.ensures.value ∙ rw c.numbers.ensures (has_any c.args.k (steps_in r.steps)))
