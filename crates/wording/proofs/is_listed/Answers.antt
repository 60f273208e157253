-- `wording::is_listed` meets its contract. Assumes nothing.
use Rattle.std.proofs.Common.{◌∙◌, eqb, rules, tests}
use Rattle.std.proofs.lemmas.Iterator.{YieldsList-from_slice}
use Rattle.std.proofs.lemmas.Iterator.Search.{any_from_yields_List}
use Rattle.wording.specs.declared.Reason.{Reason}
use Rattle.wording.proofs.Tables.{lists}
use Rattle.wording.proofs.is_listed.Goals as goal

pub returns : goal.returns
returns c =
    any_from_yields_List (λ (r : Reason). eqb r.answer c.args.a) _ _ _ c.any.ensures.ran
    (YieldsList-from_slice c.reasons.result.now cc) (λ x b q k. search (rules, tests))
    ∙ lists c.reasons.result.now c.args.a c.reasons.ensures
