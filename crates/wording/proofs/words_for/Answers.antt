-- `wording::words_for` meets its contract. Assumes nothing.
use Rattle.std.proofs.Common.{rules, tests}
use Rattle.std.proofs.lemmas.Iterator.{YieldsList-from_slice}
use Rattle.std.proofs.lemmas.Iterator.Search.{find_from_yields_List}
use Rattle.phrases.specs.Line.{reason_text}
use Rattle.wording.proofs.Tables.{Found, finds, test}
use Rattle.wording.proofs.words_for.Goals as goal
use Rattle.wording.proofs.words_for.Goals.{After-find}

found : (c : After-find) → Found c.find.result (reason_text c.args.k c.args.a)
found c =
    finds c.reasons.result.now c.find.result c.args.k c.args.a c.reasons.ensures
    (find_from_yields_List (test c.args.k c.args.a) _ _ c.find.result c.find.ensures.ran
    (YieldsList-from_slice c.reasons.result.now cc) (λ x b q k. search (rules, tests)))
    c.requires.step c.requires.listed

pub unwrap-requires : goal.unwrap-requires
unwrap-requires c = (found c).some

pub returns : goal.returns
returns c = rw c.text.ensures ((found (goal.at.returns c).After-find).words c.unwrap.result c.unwrap.ensures)
