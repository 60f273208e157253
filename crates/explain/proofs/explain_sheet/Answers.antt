-- `explain::explain_sheet` meets its contract. Assumes nothing.
use Rattle.std.proofs.Common.{◌≡◌, ◌/◌, ◌≤◌, true, length, arith, length-take, length-take-le}
use Rattle.std.proofs.lemmas.Grind.{common_steps}
use Rattle.records.specs.Bytes.{is_sheet}
use Rattle.running.proofs.Playing.{sheet-most}
use Rattle.explain.proofs.Explaining.{all_listed, told}
use Rattle.explain.proofs.explain_sheet.Goals as goal

pub invariant_of-answered-clause-few : goal.invariant_of-answered-clause-few
invariant_of-answered-clause-few c =
    let s = c.args.sheet.now in
    let through : is_sheet s ≡ true = grind (arith, common_steps) in
    omega (arith, sheet-most s through, length-take (length s / 8) c.answers-answers.result)

pub invariant_of-answered-clause-each : goal.invariant_of-answered-clause-each
invariant_of-answered-clause-each c =
    let s = c.args.sheet.now in
    let through : is_sheet s ≡ true = grind (arith, common_steps) in
    let room : length s / 8 ≤ length c.answers-answers.result = omega (arith, sheet-most s through, c.answers-answers.type_inv) in
    length-take-le _ _ room

pub invariant_of-answered-clause-listed : goal.invariant_of-answered-clause-listed
invariant_of-answered-clause-listed c = rw c.answers-answers.ensures (λ i h. all_listed c.args.sheet.now i)

pub returns : goal.returns
returns c =
    let through : is_sheet c.args.sheet.now ≡ true = grind (arith, common_steps) in
    told c.args.sheet.now _ through c.answers-answers.ensures c.deliver.ensures
