-- `dispatch::send` meets its contract: in each arm of the match the step's number is known, and its step does what its
-- record says. Assumes nothing.
use Rattle.std.proofs.Common.{◌≡◌, ℕ, arith, ap, refl}
use Rattle.cluster.specs.declared.Cluster.{Cluster}
use lib.ListN.{get_or}
use Rattle.std.proofs.lemmas.Result.{err_from_is_err_and}
use Rattle.model.specs.Steps.{append, commit, add, remove, change_leader, refresh, join, receive, acknowledge, refresh_controller, read_leader, read, set_normal, hear, install, malformed}
use Rattle.model.specs.Records.{rules}
use Rattle.records.specs.Record.{record_of}
use Rattle.refinement.specs.Lent.{places_in}
use Rattle.refinement.specs.Refinement.{Places}
use Rattle.refinement.proofs.Turning.{governed, told-of}
use Rattle.dispatch.proofs.Sending.{malformed_turns, nobody-behind, no_step_lem, among_two, among_three}
use Rattle.dispatch.proofs.send.Goals as goal

pub returns-in-0-clause-step : goal.returns-in-0-clause-step
returns-in-0-clause-step c =
    let a = c.args in
    let q = c.requires in
    let places = places_in a.p.now in
    rw c.in-0.is (malformed_turns a.row.now q.0 places q.1)

pub returns-in_err-b-in-1-clause-step : goal.returns-in_err-b-in-1-clause-step
returns-in_err-b-in-1-clause-step c =
    let a = c.args in
    let q = c.requires in
    let places = places_in a.p.now in
    let e = err_from_is_err_and c.from_residual.result c.from_residual.ensures.1 in
    let u = c.in_err-b-in-1.ensures in
    let m = malformed_turns a.row.now q.0 places q.1 in
    rw (e.1, e.2, u.0, c.in-1.is, u.1 (λ x. append x.0 x.1)) m

pub returns-in_ok-b-in-1-clause-step : goal.returns-in_ok-b-in-1-clause-step
returns-in_ok-b-in-1-clause-step c =
    let a = c.args in
    let q = c.requires in
    let places = places_in a.p.now in
    rw (c.in-1.is, c.in_ok-b-in-1.ensures (λ x. append x.0 x.1), c.and.ensures)
    (nobody-behind c.append.result (told-of _ _ (c.append.ensures.step _ _ _ q.0.issued q.1)
    (ap (λ (r : Cluster). r.issued) c.append.ensures.rest) c.append.ensures.lists.0 c.append.ensures.lists.1))

pub returns-in_err-bare-in-5-clause-step : goal.returns-in_err-bare-in-5-clause-step
returns-in_err-bare-in-5-clause-step c =
    let a = c.args in
    let q = c.requires in
    let places = places_in a.p.now in
    let e = err_from_is_err_and c.from_residual-in_err-bare-in-5.result c.from_residual-in_err-bare-in-5.ensures.1 in
    let u = c.in_err-bare-in-5.ensures in
    let m = malformed_turns a.row.now q.0 places q.1 in
    rw (e.1, e.2, u.0, c.in-5.is, u.1 (λ _. change_leader)) m

pub returns-in_ok-bare-in-5-clause-step : goal.returns-in_ok-bare-in-5-clause-step
returns-in_ok-bare-in-5-clause-step c =
    let a = c.args in
    let q = c.requires in
    let places = places_in a.p.now in
    rw (c.in-5.is, c.in_ok-bare-in-5.ensures (λ _. change_leader))
    (governed c.change.result (c.change.ensures.step _ _ _ q.0.short) c.change.ensures.rest q.0.issued q.1)

pub returns-in_err-a-in-9-clause-step : goal.returns-in_err-a-in-9-clause-step
returns-in_err-a-in-9-clause-step c =
    let a = c.args in
    let q = c.requires in
    let places = places_in a.p.now in
    let e = err_from_is_err_and c.from_residual-in_err-a-in-9.result c.from_residual-in_err-a-in-9.ensures.1 in
    let u = c.in_err-a-in-9.ensures in
    let m = malformed_turns a.row.now q.0 places q.1 in
    rw (e.1, e.2, u.0, c.in-9.is, u.1 (λ x. acknowledge x.0 x.1)) m

pub returns-in_ok-a-in-9-clause-step : goal.returns-in_ok-a-in-9-clause-step
returns-in_ok-a-in-9-clause-step c =
    let a = c.args in
    let q = c.requires in
    let places = places_in a.p.now in
    rw (c.in-9.is, c.in_ok-a-in-9.ensures (λ x. acknowledge x.0 x.1), c.and-in-9.ensures)
    (nobody-behind c.acknowledge.result (told-of _ _ (c.acknowledge.ensures.step _ places q.0.issued q.1)
    (ap (λ (r : Cluster). r.issued) c.acknowledge.ensures.rest) refl refl))

pub returns-in_err-b-in-12-clause-step : goal.returns-in_err-b-in-12-clause-step
returns-in_err-b-in-12-clause-step c =
    let a = c.args in
    let q = c.requires in
    let places = places_in a.p.now in
    let e = err_from_is_err_and c.from_residual-in_err-b-in-12.result c.from_residual-in_err-b-in-12.ensures.1 in
    let u = c.in_err-b-in-12.ensures in
    let m = malformed_turns a.row.now q.0 places q.1 in
    rw (e.1, e.2, u.0, c.in-12.is, u.1 read) m

pub returns-in_ok-b-in-12-clause-step : goal.returns-in_ok-b-in-12-clause-step
returns-in_ok-b-in-12-clause-step c =
    let a = c.args in
    let q = c.requires in
    let places = places_in a.p.now in
    rw (c.in-12.is, c.in_ok-b-in-12.ensures read) (governed c.read.result (c.read.ensures.step _) c.read.ensures.rest q.0.issued q.1)

pub returns-in_err-bare-in-13-clause-step : goal.returns-in_err-bare-in-13-clause-step
returns-in_err-bare-in-13-clause-step c =
    let a = c.args in
    let q = c.requires in
    let places = places_in a.p.now in
    let e = err_from_is_err_and c.from_residual-in_err-bare-in-13.result c.from_residual-in_err-bare-in-13.ensures.1 in
    let u = c.in_err-bare-in-13.ensures in
    let m = malformed_turns a.row.now q.0 places q.1 in
    rw (e.1, e.2, u.0, c.in-13.is, u.1 (λ _. set_normal)) m

pub returns-in_ok-bare-in-13-clause-step : goal.returns-in_ok-bare-in-13-clause-step
returns-in_ok-bare-in-13-clause-step c =
    let a = c.args in
    let q = c.requires in
    let places = places_in a.p.now in
    rw (c.in-13.is, c.in_ok-bare-in-13.ensures (λ _. set_normal)) (governed c.set_normal.result (c.set_normal.ensures.step _ _ _ q.0.short) c.set_normal.ensures.rest q.0.issued q.1)

pub returns-in_err-b-in-2-to-4-clause-step : goal.returns-in_err-b-in-2-to-4-clause-step
returns-in_err-b-in-2-to-4-clause-step c =
    let a = c.args in
    let q = c.requires in
    let places = places_in a.p.now in
    let e = err_from_is_err_and c.from_residual-in_err-b-in-2-to-4.result c.from_residual-in_err-b-in-2-to-4.ensures.1 in
    let u = c.in_err-b-in-2-to-4.ensures in
    let m = malformed_turns a.row.now q.0 places q.1 in
    let f = λ (n : ℕ). get_or (rules (record_of a.r)) n malformed in
    rw (e.1, e.2, u.0, among_three f malformed 2 a.r.step (omega arith) (omega arith) (u.1 commit) (u.1 add) (u.1 remove)) m

pub returns-in_err-b-in-6-to-8-clause-step : goal.returns-in_err-b-in-6-to-8-clause-step
returns-in_err-b-in-6-to-8-clause-step c =
    let a = c.args in
    let q = c.requires in
    let places = places_in a.p.now in
    let e = err_from_is_err_and c.from_residual-in_err-b-in-6-to-8.result c.from_residual-in_err-b-in-6-to-8.ensures.1 in
    let u = c.in_err-b-in-6-to-8.ensures in
    let m = malformed_turns a.row.now q.0 places q.1 in
    let f = λ (n : ℕ). get_or (rules (record_of a.r)) n malformed in
    rw (e.1, e.2, u.0, among_three f malformed 6 a.r.step (omega arith) (omega arith) (u.1 refresh) (u.1 join) (u.1 receive)) m

pub returns-in_err-bare-in-10-to-11-clause-step : goal.returns-in_err-bare-in-10-to-11-clause-step
returns-in_err-bare-in-10-to-11-clause-step c =
    let a = c.args in
    let q = c.requires in
    let places = places_in a.p.now in
    let e = err_from_is_err_and c.from_residual-in_err-bare-in-10-to-11.result c.from_residual-in_err-bare-in-10-to-11.ensures.1 in
    let u = c.in_err-bare-in-10-to-11.ensures in
    let m = malformed_turns a.row.now q.0 places q.1 in
    let f = λ (n : ℕ). get_or (rules (record_of a.r)) n malformed in
    rw (e.1, e.2, u.0, among_two f malformed 10 a.r.step (omega arith) (omega arith) (u.1 (λ _. refresh_controller)) (u.1 (λ _. read_leader))) m

pub returns-in_err-b-in-14-to-15-clause-step : goal.returns-in_err-b-in-14-to-15-clause-step
returns-in_err-b-in-14-to-15-clause-step c =
    let a = c.args in
    let q = c.requires in
    let places = places_in a.p.now in
    let e = err_from_is_err_and c.from_residual-in_err-b-in-14-to-15.result c.from_residual-in_err-b-in-14-to-15.ensures.1 in
    let u = c.in_err-b-in-14-to-15.ensures in
    let m = malformed_turns a.row.now q.0 places q.1 in
    let f = λ (n : ℕ). get_or (rules (record_of a.r)) n malformed in
    rw (e.1, e.2, u.0, among_two f malformed 14 a.r.step (omega arith) (omega arith) (u.1 hear) (u.1 install)) m

pub returns-then-step-eq2-clause-step : goal.returns-then-step-eq2-clause-step
returns-then-step-eq2-clause-step c =
    let a = c.args in
    let q = c.requires in
    let places = places_in a.p.now in
    rw (c.if-step-eq2.true, c.in_ok-b-in-2-to-4.ensures commit)
    (c.commit.ensures.step)

pub returns-then-step-eq3-clause-step : goal.returns-then-step-eq3-clause-step
returns-then-step-eq3-clause-step c =
    let a = c.args in
    let q = c.requires in
    let places = places_in a.p.now in
    rw (c.if-step-eq3.true, c.in_ok-b-in-2-to-4.ensures add)
    (governed c.add.result (c.add.ensures.step _ _ _ q.0.short) c.add.ensures.rest q.0.issued q.1)

pub returns-else-step-eq3-clause-step : goal.returns-else-step-eq3-clause-step
returns-else-step-eq3-clause-step c =
    let a = c.args in
    let q = c.requires in
    let places = places_in a.p.now in
    let s : a.r.step ≡ 4 = omega arith in
    rw (s, c.in_ok-b-in-2-to-4.ensures remove)
    (governed c.remove.result (c.remove.ensures.step _ _ _ q.0.short) c.remove.ensures.rest q.0.issued q.1)

pub returns-then-step-eq6-clause-step : goal.returns-then-step-eq6-clause-step
returns-then-step-eq6-clause-step c =
    let a = c.args in
    let q = c.requires in
    let places = places_in a.p.now in
    rw (c.if-step-eq6.true, c.in_ok-b-in-6-to-8.ensures refresh, c.and-then-step-eq6.ensures)
    (nobody-behind c.refresh.result (told-of _ _ (c.refresh.ensures.step _ places q.0.issued q.1)
    (ap (λ (r : Cluster). r.issued) c.refresh.ensures.rest) refl refl))

pub returns-then-step-eq7-clause-step : goal.returns-then-step-eq7-clause-step
returns-then-step-eq7-clause-step c =
    let a = c.args in
    let q = c.requires in
    let places = places_in a.p.now in
    rw (c.if-step-eq7.true, c.in_ok-b-in-6-to-8.ensures join, c.and-then-step-eq7.ensures)
    (let j = rw (ap (λ (x : Places). x.store) c.lent.ensures, ap (λ (x : Places). x.store2) c.lent.ensures)
    at c.join.ensures.step in nobody-behind c.join.result (told-of _ _ (j _ _ _ q.0.issued q.1)
    (ap (λ (r : Cluster). r.issued) c.join.ensures.rest) refl refl))

pub returns-else-step-eq7-clause-step : goal.returns-else-step-eq7-clause-step
returns-else-step-eq7-clause-step c =
    let a = c.args in
    let q = c.requires in
    let places = places_in a.p.now in
    let s : a.r.step ≡ 8 = omega arith in
    rw (s, c.in_ok-b-in-6-to-8.ensures receive, c.and-else-step-eq7.ensures)
    (nobody-behind c.receive.result (told-of _ _ (c.receive.ensures.step _ _ _ q.0.issued q.1)
    (ap (λ (r : Cluster). r.issued) c.receive.ensures.rest) c.receive.ensures.lists.0 c.receive.ensures.lists.1))

pub returns-then-step-eq10-clause-step : goal.returns-then-step-eq10-clause-step
returns-then-step-eq10-clause-step c =
    let a = c.args in
    let q = c.requires in
    let places = places_in a.p.now in
    rw (c.if-step-eq10.true, c.in_ok-bare-in-10-to-11.ensures (λ _. refresh_controller))
    (governed c.refresh_controller.result (c.refresh_controller.ensures.step _ _ _ q.0.short) c.refresh_controller.ensures.rest q.0.issued q.1)

pub returns-else-step-eq10-clause-step : goal.returns-else-step-eq10-clause-step
returns-else-step-eq10-clause-step c =
    let a = c.args in
    let q = c.requires in
    let places = places_in a.p.now in
    let s : a.r.step ≡ 11 = omega arith in
    rw (s, c.in_ok-bare-in-10-to-11.ensures (λ _. read_leader))
    (governed c.read_leader.result (c.read_leader.ensures.step _) c.read_leader.ensures.rest q.0.issued q.1)

pub returns-then-step-eq14-clause-step : goal.returns-then-step-eq14-clause-step
returns-then-step-eq14-clause-step c =
    let a = c.args in
    let q = c.requires in
    let places = places_in a.p.now in
    rw (c.if-step-eq14.true, c.in_ok-b-in-14-to-15.ensures hear)
    (governed c.hear.result c.hear.ensures.step c.hear.ensures.rest q.0.issued q.1)

pub returns-else-step-eq14-clause-step : goal.returns-else-step-eq14-clause-step
returns-else-step-eq14-clause-step c =
    let a = c.args in
    let q = c.requires in
    let places = places_in a.p.now in
    let s : a.r.step ≡ 15 = omega arith in
    rw (s, c.in_ok-b-in-14-to-15.ensures install)
    (governed c.install.result (c.install.ensures.step _ _ _ q.0.short) c.install.ensures.rest q.0.issued q.1)

pub returns-in-16-to-255-clause-step : goal.returns-in-16-to-255-clause-step
returns-in-16-to-255-clause-step c =
    let a = c.args in
    let q = c.requires in
    let places = places_in a.p.now in
    rw (no_step_lem (record_of a.r) a.r.step (omega arith)) (malformed_turns a.row.now q.0 places q.1)
