-- Place by place. Assumes nothing.
use Rattle.std.proofs.Common.{ℕ, ◌+◌, ◌*◌, ◌/◌, ◌%◌, rules, tests}
use Rattle.fields.specs.Fields.{two_at}
use Rattle.head.proofs.Made.{made}
use Rattle.head.proofs.Head.counts.Goals as goal

pub returns : goal.returns
returns c =
    let h = λ (i : ℕ). two_at c.args.self.bytes.now (56 + 26 * (i / 8) + 2 * (i % 8)) in
    made _ _ _ 64 h 0 (λ x y q k. search (rules, tests)) c.from_fn.ensures.items
