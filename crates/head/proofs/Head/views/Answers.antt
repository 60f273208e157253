-- Place by place. Assumes nothing.
use Rattle.std.proofs.Common.{ℕ, ◌+◌, ◌*◌, rules, tests}
use Rattle.cluster.specs.Layout.{no_view}
use Rattle.head.specs.Head.{view_at}
use Rattle.head.proofs.Made.{made}
use Rattle.head.proofs.Head.views.Goals as goal

pub returns : goal.returns
returns c =
    let h = λ (i : ℕ). view_at c.args.self.bytes.now (48 + 26 * i) (54 + 26 * i) in
    made _ _ _ 8 h no_view (λ x y q k. search (rules, tests)) c.from_fn.ensures.items
