use mathlib.Core.Path.{ap, sym, ◌∙◌}
use native.Mathlib.Omega.{arith}
use Rattle.std.specs.Prelude.{◌≡◌, ◌+◌}
use Rattle.members.specs.Mask.{bits}
use Rattle.text.specs.Text.{each_of}
use Rattle.text.proofs.Laws.{puts_as, room-next, room_as}
use Rattle.lines.specs.Lines.{member_text}
use Rattle.lines.proofs.Eights.{members-each}
use Rattle.lines.proofs.put_members.Goals as goal

pub put_member-requires : goal.put_member-requires
put_member-requires c =
    rw c.at.ensures
    (room-next (λ k. member_text (bits c.args.m) (k + 1)) c.loop-i.i 8 (omega arith) c.loop-i.invariant
    (room_as c.args.page.now (members-each (bits c.args.m)) c.requires))

pub returns : goal.returns
returns c =
    let all : c.loop-i.i ≡ 8 = omega arith in
    puts_as (ap (each_of (λ k. member_text (bits c.args.m) (k + 1))) all ∙ sym (members-each (bits c.args.m)))
    c.loop-i.invariant
