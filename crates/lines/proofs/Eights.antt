-- Eight texts, one after the other, as a loop writes them. Assumes nothing.
use mathlib.Core.List.{append_assoc}
use mathlib.Core.Path.{◌≡◌, refl}
use Prim.Native.Nat.{ℕ, ◌+◌}
use Rattle.model.specs.Members.{Members}
use Rattle.text.specs.Text.{Text, each_of}
use Rattle.lines.specs.Lines.{eight, member_text, members_text}

pub eight-each : (text : ℕ → Text) → eight text ≡ each_of (λ k. text (k + 1)) 8
unfolding each_of
eight-each text = simp append_assoc refl

pub members-each : (m : Members) → members_text m ≡ each_of (λ k. member_text m (k + 1)) 8
unfolding members_text
members-each m = eight-each (member_text m)
