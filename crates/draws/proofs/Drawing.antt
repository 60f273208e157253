-- A draw and a record, as the code makes them. Assumes nothing.
use Rattle.std.proofs.Common.{◌≡◌, ℕ, ◌*◌, ◌/◌, ◌%◌, ◌^◌, ◌<◌, sym, ◌∙◌, mod-eq_of_lt, arith}
use lib.Bits.{bit_xor, xor_lt, xor_mod}
use Rattle.draws.specs.Draws.{draw}

-- Of what is shifted left the low 32 bits are kept before the exclusive-or, as well as after it.
pub low_first : (s : ℕ) → s < 2 ^ 32 → let t = bit_xor s (s / 2 ^ 16) in bit_xor t (t * 2 ^ 7 % 2 ^ 32) ≡ draw s
unfolding draw
low_first s h =
    let t = bit_xor s (s / 2 ^ 16) in
    let l : t < 2 ^ 32 = xor_lt 32 s (s / 2 ^ 16) h (omega arith) in
    sym (xor_mod t (t * 2 ^ 7) 32 ∙ rw (mod-eq_of_lt l))

pub draw-small : (s : ℕ) → draw s < 2 ^ 32
unfolding draw
draw-small s = omega arith
