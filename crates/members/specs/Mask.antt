-- A set of replicas as a number below 256, a mask. Cited by the contracts of members, and by those that speak of a
-- mask. Assumes nothing.
use Rattle.std.specs.Prelude.{◌&&◌, ℕ, ◌-◌, ◌/◌, ◌%◌, ◌^◌, ltb, eqb}
use Rattle.model.specs.Members.{Members, is_replica}

-- The set that a mask stands for: replica b is the bit b - 1, so replica 1 is the lowest.
unfoldable pub bits : ℕ → Members
bits m b = is_replica b && eqb ((m / 2 ^ (b - 1)) % 2) 1

-- Of the replicas below n those that pass a test: what a loop over the replicas has gathered when it comes to n.
abbrev pub under : ℕ → Members → Members
under n p b = is_replica b && (ltb b n && p b)
