-- Replicas, sets of replicas, and the majority. Cited by State, Steps, Claim and most contracts. Assumes nothing.
use Rattle.std.specs.Prelude.{Bool, false, cond, ◌&&◌, ℕ, ◌+◌, ◌/◌, leb, eqb}

-- A replica (document 01: board): 1 to 8. 0 is no board.
abbrev pub is_replica : ℕ → Bool
is_replica b = leb 1 b && leb b 8

-- Members: a set of replicas.
abbrev pub Members : Type 0
Members = ℕ → Bool

-- No replica.
abbrev pub none : Members
none x = false

-- The replica b alone.
abbrev pub only : ℕ → Members
only b x = eqb x b

-- Those of m that are in q too.
infixl 35 ◌∩◌
abbrev pub ◌∩◌ : Members → Members → Members
◌∩◌ m q x = m x && q x

abbrev pub bit : Bool → ℕ
bit b = cond b 1 0

-- How many replicas a set has.
abbrev pub size : Members → ℕ
size m = bit (m 1) + bit (m 2) + bit (m 3) + bit (m 4) + bit (m 5) + bit (m 6) + bit (m 7) + bit (m 8)

-- "A majority of n boards is n/2 rounded down, plus 1."
abbrev pub quorum : ℕ → ℕ
quorum n = n / 2 + 1

-- q, which are members of m, are a majority: at least as many as one of m has.
abbrev pub is_quorum : Members → Members → Bool
is_quorum m q = leb (quorum (size m)) (size q)

-- The lowest replica of a set, 0 for the empty set.
abbrev pub lowest : Members → ℕ
lowest m =
    cond (m 1) 1 (cond (m 2) 2 (cond (m 3) 3 (cond (m 4) 4
    (cond (m 5) 5 (cond (m 6) 6 (cond (m 7) 7 (cond (m 8) 8 0)))))))
