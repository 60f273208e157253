-- The set of record numbers that a scratch marks. Cited by the contracts of marks, chains, loading,
-- image and archive. Assumes nothing.
use Rattle.std.specs.Prelude.{Bool, false, ◌||◌, List, ℕ, zero, suc, ◌/◌, ◌%◌, ◌^◌, eqb, get_or}

-- A set of record numbers.
abbrev pub Numbers : Type 0
Numbers = ℕ → Bool

-- The empty one.
abbrev pub none : Numbers
none = λ k. false

-- The set m with k too.
abbrev pub adding : ℕ → Numbers → Numbers
adding k m = λ j. eqb j k || m j

-- The numbers that a reader marks are 1 to this: an image's length is "258 plus 8 times 0 to 4,608".
abbrev pub most : ℕ
most = 4608

-- The bytes that a scratch must have, a bit for each of these: "with 576 bytes of scratch or more, 3 with fewer"
-- (document 02, Paper 8).
abbrev pub room : ℕ
room = 576

-- The marked numbers of a scratch: k, 1 or more, whose bit is 1. It is the bit k - 1, counted from 0, eight to a byte,
-- the lowest bit of each first; past the end of the scratch nothing is marked.
unfoldable pub marked : List ℕ → Numbers
marked s zero = false
marked s (suc i) = eqb ((get_or s (i / 8) 0 / 2 ^ (i % 8)) % 2) 1
