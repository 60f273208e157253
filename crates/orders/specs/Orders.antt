-- Orders: a list of records in few bytes. Cited by the contracts of orders, and by those that make such a list.
-- Assumes nothing.
use Rattle.std.specs.Prelude.{List, [], ◌++◌, ℕ, zero, suc, length, get_or, replicate}
use Rattle.model.specs.Records.{Record, of}
use Rattle.orders.specs.declared.Order.{Order}

-- The records of an order.
abbrev pub ordered : Order → List Record
ordered o = replicate o.times (of o.step o.board)

abbrev pub no_order : Order
no_order = record { step = 0; board = 0; times = 0 }

-- The records of the first k orders:
unfoldable pub orders : ℕ → List Order → List Record
orders zero os = []
orders (suc k) os = orders k os ++ ordered (get_or os k no_order)

-- those of all.
abbrev pub all_of : List Order → List Record
all_of os = orders (length os) os
