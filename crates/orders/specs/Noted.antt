-- The orders that are kept in a lent list. Cited by the contracts of orders, and by those that make such a list.
-- Assumes nothing.
use Rattle.std.specs.Prelude.{List, ◌≡◌, length}
use Rattle.model.specs.Records.{Record}
use Rattle.orders.specs.declared.Orders.{Orders}
use Rattle.orders.specs.Orders.{orders}

-- The records of those that are kept.
abbrev pub noted : Orders → List Record
noted o = orders o.count o.list.now

-- The list that was lent, with its room: no other slice in place of it.
pub record SameList (o p : Orders) : Type 0 where
  pub list : p.list.ghost_name ≡ o.list.ghost_name
  pub room : length p.list.now ≡ length o.list.now
