-- What the lent places hold. Cited by the contracts of all that is lent them. Assumes nothing.
use Rattle.std.specs.Prelude.{◌≡◌}
use Rattle.refinement.specs.declared.Lent.{Lent}
use Rattle.refinement.specs.declared.LentMut.{LentMut}
use Rattle.refinement.specs.Refinement.{Places, lent}

-- Lent to be read,
abbrev pub places_of : Lent → Places
places_of p = lent p.store.now p.store2.now p.list.now p.list2.now

-- and lent to be written.
abbrev pub places_in : LentMut → Places
places_in p = lent p.store.now p.store2.now p.list.now p.list2.now

-- The places that were lent: no other slice in place of one.
pub record SameLent (p q : LentMut) : Type 0 where
  pub store : q.store.ghost_name ≡ p.store.ghost_name
  pub store2 : q.store2.ghost_name ≡ p.store2.ghost_name
  pub list : q.list.ghost_name ≡ p.list.ghost_name
  pub list2 : q.list2.ghost_name ≡ p.list2.ghost_name
