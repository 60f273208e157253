-- The tests are those of the model's list that speak of a registry.
use Rattle.hub.proofs.Fitting.{registry-fits}
use Rattle.hub.proofs.fits.registry.Goals as goal

pub returns-then-in_range : goal.returns-then-in_range
returns-then-in_range c = rw (← registry-fits c.args.g, ← c.if-in_range.ensures) c.names_leader.ensures

pub returns-else-in_range : goal.returns-else-in_range
returns-else-in_range c = rw (← registry-fits c.args.g, ← c.if-in_range.ensures) c.if-in_range.false
