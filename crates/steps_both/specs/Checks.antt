-- The checks of steps 13 and 15, in the order of document 01, where the majority question is answered: a check's search
-- need not look into the sizes of sets. Cited by the contracts of the functions that answer. Who reads the public
-- promises need not read this: they cite the model. Assumes nothing.
use Rattle.std.specs.Prelude.{Bool, List, [], ◌∷◌, ℕ, eqb}
use Rattle.model.specs.Prelude.{Check, ◌else◌}
use Rattle.model.specs.State as M
use Rattle.model.specs.Steps.{raise}
use Rattle.members.specs.Mask.{bits}
use Rattle.cluster.specs.declared.Registry.{Registry}
use Rattle.cluster.specs.declared.Controller.{Controller}
use Rattle.cluster.specs.Layout.{registry_of}
use Rattle.cluster.specs.Stages.{at_stage}

-- Step 13: "stage boards [15]; controller and registry epochs equal [16]; some majority of the controller's members are
-- each heard, at a length not below the leader's heard one [14]; raise".
abbrev pub set_normal_checks : Registry → Controller → Bool → List Check
set_normal_checks r c enough =
    (at_stage c.stage M.boards else 15)
    ∷ (eqb c.view.epoch r.view.epoch else 16)
    ∷ (enough else 14)
    ∷ raise (registry_of r) ∷ []

-- Step 15, of b, which is a board: "stage choosing [15]; b is in the controller's members [5]; controller and registry
-- epochs equal [16]; some majority of the controller's members contains b, all heard, none ranked above b [14]; raise".
abbrev pub install_checks : Registry → Controller → ℕ → Bool → List Check
install_checks r c b enough =
    (at_stage c.stage M.Stage.choosing else 15)
    ∷ (bits c.view.members b else 5)
    ∷ (eqb c.view.epoch r.view.epoch else 16)
    ∷ (enough else 14)
    ∷ raise (registry_of r) ∷ []
