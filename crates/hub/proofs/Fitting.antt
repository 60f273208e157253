-- The tests of refusal 1 as the code makes them are those of the model's list that speak of a registry, of a
-- controller. Assumes nothing.
use mathlib.Core.Bool.{Bool, not, ◌&&◌, ◌||◌, and-true}
use mathlib.Core.List.{List, [], ◌∷◌}
use mathlib.Core.Path.{◌≡◌}
use Prim.Native.Nat.{ℕ}
use lib.Dec.{leb, eqb}
use Rattle.model.specs.State.{is_choosing, stage_number}
use Rattle.model.specs.Ranges.{every, eight, view_ranges}
use Rattle.cluster.specs.declared.Registry.{Registry}
use Rattle.cluster.specs.declared.Controller.{Controller}
use Rattle.cluster.specs.Layout.{status_of, stage_of, view_of, at}
use Rattle.hub.specs.Lent.{registry_fits, controller_fits}

abbrev pub registry_tests : Registry → Bool
registry_tests g =
    every (view_ranges (view_of g.view)) && (is_choosing (status_of g.status) || not (eqb g.view.leader 0))

pub registry-fits : (g : Registry) → registry_tests g ≡ registry_fits g
unfolding registry_fits
registry-fits g = rw (and-true (is_choosing (status_of g.status) || not (eqb g.view.leader 0)))

-- What is heard, by board.
abbrev pub hearings : List ℕ → List ℕ → Bool
hearings heard joined = every (eight (λ b. every (leb (at 0 heard b) 513 ∷ leb (at 0 joined b) 4000 ∷ [])))

abbrev pub controller_tests : Controller → Bool
controller_tests c =
    every (view_ranges (view_of c.view))
    && ((eqb (stage_number (stage_of c.stage)) 0 || eqb (stage_number (stage_of c.stage)) 3 || not
    (eqb c.view.leader 0)) && hearings c.heard c.joined)

pub controller-fits : (c : Controller) → controller_tests c ≡ controller_fits c
unfolding controller_fits
controller-fits c = rw (and-true (hearings c.heard c.joined))
