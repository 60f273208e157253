-- What a row's type fixes, that an outline fixes its row and a set its mask. Cited by the promises of `steps::claim`,
-- `hub::claim` and `image::claim`. Assumes nothing.
use Rattle.std.specs.Prelude.{◌≡◌, ℕ, ◌<◌, length}
use Rattle.cluster.specs.declared.Controller.{Controller}
use Rattle.cluster.specs.declared.Cluster.{Cluster}
use Rattle.cluster.specs.Layout.{bits, at, no_view, outline_of}
use Rattle.refinement.specs.Refinement.{Shape}

-- What a controller's type fixes: the lengths of its arrays, and that its members are a mask.
pub record TypedController (c : Controller) : Type 0 where
  pub heard : length c.heard ≡ 8
  pub joined : length c.joined ≡ 8
  pub members : c.view.members < 256

-- What a row's type fixes.
pub record Typed (row : Cluster) : Type 0 where
  pub shape : Shape row
  pub controller : TypedController row.controller
  pub registry : row.registry.view.members < 256
  pub views : (b : ℕ) → (at no_view row.views b).members < 256

-- Two rows with one outline are the same row: a promise that gives a row's outline gives the whole row.
unfoldable pub RowsFixed : Type 0
RowsFixed = (row row' : Cluster) → Typed row → Typed row' → outline_of row ≡ outline_of row' → row ≡ row'

-- Two masks of one set are the same mask: a promise that gives a set gives the mask.
unfoldable pub MasksFixed : Type 0
MasksFixed = (q r : ℕ) → q < 256 → r < 256 → bits q ≡ bits r → q ≡ r
