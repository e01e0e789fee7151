-- Which links the ends of nodes are of.
use Rattle.std.specs.Prelude.{◌≡◌, List, [], ◌∷◌, Some, All, IfSome, slice_get}
use Rattle.pm_cells.specs.Ends.{TableId}
use Rattle.pm_phase.specs.declared.node.FreeNode.{FreeNode}
use Rattle.pm_phase.specs.declared.ends.UpEnd.{UpEnd}
use Rattle.pm_phase.specs.declared.ends.DownEnd.{DownEnd}
use Rattle.pm_phase.specs.declared.closing.Places.{Places}

-- the end is of the link in its place
abbrev pub IsUpOf : List TableId → UpEnd → Type 0
IsUpOf links up = slice_get links up.at ≡ Some up.end.link

abbrev pub IsDownOf : List TableId → DownEnd → Type 0
IsDownOf links down = slice_get links down.at ≡ Some down.end.link

-- each end of the node is of the link in its place
pub record AreOf (links : List TableId) (node : FreeNode) : Type 0 where
  pub up : IfSome node.up (IsUpOf links)
  pub downs : All (IsDownOf links) node.downs.items

-- the ends that came back are of this link
abbrev pub IsPlaced : TableId → Places → Type 0
IsPlaced link places = IfSome places.up (λ end. end.link ≡ link) × IfSome places.down (λ end. end.link ≡ link)

-- the ends in each place are of the link with the same number
abbrev pub ArePlaced : List TableId → List Places → Type 0
ArePlaced [] [] = Unit {0}
ArePlaced [] (p ∷ ps) = ⊥
ArePlaced (l ∷ ls) [] = ⊥
ArePlaced (l ∷ ls) (p ∷ ps) = IsPlaced l p × ArePlaced ls ps
