-- What the fields of the children's bounds keep.
use Rattle.std.specs.Prelude.{◌≡◌, length}
use Rattle.pm_base.specs.Limits.{most_nodes}
use Rattle.pm_services.specs.declared.bounds.Bounds.TheInside.{Inside}

-- there is one for each child
abbrev pub AreBoundsFields : Inside → Type 0
AreBoundsFields inside = length inside.bounds.items ≡ most_nodes
