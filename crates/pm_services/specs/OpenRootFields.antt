-- What the fields of an auctioneer after Hello stand for, and what they keep.
use Rattle.std.specs.Prelude.{◌≡◌}
use Rattle.pm_services.specs.RootAnswers.{OpenRoot}
use Rattle.pm_services.specs.declared.open_root.OpenRoot.TheInside.{Inside}

abbrev pub open_root_of : Inside → OpenRoot
open_root_of inside = record { basis = inside.basis; bounds = inside.bounds; root = inside.held }

-- the auctioneer has the steps of the basis
abbrev pub AreOpenRootFields : Inside → Type 0
AreOpenRootFields inside = inside.held.auction.cache.steps ≡ inside.basis.steps
