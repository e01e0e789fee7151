-- What the fields of an auctioneer with its steps keep.
use Rattle.std.specs.Prelude.{◌≡◌, ℕ, ◌<◌, length}
use Rattle.pm_base.specs.Limits.{AreSteps, most_nodes}
use Rattle.pm_relay.specs.Roots.{RootValue}
use Rattle.pm_services.specs.declared.held_root.HeldRoot.TheInside.{Inside}

-- an auctioneer over a basis of so many steps, which has an entry for each child
pub record IsHeldRoot (steps' : ℕ) (r : RootValue) : Type 0 where
  pub basis : AreSteps steps'
  pub steps : r.auction.cache.steps ≡ steps'
  pub children : length r.auction.cache.heads ≡ most_nodes
  -- it cleared last at a step of the basis
  pub inside : r.auction.step < steps'

abbrev pub AreHeldRootFields : Inside → Type 0
AreHeldRootFields inside = IsHeldRoot inside.steps inside.root
