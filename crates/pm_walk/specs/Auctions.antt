-- The plain auction over one cut after another.
use Rattle.std.specs.Prelude.{◌≡◌, ℕ, ◌≤◌, true}
use Rattle.pm_base.specs.Cuts.{Cut}
use Rattle.pm_plan.specs.Plans.{PlanData, is_leaf, end_cut}
use Rattle.pm_walk.specs.Clearing.{ArePowers}
use Rattle.pm_walk.specs.Runs.{IsRun}
use Rattle.pm_walk.specs.Standing.{cut_made}
use Rattle.pm_walk.specs.declared.auction.CutAuction.{CutAuction}

-- the cut at which an auction stands
abbrev pub auction_cut : CutAuction → Cut
auction_cut auction = cut_made auction.run.standing.progress

-- an auction while the first p phases are closed: what it keeps is that of its cut, which has all changes of these phases,
-- and the powers that the next ticks use are those at the end of phase p
pub record IsAuction (plan : PlanData) (p : ℕ) (auction : CutAuction) : Type 0 where
  pub run : IsRun plan auction.run
  pub begun : (d : ℕ) → is_leaf plan d ≡ true → end_cut plan p d ≤ auction_cut auction d
  pub powers : ArePowers plan (end_cut plan p) auction.powers.items
