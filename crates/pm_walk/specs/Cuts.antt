-- A cut as a list of numbers, and where the devices stop on the way to it.
use Rattle.std.specs.Prelude.{◌≡◌, ℕ, min, if◌then◌else◌, List, ◌∷◌}
use Rattle.pm_plan.specs.Plans.{PlanData, is_leaf, end_cut}
use Rattle.pm_base.specs.Cuts.{Cut, cut_of}
use Rattle.pm_walk.specs.Standing.{HaveCome, cut_made}
use Rattle.pm_walk.specs.declared.changes.Progress.{Progress}

-- the cut of a list with one number for each node of the file, in file order; the auctioneer has made no change
abbrev pub file_cut : List ℕ → Cut
file_cut counts = cut_of (0 ∷ counts)

-- of two cuts the one that comes first, for each node
abbrev pub earlier_cut : Cut → Cut → Cut
earlier_cut cut other x = min (cut x) (other x)

-- each node has made its changes of the phases up to p, as far as the cut goes
pub record AreStops (plan : PlanData) (counts : List ℕ) (p : ℕ) (progress : List Progress) : Type 0 where
  pub reached : HaveCome plan progress
  pub cut : cut_made progress ≡ earlier_cut (file_cut counts) (end_cut plan p)

-- the numbers that a cut has of the devices alone
abbrev pub device_cut : PlanData → Cut → Cut
device_cut plan cut x = if is_leaf plan x then cut x else 0
