-- What the summary of a demo tells: it adds up the ends of the run of a plan that the size and the number determine.
use Rattle.std.specs.Prelude.{◌≡◌, ℕ, List, Ok}
use Rattle.pm_plan.specs.Plans.{PlanData}
use Rattle.pm_plan.specs.Kept.{IsPlan}
use Rattle.pm_plan.specs.Auction.{EndData}
use Rattle.pm_gen.specs.Demo.{demo_plan}
use Rattle.pm_report.specs.Summary.{summary_text}
use Rattle.pm_headline.specs.Reports.{AreAuctionEnds}

-- the text is the summary of the demo cluster of this size and number
pub record TellsDemo (size number : ℕ) (text : List ℕ) : Type 0 where
  pub plan : PlanData
  pub means : demo_plan size number ≡ Ok plan
  pub is_plan : IsPlan plan
  pub ends : List EndData
  pub are_ends : AreAuctionEnds plan ends
  pub written : text ≡ summary_text size number plan ends
