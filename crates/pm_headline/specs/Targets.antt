-- What the answers to targets tell: where the market would clear if so much power were taken off its total.
use Rattle.std.specs.Prelude.{◌≡◌, ℕ, ℤ, List}
use Rattle.pm_bid.specs.Clearing.{Clears}
use Rattle.pm_plan.specs.Plans.{PlanData, phases, end_cut}
use Rattle.pm_plan.specs.Auction.{total}
use Rattle.pm_plan.specs.States.{state}
use Rattle.pm_ask.specs.Asked.{less_target, asked_step}
use Rattle.pm_ask.specs.Breaks.{AreBreaks}
use Rattle.pm_ask.specs.Curves.{breaks_of}
use Rattle.pm_ask.specs.Texts.{ask_text}

-- the text answers these targets over the total of the plain auction at the end of the last phase: the step of a target is
-- that at which the market clears with the target taken off; and the curve has the targets of each step
pub record AnswersTargets (plan : PlanData) (targets : List ℤ) (text : List ℕ) : Type 0 where
  pub sum : List ℤ
  pub over : sum ≡ total plan (state plan) (end_cut plan (phases plan))
  pub written : text ≡ ask_text plan.basis sum targets
  pub clears : (target : ℤ) → Clears (less_target target sum) (asked_step target sum)
  pub curve : AreBreaks sum (breaks_of sum)
