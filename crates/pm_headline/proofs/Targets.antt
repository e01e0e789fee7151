-- The answers to targets, over the total of the last phase's end.
use Rattle.std.proofs.Common.{◌≡◌, ◌∙◌, ap, refl, ℕ, ℤ, pos, ◌-ℤ◌, List, length, arith}
use Rattle.std.proofs.lemmas.List.{length-map}
use Rattle.pm_bid.proofs.FoundStep.{first_at_most_is_first}
use Rattle.pm_plan.specs.Plans.{PlanData, phases, end_cut}
use Rattle.pm_plan.specs.Kept.{IsPlan}
use Rattle.pm_plan.specs.Auction.{total}
use Rattle.pm_plan.specs.States.{state}
use Rattle.pm_offer.proofs.Falls.{total_falls}
use Rattle.pm_offer.proofs.Steps.{total_steps}
use Rattle.pm_ask.specs.Asked.{less_target}
use Rattle.pm_ask.specs.Texts.{ask_text}
use Rattle.pm_ask.proofs.BreakLists.{breaks_of_are}
use Rattle.pm_answer.specs.Answers.{last_total}
use Rattle.pm_headline.specs.Targets.{AnswersTargets}

-- the text of answers over the last total answers the targets
pub answers_are : (plan : PlanData) (targets : List ℤ) (text : List ℕ) → IsPlan plan → text ≡ ask_text plan.basis (last_total plan) targets →
    AnswersTargets plan targets text
unfolding last_total
answers_are plan targets text is written =
    let sum : List ℤ = total plan (state plan) (end_cut plan (phases plan)) in
    let long : length sum ≡ plan.basis.steps = total_steps plan is (end_cut plan (phases plan)) in
    record {
      sum = sum;
      over = refl;
      written = written;
      clears = λ target.
          first_at_most_is_first (pos 0) (less_target target sum)
          (omega (arith, length-map sum (λ (demand : ℤ). demand -ℤ target), long, is.basis.steps));
      curve = breaks_of_are sum (total_falls plan is (end_cut plan (phases plan))) (omega (arith, long, is.basis.steps));
    }

-- and there is no other such text
pub answers_only : (plan : PlanData) (targets : List ℤ) (text : List ℕ) → AnswersTargets plan targets text →
    text ≡ ask_text plan.basis (total plan (state plan) (end_cut plan (phases plan))) targets
answers_only plan targets text answers = answers.written ∙ ap (λ (sum : List ℤ). ask_text plan.basis sum targets) answers.over
