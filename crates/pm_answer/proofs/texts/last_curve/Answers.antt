-- Of `last_curve`: what it ensures; what the call of `curve_of` requires.
use Rattle.std.proofs.Common.{◌≡◌, sym, subst, List, ℤ, IfOk}
use Rattle.pm_bid.specs.Bids.{NeverRises}
use Rattle.pm_plan.specs.Plans.{phases, end_cut}
use Rattle.pm_offer.proofs.Laws.{total_falls}
use Rattle.pm_answer.specs.Answers.{last_total}
use Rattle.pm_answer.proofs.Settled.{settled_total}
use Rattle.pm_answer.proofs.texts.last_curve.Given.{Over}
use Rattle.pm_answer.proofs.texts.last_curve.Goals as goal
use Rattle.pm_answer.proofs.texts.last_curve.Goals.{After-aggregate}

sum_is : (g : Over) (c : After-aggregate g) → c.aggregate.result.now ≡ last_total c.args.plan.now
sum_is g c =
    settled_total c.args.plan.now c.in_ok-board.board c.aggregate.result.now c.basis-basis.ensures.sound c.in_ok-board.ensures.plan
    c.in_ok-board.ensures.settled c.aggregate.ensures.current

pub curve_of-requires : goal.curve_of-requires
unfolding last_total
curve_of-requires g c = record {
  falls = subst NeverRises (sym (sum_is g (goal.at.curve_of-requires g c).After-aggregate))
      (total_falls c.args.plan.now (end_cut c.args.plan.now (phases c.args.plan.now)) c.basis-basis.ensures.sound);
}

pub returns : goal.returns
returns g c =
    subst (λ (t : List ℤ). IfOk c.curve_of.result (λ curve. curve ≡ t)) (sum_is g (goal.at.returns g c).After-aggregate) c.curve_of.ensures
