-- Of `Levels::fill`: what it ensures; what its calls of `fill_range` require.
use Rattle.std.proofs.Common.{◌≡◌, ◌∙◌, sym, ℕ, ◌<◌, ◌≤◌, pos, ◌<ℤ◌, ◌≤ℤ◌, length, inl, inr}
use Rattle.std.proofs.Common.{arith, rules, w64, FitsSigned}
use Rattle.std.proofs.lemmas.Bool.{cases_lt}
use Rattle.std.proofs.lemmas.Int.{to_z-of_z}
use Rattle.pm_bid.proofs.EachStep.{same_bids}
use Rattle.pm_bid.specs.Bids.{demand_at}
use Rattle.pm_strategy.specs.Levels.{level_at}
use Rattle.pm_strategy.proofs.LevelLaws.{level_at-first, level_at-second, level_at-third}
use Rattle.pm_strategy.proofs.StepLists.{length-by_step, by_step-at}
use Rattle.pm_strategy.proofs.levels.Levels.fill.Goals as goal
use Rattle.pm_strategy.proofs.levels.Levels.fill.Goals.{After-first_step-third, After-fill_range-3}

second_behind : (c : After-first_step-third) (step : ℕ) → c.first_step-second.result ≤ step → step < c.steps-steps.result →
    c.args.self.now.first_end ≤ℤ pos step
second_behind c step from inside =
    let fits : FitsSigned w64 c.args.self.now.first_end = search rules in
    rw (← to_z-of_z w64 _ fits) (c.first_step-second.ensures.behind step from inside)

second_before : (c : After-first_step-third) (step : ℕ) → 0 ≤ step → step < c.first_step-second.result →
    pos step <ℤ c.args.self.now.first_end
second_before c step from before =
    let fits : FitsSigned w64 c.args.self.now.first_end = search rules in
    rw (← to_z-of_z w64 _ fits) (c.first_step-second.ensures.before step from before)

third_before : (c : After-first_step-third) (step : ℕ) → c.first_step-second.result ≤ step → step < c.first_step-third.result →
    pos step <ℤ c.args.self.now.second_end
third_before c step from before =
    let fits : FitsSigned w64 c.args.self.now.second_end = search rules in
    rw (← to_z-of_z w64 _ fits) (c.first_step-third.ensures.before step from before)

third_behind : (c : After-first_step-third) (step : ℕ) → c.first_step-third.result ≤ step → step < c.steps-steps.result →
    c.args.self.now.second_end ≤ℤ pos step
third_behind c step from inside =
    let fits : FitsSigned w64 c.args.self.now.second_end = search rules in
    rw (← to_z-of_z w64 _ fits) (c.first_step-third.ensures.behind step from inside)

pub fill_range-requires-2-clause-within : goal.fill_range-requires-2-clause-within
fill_range-requires-2-clause-within c = λ some.
    let at = (goal.at.fill_range-requires-2-clause-within c).After-first_step-third in
    let fits : FitsSigned w64 c.args.self.now.second = search rules in
    let is = level_at-second c.args.self.now c.first_step-second.result
    (second_behind at _ (omega arith) (omega (arith, c.first_step-third.ensures.below, some)))
    (third_before at _ (omega arith) some) in
    rw (to_z-of_z w64 _ fits, ← is) (c.requires.within c.first_step-second.result)

pub fill_range-requires-3-clause-within : goal.fill_range-requires-3-clause-within
fill_range-requires-3-clause-within c = λ some.
    let at = (goal.at.fill_range-requires-3-clause-within c).After-first_step-third in
    let fits : FitsSigned w64 c.args.self.now.third = search rules in
    let is = level_at-third c.args.self.now c.first_step-third.result
    (second_behind at _ c.first_step-third.ensures.above some) (third_behind at _ (omega arith) some) in
    rw (to_z-of_z w64 _ fits, ← is) (c.requires.within c.first_step-third.result)

-- at each step the bid has the level of that step
filled_at : (c : After-fill_range-3) (step : ℕ) → step < length c.args.out.now →
    demand_at c.fill_range-3.new.out step ≡ level_at c.args.self.now step
filled_at c step inside =
    let at = (goal.at.returns c).After-first_step-third in
    let first_fits : FitsSigned w64 c.args.self.now.first = search rules in
    let second_fits : FitsSigned w64 c.args.self.now.second = search rules in
    let third_fits : FitsSigned w64 c.args.self.now.third = search rules in
    elim (cases_lt step c.first_step-second.result) [
      | inl first ↦
          c.fill_range-3.ensures.before step (omega (arith, first, c.first_step-third.ensures.above))
          ∙ c.fill_range-2.ensures.before step first
          ∙ c.fill_range.ensures.filled step (omega arith) first
          ∙ to_z-of_z w64 _ first_fits
          ∙ sym (level_at-first c.args.self.now step (second_before at step (omega arith) first))
      | inr past ↦ elim (cases_lt step c.first_step-third.result) [
        | inl second ↦
            c.fill_range-3.ensures.before step second
            ∙ c.fill_range-2.ensures.filled step past second
            ∙ to_z-of_z w64 _ second_fits
            ∙ sym (level_at-second c.args.self.now step (second_behind at step past (omega arith)) (third_before at step past second))
        | inr third ↦
            c.fill_range-3.ensures.filled step third (omega arith)
            ∙ to_z-of_z w64 _ third_fits
            ∙ sym (level_at-third c.args.self.now step (second_behind at step past (omega arith)) (third_behind at step third (omega arith)))
      ]
    ]

pub returns : goal.returns
returns c = record {
  bid = same_bids _ _ (omega (arith, length-by_step (length c.args.out.now) (level_at c.args.self.now)))
      (λ step inside. filled_at c step (omega arith) ∙ sym (by_step-at _ _ step (omega arith)));
}
