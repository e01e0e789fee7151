-- A demand with at most three levels, as the code keeps it.
use Rattle.std.specs.Prelude.{◌≡◌, ◌≢◌, ℕ, ℤ, pos, int_lt, if◌then◌else◌}
use Rattle.pm_device.specs.declared.kind.Kind.{Kind}
use Rattle.pm_device.specs.declared.kind.Kind.TheVariants.{Manual}
use Rattle.pm_strategy.specs.Strategies.{strategy_demand}
use Rattle.pm_strategy.specs.declared.levels.Levels.{Levels}

-- the demand at a step
abbrev pub level_at : Levels → ℕ → ℤ
level_at levels step =
    if int_lt (pos step) levels.first_end then levels.first
    else (if int_lt (pos step) levels.second_end then levels.second else levels.third)

-- levels that give the demand of a kind in a state, of a kind that has a strategy
pub record AreLevelsOf (kind : Kind) (state : ℤ) (last : ℕ) (levels : Levels) : Type 0 where
  pub strategic : kind ≢ Manual
  pub each : (step : ℕ) → level_at levels step ≡ strategy_demand kind state last step
