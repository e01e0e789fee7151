-- The breaks of a total as a list, read off its demands.
use Rattle.std.specs.Prelude.{◌≡◌, ℕ, ◌+◌, ◌-◌, ℤ, pos, ◌-ℤ◌, int_lt, nat_lt, Bool, false, if◌then◌else◌, List, length, Option}
use Rattle.std.specs.Prelude.{Some, None}
use Rattle.std.specs.List.{filter_map, range_with_len}
use Rattle.pm_base.specs.Limits.{AreSteps}
use Rattle.pm_bid.specs.Bids.{demand_at, NeverRises}
use Rattle.pm_ask.specs.declared.breaks.Break.{Break}

-- the least target that a step can have: the total there; the last step has none
abbrev pub least_of : List ℤ → ℕ → Option ℤ
least_of total step = if nat_lt (step + 1) (length total) then Some (demand_at total step) else None

-- the greatest target that a step can have: the greatest number below the total at the step before; step 0 has none
abbrev pub greatest_of : List ℤ → ℕ → Option ℤ
greatest_of total step = if nat_lt 0 step then Some (demand_at total (step - 1) -ℤ pos 1) else None

-- whether the greatest is below the least, so that nothing lies between them
abbrev pub are_crossed : Option ℤ → Option ℤ → Bool
are_crossed (Some least) (Some greatest) = int_lt greatest least
are_crossed (Some least) None = false
are_crossed None greatest = false

-- the break of a step, if it has targets
abbrev pub break_at : List ℤ → ℕ → Option Break
break_at total step =
    if are_crossed (least_of total step) (greatest_of total step)
    then None
    else Some (record { step = step; from = least_of total step; to = greatest_of total step })

-- the breaks of a total, by rising steps
abbrev pub breaks_of : List ℤ → List Break
breaks_of total = filter_map (break_at total) (range_with_len 0 (length total))

-- what the type of a curve keeps: its total never rises, and its breaks are those of the total
pub record IsCurve (total : List ℤ) (breaks : List Break) : Type 0 where
  pub steps : AreSteps (length total)
  pub falls : NeverRises total
  pub its_own : breaks ≡ breaks_of total
