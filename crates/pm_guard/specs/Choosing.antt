-- A guard of which all is promised, and one tell after another, each promised before the next.
use Rattle.std.specs.Prelude.{◌≡◌, ℕ, ◌+◌, ◌<◌, ℤ, pos, neg_ℤ, ◌+ℤ◌, ◌≤ℤ◌, true, if◌then◌else◌}
use Rattle.std.specs.Prelude.{◌-ℤ◌, ◌++◌, List, [], ◌∷◌, length, slice_set, map, ⊤}
use Rattle.pm_base.specs.Limits.{demand_limit}
use Rattle.pm_base.specs.declared.limits.Limits.{Limits}
use Rattle.pm_bid.specs.Bids.{demand_at, AllWithinLimit}
use Rattle.pm_guard.specs.Bands.{greatest_power, least_power, total_by, is_other_power}
use Rattle.std.specs.Int.{int_max, int_min}
use Rattle.pm_guard.specs.Guards.{GuardData, may_choose}
use Rattle.pm_guard.specs.declared.band.Band.{Band}

-- a child that promised to go by the power that it was told last
abbrev pub holds_only : ℤ → List Band
holds_only power = record { index = 0; low = power; high = power } ∷ []

-- a guard of which each child promised to go by this power
abbrev pub settled_guard : Limits → List ℤ → GuardData
settled_guard limits taken = record { limits = limits; held = map holds_only taken }

-- a sum of powers
abbrev pub same_power : ℤ → ℤ
same_power power = power

abbrev pub sum_of_powers : List ℤ → ℤ
sum_of_powers powers = total_by same_power powers

-- each child moves by at most m
abbrev pub MovesAtMost : ℤ → List ℤ → List ℤ → Type 0
MovesAtMost m taken targets = (child : ℕ) → child < length taken →
    (demand_at taken child ≤ℤ (demand_at targets child +ℤ m)) × (demand_at targets child ≤ℤ (demand_at taken child +ℤ m))

-- The premises. There are as many targets as powers, each one that a bid may have. What is taken is within the limits. The sum of the
-- targets is within them by the margin m, and no child moves by more than m.
pub record HasMargin (limits : Limits) (m : ℤ) (taken targets : List ℤ) : Type 0 where
  pub many : length targets ≡ length taken
  pub small : AllWithinLimit demand_limit taken
  pub small_targets : AllWithinLimit demand_limit targets
  pub floor : limits.floor ≤ℤ sum_of_powers taken
  pub ceiling : sum_of_powers taken ≤ℤ limits.ceiling
  pub floor_margin : (limits.floor +ℤ m) ≤ℤ sum_of_powers targets
  pub ceiling_margin : (sum_of_powers targets +ℤ m) ≤ℤ limits.ceiling
  pub moves : MovesAtMost m taken targets

-- a child that is there and may be chosen
pub record IsChoice (guard : GuardData) (targets : List ℤ) (child : ℕ) : Type 0 where
  pub inside : child < length guard.held
  pub chosen : may_choose guard targets child ≡ true

-- a run of tells, each of a child that may be chosen, and promised before the next
abbrev pub IsTellRun : Limits → List ℤ → List ℤ → List ℕ → Type 0
IsTellRun limits targets taken [] = ⊤
IsTellRun limits targets taken (child ∷ children) =
    IsChoice (settled_guard limits taken) targets child × IsTellRun limits targets (slice_set taken child (demand_at targets child)) children

-- what is taken after it
abbrev pub after_run : List ℤ → List ℤ → List ℕ → List ℤ
after_run targets taken [] = taken
after_run targets taken (child ∷ children) = after_run targets (slice_set taken child (demand_at targets child)) children

-- how many children do not take their target
abbrev pub count_apart : List ℤ → List ℤ → ℕ
count_apart [] targets = 0
count_apart (power ∷ taken) [] = 0
count_apart (power ∷ taken) (target ∷ targets) = if is_other_power power target then 1 + count_apart taken targets else count_apart taken targets

-- what all may be taking at most and at least, once each child is told its target besides
abbrev pub worst_with : List (List Band) → List ℤ → ℤ
worst_with [] targets = pos 0
worst_with (held ∷ helds) [] = greatest_power held +ℤ worst_with helds []
worst_with (held ∷ helds) (target ∷ targets) = int_max (greatest_power held) target +ℤ worst_with helds targets

abbrev pub best_with : List (List Band) → List ℤ → ℤ
best_with [] targets = pos 0
best_with (held ∷ helds) [] = least_power held +ℤ best_with helds []
best_with (held ∷ helds) (target ∷ targets) = int_min (least_power held) target +ℤ best_with helds targets

-- all that is held, and all targets besides, is within the limits together
pub record FitsAtOnce (guard : GuardData) (targets : List ℤ) : Type 0 where
  pub many : length targets ≡ length guard.held
  pub ceiling : worst_with guard.held targets ≤ℤ guard.limits.ceiling
  pub floor : guard.limits.floor ≤ℤ best_with guard.held targets

-- the lower of what each takes and its target
abbrev pub lower_of : List ℤ → List ℤ → List ℤ
lower_of [] targets = []
lower_of (power ∷ taken) [] = []
lower_of (power ∷ taken) (target ∷ targets) = int_min power target ∷ lower_of taken targets

-- limits of so many watts both ways
abbrev pub within_watts : ℕ → Limits
within_watts watts = record { floor = neg_ℤ (pos watts); ceiling = pos watts }

-- a guard of children that promised to go by these powers, and of silent ones of which it holds more
abbrev pub with_silent : Limits → List ℤ → List (List Band) → GuardData
with_silent limits taken silent = record { limits = limits; held = map holds_only taken ++ silent }

-- the limits less what the silent ones may be taking
abbrev pub limits_less : Limits → List (List Band) → Limits
limits_less limits silent = record { floor = limits.floor -ℤ total_by least_power silent; ceiling = limits.ceiling -ℤ total_by greatest_power silent }
