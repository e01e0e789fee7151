-- What a guard knows, and what its calls make of it.
use Rattle.std.specs.Prelude.{◌≡◌, ℕ, ◌≤◌, ℤ, int_lt, Bool, false, ◌&&◌, not, if◌then◌else◌, List, [], ◌∷◌, ◌++◌, All}
use Rattle.std.specs.Prelude.{length, slice_get, slice_set, slice_index_or, Option, Some, None}
use Rattle.pm_base.specs.Limits.{most_nodes}
use Rattle.pm_base.specs.declared.limits.Limits.{Limits}
use Rattle.pm_bid.specs.Bids.{demand_at}
use Rattle.pm_guard.specs.Bands.{AreBidBands, greatest_power, least_power, total_by, has_room, kept_after, wants_other}
use Rattle.pm_guard.specs.declared.band.Band.{Band}

-- the limits, and of each child the bands that it may be taking by, oldest first
pub record GuardData : Type 0 where
  pub limits : Limits
  pub held : List (List Band)

-- the most that all children together may be taking, and the least, in watts
abbrev pub worst : GuardData → ℤ
worst guard = total_by greatest_power guard.held

abbrev pub best : GuardData → ℤ
best guard = total_by least_power guard.held

-- whether both are within the limits
abbrev pub is_inside : GuardData → Bool
is_inside guard = not (int_lt guard.limits.ceiling (worst guard)) && not (int_lt (best guard) guard.limits.floor)

-- whether a child may be told a band now; one that is not there may not
abbrev pub may_tell_holder : GuardData → ℤ → ℤ → Option (List Band) → Bool
may_tell_holder guard low high None = false
may_tell_holder guard low high (Some held) =
    has_room guard.limits (worst guard) (best guard) (greatest_power held) (least_power held) low high

abbrev pub may_tell : GuardData → ℕ → ℤ → ℤ → Bool
may_tell guard child low high = may_tell_holder guard low high (slice_get guard.held child)

-- the bands of a child; none if it is not there
abbrev pub bands_of : GuardData → ℕ → List Band
bands_of guard child = slice_index_or guard.held child []

-- the guard with other bands of a child
abbrev pub with_bands : GuardData → ℕ → List Band → GuardData
with_bands guard child bands = record { limits = guard.limits; held = slice_set guard.held child bands }

-- the guard after it told a child a band, if it might
abbrev pub told_in : GuardData → ℕ → Band → GuardData
told_in guard child band =
    if may_tell guard child band.low band.high then with_bands guard child (bands_of guard child ++ band ∷ []) else guard

-- the guard after it heard that a child promised to take nothing below the index any more
abbrev pub promised_in : GuardData → ℕ → ℕ → GuardData
promised_in guard child index = with_bands guard child (kept_after (bands_of guard child) index)

-- the guard under other limits
abbrev pub under_limits : GuardData → Limits → GuardData
under_limits guard limits = record { limits = limits; held = guard.held }

-- whether a child was told something else than its target last, and may be told the target now
abbrev pub may_choose : GuardData → List ℤ → ℕ → Bool
may_choose guard targets child =
    wants_other (bands_of guard child) (demand_at targets child)
    && may_tell guard child (demand_at targets child) (demand_at targets child)

-- what a guard's code keeps beside the bands: there are few children, and the sums are those of their bands
pub record HasSums (held : List (List Band)) (worst best : ℤ) : Type 0 where
  pub few : length held ≤ most_nodes
  pub bands : All AreBidBands held
  pub is_worst : worst ≡ total_by greatest_power held
  pub is_best : best ≡ total_by least_power held
