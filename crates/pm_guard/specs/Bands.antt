-- What one child was told and may be taking, and when there is room for one more band of powers.
use Rattle.std.specs.Prelude.{◌≡◌, ℕ, ◌-◌, ℤ, pos, neg_ℤ, ◌+ℤ◌, ◌-ℤ◌, int_lt, Bool, true, ◌&&◌, ◌||◌, not}
use Rattle.std.specs.Prelude.{if◌then◌else◌}
use Rattle.std.specs.Prelude.{List, [], ◌∷◌, length, slice_get, Option, Some, None, All, nat_le}
use Rattle.std.specs.Int.{int_max, int_min}
use Rattle.std.specs.List.{fold, filter, list_any, list_all}
use Rattle.pm_base.specs.Limits.{IsWithin, demand_limit}
use Rattle.pm_base.specs.declared.limits.Limits.{Limits}
use Rattle.pm_guard.specs.declared.band.Band.{Band}

-- both ends of a band are powers that a bid may have
pub record IsBidBand (band : Band) : Type 0 where
  pub low : IsWithin demand_limit band.low
  pub high : IsWithin demand_limit band.high

abbrev pub AreBidBands : List Band → Type 0
AreBidBands held = All IsBidBand held

-- the greatest power of these bands, in watts; of no band the least that a bid may have
abbrev pub greater_of : ℤ → Band → ℤ
greater_of power band = int_max power band.high

abbrev pub greatest_power : List Band → ℤ
greatest_power held = fold greater_of (neg_ℤ (pos demand_limit)) held

-- the least power of these bands, in watts; of no band the greatest that a bid may have
abbrev pub smaller_of : ℤ → Band → ℤ
smaller_of power band = int_min power band.low

abbrev pub least_power : List Band → ℤ
least_power held = fold smaller_of (pos demand_limit) held

-- whether a band was told under this index or a later one
abbrev pub is_from : ℕ → Band → Bool
is_from index band = nat_le index band.index

-- What still counts of these bands once the child promised to take nothing below an index any more: those from the index on. All of
-- them if none is, since a child that was told nothing newer takes something all the same.
abbrev pub kept_after : List Band → ℕ → List Band
kept_after held index = if list_any (is_from index) held then filter (is_from index) held else held

-- whether two powers are not the same
abbrev pub is_other_power : ℤ → ℤ → Bool
is_other_power power other = int_lt power other || int_lt other power

-- whether the band told last is anything but this one power
abbrev pub is_other_band : ℤ → Option Band → Bool
is_other_band target None = true
is_other_band target (Some band) = is_other_power band.low target || is_other_power band.high target

abbrev pub wants_other : List Band → ℤ → Bool
wants_other held target = is_other_band target (slice_get held (length held - 1))

-- a sum over a list, in watts
abbrev pub total_by : {A : Type 0} → (A → ℤ) → List A → ℤ
total_by f [] = pos 0
total_by f (x ∷ xs) = f x +ℤ total_by f xs

-- Whether one more power of a child adds to the most that all children may take, and that is above the ceiling then. `most` is the
-- greatest power that the child may be taking.
abbrev pub goes_over : ℤ → ℤ → ℤ → ℤ → Bool
goes_over ceiling worst most power = int_lt most power && int_lt ceiling (worst +ℤ (power -ℤ most))

-- whether it takes from the least that all children may take, and that is below the floor then
abbrev pub goes_under : ℤ → ℤ → ℤ → ℤ → Bool
goes_under floor best least power = int_lt power least && int_lt (best +ℤ (power -ℤ least)) floor

-- whether a child may be told the band from low to high, if all may be taking `worst` at most and `best` at least, and this child `most`
-- and `least`
abbrev pub has_room : Limits → ℤ → ℤ → ℤ → ℤ → ℤ → ℤ → Bool
has_room limits worst best most least low high = not (goes_over limits.ceiling worst most high) && not (goes_under limits.floor best least low)

-- ---- what a child knows

-- whether a band that a child was told still counts, and lets it take this power or less; or this power or more
abbrev pub lets_low : ℕ → ℤ → Band → Bool
lets_low promised power band = nat_le promised band.index && not (int_lt power band.low)

abbrev pub lets_high : ℕ → ℤ → Band → Bool
lets_high promised power band = nat_le promised band.index && not (int_lt band.high power)

-- Whether a child that was told these bands, and promised to take nothing below an index any more, may take all powers from low to high.
-- It may also take those between two bands, as on its way from one to the other.
abbrev pub may_span : List Band → ℕ → ℤ → ℤ → Bool
may_span told promised low high = list_any (lets_low promised low) told && list_any (lets_high promised high) told

-- whether a band allows what another one does: its powers are around it, and it counts as long
abbrev pub is_around : Band → Band → Bool
is_around band other = nat_le band.index other.index && not (int_lt band.low other.low) && not (int_lt other.high band.high)

-- whether what a guard holds of a child allows all that the child was told and that still counts
abbrev pub is_held : List Band → ℕ → Band → Bool
is_held held promised band = not (nat_le promised band.index) || list_any (is_around band) held

abbrev pub are_held : List Band → ℕ → List Band → Bool
are_held held promised told = list_all (is_held held promised) told

-- ---- what the code keeps

-- the powers that a child keeps beside its bands are the greatest and the least of them
pub record HasBandEnds (held : List Band) (most least : ℤ) : Type 0 where
  pub bands : AreBidBands held
  pub is_most : most ≡ greatest_power held
  pub is_least : least ≡ least_power held
