-- What a device of a network goes by: it drops the price of a former membership.
use Rattle.std.specs.Prelude.{◌≡◌, ℕ, ◌≤◌, Bool, true, ◌&&◌, nat_lt, nat_le, if◌then◌else◌, Option, Some, None}
use Rattle.pm_market.specs.Lists.{Lists, is_member}
use Rattle.pm_market.specs.State.{State, cleared_cut}
use Rattle.pm_market.specs.Held.{last_join}
use Rattle.pm_net.specs.Pricing.{Pricing}
use Rattle.pm_net.specs.Network.{Network}

-- whether a device goes by the price that it holds: it is a member now, and the number that the price names is at least that
-- of its last join
abbrev pub goes_by_its_price : Lists → Network → ℕ → Bool
goes_by_its_price lists net d =
    nat_lt 0 (net.taken d).index && is_member lists d (net.counts d) && nat_le (last_join lists d (net.counts d)) (net.taken d).number

-- the step and the number that it goes by, or none
abbrev pub goes_by : Lists → Network → ℕ → Option (ℕ × ℕ)
goes_by lists net d = if goes_by_its_price lists net d then Some ((net.taken d).step, (net.taken d).number) else None

-- what a device goes by, if this is it, is of the clearing of the price that it holds: its number there, under which it is a
-- member and which is not older than its last join, and its local step
pub record IsOfItsClearing (lists : Lists) (p : Pricing) (net : Network) (s : State) (d step number : ℕ) : Type 0 where
  pub number_is : number ≡ cleared_cut s (net.taken d).index d
  pub member : is_member lists d number ≡ true
  pub joined : last_join lists d (net.counts d) ≤ number
  pub step_is : step ≡ p.local (cleared_cut s (net.taken d).index) d
