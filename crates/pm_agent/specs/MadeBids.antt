-- What a device's next change makes of it.
use Rattle.std.specs.Prelude.{◌≡◌, ◌≢◌, ℕ, ℤ, true, false, if◌then◌else◌, List, length}
use Rattle.pm_bid.specs.Bids.{zeros}
use Rattle.pm_device.specs.declared.kind.Kind.{Kind}
use Rattle.pm_device.specs.declared.kind.Kind.TheVariants.{Manual}
use Rattle.pm_device.specs.declared.state.Next.{Next}
use Rattle.pm_strategy.specs.Strategies.{bid_of}

-- a change, the device's kind, and its demand afterwards, in watts at each step
pub record MadeBid : Type 0 where
  pub next : Next
  pub kind : Kind
  pub demand : List ℤ

-- the demand of a device after a change: none if it is no member then, else its bid in its state then
abbrev pub demand_after_change : Kind → Next → List (List ℤ) → ℕ → List ℤ
demand_after_change kind next arrays steps = if next.member then bid_of kind next.state.0 arrays steps else zeros steps

-- the demand is that of the change; for a manual device that is a member it is an array of the caller's
pub record IsMade (made : MadeBid) : Type 0 where
  pub gone : made.next.member ≡ false → made.demand ≡ zeros (length made.demand)
  pub strategic : made.next.member ≡ true → made.kind ≢ Manual → (arrays : List (List ℤ)) →
      made.demand ≡ bid_of made.kind made.next.state.0 arrays (length made.demand)
