-- What the bounds of its children do to the Bids that a process reads.
use Rattle.std.specs.Prelude.{◌≡◌, ℕ, ◌<◌, ◌==◌, if◌then◌else◌, ℤ, List, [], ◌∷◌, Some, ⊤}
use Rattle.pm_base.specs.Limits.{most_nodes}
use Rattle.pm_base.specs.declared.limits.Limits.{Limits}
use Rattle.pm_bid.specs.Limited.{NeverBind}
use Rattle.pm_wire.specs.declared.frame.Frame.TheVariants.{Bid}
use Rattle.pm_relay.specs.Roots.{RootValue}
use Rattle.pm_frames.specs.Answers.{too_much_bytes}
use Rattle.pm_frames.specs.declared.relay.RelayFrame.{RelayFrame}
use Rattle.pm_frames.specs.declared.relay.RelayFrame.TheVariants as relay_frame
use Rattle.pm_frames.specs.declared.root.RootFrame.{RootFrame}
use Rattle.pm_frames.specs.declared.root.RootFrame.TheVariants as root_frame
use Rattle.pm_services.specs.Outputs.{Says}
use Rattle.pm_services.specs.Receipts.{sender_place}
use Rattle.pm_services.specs.RelaySetups.{RelaySetup}
use Rattle.pm_services.specs.RelayWrites.{WaitingRelay, WritesBid, SaysAlone}
use Rattle.pm_services.specs.RootWrites.{WritesRootBid}
use Rattle.pm_processes.specs.RelayProcess.{RelayExchange}
use Rattle.pm_processes.specs.RootProcess.{RootExchange}

-- the bound of each child, by its place, once this one is given
abbrev pub given_bound : (ℕ → Limits) → ℕ → Limits → ℕ → Limits
given_bound bound_at sender bound place = if place == sender_place sender then bound else bound_at place

-- by a frame
abbrev pub bounds_behind : (ℕ → Limits) → RelayFrame → ℕ → Limits
bounds_behind bound_at (relay_frame.Bound sender bound) = given_bound bound_at sender bound
bounds_behind bound_at frame = bound_at

abbrev pub root_bounds_behind : (ℕ → Limits) → RootFrame → ℕ → Limits
root_bounds_behind bound_at (root_frame.Bound sender bound) = given_bound bound_at sender bound
root_bounds_behind bound_at frame = bound_at

-- a Bid within its child's bound counts; of one beyond it that is said, and nothing changes
pub record IsBoundedBid (own : RelaySetup) (bound : Limits) (old : WaitingRelay) (sender number : ℕ) (demand : List ℤ) (e : RelayExchange) :
    Type 0 where
  pub within : NeverBind bound demand → WritesBid own old sender number (Some demand) e.after e.outs
  pub beyond : (NeverBind bound demand → ⊥) → SaysAlone old e.after (too_much_bytes sender number) e.outs

pub record IsBoundedRootBid (bound : Limits) (old : RootValue) (sender number : ℕ) (demand : List ℤ) (e : RootExchange) : Type 0 where
  pub within : NeverBind bound demand → WritesRootBid old sender number (Some demand) e.after e.outs
  pub beyond : (NeverBind bound demand → ⊥) → (e.after ≡ old) × (e.outs ≡ Says (too_much_bytes sender number) ∷ [])

abbrev pub IsBounded : RelaySetup → (ℕ → Limits) → WaitingRelay → RelayExchange → RelayFrame → Type 0
IsBounded own bound_at old e (relay_frame.Child (Bid sender number demand)) =
    sender_place sender < most_nodes → IsBoundedBid own (bound_at (sender_place sender)) old sender number demand e
IsBounded own bound_at old e frame = ⊤

abbrev pub IsRootBounded : (ℕ → Limits) → RootValue → RootExchange → RootFrame → Type 0
IsRootBounded bound_at old e (root_frame.Market (Bid sender number demand)) =
    sender_place sender < most_nodes → IsBoundedRootBid (bound_at (sender_place sender)) old sender number demand e
IsRootBounded bound_at old e frame = ⊤

-- each Bid is bounded by the newest bound of its child in the frames before it
abbrev pub AreBounded : RelaySetup → (ℕ → Limits) → WaitingRelay → List RelayExchange → Type 0
AreBounded own bound_at old [] = ⊤
AreBounded own bound_at old (e ∷ es) = IsBounded own bound_at old e e.frame × AreBounded own (bounds_behind bound_at e.frame) e.after es

abbrev pub AreRootBounded : (ℕ → Limits) → RootValue → List RootExchange → Type 0
AreRootBounded bound_at old [] = ⊤
AreRootBounded bound_at old (e ∷ es) = IsRootBounded bound_at old e e.frame × AreRootBounded (root_bounds_behind bound_at e.frame) e.after es
