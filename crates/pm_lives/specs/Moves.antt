-- What a node makes of a frame, as calls of a system.
use Rattle.std.specs.Prelude.{◌≡◌, ◌⊎◌, ℕ, List, [], ◌∷◌, ◌++◌}
use Rattle.pm_market.specs.Lists.{Lists}
use Rattle.pm_net.specs.Pricing.{Pricing}
use Rattle.pm_net.specs.Messages.{BidMessage, PriceMessage}
use Rattle.pm_net.specs.Agents.{Setpoint}
use Rattle.pm_net_plan.specs.Places.{Numbering}
use Rattle.pm_system.specs.System.{System}
use Rattle.pm_system.specs.Calls.{NodeCall, Restarts, Expires, SystemRuns}
use Rattle.pm_lives.specs.Outputs.{WereSent, EachKept, BeginsWithResume}
use Rattle.pm_services.specs.Outputs.{Output}

-- ---- which calls these are

-- no restart of x, and by an `Expires` a device is let go under a number only where that may be
abbrev pub IsCalm : (ℕ → ℕ → Type 0) → ℕ → NodeCall → Type 0
IsCalm Lets x (Restarts y k) = y ≡ x → ⊥
IsCalm Lets x (Expires d n) = Lets d n
IsCalm Lets x call = Unit {0}

abbrev pub AreCalm : (ℕ → ℕ → Type 0) → ℕ → List NodeCall → Type 0
AreCalm Lets x [] = Unit {0}
AreCalm Lets x (call ∷ calls) = IsCalm Lets x call × AreCalm Lets x calls

-- nobody is let go
abbrev pub lets_none : ℕ → ℕ → Type 0
lets_none d n = ⊥

-- ---- what they leave

-- every other node is as it was, and all messages and setpoints that were sent before still were
pub record OnlyMoves (y : ℕ) (sys new : System) : Type 0 where
  pub root : (y ≡ 0 → ⊥) → new.root ≡ sys.root
  pub relays : (z : ℕ) → (z ≡ y → ⊥) → new.relays z ≡ sys.relays z
  pub agents : (z : ℕ) → (z ≡ y → ⊥) → new.agents z ≡ sys.agents z
  pub bids : (x : ℕ) → (more : List BidMessage) × (new.bids_sent x ≡ sys.bids_sent x ++ more)
  pub prices : (x : ℕ) → (more : List PriceMessage) × (new.prices_sent x ≡ sys.prices_sent x ++ more)
  pub setpoints : (x : ℕ) → (more : List Setpoint) × (new.setpoints x ≡ sys.setpoints x ++ more)
  pub untold : (x : ℕ) → (x ≡ y → ⊥) → new.setpoints x ≡ sys.setpoints x

-- Some calls of node y, none of which is a restart; they let go whom they may. After them the system is as `Stands` says. Each
-- message in the frames `outs` was sent by these calls. Each Resume in them may be stored after these calls; and what might be
-- stored before may stay, or the first frame is a Resume.
pub record FollowsByCalls {K : Type 0} (lists : Lists) (p : Pricing) (numbering : Numbering) (Lets : ℕ → ℕ → Type 0)
    (MayBeKept : System → K → Type 0)
    (Stands : System → Type 0) (sys : System) (y : ℕ) (outs : List (Output K)) : Type 0 where
  pub calls : List NodeCall
  pub new : System
  pub runs : SystemRuns lists p numbering sys calls new
  pub only : OnlyMoves y sys new
  pub up : (x : ℕ) → AreCalm Lets x calls
  pub stands : Stands new
  pub sent : WereSent lists p numbering new y outs
  pub kept : EachKept (MayBeKept new) outs
  pub first : ((stored : K) → MayBeKept sys stored → MayBeKept new stored) ⊎ BeginsWithResume outs
