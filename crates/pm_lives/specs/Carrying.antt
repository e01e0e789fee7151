-- How frames come from node to node, and how lives begin.
use Rattle.std.specs.Prelude.{◌≡◌, ℕ, if◌then◌else◌, List, [], Option, Some, None}
use Rattle.pm_base.specs.declared.limits.Limits.{Limits}
use Rattle.pm_net.specs.Messages.{BidMessage, PriceMessage}
use Rattle.pm_wire.specs.declared.frame.Frame.{Frame}
use Rattle.pm_wire.specs.declared.frame.Frame.TheVariants.{Hello, Bid, Gone}
use Rattle.pm_relay.specs.Relays.{RelayValue, RelayComesBack}
use Rattle.pm_frames.specs.declared.parent.ParentFrame.{ParentFrame}
use Rattle.pm_frames.specs.declared.parent.ParentFrame.TheVariants.{Price}
use Rattle.pm_frames.specs.declared.relay.RelayFrame.{RelayFrame}
use Rattle.pm_frames.specs.declared.relay.RelayFrame.TheVariants as relay_frame
use Rattle.pm_basis.specs.declared.basis.Basis.{Basis}
use Rattle.pm_basis.specs.Prices.{BasisValue}
use Rattle.pm_services.specs.RelayAnswers.{RelayServiceValue, AnswersRelay}
use Rattle.pm_services.specs.RelayWrites.{WaitingRelay}
use Rattle.pm_services.specs.Bounds.{no_bounds}
use Rattle.pm_services.specs.RelaySetups.{RelaySetup}
use Rattle.pm_services.specs.Outputs.{Output}
use Rattle.pm_services.specs.RelayWrites.{WritesKept}
use Rattle.pm_services.specs.RootAnswers.{OpenRoot}
use Rattle.pm_frames.specs.Stored.{StoredRelay, StoredRoot, relay_resume_bytes, agent_resume_bytes}
use Rattle.pm_frames.specs.declared.root.RootFrame.TheVariants as root_frame
use Rattle.pm_control.specs.Control.{agent_stored}
use Rattle.pm_relay.specs.Roots.{RootComesBack}
use Rattle.pm_services.specs.RootAnswers.{AnswersRoot}
use Rattle.pm_lives.specs.Lives.{no_root_stored, restart_outs}
use Rattle.pm_frames.specs.declared.stored.StoredAgent.{StoredAgent}
use Rattle.pm_net.specs.Pricing.{Pricing}
use Rattle.pm_services.specs.DeviceAnswers.{DeviceServiceValue}
use Rattle.pm_services.specs.Outputs.{outputs_bytes}
use Rattle.pm_lives.specs.RelayLife.{no_relay_stored}

-- ---- messages as frames

-- the frame of a bid, of the child with this number at its parent
abbrev pub bid_frame : ℕ → BidMessage → Frame
bid_frame child bid = if bid.gone then Gone child bid.number else Bid child bid.number bid.demand

-- the frame of limits, which are given under the number of a message
abbrev pub limits_frame : BidMessage → Limits → RelayFrame
limits_frame bid limits = relay_frame.Limits bid.number limits

-- the frame of a price for the child with this number
abbrev pub price_frame : BasisValue → ℕ → PriceMessage → ParentFrame
price_frame basis child price = Price child price.number price.index price.step basis

-- ---- the start of a life

-- what a relay's service knows of itself once it was given this basis
abbrev pub setup_for : RelayServiceValue → BasisValue → RelaySetup
setup_for old basis' = record { child = old.child; terms = old.terms; basis = basis' }

-- The service of a relay was given Hello, and then a Resume with what is stored, or nothing where nothing is. Behind Hello its answers
-- are these bytes.
pub data RelayIsGiven (old : RelayServiceValue) (basis : Basis) (after : RelayServiceValue) : StoredRelay → List ℕ → Type 0 where
  hello : (reply : List ℕ) → AnswersRelay old (relay_frame.Child (Hello basis)) after reply →
      RelayIsGiven old basis after (no_relay_stored (setup_for old basis)) reply
  resumed : (mid : RelayServiceValue) (reply more : List ℕ) (stored : StoredRelay) → AnswersRelay old (relay_frame.Child (Hello basis)) mid reply →
      AnswersRelay mid (relay_frame.Resume stored) after more → RelayIsGiven old basis after stored more

-- it is a relay that comes back with that, and learnt the limits that it was given last
pub record RelayIsBack (old : RelayServiceValue) (basis : BasisValue) (after : RelayServiceValue) (stored : StoredRelay) (reply : List ℕ) : Type 0 where
  pub relay : RelayValue
  pub back : RelayComesBack basis.steps old.terms.limits stored.last stored.answered stored.index stored.numbers stored.limits relay
  pub held : WaitingRelay
  pub relay_is : after.relay ≡ Some (record { setup = setup_for old basis; bounds = no_bounds; held = held })
  pub outs : List (Output StoredRelay)
  pub learns : WritesKept old.terms.giver (setup_for old basis) (record { relay = relay; waiting = None }) stored held outs
  pub written : reply ≡ outputs_bytes relay_resume_bytes basis old.child outs

-- The service of an auctioneer was given Hello, and then a Resume with what is stored, or nothing where nothing is.
pub data RootIsGiven (basis : Basis) (after : Option OpenRoot) : StoredRoot → Type 0 where
  root_hello : (reply : List ℕ) → AnswersRoot None (root_frame.Market (Hello basis)) after reply → RootIsGiven basis after (no_root_stored basis)
  root_resumed : (mid : Option OpenRoot) (reply more : List ℕ) (stored : StoredRoot) → AnswersRoot None (root_frame.Market (Hello basis)) mid reply →
      AnswersRoot mid (root_frame.Resume stored) after more → RootIsGiven basis after stored

pub record RootIsBack (basis : BasisValue) (after : Option OpenRoot) (stored : StoredRoot) : Type 0 where
  pub up_root : OpenRoot
  pub root_is : after ≡ Some up_root
  pub basis_is : up_root.basis ≡ basis
  pub bounds_are : up_root.bounds ≡ no_bounds
  pub back : RootComesBack basis.steps stored.last stored.numbers up_root.root

-- the service of a device was given Hello, and then a Resume with what is stored: it is an agent that comes back with that, and it
-- wrote its newest bid
pub record DeviceIsBack (p : Pricing) (child : ℕ) (basis' : BasisValue) (after : DeviceServiceValue) (stored : StoredAgent)
    (reply more : List ℕ) : Type 0 where
  pub device_is : after.device ≡ Some (record { agent = agent_stored stored.number stored.newest stored.index; basis = basis' })
  pub silent : reply ≡ []
  pub written : more ≡ outputs_bytes agent_resume_bytes basis' child (restart_outs p stored)
