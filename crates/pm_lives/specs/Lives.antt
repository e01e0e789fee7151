-- The lives of the nodes of a market: which process reads which frame, what of its answer the carriers handled, and what is stored.
use Rattle.std.specs.Prelude.{◌≡◌, ◌⊎◌, ℕ, ◌<◌, ◌≤◌, ◌==◌, ◌&&◌, ◌+◌, max, if◌then◌else◌, Bool, true, false}
use Rattle.std.specs.Prelude.{List, [], ◌∷◌, length, take, replicate, Option, Some, None, ⊤}
use Rattle.std.specs.List.{Contains}
use Rattle.pm_base.specs.Limits.{most_nodes}
use Rattle.pm_base.specs.declared.limits.Limits.{Limits}
use Rattle.pm_market.specs.Lists.{Lists, parent, IsNode, IsLeaf, IsConcentrator}
use Rattle.pm_market.specs.State.{update, no_changes}
use Rattle.pm_market.specs.Moves.{after, LegalJournal}
use Rattle.pm_market.specs.declared.moves.Move.{Move}
use Rattle.pm_session.specs.declared.price.PriceUpdate.{PriceUpdate}
use Rattle.pm_net.specs.Pricing.{Pricing}
use Rattle.pm_net.specs.Agents.{Setpoint}
use Rattle.pm_net.specs.Agrees.{IsItsPrice}
use Rattle.pm_net.specs.Devices.{IsRight}
use Rattle.pm_net_plan.specs.Places.{Numbering}
use Rattle.pm_control.specs.Control.{agent_stored}
use Rattle.pm_relay.specs.Relays.{RelayValue, RelayComesBack}
use Rattle.pm_relay.specs.Roots.{RootValue, RootComesBack}
use Rattle.pm_frames.specs.Stored.{StoredRelay, StoredRoot}
use Rattle.pm_frames.specs.declared.stored.StoredAgent.{StoredAgent}
use Rattle.pm_frames.specs.declared.relay.RelayFrame.{RelayFrame}
use Rattle.pm_frames.specs.declared.relay.RelayFrame.TheVariants as relay_frame
use Rattle.pm_frames.specs.declared.root.RootFrame.{RootFrame}
use Rattle.pm_frames.specs.declared.root.RootFrame.TheVariants as root_frame
use Rattle.pm_frames.specs.declared.device.DeviceFrame.{DeviceFrame}
use Rattle.pm_services.specs.RelayWrites.{WaitingRelay}
use Rattle.pm_basis.specs.Prices.{BasisValue}
use Rattle.pm_frames.specs.declared.terms.RelayTerms.{RelayTerms}
use Rattle.pm_relay.specs.Numbers.{child_number}
use Rattle.pm_services.specs.Receipts.{sender_place}
use Rattle.pm_services.specs.RelaySetups.{RelaySetup}
use Rattle.pm_system.specs.System.{System, bid_in_channel, price_in_channel, with_root, with_relay, with_agent, with_setpoints, with_bid_sent, with_prices_sent}
use Rattle.pm_system.specs.Calls.{NodeCall, SystemRuns, StaysUp, bid_kept}
use Rattle.pm_lives.specs.Outputs.{BidWasSent, PriceWasSent}
use Rattle.pm_services.specs.Outputs.{Output, Up, Down, Keeps, Tells, Says}
use Rattle.pm_lives.specs.RelayLife.{CarriesLimits, RelayMayRead, PassesGiver, relay_number, no_relay_stored}
use Rattle.pm_services.specs.RelayWrites.{WritesRelay, WritesKept}
use Rattle.pm_lives.specs.RootLife.{RootMayRead, root_number}
use Rattle.pm_services.specs.RootWrites.{WritesRoot}
use Rattle.pm_lives.specs.DeviceLife.{DeviceMayRead}
use Rattle.pm_services.specs.DeviceWrites.{device_outs, agent_after}

-- ---- the world

-- What there is at a moment: the value of the process of each node, if one runs, with the price that waits at a relay; the bids, prices
-- and setpoints that the carriers handed out; and what is stored of each node. A value of no process says nothing.
pub record World : Type 0 where
  -- the basis that every Hello has, and the arguments of each relay; no step changes these
  pub basis : BasisValue
  pub terms : ℕ → RelayTerms
  pub seen : System
  pub up : ℕ → Bool
  pub waiting : ℕ → Option PriceUpdate
  pub relay_kept : ℕ → StoredRelay
  pub root_kept : StoredRoot
  pub agent_kept : ℕ → StoredAgent
  -- the newest number under which the parent of each device was told to let it go, 0 if it never was
  pub let_go : ℕ → ℕ

-- what relay c knows of itself
abbrev pub setup_of : Numbering → World → ℕ → RelaySetup
setup_of numbering world c = record { child = numbering.place c + 1; terms = world.terms c; basis = world.basis }

-- ---- what the carriers do with frames that y wrote, in their order

-- a bid is for its parent, a price for the child with that number, a setpoint for its control
abbrev pub handed_out : {K : Type 0} → Lists → Numbering → System → ℕ → List (Output K) → System
handed_out lists numbering seen y [] = seen
handed_out lists numbering seen y (Up bid ∷ outs) = handed_out lists numbering (with_bid_sent seen y bid) y outs
handed_out lists numbering seen y (Down place price ∷ outs) =
    handed_out lists numbering (with_prices_sent lists numbering seen y (λ k. if k == place then price ∷ [] else [])) y outs
handed_out lists numbering seen y (Keeps stored ∷ outs) = handed_out lists numbering seen y outs
handed_out lists numbering seen y (Tells setpoint ∷ outs) = handed_out lists numbering (with_setpoints seen y (setpoint ∷ [])) y outs
handed_out lists numbering seen y (Says bytes ∷ outs) = handed_out lists numbering seen y outs

-- the newest Resume is what is stored
abbrev pub stored_last : {K : Type 0} → K → List (Output K) → K
stored_last stored [] = stored
stored_last stored (Up bid ∷ outs) = stored_last stored outs
stored_last stored (Down place price ∷ outs) = stored_last stored outs
stored_last stored (Keeps newer ∷ outs) = stored_last newer outs
stored_last stored (Tells setpoint ∷ outs) = stored_last stored outs
stored_last stored (Says bytes ∷ outs) = stored_last stored outs

-- The carriers handled the first n frames of an answer: the first one at least, where there is one. The rest was lost, as when the
-- process ended with this answer. An answer of which nothing was handled is none: the process ended before it, or all that it wrote
-- from there on was lost.
abbrev pub HandledSome : {K : Type 0} → ℕ → List (Output K) → Type 0
HandledSome n outs = (1 ≤ n) ⊎ (outs ≡ [])

-- a child of y with this number is let go under this number
abbrev pub let_go_by : Lists → Numbering → (y sender number : ℕ) → (ℕ → ℕ) → ℕ → ℕ
let_go_by lists numbering y sender number let_go' d =
    if (parent lists d == y) && (sender == numbering.place d + 1) then max (let_go' d) number else let_go' d

abbrev pub let_go_at_relay : Lists → Numbering → System → ℕ → RelayFrame → (ℕ → ℕ) → ℕ → ℕ
let_go_at_relay lists numbering seen c (relay_frame.Expire sender) let_go' = let_go_by lists numbering c sender (relay_number seen c sender) let_go'
let_go_at_relay lists numbering seen c frame let_go' = let_go'

abbrev pub let_go_at_root : Lists → Numbering → System → RootFrame → (ℕ → ℕ) → ℕ → ℕ
let_go_at_root lists numbering seen (root_frame.Expire sender) let_go' = let_go_by lists numbering 0 sender (root_number seen sender) let_go'
let_go_at_root lists numbering seen frame let_go' = let_go'

-- ---- one step of a life

-- the limits that are stored of a relay, if there is a place in which it is given some and it was, are those of a message of its giver, which
-- was handed out
abbrev pub KeptMayBeLearnt : Lists → Pricing → Numbering → World → ℕ → Type 0
KeptMayBeLearnt lists p numbering world c =
    (giver : ℕ) → (world.terms c).giver ≡ Some giver → 0 < child_number (world.relay_kept c).numbers (sender_place giver) →
    CarriesLimits lists p numbering world.seen c giver (child_number (world.relay_kept c).numbers (sender_place giver)) (world.relay_kept c).limits

-- A process of relay c begins, with Hello, the limits of its arguments and what is stored, by which it learns the limits that it was
-- given last. Of its answer the first n frames are handled. One that ran before has ended, at any byte.
pub record RelayBegins (lists : Lists) (p : Pricing) (numbering : Numbering) (world : World) (c n : ℕ) (new : World) : Type 0 where
  pub conc : IsConcentrator lists c
  pub limited : p.limits c no_changes ≡ Some (world.terms c).limits
  pub relay : RelayValue
  pub after : WaitingRelay
  pub outs : List (Output StoredRelay)
  pub learns : WritesKept (world.terms c).giver (setup_of numbering world c) (record { relay = relay; waiting = None }) (world.relay_kept c) after outs
  pub back : RelayComesBack p.steps (world.terms c).limits (world.relay_kept c).last (world.relay_kept c).answered (world.relay_kept c).index
      (world.relay_kept c).numbers (world.relay_kept c).limits relay
  pub new_is : new ≡ record world {
    seen = handed_out lists numbering (with_relay world.seen c after.relay) c (take n outs);
    up = update world.up c true;
    waiting = update world.waiting c after.waiting;
  }

-- The process of c reads a frame whose messages were handed out, and of its answer the first n frames are handled.
pub record RelayReads (lists : Lists) (p : Pricing) (numbering : Numbering) (world : World) (c : ℕ) (frame : RelayFrame) (n : ℕ) (new : World) :
    Type 0 where
  pub conc : IsConcentrator lists c
  pub runs : world.up c ≡ true
  pub may : RelayMayRead lists p numbering (setup_of numbering world c) world.seen c frame
  pub passes : PassesGiver (world.terms c).giver frame
  pub after : WaitingRelay
  pub outs : List (Output StoredRelay)
  -- the bounds of its children
  pub bounds : List Limits
  pub writes : WritesRelay (setup_of numbering world c) bounds (record { relay = world.seen.relays c; waiting = world.waiting c }) frame after outs
  pub handled : HandledSome n outs
  pub new_is : new ≡ record world {
    seen = handed_out lists numbering (with_relay world.seen c after.relay) c (take n outs);
    waiting = update world.waiting c after.waiting;
    relay_kept = update world.relay_kept c (stored_last (world.relay_kept c) (take n outs));
    let_go = let_go_at_relay lists numbering world.seen c frame world.let_go;
  }

pub record RootBegins (p : Pricing) (world : World) (new : World) : Type 0 where
  pub root : RootValue
  pub back : RootComesBack p.steps world.root_kept.last world.root_kept.numbers root
  pub new_is : new ≡ record world { seen = with_root world.seen root; up = update world.up 0 true }

pub record RootReads (lists : Lists) (p : Pricing) (numbering : Numbering) (world : World) (frame : RootFrame) (n : ℕ) (new : World) : Type 0 where
  pub runs : world.up 0 ≡ true
  pub may : RootMayRead lists p numbering world.seen frame
  pub after : RootValue
  pub outs : List (Output StoredRoot)
  -- the bounds of its children
  pub bounds : List Limits
  pub writes : WritesRoot world.basis bounds world.seen.root frame after outs
  pub handled : HandledSome n outs
  pub new_is : new ≡ record world {
    seen = handed_out lists numbering (with_root world.seen after) 0 (take n outs);
    root_kept = stored_last world.root_kept (take n outs);
    let_go = let_go_at_root lists numbering world.seen frame world.let_go;
  }

-- a device sends its newest bid again, if it made one
abbrev pub restart_outs : Pricing → StoredAgent → List (Output StoredAgent)
restart_outs p stored = if stored.number == 0 then [] else Up (bid_kept p stored.number stored.newest) ∷ []

pub record DeviceBegins (lists : Lists) (p : Pricing) (numbering : Numbering) (world : World) (d n : ℕ) (new : World) : Type 0 where
  pub leaf : IsLeaf lists d
  pub new_is : new ≡ record world {
    seen = handed_out lists numbering (with_agent world.seen d
        (agent_stored (world.agent_kept d).number (world.agent_kept d).newest (world.agent_kept d).index)) d (take n (restart_outs p (world.agent_kept d)));
    up = update world.up d true;
  }

pub record DeviceReads (lists : Lists) (p : Pricing) (numbering : Numbering) (world : World) (d : ℕ) (frame : DeviceFrame) (n : ℕ) (new : World) :
    Type 0 where
  pub leaf : IsLeaf lists d
  pub runs : world.up d ≡ true
  pub may : DeviceMayRead lists p world.basis world.seen d frame
  pub handled : HandledSome n (device_outs p.steps world.basis (world.seen.agents d) frame)
  pub new_is : new ≡ record world {
    seen = handed_out lists numbering (with_agent world.seen d (agent_after (world.seen.agents d) frame)) d
        (take n (device_outs p.steps world.basis (world.seen.agents d) frame));
    agent_kept = update world.agent_kept d (stored_last (world.agent_kept d) (take n (device_outs p.steps world.basis (world.seen.agents d) frame)));
  }

-- ---- lives

pub data LifeStep : Type 0 where
  RelayUp : ℕ → ℕ → LifeStep
  Relay : ℕ → RelayFrame → ℕ → LifeStep
  RootUp : LifeStep
  Root : RootFrame → ℕ → LifeStep
  DeviceUp : ℕ → ℕ → LifeStep
  Device : ℕ → DeviceFrame → ℕ → LifeStep

abbrev pub Lives1 : Lists → Pricing → Numbering → World → LifeStep → World → Type 0
Lives1 lists p numbering world (RelayUp c n) new = RelayBegins lists p numbering world c n new
Lives1 lists p numbering world (Relay c frame n) new = RelayReads lists p numbering world c frame n new
Lives1 lists p numbering world RootUp new = RootBegins p world new
Lives1 lists p numbering world (Root frame n) new = RootReads lists p numbering world frame n new
Lives1 lists p numbering world (DeviceUp d n) new = DeviceBegins lists p numbering world d n new
Lives1 lists p numbering world (Device d frame n) new = DeviceReads lists p numbering world d frame n new

-- one step after the other, by all nodes, in the order in which the carriers handled the answers
abbrev pub Live : Lists → Pricing → Numbering → World → List LifeStep → World → Type 0
Live lists p numbering world [] new = world ≡ new
Live lists p numbering world (step ∷ steps) new = (mid : World) × Lives1 lists p numbering world step mid × Live lists p numbering mid steps new

abbrev pub no_root_stored : BasisValue → StoredRoot
no_root_stored basis' = record { last = 0; basis = basis'; numbers = replicate most_nodes 0 }

abbrev pub no_agent_stored : BasisValue → StoredAgent
no_agent_stored basis' = record { number = 0; index = 0; basis = basis'; newest = None }

-- no process runs, nothing is stored, and nothing was handed out
pub record IsNewWorld (p : Pricing) (numbering : Numbering) (world : World) : Type 0 where
  pub up : (y : ℕ) → world.up y ≡ false
  -- each relay has the limits of its first start in its arguments
  pub limits : (c : ℕ) (limits : Limits) → p.limits c no_changes ≡ Some limits → (world.terms c).limits ≡ limits
  pub relay_kept : (c : ℕ) → world.relay_kept c ≡ no_relay_stored (setup_of numbering world c)
  pub root_kept : world.root_kept ≡ no_root_stored world.basis
  pub agent_kept : (d : ℕ) → world.agent_kept d ≡ no_agent_stored world.basis
  pub bids_sent : (x : ℕ) → world.seen.bids_sent x ≡ []
  pub prices_sent : (x : ℕ) → world.seen.prices_sent x ≡ []
  pub setpoints : (d : ℕ) → world.seen.setpoints d ≡ []
  pub let_go : (d : ℕ) → world.let_go d ≡ 0

-- no frame of these lets a child go
abbrev pub LetsNone : LifeStep → Type 0
LetsNone (Relay c (relay_frame.Expire sender) n) = ⊥
LetsNone (Root (root_frame.Expire sender) n) = ⊥
LetsNone step = ⊤

abbrev pub LetNone : List LifeStep → Type 0
LetNone [] = ⊤
LetNone (step ∷ steps) = LetsNone step × LetNone steps

-- ---- what holds

-- each message that was handed out was sent
pub record AllIn (lists : Lists) (p : Pricing) (seen sys : System) : Type 0 where
  pub bids : (x k : ℕ) → IsNode lists x → k < length (seen.bids_sent x) → BidWasSent p sys x (bid_in_channel p seen x k)
  pub prices : (x k : ℕ) → IsNode lists x → k < length (seen.prices_sent x) → PriceWasSent sys x (price_in_channel seen x k)
  pub setpoints : (d : ℕ) (setpoint : Setpoint) → Contains (seen.setpoints d) setpoint → Contains (sys.setpoints d) setpoint

-- a process of device d begins with this step; never, or once at most, in these
abbrev pub BeginsProcess : ℕ → LifeStep → Type 0
BeginsProcess d (DeviceUp e n) = e ≡ d
BeginsProcess d step = ⊥

abbrev pub BeginsNever : ℕ → List LifeStep → Type 0
BeginsNever d [] = ⊤
BeginsNever d (step ∷ steps) = (BeginsProcess d step → ⊥) × BeginsNever d steps

abbrev pub BeginsOnce : ℕ → List LifeStep → Type 0
BeginsOnce d [] = ⊤
BeginsOnce d (step ∷ steps) = BeginsNever d steps ⊎ ((BeginsProcess d step → ⊥) × BeginsOnce d steps)

-- The lives are a run of a system: some calls, by which everything was sent that was handed out. They restart no device that had one
-- life.
pub record LivesAreCalls (lists : Lists) (p : Pricing) (numbering : Numbering) (start : System) (steps : List LifeStep) (world : World) : Type 0 where
  pub calls : List NodeCall
  pub sys : System
  pub runs : SystemRuns lists p numbering start calls sys
  pub sent : AllIn lists p world.seen sys
  pub up : (d : ℕ) → IsLeaf lists d → BeginsOnce d steps → StaysUp d calls

-- All prices that were handed out are of one legal journal: each names its receiver's own number and local step in the cut of its
-- clearing. Each setpoint that was handed out is right in it.
pub record LivesKeepTheLaw (lists : Lists) (p : Pricing) (world : World) : Type 0 where
  pub journal : List Move
  pub legal : LegalJournal lists journal
  pub prices : (x k : ℕ) → IsNode lists x → k < length (world.seen.prices_sent x) →
      IsItsPrice lists p (after lists journal) x (price_in_channel world.seen x k)
  pub setpoints : (d : ℕ) (setpoint : Setpoint) → IsLeaf lists d → Contains (world.seen.setpoints d) setpoint →
      IsRight lists p (after lists journal) d setpoint
