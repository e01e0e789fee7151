-- Lives of which no lists are given: each control offers, leaves and lets go as it likes.
use Rattle.std.specs.Prelude.{◌≡◌, ℕ, ◌+◌, ℤ, true, List, [], ◌∷◌, take, Some, ⊤}
use Rattle.pm_base.specs.Cuts.{Cut}
use Rattle.pm_market.specs.Lists.{Lists, parent, IsLeaf, IsConcentrator}
use Rattle.pm_market.specs.State.{update}
use Rattle.pm_net.specs.Pricing.{Pricing}
use Rattle.pm_net.specs.Messages.{price_message}
use Rattle.pm_net_plan.specs.Places.{Numbering}
use Rattle.pm_control.specs.Control.{newest_demand}
use Rattle.pm_relay.specs.Roots.{RootValue}
use Rattle.pm_relay_net.specs.RelayIs.{LimitsPassBy}
use Rattle.pm_frames.specs.Stored.{StoredRelay, StoredRoot}
use Rattle.pm_base.specs.declared.limits.Limits.{Limits}
use Rattle.pm_frames.specs.declared.parent.ParentFrame.TheVariants.{Price, Old}
use Rattle.pm_frames.specs.declared.relay.RelayFrame.{RelayFrame}
use Rattle.pm_frames.specs.declared.relay.RelayFrame.TheVariants as relay_frame
use Rattle.pm_frames.specs.declared.root.RootFrame.{RootFrame}
use Rattle.pm_frames.specs.declared.root.RootFrame.TheVariants as root_frame
use Rattle.pm_frames.specs.declared.device.DeviceFrame.{DeviceFrame}
use Rattle.pm_frames.specs.declared.device.DeviceFrame.TheVariants.{Hello, Offer, Kind, Leave, Parent, Resume}
use Rattle.pm_services.specs.RelayWrites.{WaitingRelay}
use Rattle.pm_basis.specs.Prices.{BasisValue}
use Rattle.pm_services.specs.DeviceWrites.{same_basis}
use Rattle.pm_services.specs.RelaySetups.{RelaySetup}
use Rattle.pm_system.specs.System.{System, with_root, with_relay, with_agent}
use Rattle.pm_system.specs.Given.{IsDemand, IsTreeMarket, IsStarted}
use Rattle.pm_lives.specs.Outputs.{PriceWasSent}
use Rattle.pm_services.specs.Outputs.{Output}
use Rattle.pm_lives.specs.RelayLife.{RelayMayRead, PassesGiver}
use Rattle.pm_services.specs.RelayWrites.{WritesRelay}
use Rattle.pm_lives.specs.RootLife.{RootMayRead}
use Rattle.pm_services.specs.RootWrites.{WritesRoot}
use Rattle.pm_services.specs.DeviceWrites.{device_outs, agent_after}
use Rattle.pm_lives.specs.Lives.{World, LifeStep, RelayUp, Relay, RootUp, Root, DeviceUp, Device, RelayBegins, RootBegins, DeviceBegins}
use Rattle.pm_lives.specs.Lives.{HandledSome, setup_of, handed_out, stored_last, let_go_at_relay, let_go_at_root, Live}

-- the child that is let go is a device; to a relay it is none that gives the relay its limits
pub record CarriesLetGo (lists : Lists) (p : Pricing) (numbering : Numbering) (y sender : ℕ) : Type 0 where
  pub x : ℕ
  pub leaf : IsLeaf lists x
  pub up : parent lists x ≡ y
  pub sender_is : sender ≡ numbering.place x + 1
  pub passes : (y ≡ 0 → ⊥) → LimitsPassBy p y x

abbrev pub RelayIsFree : Lists → Pricing → Numbering → RelaySetup → System → ℕ → RelayFrame → Type 0
RelayIsFree lists p numbering setup sys c (relay_frame.Child frame) = RelayMayRead lists p numbering setup sys c (relay_frame.Child frame)
RelayIsFree lists p numbering setup sys c (relay_frame.Parent frame) = RelayMayRead lists p numbering setup sys c (relay_frame.Parent frame)
RelayIsFree lists p numbering setup sys c relay_frame.Send = ⊤
RelayIsFree lists p numbering setup sys c (relay_frame.Expire sender) = CarriesLetGo lists p numbering c sender
RelayIsFree lists p numbering setup sys c (relay_frame.Limits number limits) =
    RelayMayRead lists p numbering setup sys c (relay_frame.Limits number limits)
RelayIsFree lists p numbering setup sys c (relay_frame.Bound sender bound) = ⊤
RelayIsFree lists p numbering setup sys c (relay_frame.Resume stored) = ⊥

abbrev pub RootIsFree : Lists → Pricing → Numbering → System → RootFrame → Type 0
RootIsFree lists p numbering sys (root_frame.Market frame) = RootMayRead lists p numbering sys (root_frame.Market frame)
RootIsFree lists p numbering sys (root_frame.Expire sender) = CarriesLetGo lists p numbering 0 sender
RootIsFree lists p numbering sys (root_frame.Bound sender bound) = ⊤
RootIsFree lists p numbering sys (root_frame.Resume stored) = ⊥

-- an offer is a demand; so is the one that a device offers anew
abbrev pub DeviceIsFree : Pricing → BasisValue → System → ℕ → DeviceFrame → Type 0
DeviceIsFree p own sys d (Hello basis) = ⊤
DeviceIsFree p own sys d (Offer form demand) = IsDemand p.steps demand
DeviceIsFree p own sys d (Kind named) = ⊤
DeviceIsFree p own sys d Leave = ⊤
DeviceIsFree p own sys d (Parent (Price child number index step basis)) =
    (same_basis basis own ≡ true) × PriceWasSent sys d (price_message number index step)
DeviceIsFree p own sys d (Parent (Old child kept)) = (demand : List ℤ) → newest_demand (sys.agents d) ≡ Some demand → IsDemand p.steps demand
DeviceIsFree p own sys d (Resume stored) = ⊥

pub record RelayReadsFree (lists : Lists) (p : Pricing) (numbering : Numbering) (world : World) (c : ℕ) (frame : RelayFrame) (n : ℕ) (new : World) :
    Type 0 where
  pub conc : IsConcentrator lists c
  pub runs : world.up c ≡ true
  pub may : RelayIsFree lists p numbering (setup_of numbering world c) world.seen c frame
  pub passes : PassesGiver (world.terms c).giver frame
  pub after : WaitingRelay
  pub outs : List (Output StoredRelay)
  -- the bounds of its children
  pub bounds : List Limits
  pub writes : WritesRelay (setup_of numbering world c) bounds (record { relay = world.seen.relays c; waiting = world.waiting c }) frame after outs
  pub handled : HandledSome n outs
  pub new_is : new ≡ record world {
    seen = handed_out lists numbering (with_relay world.seen c after.relay) c (take n outs);
    waiting = update world.waiting c after.waiting;
    relay_kept = update world.relay_kept c (stored_last (world.relay_kept c) (take n outs));
    let_go = let_go_at_relay lists numbering world.seen c frame world.let_go;
  }

pub record RootReadsFree (lists : Lists) (p : Pricing) (numbering : Numbering) (world : World) (frame : RootFrame) (n : ℕ) (new : World) : Type 0 where
  pub runs : world.up 0 ≡ true
  pub may : RootIsFree lists p numbering world.seen frame
  pub after : RootValue
  pub outs : List (Output StoredRoot)
  -- the bounds of its children
  pub bounds : List Limits
  pub writes : WritesRoot world.basis bounds world.seen.root frame after outs
  pub handled : HandledSome n outs
  pub new_is : new ≡ record world {
    seen = handed_out lists numbering (with_root world.seen after) 0 (take n outs);
    root_kept = stored_last world.root_kept (take n outs);
    let_go = let_go_at_root lists numbering world.seen frame world.let_go;
  }

pub record DeviceReadsFree (lists : Lists) (p : Pricing) (numbering : Numbering) (world : World) (d : ℕ) (frame : DeviceFrame) (n : ℕ) (new : World) :
    Type 0 where
  pub leaf : IsLeaf lists d
  pub runs : world.up d ≡ true
  pub may : DeviceIsFree p world.basis world.seen d frame
  pub handled : HandledSome n (device_outs p.steps world.basis (world.seen.agents d) frame)
  pub new_is : new ≡ record world {
    seen = handed_out lists numbering (with_agent world.seen d (agent_after (world.seen.agents d) frame)) d
        (take n (device_outs p.steps world.basis (world.seen.agents d) frame));
    agent_kept = update world.agent_kept d (stored_last (world.agent_kept d) (take n (device_outs p.steps world.basis (world.seen.agents d) frame)));
  }

abbrev pub LivesFree1 : Lists → Pricing → Numbering → World → LifeStep → World → Type 0
LivesFree1 lists p numbering world (RelayUp c n) new = RelayBegins lists p numbering world c n new
LivesFree1 lists p numbering world (Relay c frame n) new = RelayReadsFree lists p numbering world c frame n new
LivesFree1 lists p numbering world RootUp new = RootBegins p world new
LivesFree1 lists p numbering world (Root frame n) new = RootReadsFree lists p numbering world frame n new
LivesFree1 lists p numbering world (DeviceUp d n) new = DeviceBegins lists p numbering world d n new
LivesFree1 lists p numbering world (Device d frame n) new = DeviceReadsFree lists p numbering world d frame n new

abbrev pub LiveFree : Lists → Pricing → Numbering → World → List LifeStep → World → Type 0
LiveFree lists p numbering world [] new = world ≡ new
LiveFree lists p numbering world (step ∷ steps) new =
    (mid : World) × LivesFree1 lists p numbering world step mid × LiveFree lists p numbering mid steps new

-- there are lists over the same tree, and a market with the same steps and limits, of which these are lives
pub record HasLists (tree : Lists) (p : Pricing) (numbering : Numbering) (world : World) (steps : List LifeStep) (new : World) : Type 0 where
  pub lists : Lists
  pub pricing : Pricing
  pub parents : lists.parents ≡ tree.parents
  pub leaves : lists.leaves ≡ tree.leaves
  pub same_steps : pricing.steps ≡ p.steps
  pub same_limits : (c : ℕ) (cut : Cut) → pricing.limits c cut ≡ p.limits c cut
  pub market : IsTreeMarket lists pricing numbering
  pub started : (start : System) → IsStarted tree p start → IsStarted lists pricing start
  pub live : Live lists pricing numbering world steps new
