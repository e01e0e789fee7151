-- A history of a market by the bytes of its processes, and what its carriers promise.
use Rattle.std.specs.Prelude.{◌≡◌, ℕ, ◌+◌, ◌-◌, ◌≤◌, true, List, [], ◌∷◌, length, take, Some}
use Rattle.pm_market.specs.Lists.{Lists, IsLeaf, IsConcentrator}
use Rattle.pm_market.specs.State.{update, no_changes}
use Rattle.pm_net.specs.Pricing.{Pricing}
use Rattle.pm_net_plan.specs.Places.{Numbering}
use Rattle.pm_control.specs.Control.{agent_stored}
use Rattle.pm_basis.specs.Prices.{BasisValue}
use Rattle.pm_frames.specs.Terms.{MayGive}
use Rattle.pm_system.specs.System.{with_relay, with_root, with_agent}
use Rattle.pm_lives.specs.Lives.{World, setup_of, handed_out, stored_last, HandledSome, let_go_at_relay, let_go_at_root, restart_outs}
use Rattle.pm_lives.specs.Lives.{LifeStep, IsNewWorld}
use Rattle.pm_lives.specs.Lives as lives
use Rattle.pm_processes.specs.HandedOn.{RelayIsHanded, RootIsHanded, DeviceIsHanded}
use Rattle.pm_processes.specs.RelayProcess.{RelayProcess, RelayExchange, setup_with, relay_resumed}
use Rattle.pm_processes.specs.RootProcess.{RootProcess, RootExchange, root_resumed}
use Rattle.pm_processes.specs.DeviceProcess.{DeviceProcess, DeviceExchange, agent_resumed}

-- What there is at a moment: the world, and of the process of each node that runs what it still does. These are the frames that it
-- still reads, each with its answer, and how many of the frames that it writes are still to be handled.
pub record Scene : Type 0 where
  pub world : World
  pub relay_next : ℕ → List RelayExchange
  pub root_next : List RootExchange
  pub device_next : ℕ → List DeviceExchange
  pub left : ℕ → ℕ

-- A process of a node begins: of it these bytes are taken, and of what it writes these bytes are handled, until it ends. Or it goes
-- on: it reads its next frame, and what is handled of the answer is handled.
pub data HistoryEvent : Type 0 where
  RelayBegins : ℕ → (took wrote : List ℕ) → HistoryEvent
  RelayGoesOn : ℕ → HistoryEvent
  RootBegins : (took wrote : List ℕ) → HistoryEvent
  RootGoesOn : HistoryEvent
  DeviceBegins : ℕ → (took wrote : List ℕ) → HistoryEvent
  DeviceGoesOn : ℕ → HistoryEvent

-- ---- what carriers promise, by its numbers in docs/RELAY.md

-- (1) a process begins with the Resume that was stored last, or with none if none was stored; (2) all have the same Hello
pub record BeginsAsPromised {K : Type 0} (hello market : BasisValue) (resumed stored : K) : Type 0 where
  pub stored_last : resumed ≡ stored
  pub same_hello : hello ≡ market

-- (4) What is handled of an answer is a first part of it, of what was written; the rest is lost. Its first frame is handled before the
-- frame that comes next is read by anybody, so that a Resume which stands first is stored before anything is handed out.
-- (5, 8, 9) The bytes that are read were handed out, by the node that
-- they name, and are handed on unchanged; limits are those of a message of the giver; and none is let go but a device.
pub record GoesOnAsPromised (IsHandedOn : Type 0) (Handled : Type 0) : Type 0 where
  pub handed_on : IsHandedOn
  pub in_order : Handled

-- ---- the events of a relay

pub record RelayProcessBegins (lists : Lists) (p : Pricing) (numbering : Numbering) (old : Scene) (c : ℕ) (took wrote : List ℕ) (new : Scene) :
    Type 0 where
  pub conc : IsConcentrator lists c
  -- (2) the same arguments, among them the limits of its first start; a place in which it is given others is one of a child
  pub limited : p.limits c no_changes ≡ Some (old.world.terms c).limits
  pub gives : MayGive (old.world.terms c).giver
  pub process : RelayProcess (numbering.place c + 1) (old.world.terms c) took wrote
  pub promised : BeginsAsPromised process.basis old.world.basis
      (relay_resumed (setup_with (numbering.place c + 1) (old.world.terms c) process.basis) process.resume) (old.world.relay_kept c)
  pub new_is : new ≡ record old {
    world = record old.world {
      seen = handed_out lists numbering (with_relay old.world.seen c process.held.relay) c (take process.written.cut.n process.outs);
      up = update old.world.up c true;
      waiting = update old.world.waiting c process.held.waiting;
    };
    relay_next = update old.relay_next c process.exchanges;
    left = update old.left c (process.written.cut.n - length process.outs);
  }

pub record RelayProcessGoesOn (lists : Lists) (p : Pricing) (numbering : Numbering) (old : Scene) (c : ℕ) (new : Scene) : Type 0 where
  pub conc : IsConcentrator lists c
  pub runs : old.world.up c ≡ true
  pub exchange : RelayExchange
  pub exchanges : List RelayExchange
  pub next : old.relay_next c ≡ exchange ∷ exchanges
  pub handled : ℕ
  pub was_written : handled ≤ old.left c
  pub promised : GoesOnAsPromised (RelayIsHanded lists p numbering (setup_of numbering old.world c) old.world.seen c exchange.frame)
      (HandledSome handled exchange.outs)
  pub new_is : new ≡ record old {
    world = record old.world {
      seen = handed_out lists numbering (with_relay old.world.seen c exchange.after.relay) c (take handled exchange.outs);
      waiting = update old.world.waiting c exchange.after.waiting;
      relay_kept = update old.world.relay_kept c (stored_last (old.world.relay_kept c) (take handled exchange.outs));
      let_go = let_go_at_relay lists numbering old.world.seen c exchange.frame old.world.let_go;
    };
    relay_next = update old.relay_next c exchanges;
    left = update old.left c (old.left c - length exchange.outs);
  }

-- ---- of the auctioneer

pub record RootProcessBegins (p : Pricing) (old : Scene) (took wrote : List ℕ) (new : Scene) : Type 0 where
  pub process : RootProcess took wrote
  pub promised : BeginsAsPromised process.basis old.world.basis (root_resumed process.basis process.resume) old.world.root_kept
  pub new_is : new ≡ record old {
    world = record old.world { seen = with_root old.world.seen process.root; up = update old.world.up 0 true };
    root_next = process.exchanges;
    left = update old.left 0 process.written.cut.n;
  }

pub record RootProcessGoesOn (lists : Lists) (p : Pricing) (numbering : Numbering) (old : Scene) (new : Scene) : Type 0 where
  pub runs : old.world.up 0 ≡ true
  pub exchange : RootExchange
  pub exchanges : List RootExchange
  pub next : old.root_next ≡ exchange ∷ exchanges
  pub handled : ℕ
  pub was_written : handled ≤ old.left 0
  pub promised : GoesOnAsPromised (RootIsHanded lists p numbering old.world.basis old.world.seen exchange.frame) (HandledSome handled exchange.outs)
  pub new_is : new ≡ record old {
    world = record old.world {
      seen = handed_out lists numbering (with_root old.world.seen exchange.after) 0 (take handled exchange.outs);
      root_kept = stored_last old.world.root_kept (take handled exchange.outs);
      let_go = let_go_at_root lists numbering old.world.seen exchange.frame old.world.let_go;
    };
    root_next = exchanges;
    left = update old.left 0 (old.left 0 - length exchange.outs);
  }

-- ---- of a device

pub record DeviceProcessBegins (lists : Lists) (p : Pricing) (numbering : Numbering) (old : Scene) (d : ℕ) (took wrote : List ℕ) (new : Scene) :
    Type 0 where
  pub leaf : IsLeaf lists d
  pub process : DeviceProcess p (numbering.place d + 1) took wrote
  pub promised : BeginsAsPromised process.basis old.world.basis (agent_resumed process.basis process.resume) (old.world.agent_kept d)
  pub new_is : let stored = old.world.agent_kept d in new ≡ record old {
    world = record old.world {
      seen = handed_out lists numbering (with_agent old.world.seen d (agent_stored stored.number stored.newest stored.index)) d
          (take process.written.cut.n (restart_outs p stored));
      up = update old.world.up d true;
    };
    device_next = update old.device_next d process.exchanges;
    left = update old.left d (process.written.cut.n - length (restart_outs p stored));
  }

pub record DeviceProcessGoesOn (lists : Lists) (p : Pricing) (numbering : Numbering) (old : Scene) (d : ℕ) (new : Scene) : Type 0 where
  pub leaf : IsLeaf lists d
  pub runs : old.world.up d ≡ true
  pub exchange : DeviceExchange
  pub exchanges : List DeviceExchange
  pub next : old.device_next d ≡ exchange ∷ exchanges
  pub handled : ℕ
  pub was_written : handled ≤ old.left d
  pub promised : GoesOnAsPromised (DeviceIsHanded numbering old.world.basis old.world.seen d exchange.frame) (HandledSome handled exchange.outs)
  pub new_is : new ≡ record old {
    world = record old.world {
      seen = handed_out lists numbering (with_agent old.world.seen d exchange.after) d (take handled exchange.outs);
      agent_kept = update old.world.agent_kept d (stored_last (old.world.agent_kept d) (take handled exchange.outs));
    };
    device_next = update old.device_next d exchanges;
    left = update old.left d (old.left d - length exchange.outs);
  }

-- ---- histories

abbrev pub Happens1 : Lists → Pricing → Numbering → Scene → HistoryEvent → Scene → Type 0
Happens1 lists p numbering old (RelayBegins c took wrote) new = RelayProcessBegins lists p numbering old c took wrote new
Happens1 lists p numbering old (RelayGoesOn c) new = RelayProcessGoesOn lists p numbering old c new
Happens1 lists p numbering old (RootBegins took wrote) new = RootProcessBegins p old took wrote new
Happens1 lists p numbering old RootGoesOn new = RootProcessGoesOn lists p numbering old new
Happens1 lists p numbering old (DeviceBegins d took wrote) new = DeviceProcessBegins lists p numbering old d took wrote new
Happens1 lists p numbering old (DeviceGoesOn d) new = DeviceProcessGoesOn lists p numbering old d new

-- one event after the other, by all nodes, in the order in which the carriers handled what was written
abbrev pub Happen : Lists → Pricing → Numbering → Scene → List HistoryEvent → Scene → Type 0
Happen lists p numbering old [] new = old ≡ new
Happen lists p numbering old (event ∷ events) new =
    (mid : Scene) × Happens1 lists p numbering old event mid × Happen lists p numbering mid events new

-- The step of a life that an event is: a process begins, and of what it writes so many frames are handled; or it reads this frame.
abbrev pub life_step : (lists : Lists) (p : Pricing) (numbering : Numbering) (old : Scene) (event : HistoryEvent) (new : Scene) →
    Happens1 lists p numbering old event new → LifeStep
life_step lists p numbering old (RelayBegins c took wrote) new did = lives.RelayUp c did.process.written.cut.n
life_step lists p numbering old (RelayGoesOn c) new did = lives.Relay c did.exchange.frame did.handled
life_step lists p numbering old (RootBegins took wrote) new did = lives.RootUp
life_step lists p numbering old RootGoesOn new did = lives.Root did.exchange.frame did.handled
life_step lists p numbering old (DeviceBegins d took wrote) new did = lives.DeviceUp d did.process.written.cut.n
life_step lists p numbering old (DeviceGoesOn d) new did = lives.Device d did.exchange.frame did.handled

-- one for each event
abbrev pub life_steps : (lists : Lists) (p : Pricing) (numbering : Numbering) (old : Scene) (events : List HistoryEvent) (new : Scene) →
    Happen lists p numbering old events new → List LifeStep
life_steps lists p numbering old [] new happen = []
life_steps lists p numbering old (event ∷ events) new happen =
    life_step lists p numbering old event happen.0 happen.1 ∷ life_steps lists p numbering happen.0 events new happen.2

-- nothing was handed out or stored between these moments
pub record HandlesNothing (old new : Scene) : Type 0 where
  pub bids : (x : ℕ) → new.world.seen.bids_sent x ≡ old.world.seen.bids_sent x
  pub prices : (x : ℕ) → new.world.seen.prices_sent x ≡ old.world.seen.prices_sent x
  pub setpoints : (d : ℕ) → new.world.seen.setpoints d ≡ old.world.seen.setpoints d
  pub relays : (c : ℕ) → new.world.relay_kept c ≡ old.world.relay_kept c
  pub root : new.world.root_kept ≡ old.world.root_kept
  pub devices : (d : ℕ) → new.world.agent_kept d ≡ old.world.agent_kept d

-- no process runs, nothing is stored, nothing was handed out, and the basis of all has the steps of the market
pub record IsNewScene (p : Pricing) (numbering : Numbering) (scene : Scene) : Type 0 where
  pub new_world : IsNewWorld p numbering scene.world
  pub steps : scene.world.basis.steps ≡ p.steps
