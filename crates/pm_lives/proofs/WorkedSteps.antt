-- The steps of worked worlds over the small tree: what a frame carries, and what a node that reads it answers. No price waits at the relay.
use Rattle.std.proofs.Common.{◌≡◌, sym, ℕ, ◌+◌, ◌<◌, ℤ, true, take, arith, List, [], ◌∷◌, ◌++◌, length, Option}
use Rattle.std.proofs.Common.{None, refl, inl}
use Rattle.std.proofs.Common.{append-nil}
use Rattle.pm_cache.specs.Cache.{kept_number}
use Rattle.pm_session.specs.declared.price.PriceUpdate.{PriceUpdate}
use Rattle.pm_relay.specs.Relays.{RelayValue, LooksForRecord, BidSent, TakesPrice, with_child_bid}
use Rattle.pm_relay.specs.declared.outcome.PriceOutcome.TheVariants.{PassedOn}
use Rattle.pm_frames.specs.Stored.{StoredRelay}
use Rattle.pm_services.specs.Outputs.{Output, Keeps}
use Rattle.pm_services.specs.Receipts.{sender_place, receipt_outs}
use Rattle.pm_services.specs.RelaySetups.{RelaySetup}
use Rattle.pm_frames.specs.Stored.{StoredRoot}
use Rattle.pm_frames.specs.declared.relay.RelayFrame.{RelayFrame}
use Rattle.pm_frames.specs.declared.root.RootFrame.{RootFrame}
use Rattle.pm_market.specs.Lists.{parent, is_leaf, IsNode}
use Rattle.pm_market.specs.State.{update}
use Rattle.pm_relay.specs.Roots.{RootValue}
use Rattle.pm_relay_net.specs.RelayIs.{LimitsPassBy, told_demand}
use Rattle.pm_system.specs.System.{System, bid_in_channel, with_root, with_relay, with_agent}
use Rattle.pm_system.specs.Worked.{small_tree, small_places, small_pricing}
use Rattle.pm_services.specs.RelayWrites.{WritesRelay}
use Rattle.pm_services.specs.RootWrites.{WritesRoot}
use Rattle.pm_lives.specs.RelayLife.{CarriesBid, RelayMayRead, PassesGiver}
use Rattle.pm_lives.specs.RootLife.{RootMayRead}
use Rattle.pm_frames.specs.declared.device.DeviceFrame.{DeviceFrame}
use Rattle.pm_services.specs.DeviceWrites.{device_outs, agent_after}
use Rattle.pm_lives.specs.DeviceLife.{DeviceMayRead}
use Rattle.pm_lives.specs.Lives.{World, RelayReads, RootReads, DeviceReads, setup_of, handed_out, stored_last, HandledSome, let_go_at_relay, let_go_at_root}
use Rattle.pm_services.specs.RelayWrites.{WaitingRelay, WritesBid, WritesSend, WritesPrice, stored_relay, bid_outs, bid_again_outs, price_outs}

-- no price waits at it
abbrev pub alone : RelayValue → WaitingRelay
alone r = record { relay = r; waiting = None }

-- it learns a child's bid
pub hears_bid : {own : RelaySetup} → {old : RelayValue} → {sender number : ℕ} → {demand : Option (List ℤ)} → {learnt : RelayValue} →
    {outs : List (Output StoredRelay)} → LooksForRecord (with_child_bid old (sender_place sender) number demand) learnt →
    outs ≡ receipt_outs (kept_number old.gathered.cache (sender_place sender)) sender number ++ (bid_again_outs old learnt ++ []) →
    WritesBid own (alone old) sender number demand (alone learnt) outs
hears_bid {learnt = learnt} looks replied = record { learnt = learnt; looks = looks; waiting_reply = []; tries = (refl, refl); replied = replied }

-- it sends its bid
pub sends_own : (own : RelaySetup) (old new : RelayValue) (number : ℕ) → BidSent old new number →
    WritesSend own (alone old) (alone new) (Keeps (stored_relay own new) ∷ bid_outs new)
sends_own own old new number sent = record {
  asked = new;
  first = Keeps (stored_relay own new) ∷ bid_outs new;
  answers = inl (number, sent, refl);
  waiting_reply = [];
  tries = (refl, refl);
  replied = sym (append-nil (Keeps (stored_relay own new) ∷ bid_outs new));
}

-- it passes a price on
pub passes_price_down : (own : RelaySetup) (old new : RelayValue) (price : PriceUpdate) → TakesPrice old new price PassedOn →
    WritesPrice own (alone old) price (alone new) (price_outs own None new price PassedOn)
passes_price_down own old new price takes = record { outcome = PassedOn; takes = takes; waits = refl; replied = refl }

-- a bid is the message in place k of what child x of y sent
pub carries : {sys : System} → {y sender number : ℕ} → {demand : Option (List ℤ)} → (x k : ℕ) → IsNode small_tree x →
    parent small_tree x ≡ y → sender ≡ small_places.place x + 1 → k < length (sys.bids_sent x) →
    number ≡ (bid_in_channel small_pricing sys x k).number →
    demand ≡ told_demand (bid_in_channel small_pricing sys x k) → ((y ≡ 0 → ⊥) → LimitsPassBy small_pricing y x) →
    CarriesBid small_tree small_pricing small_places sys y sender number demand
carries x k node up is inside number demand passes =
    record { x = x; node = node; up = up; sender_is = is; place = k; inside = inside; number_is = number; demand_is = demand; passes = passes }

-- the relay reads a frame
pub relay_reads : (world : World) (frame : RelayFrame) (n : ℕ) (after : RelayValue) (outs : List (Output StoredRelay)) (new : World) →
    world.up 1 ≡ true → RelayMayRead small_tree small_pricing small_places (setup_of small_places world 1) world.seen 1 frame →
    PassesGiver (world.terms 1).giver frame →
    WritesRelay (setup_of small_places world 1) [] (record { relay = world.seen.relays 1; waiting = world.waiting 1 }) frame (alone after) outs →
    HandledSome n outs → new ≡ record world {
      seen = handed_out small_tree small_places (with_relay world.seen 1 after) 1 (take n outs);
      waiting = update world.waiting 1 None;
      relay_kept = update world.relay_kept 1 (stored_last (world.relay_kept 1) (take n outs));
      let_go = let_go_at_relay small_tree small_places world.seen 1 frame world.let_go;
    } → RelayReads small_tree small_pricing small_places world 1 frame n new
unfolding is_leaf
relay_reads world frame n after outs new runs may passes writes handled new_is = record {
  conc = (omega arith, omega arith, refl);
  runs = runs;
  may = may;
  passes = passes;
  after = alone after;
  outs = outs;
  bounds = [];
  writes = writes;
  handled = handled;
  new_is = new_is;
}

-- the auctioneer reads one
pub root_reads : (world : World) (frame : RootFrame) (n : ℕ) (after : RootValue) (outs : List (Output StoredRoot)) (new : World) →
    world.up 0 ≡ true → RootMayRead small_tree small_pricing small_places world.seen frame →
    WritesRoot world.basis [] world.seen.root frame after outs → HandledSome n outs → new ≡ record world {
      seen = handed_out small_tree small_places (with_root world.seen after) 0 (take n outs);
      root_kept = stored_last world.root_kept (take n outs);
      let_go = let_go_at_root small_tree small_places world.seen frame world.let_go;
    } → RootReads small_tree small_pricing small_places world frame n new
root_reads world frame n after outs new runs may writes handled new_is =
    record { runs = runs; may = may; after = after; outs = outs; bounds = []; writes = writes; handled = handled; new_is = new_is }

-- a device reads one
pub device_reads : {world new : World} → {d : ℕ} → {frame : DeviceFrame} → {n : ℕ} → is_leaf small_tree d ≡ true → world.up d ≡ true →
    DeviceMayRead small_tree small_pricing world.basis world.seen d frame →
    HandledSome n (device_outs small_pricing.steps world.basis (world.seen.agents d) frame) → new ≡ record world {
      seen = handed_out small_tree small_places (with_agent world.seen d (agent_after (world.seen.agents d) frame)) d
          (take n (device_outs small_pricing.steps world.basis (world.seen.agents d) frame));
      agent_kept = update world.agent_kept d
          (stored_last (world.agent_kept d) (take n (device_outs small_pricing.steps world.basis (world.seen.agents d) frame)));
    } → DeviceReads small_tree small_pricing small_places world d frame n new
device_reads leaf runs may handled new_is = record { leaf = leaf; runs = runs; may = may; handled = handled; new_is = new_is }
