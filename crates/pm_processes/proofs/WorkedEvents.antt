-- The events of worked histories over the small tree: the scene after each, and that a process that goes on does so.
use Rattle.std.proofs.Common.{◌≡◌, ap, ℕ, ◌+◌, ◌-◌, ◌<◌, ◌≤◌, false, List, [], ◌∷◌, length, take, true}
use Rattle.std.proofs.Common.{◌++◌, Some, refl, inl, arith}
use Rattle.pm_market.specs.Lists.{parent, is_leaf, IsNode, IsLeaf, IsConcentrator}
use Rattle.pm_market.specs.State.{update}
use Rattle.pm_net.specs.Pricing.{Pricing}
use Rattle.pm_basis.specs.Prices.{BasisValue}
use Rattle.pm_wire.specs.Frames.{IsFormed}
use Rattle.pm_relay_net.specs.RelayIs.{LimitsPassBy}
use Rattle.pm_system.specs.System.{System, bid_in_channel, price_in_channel, with_root, with_relay, with_agent}
use Rattle.pm_system.specs.Worked.{small_tree, small_places}
use Rattle.pm_services.specs.Outputs.{Output, outputs_bytes, up_bytes, down_frame_bytes}
use Rattle.pm_lives.specs.Cutting.{IsCutStream}
use Rattle.pm_processes.specs.Processes.{Wrote}
use Rattle.pm_frames.specs.ParentFrames.{IsParentFormed}
use Rattle.pm_lives.specs.Carrying.{bid_frame, price_frame}
use Rattle.pm_lives.specs.Lives.{setup_of, handed_out, stored_last, HandledSome, let_go_at_relay, let_go_at_root}
use Rattle.pm_processes.specs.RelayProcess.{RelayExchange}
use Rattle.pm_processes.specs.RootProcess.{RootExchange}
use Rattle.pm_processes.specs.DeviceProcess.{DeviceExchange}
use Rattle.pm_processes.specs.HandedOn.{IsBidHandedOn, IsPriceHandedOn, RelayIsHanded, RootIsHanded, DeviceIsHanded}
use Rattle.pm_processes.specs.History.{Scene, BeginsAsPromised, GoesOnAsPromised, RelayProcessGoesOn, RootProcessGoesOn, DeviceProcessGoesOn}

abbrev pub root_on : Scene → RootExchange → List RootExchange → ℕ → Scene
root_on old e more n = record old {
  world = record old.world {
    seen = handed_out small_tree small_places (with_root old.world.seen e.after) 0 (take n e.outs);
    root_kept = stored_last old.world.root_kept (take n e.outs);
  };
  root_next = more;
  left = update old.left 0 (old.left 0 - length e.outs);
}

abbrev pub relay_on : Scene → RelayExchange → List RelayExchange → ℕ → Scene
relay_on old e more n = record old {
  world = record old.world {
    seen = handed_out small_tree small_places (with_relay old.world.seen 1 e.after.relay) 1 (take n e.outs);
    waiting = update old.world.waiting 1 e.after.waiting;
    relay_kept = update old.world.relay_kept 1 (stored_last (old.world.relay_kept 1) (take n e.outs));
  };
  relay_next = update old.relay_next 1 more;
  left = update old.left 1 (old.left 1 - length e.outs);
}

abbrev pub device_on : Scene → ℕ → DeviceExchange → List DeviceExchange → ℕ → Scene
device_on old d e more n = record old {
  world = record old.world {
    seen = handed_out small_tree small_places (with_agent old.world.seen d e.after) d (take n e.outs);
    agent_kept = update old.world.agent_kept d (stored_last (old.world.agent_kept d) (take n e.outs));
  };
  device_next = update old.device_next d more;
  left = update old.left d (old.left d - length e.outs);
}

-- a device's process goes on
abbrev pub device_goes : (p : Pricing) (old : Scene) (d : ℕ) (e : DeviceExchange) (more : List DeviceExchange) (n : ℕ) → IsLeaf small_tree d →
    old.world.up d ≡ true → old.device_next d ≡ e ∷ more → n ≤ old.left d →
    DeviceIsHanded small_places old.world.basis old.world.seen d e.frame → HandledSome n e.outs →
    DeviceProcessGoesOn small_tree p small_places old d (device_on old d e more n)
device_goes p old d e more n leaf runs next was_written handed in_order =
    let kept : GoesOnAsPromised (DeviceIsHanded small_places old.world.basis old.world.seen d e.frame) (HandledSome n e.outs) =
    record { handed_on = handed; in_order = in_order } in
    record { leaf = leaf; runs = runs; exchange = e; exchanges = more; next = next; handled = n; was_written = was_written; promised = kept; new_is = refl }

-- the relay's does, with a frame that lets no child go
abbrev pub relay_goes : (p : Pricing) (old : Scene) (e : RelayExchange) (more : List RelayExchange) (n : ℕ) → is_leaf small_tree 1 ≡ false →
    old.world.up 1 ≡ true → old.relay_next 1 ≡ e ∷ more → n ≤ old.left 1 →
    RelayIsHanded small_tree p small_places (setup_of small_places old.world 1) old.world.seen 1 e.frame → HandledSome n e.outs →
    old.world.let_go ≡ let_go_at_relay small_tree small_places old.world.seen 1 e.frame old.world.let_go →
    RelayProcessGoesOn small_tree p small_places old 1 (relay_on old e more n)
relay_goes p old e more n inner runs next inside handed in_order none =
    let kept : GoesOnAsPromised (RelayIsHanded small_tree p small_places (setup_of small_places old.world 1) old.world.seen 1 e.frame)
    (HandledSome n e.outs) = record { handed_on = handed; in_order = in_order } in
    let conc : IsConcentrator small_tree 1 = (omega arith, omega arith, inner) in
    let is = ap (λ (f : ℕ → ℕ). record (relay_on old e more n) { world = record (relay_on old e more n).world { let_go = f } }) none in
    record { conc = conc; runs = runs; exchange = e; exchanges = more; next = next; handled = n; was_written = inside; promised = kept; new_is = is }

-- and so does the auctioneer's
abbrev pub root_goes : (p : Pricing) (old : Scene) (e : RootExchange) (more : List RootExchange) (n : ℕ) → old.world.up 0 ≡ true →
    old.root_next ≡ e ∷ more → n ≤ old.left 0 → RootIsHanded small_tree p small_places old.world.basis old.world.seen e.frame →
    HandledSome n e.outs →
    old.world.let_go ≡ let_go_at_root small_tree small_places old.world.seen e.frame old.world.let_go →
    RootProcessGoesOn small_tree p small_places old (root_on old e more n)
root_goes p old e more n runs next inside handed in_order none =
    let kept : GoesOnAsPromised (RootIsHanded small_tree p small_places old.world.basis old.world.seen e.frame) (HandledSome n e.outs) =
    record { handed_on = handed; in_order = in_order } in
    let is = ap (λ (f : ℕ → ℕ). record (root_on old e more n) { world = record (root_on old e more n).world { let_go = f } }) none in
    record { runs = runs; exchange = e; exchanges = more; next = next; handled = n; was_written = inside; promised = kept; new_is = is }

-- the bytes are those of the first bid that x sent
abbrev pub bid_handed : (p : Pricing) (basis : BasisValue) (seen : System) (y : ℕ) (bytes : List ℕ) (x : ℕ) → IsNode small_tree x →
    parent small_tree x ≡ y → 0 < length (seen.bids_sent x) → IsFormed (Some basis.steps)
    (bid_frame (small_places.place x + 1) (bid_in_channel p seen x 0)) →
    bytes ≡ up_bytes (small_places.place x + 1) (bid_in_channel p seen x 0) → ((y ≡ 0 → ⊥) → LimitsPassBy p y x) →
    IsBidHandedOn small_tree p small_places basis seen y bytes
bid_handed p basis seen y bytes x node up inside formed unchanged passes = record {
  x = x;
  node = node;
  up = up;
  place = 0;
  inside = inside;
  formed = formed;
  unchanged = unchanged;
  passes = passes;
}

-- and those of the first price that was sent to x
abbrev pub price_handed : (basis : BasisValue) (seen : System) (x : ℕ) (bytes : List ℕ) → 0 < length (seen.prices_sent x) →
    IsParentFormed (price_frame basis (small_places.place x + 1) (price_in_channel seen x 0)) →
    bytes ≡ down_frame_bytes basis (small_places.place x) (price_in_channel seen x 0) → IsPriceHandedOn small_places basis seen x bytes
price_handed basis seen x bytes inside formed unchanged = record { place = 0; inside = inside; formed = formed; unchanged = unchanged }

-- ---- how a process begins

-- with the Resume that was stored last, and the Hello of all
abbrev pub as_promised : {K : Type 0} → {hello market : BasisValue} → {resumed stored : K} → resumed ≡ stored → hello ≡ market →
    BeginsAsPromised hello market resumed stored
as_promised last same = record { stored_last = last; same_hello = same }

-- ---- what a process wrote

-- so many bytes of its frames, and nothing behind them
abbrev pub wrote_all : {K : Type 0} → {kept : K → List ℕ} → {basis : BasisValue} → {child : ℕ} → {outs : List (Output K)} →
    {wrote : List ℕ} →
    (many : ℕ) → IsCutStream kept basis child outs many → wrote ≡ take many (outputs_bytes kept basis child outs) ++ [] →
    Wrote kept basis child outs wrote
wrote_all many cut is = record { many = many; cut = cut; beyond = []; wrote_is = is; at_end = inl refl }
