-- The worked history of a relay under limits, event by event.
use Rattle.std.proofs.Common.{◌≡◌, ◌∙◌, sym, ap, eqb, ℕ, List, [], ◌∷◌, true}
use Rattle.std.proofs.Common.{Option, Some, None, refl, inl, inr, arith}
use Rattle.std.proofs.lemmas.Int.{ints}
use Rattle.std.specs.Prelude.{unwrap_or}
use Rattle.pm_base.specs.declared.limits.Limits.{Limits}
use Rattle.pm_bid.specs.Taken.{said_between}
use Rattle.pm_market.specs.Lists.{parent, is_leaf, is_member, changes, IsConcentrator}
use Rattle.pm_market.specs.State.{update}
use Rattle.pm_net.proofs.Messages.{either}
use Rattle.pm_net_plan.specs.Places.{children_to, place_in}
use Rattle.pm_control.specs.Control.{agent_stored}
use Rattle.pm_relay.specs.Relays.{RelayValue}
use Rattle.pm_relay.specs.Roots.{RootValue}
use Rattle.pm_relay_net.specs.RelayIs.{LimitsPassBy, GivesLimits}
use Rattle.pm_system.specs.System.{with_root, with_relay, with_agent}
use Rattle.pm_system.specs.Worked.{small_tree, small_places, small_limits}
use Rattle.pm_system.proofs.WorkedValues.{new_root, via}
use Rattle.pm_lives.specs.RelayLife.{CarriesLimits}
use Rattle.pm_lives.specs.Lives.{LifeStep, handed_out, stored_last}
use Rattle.pm_lives.specs.Lives as lives
use Rattle.pm_frames.specs.Terms.{MayGive}
use Rattle.pm_processes.specs.RelayProcess.{RelayExchange}
use Rattle.pm_processes.specs.RootProcess.{RootExchange}
use Rattle.pm_processes.specs.DeviceProcess.{DeviceExchange}
use Rattle.pm_processes.specs.History.{Scene}
use Rattle.pm_processes.specs.History.{Happen, life_steps, IsNewScene}
use Rattle.pm_processes.specs.WorkedLimits.{narrow_limits, limits_given, limits_pricing, giver_terms, limits_scene, limits_events, HistoryHoldsLimits}
use Rattle.pm_system.proofs.Given.{some_same}
use Rattle.pm_frames.specs.RelayFrames.{relay_frame_bytes}
use Rattle.pm_frames.specs.RootFrames.{root_frame_bytes}
use Rattle.pm_frames.specs.DeviceFrames.{device_frame_bytes}
use Rattle.pm_lives.specs.WorkedLives.{small_basis}
use Rattle.pm_processes.proofs.Worked.{is_new}
use Rattle.pm_processes.proofs.WorkedEvents.{as_promised, root_on, relay_on, device_on, device_goes, relay_goes, root_goes, bid_handed, price_handed}
use Rattle.pm_processes.proofs.LimitsProcesses.{device_process, giver_process, root_process, offers, settles, leaves, root_hears, root_clears}
use Rattle.pm_processes.proofs.LimitsRelay.{relay_process, next_process, relay_new, given_again, hears, is_given, sends, sends_again, passes_down}

-- ---- limits by the numbers of device 3

passes_by : LimitsPassBy limits_pricing 1 2
passes_by a b same = ap (λ (n : ℕ). Some (limits_given 1 n)) (same 3 (λ e. omega (arith, e)))

gives : GivesLimits limits_pricing 1 3 2 narrow_limits
gives a e = ap (λ (n : ℕ). Some (limits_given 1 n)) e

-- before it gives any, each relay has those of its arguments
pub first_limits : (c : ℕ) → limits_given c 0 ≡ small_limits
first_limits c = either (λ (l : Limits). l ≡ small_limits) (eqb c 1) small_limits small_limits (λ e. refl) (λ e. refl)

relay_1 : IsConcentrator small_tree 1
unfolding is_leaf
relay_1 = (omega arith, omega arith, refl)

giver_2 : MayGive (Some 2)
giver_2 = (omega arith, omega arith)

-- ---- scenes

abbrev root_up : Scene → List RootExchange → ℕ → Scene
root_up old next n = record old {
  world = record old.world { seen = with_root old.world.seen new_root; up = update old.world.up 0 true };
  root_next = next;
  left = update old.left 0 n;
}

-- nothing is written when it comes up
abbrev relay_up : Scene → RelayValue → List RelayExchange → ℕ → Scene
relay_up old relay next n = record old {
  world = record old.world {
    seen = with_relay old.world.seen 1 relay;
    up = update old.world.up 1 true;
    waiting = update old.world.waiting 1 None;
  };
  relay_next = update old.relay_next 1 next;
  left = update old.left 1 n;
}

-- nothing is stored of the device, so it sends nothing when it comes up
abbrev device_up : Scene → ℕ → List DeviceExchange → ℕ → Scene
device_up old d next n = record old {
  world = record old.world { seen = with_agent old.world.seen d (agent_stored 0 None 0); up = update old.world.up d true };
  device_next = update old.device_next d next;
  left = update old.left d n;
}

abbrev pub limits_steps : List LifeStep
limits_steps =
    lives.DeviceUp 2 4 ∷ lives.Device 2 offers.frame 2 ∷ lives.DeviceUp 3 2 ∷ lives.Device 3 leaves.frame 2 ∷ lives.RootUp ∷ lives.RelayUp 1 1
    ∷ lives.Relay 1 hears.frame 0 ∷ lives.Relay 1 is_given.frame 0 ∷ lives.Relay 1 sends.frame 1 ∷ lives.RelayUp 1 3
    ∷ lives.Relay 1 sends_again.frame 1 ∷ lives.Root root_hears.frame 0
    ∷ lives.Root root_clears.frame 2 ∷ lives.Relay 1 passes_down.frame 2 ∷ lives.Device 2 settles.frame 2 ∷ []

module _ (root : RootValue) (relays : ℕ → RelayValue) where
  abbrev pub scene_0 : Scene
  scene_0 = limits_scene root relays

  abbrev scene_1 : Scene
  scene_1 = device_up scene_0 2 (offers ∷ settles ∷ []) 4

  abbrev scene_2 : Scene
  scene_2 = device_on scene_1 2 offers (settles ∷ []) 2

  abbrev scene_3 : Scene
  scene_3 = device_up scene_2 3 (leaves ∷ []) 2

  abbrev scene_4 : Scene
  scene_4 = device_on scene_3 3 leaves [] 2

  abbrev scene_5 : Scene
  scene_5 = root_up scene_4 (root_hears ∷ root_clears ∷ []) 2

  abbrev scene_6 : Scene
  scene_6 = relay_up scene_5 relay_new (hears ∷ is_given ∷ sends ∷ []) 1

  abbrev scene_7 : Scene
  scene_7 = relay_on scene_6 hears (is_given ∷ sends ∷ []) 0

  abbrev scene_8 : Scene
  scene_8 = relay_on scene_7 is_given (sends ∷ []) 0

  abbrev scene_9 : Scene
  scene_9 = relay_on scene_8 sends [] 1

  abbrev scene_10 : Scene
  scene_10 = relay_up scene_9 given_again (sends_again ∷ passes_down ∷ []) 3

  abbrev scene_11 : Scene
  scene_11 = relay_on scene_10 sends_again (passes_down ∷ []) 1

  abbrev scene_12 : Scene
  scene_12 = root_on scene_11 root_hears (root_clears ∷ []) 0

  abbrev scene_13 : Scene
  scene_13 = root_on scene_12 root_clears [] 2

  abbrev scene_14 : Scene
  scene_14 = relay_on scene_13 passes_down [] 2

  abbrev pub scene_15 : Scene
  scene_15 = device_on scene_14 2 settles [] 2

  -- the limits are those that device 3 gives under the number of its message
  given_by : (giver : ℕ) → Some 2 ≡ Some giver → CarriesLimits small_tree limits_pricing small_places scene_7.world.seen 1 giver 2 narrow_limits
  unfolding parent is_leaf is_member changes update place_in children_to said_between
  given_by giver e = record {
    x = 3;
    node = (omega arith, omega arith);
    up = refl;
    sender_is = sym (ap (λ (o : Option ℕ). unwrap_or o 0) e);
    place = 0;
    inside = omega arith;
    number_is = refl;
    gone = refl;
    gives = gives;
  }

  -- nothing runs and nothing is stored at first
  pub new : IsNewScene limits_pricing small_places scene_0
  new = is_new limits_pricing giver_terms root relays refl (λ c l is. sym (first_limits c) ∙ some_same (limits_given c 0) l is)

  -- the bytes are those of such a history
  pub happens : Happen small_tree limits_pricing small_places scene_0 limits_events scene_15
  unfolding parent is_leaf is_member changes update place_in children_to said_between device_process giver_process relay_process next_process root_process
  happens =
      via scene_1 (record { leaf = refl; process = device_process; promised = as_promised refl refl; new_is = refl }) (
      via scene_2 (device_goes limits_pricing scene_1 2 offers (settles ∷ []) 2 refl refl refl (omega arith) tt (inl (omega arith))) (
      via scene_3 (record { leaf = refl; process = giver_process; promised = as_promised refl refl; new_is = refl }) (
      via scene_4 (device_goes limits_pricing scene_3 3 leaves [] 2 refl refl refl (omega arith) tt (inl (omega arith))) (
      via scene_5 (record { process = root_process; promised = as_promised refl refl; new_is = refl }) (
      via scene_6 (record { conc = relay_1; limited = refl; gives = giver_2; process = relay_process; promised = as_promised refl refl; new_is = refl }) (
      via scene_7 (relay_goes limits_pricing scene_6 hears (is_given ∷ sends ∷ []) 0 refl refl refl (omega arith)
      (bid_handed limits_pricing small_basis scene_6.world.seen 1 (relay_frame_bytes hears.frame) 2 (omega arith, omega arith) refl (omega arith)
      (omega arith, omega arith, refl, (omega (arith, ints), (omega (arith, ints), (omega (arith, ints), tt)))) refl (λ ne. passes_by)) (inr refl) refl) (
      via scene_8 (relay_goes limits_pricing scene_7 is_given (sends ∷ []) 0 refl refl refl (omega arith) given_by (inr refl) refl) (
      via scene_9 (relay_goes limits_pricing scene_8 sends [] 1 refl refl refl (omega arith) tt (inl (omega arith)) refl) (
      via scene_10 (record { conc = relay_1; limited = refl; gives = giver_2; process = next_process; promised = as_promised refl refl; new_is = refl }) (
      via scene_11 (relay_goes limits_pricing scene_10 sends_again (passes_down ∷ []) 1 refl refl refl (omega arith)
      (bid_handed limits_pricing small_basis scene_10.world.seen 1 (relay_frame_bytes sends_again.frame) 2 (omega arith, omega arith) refl (omega arith)
      (omega arith, omega arith, refl, (omega (arith, ints), (omega (arith, ints), (omega (arith, ints), tt)))) refl (λ ne. passes_by))
      (inl (omega arith)) refl) (
      via scene_12 (root_goes limits_pricing scene_11 root_hears (root_clears ∷ []) 0 refl refl (omega arith)
      (bid_handed limits_pricing small_basis scene_11.world.seen 0 (root_frame_bytes root_hears.frame) 1 (omega arith, omega arith) refl (omega arith)
      (omega arith, omega arith, refl, (omega (arith, ints), (omega (arith, ints), (omega (arith, ints), tt)))) refl (λ ne. absurd (ne refl)))
      (inr refl) refl) (
      via scene_13 (root_goes limits_pricing scene_12 root_clears [] 2 refl refl (omega arith) tt (inl (omega arith)) refl) (
      via scene_14 (relay_goes limits_pricing scene_13 passes_down [] 2 refl refl refl (omega arith)
      (price_handed small_basis scene_13.world.seen 1 (relay_frame_bytes passes_down.frame) (omega arith)
      (omega arith, omega arith, omega arith, omega arith, (omega (arith, ints), omega (arith, ints), omega arith)) refl) (inl (omega arith)) refl) (
      via scene_15 (device_goes limits_pricing scene_14 2 settles [] 2 refl refl refl (omega arith)
      (price_handed small_basis scene_14.world.seen 2 (device_frame_bytes settles.frame) (omega arith)
      (omega arith, omega arith, omega arith, omega arith, (omega (arith, ints), omega (arith, ints), omega arith)) refl) (inl (omega arith))) (
      refl)))))))))))))))

  -- the steps of lives that the events are
  pub steps_are : life_steps small_tree limits_pricing small_places scene_0 limits_events scene_15 happens ≡ limits_steps
  unfolding happens device_process giver_process relay_process next_process root_process
  steps_are = refl

  unfoldable pub holds_limits : HistoryHoldsLimits scene_0
  unfolding parent is_leaf is_member changes update place_in children_to said_between
  holds_limits = record {
    none = new;
    last = scene_15;
    happen = happens;
    bid = refl;
    price_to_relay = refl;
    price_to_device = refl;
    setpoint = refl;
    limits = refl;
    given_by = refl;
  }
