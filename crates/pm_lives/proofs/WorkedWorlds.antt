-- The worked world after each of its steps.
use Rattle.std.proofs.Common.{ℕ, ◌+◌, true, ℤ, pos, negsuc, List, [], ◌∷◌}
use Rattle.std.proofs.Common.{take, replicate, Some, None}
use Rattle.pm_base.specs.Limits.{most_nodes}
use Rattle.pm_market.specs.State.{update}
use Rattle.pm_control.specs.Control.{agent_stored}
use Rattle.pm_relay.specs.Relays.{RelayValue, with_child_bid}
use Rattle.pm_relay.specs.Roots.{RootValue, with_root_bid}
use Rattle.pm_relay.specs.declared.outcome.PriceOutcome.TheVariants.{PassedOn}
use Rattle.pm_frames.specs.Stored.{StoredRelay, StoredRoot}
use Rattle.pm_frames.specs.declared.parent.ParentFrame.TheVariants.{Price}
use Rattle.pm_frames.specs.declared.device.DeviceFrame.{DeviceFrame}
use Rattle.pm_frames.specs.declared.device.DeviceFrame.TheVariants as device_frame
use Rattle.pm_frames.specs.declared.form.OfferForm.TheVariants.{Array}
use Rattle.pm_services.specs.RelayWrites.{stored_relay}
use Rattle.pm_services.specs.RootWrites.{stored_root}
use Rattle.pm_frames.specs.declared.terms.RelayTerms.{RelayTerms}
use Rattle.pm_services.specs.RelaySetups.{RelaySetup}
use Rattle.pm_services.specs.DeviceWrites.{agent_after}
use Rattle.pm_system.specs.System.{with_root, with_relay, with_agent}
use Rattle.pm_system.specs.Worked.{small_tree, small_places, small_limits, small_device_demand, small_pricing}
use Rattle.pm_session.specs.declared.price.PriceUpdate.{PriceUpdate}
use Rattle.pm_system.proofs.Worked.{relay_back}
use Rattle.pm_system.proofs.WorkedValues.{new_root, sent_relay, rebuilt_relay, cleared_root, passed_relay}
use Rattle.pm_services.specs.Outputs.{Output, Keeps}
use Rattle.pm_services.specs.RelayWrites.{bid_outs, price_outs}
use Rattle.pm_services.specs.RootWrites.{clearing_outs}
use Rattle.pm_services.specs.DeviceWrites.{device_outs}
use Rattle.pm_lives.specs.Lives.{World, handed_out, stored_last, restart_outs}
use Rattle.pm_lives.specs.Worked.{new_world}
use Rattle.pm_lives.specs.WorkedLives.{small_basis}

abbrev pub small_terms : RelayTerms
small_terms = record { limits = small_limits; giver = None }

abbrev pub small_setup : RelaySetup
small_setup = record { child = small_places.place 1 + 1; terms = small_terms; basis = small_basis }

abbrev pub root_read : World → RootValue → List (Output StoredRoot) → ℕ → World
root_read world after outs n = record world {
  seen = handed_out small_tree small_places (with_root world.seen after) 0 (take n outs);
  root_kept = stored_last world.root_kept (take n outs);
}

abbrev pub relay_read : World → RelayValue → List (Output StoredRelay) → ℕ → World
relay_read world after outs n = record world {
  seen = handed_out small_tree small_places (with_relay world.seen 1 after) 1 (take n outs);
  waiting = update world.waiting 1 None;
  relay_kept = update world.relay_kept 1 (stored_last (world.relay_kept 1) (take n outs));
}

abbrev pub relay_begun : World → RelayValue → World
relay_begun world relay = record world { seen = with_relay world.seen 1 relay; up = update world.up 1 true; waiting = update world.waiting 1 None }

abbrev pub device_begun : World → ℕ → World
device_begun world d = record world {
  seen = handed_out small_tree small_places (with_agent world.seen d
      (agent_stored (world.agent_kept d).number (world.agent_kept d).newest (world.agent_kept d).index)) d
      (take 0 (restart_outs small_pricing (world.agent_kept d)));
  up = update world.up d true;
}

abbrev pub device_read : World → ℕ → DeviceFrame → World
device_read world d frame = record world {
  seen = handed_out small_tree small_places (with_agent world.seen d (agent_after (world.seen.agents d) frame)) d
      (take 2 (device_outs small_pricing.steps small_basis (world.seen.agents d) frame));
  agent_kept = update world.agent_kept d (stored_last (world.agent_kept d) (take 2 (device_outs small_pricing.steps small_basis (world.seen.agents d) frame)));
}

abbrev pub heard : World → ℕ → ℕ → ℕ → RelayValue
heard world place number d = with_child_bid (world.seen.relays 1) place number (Some (small_device_demand d number))

abbrev pub heard_root : World → ℕ → List ℤ → RootValue
heard_root world number demand = with_root_bid world.seen.root 0 number (Some demand)

abbrev pub sent_outs : RelayValue → List (Output StoredRelay)
sent_outs r = Keeps (stored_relay small_setup r) ∷ bid_outs r

abbrev pub cleared_outs : RootValue → List (Output StoredRoot)
cleared_outs r = Keeps (stored_root small_basis r) ∷ clearing_outs r

-- the price of the second clearing, as the relay takes it
abbrev pub second_price : PriceUpdate
second_price = record { step = 0; number = 2; index = 2 }

abbrev pub w0 : World
w0 = new_world small_places small_basis (λ c. small_terms) new_root (λ c. relay_back 0 0 0 (replicate most_nodes 0))

abbrev pub w1 : World
w1 = record w0 { seen = with_root w0.seen new_root; up = update w0.up 0 true }

abbrev pub w2 : World
w2 = relay_begun w1 (relay_back 0 0 0 (replicate most_nodes 0))

abbrev pub w3 : World
w3 = device_begun w2 2

abbrev pub w4 : World
w4 = device_begun w3 3

abbrev pub w5 : World
w5 = device_read w4 2 (device_frame.Offer Array (small_device_demand 2 2))

abbrev pub w6 : World
w6 = device_read w5 3 (device_frame.Offer Array (small_device_demand 3 2))

abbrev pub w7 : World
w7 = relay_read w6 (heard w6 0 2 2) [] 0

abbrev pub w8 : World
w8 = relay_read w7 (heard w7 1 2 3) [] 0

abbrev pub w9 : World
w9 = relay_read w8 (sent_relay (w8.seen.relays 1)) (sent_outs (sent_relay (w8.seen.relays 1))) 2

abbrev pub w10 : World
w10 = root_read w9 (heard_root w9 1 (pos 5 ∷ pos 5 ∷ negsuc 2 ∷ [])) [] 0

abbrev pub w11 : World
w11 = root_read w10 (cleared_root w10.seen.root) (cleared_outs (cleared_root w10.seen.root)) 1

abbrev pub w12 : World
w12 = device_read w11 2 (device_frame.Offer Array (small_device_demand 2 4))

abbrev pub w13 : World
w13 = relay_read w12 (heard w12 0 4 2) [] 0

abbrev pub w14 : World
w14 = relay_read w13 (sent_relay (w13.seen.relays 1)) (sent_outs (sent_relay (w13.seen.relays 1))) 1

abbrev pub w15 : World
w15 = relay_begun w14 (relay_back 2 0 0 (w14.relay_kept 1).numbers)

abbrev pub w16 : World
w16 = relay_read w15 (heard w15 1 2 3) [] 0

abbrev pub w17 : World
w17 = relay_read w16 (rebuilt_relay (heard w16 0 4 2)) (bid_outs (rebuilt_relay (heard w16 0 4 2))) 1

abbrev pub w18 : World
w18 = root_read w17 (heard_root w17 2 (negsuc 0 ∷ negsuc 0 ∷ negsuc 0 ∷ [])) [] 0

abbrev pub w19 : World
w19 = root_read w18 (cleared_root w18.seen.root) (cleared_outs (cleared_root w18.seen.root)) 2

abbrev pub w20 : World
w20 = relay_read w19 (passed_relay (w19.seen.relays 1) second_price)
    (price_outs small_setup None (passed_relay (w19.seen.relays 1) second_price) second_price PassedOn) 3

abbrev pub w21 : World
w21 = device_read w20 2 (device_frame.Parent (Price 1 4 2 1 small_basis))

abbrev pub w22 : World
w22 = device_read w21 3 (device_frame.Parent (Price 2 2 2 1 small_basis))
