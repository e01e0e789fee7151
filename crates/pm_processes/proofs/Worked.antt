-- The worked history, event by event.
use Rattle.std.proofs.Common.{◌≡◌, sym, ℕ, ℤ, pos, negsuc, ◌-◌, List, [], ◌∷◌, length, take, true}
use Rattle.std.proofs.Common.{Some, None, refl, inl, inr, arith}
use Rattle.std.proofs.lemmas.Int.{ints}
use Rattle.std.specs.Prelude.{FitsSigned}
use Rattle.std.specs.Int.{w32}
use Rattle.std.specs.List.{AllByRecursion}
use Rattle.pm_bid.specs.Taken.{said_between}
use Rattle.pm_market.specs.Lists.{parent, is_leaf, is_member, changes}
use Rattle.pm_market.specs.State.{update, no_changes}
use Rattle.pm_net.specs.Pricing.{Pricing}
use Rattle.pm_base.specs.declared.limits.Limits.{Limits}
use Rattle.pm_frames.specs.declared.terms.RelayTerms.{RelayTerms}
use Rattle.pm_net.specs.Agents.{DeviceAgent}
use Rattle.pm_net_plan.specs.Places.{children_to, place_in}
use Rattle.pm_control.specs.Control.{agent_stored}
use Rattle.pm_relay.specs.Relays.{RelayValue}
use Rattle.pm_relay.specs.Roots.{RootValue}
use Rattle.pm_frames.specs.declared.stored.StoredAgent.{StoredAgent}
use Rattle.pm_frames.specs.declared.device.DeviceFrame.TheVariants.{Offer}
use Rattle.pm_frames.specs.declared.form.OfferForm.TheVariants.{Array}
use Rattle.pm_system.specs.System.{with_agent}
use Rattle.pm_system.specs.Given.{IsDemand}
use Rattle.pm_system.specs.Worked.{small_tree, small_places, small_limits, small_pricing}
use Rattle.pm_system.proofs.Given.{some_same}
use Rattle.pm_services.specs.DeviceWrites.{device_outs, agent_after, stored_agent}
use Rattle.pm_lives.specs.Lives.{handed_out, restart_outs, no_agent_stored}
use Rattle.pm_lives.specs.WorkedLives.{small_basis}
use Rattle.pm_processes.specs.DeviceProcess.{DeviceProcess, DeviceExchange}
use Rattle.pm_processes.specs.History.{Scene, DeviceBegins, DeviceGoesOn, Happens1, IsNewScene}
use Rattle.pm_processes.specs.Worked.{took_first, wrote_first, took_second, wrote_second, bid_begun, bid_rest, new_scene, no_terms, small_scene}
use Rattle.pm_processes.specs.Worked.{HistoryGoesOn}
use Rattle.pm_processes.proofs.Offers.{is_demand}
use Rattle.pm_processes.proofs.WorkedEvents.{as_promised, wrote_all, device_on, device_goes}
use Rattle.pm_lives.proofs.Worked.{is_new_world}

abbrev demand : List ℤ
demand = pos 6 ∷ pos 4 ∷ negsuc 1 ∷ []

demand_is : IsDemand 3 demand
demand_is = is_demand 3 demand refl refl

demand_fits : AllByRecursion (λ (z : ℤ). FitsSigned w32 z) demand
demand_fits = (omega (arith, ints), (omega (arith, ints), (omega (arith, ints), tt)))

abbrev agent_first : DeviceAgent
agent_first = agent_stored 0 None 0

abbrev agent_then : DeviceAgent
agent_then = agent_after agent_first (Offer Array demand)

abbrev stored : StoredAgent
stored = stored_agent small_basis agent_then

abbrev answer : DeviceExchange
answer = record { frame = Offer Array demand; after = agent_then; outs = device_outs small_pricing.steps small_basis agent_first (Offer Array demand) }

process_first : DeviceProcess small_pricing 1 took_first wrote_first
process_first = record {
  basis = small_basis;
  resume = None;
  exchanges = answer ∷ [];
  rest = [];
  newest = tt;
  begins = record {
    stand = (
      record { formed = (omega (arith, ints), omega (arith, ints), omega arith); accepted = refl },
      (record { formed = (tt, (refl, demand_fits)); accepted = (tt, refl) }, tt),
    );
    spelled = refl;
  };
  answers = (inl (demand_is, tt, refl, refl), tt);
  written = wrote_all 36 (record { n = 1; rest = bid_begun; held = refl; part = inr (omega arith, (bid_rest, refl)) }) refl;
}

process_second : DeviceProcess small_pricing 1 took_second wrote_second
process_second = record {
  basis = small_basis;
  resume = Some stored;
  exchanges = [];
  rest = [];
  newest = demand_is;
  begins = record {
    stand = (
      record { formed = (omega (arith, ints), omega (arith, ints), omega arith); accepted = refl },
      (
        record {
          formed = (tt, (omega arith, omega arith, (omega (arith, ints), omega (arith, ints), omega arith), (refl, demand_fits)));
          accepted = (refl, refl, (omega arith, refl));
        },
        tt,
      ),
    );
    spelled = refl;
  };
  answers = tt;
  written = wrote_all 19 (record { n = 1; rest = []; held = refl; part = inl refl }) refl;
}

-- of a new scene nothing runs, is stored or was handed out
pub is_new : (p : Pricing) (terms : ℕ → RelayTerms) (root : RootValue) (relays : ℕ → RelayValue) → p.steps ≡ 3 →
    ((c : ℕ) (l : Limits) → p.limits c no_changes ≡ Some l → (terms c).limits ≡ l) → IsNewScene p small_places (new_scene terms root relays)
is_new p terms root relays steps limits =
    record { new_world = is_new_world p small_places small_basis terms root relays limits; steps = sym steps }

module _ (root : RootValue) (relays : ℕ → RelayValue) where
  abbrev scene_0 : Scene
  scene_0 = small_scene root relays

  abbrev begun : Scene → StoredAgent → List DeviceExchange → ℕ → Scene
  begun old kept next n = record old {
    world = record old.world {
      seen = handed_out small_tree small_places (with_agent old.world.seen 2 (agent_stored kept.number kept.newest kept.index)) 2
          (take n (restart_outs small_pricing kept));
      up = update old.world.up 2 true;
    };
    device_next = update old.device_next 2 next;
    left = update old.left 2 (n - length (restart_outs small_pricing kept));
  }

  abbrev scene_1 : Scene
  scene_1 = begun scene_0 (no_agent_stored small_basis) (answer ∷ []) 1

  abbrev scene_2 : Scene
  scene_2 = device_on scene_1 2 answer [] 1

  abbrev scene_3 : Scene
  scene_3 = begun scene_2 (scene_2.world.agent_kept 2) [] 1

  happens_1 : Happens1 small_tree small_pricing small_places scene_0 (DeviceBegins 2 took_first wrote_first) scene_1
  unfolding parent is_leaf is_member changes update place_in children_to said_between process_first
  happens_1 = record { leaf = refl; process = process_first; promised = as_promised refl refl; new_is = refl }

  happens_2 : Happens1 small_tree small_pricing small_places scene_1 (DeviceGoesOn 2) scene_2
  unfolding parent is_leaf is_member changes update place_in children_to said_between
  happens_2 = device_goes small_pricing scene_1 2 answer [] 1 refl refl refl (omega arith) tt (inl (omega arith))

  happens_3 : Happens1 small_tree small_pricing small_places scene_2 (DeviceBegins 2 took_second wrote_second) scene_3
  unfolding parent is_leaf is_member changes update place_in children_to said_between process_second
  happens_3 = record { leaf = refl; process = process_second; promised = as_promised refl refl; new_is = refl }

  -- the bytes are those of such a history
  pub goes_on : HistoryGoesOn (small_scene root relays)
  unfolding parent is_leaf is_member changes update place_in children_to said_between
  goes_on = record {
    none = is_new small_pricing no_terms root relays refl (λ c l is. some_same small_limits l is);
    last = scene_3;
    happen = (scene_1, happens_1, (scene_2, happens_2, (scene_3, happens_3, refl)));
    bid = refl;
  }
