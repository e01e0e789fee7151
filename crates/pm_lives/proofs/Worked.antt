-- A worked life.
use Rattle.std.proofs.Common.{◌≡◌, ℕ, ℤ, true, List, take, Some, refl, inl, arith}
use Rattle.pm_base.specs.declared.limits.Limits.{Limits}
use Rattle.pm_market.specs.Lists.{Lists, IsLeaf}
use Rattle.pm_market.specs.State.{update, no_changes}
use Rattle.pm_net.specs.Pricing.{Pricing}
use Rattle.pm_net_plan.specs.Places.{Numbering}
use Rattle.pm_control.specs.Control.{agent_stored}
use Rattle.pm_relay.specs.Relays.{RelayValue}
use Rattle.pm_relay.specs.Roots.{RootValue}
use Rattle.pm_frames.specs.declared.device.DeviceFrame.{DeviceFrame}
use Rattle.pm_frames.specs.declared.device.DeviceFrame.TheVariants.{Offer}
use Rattle.pm_frames.specs.declared.form.OfferForm.TheVariants.{Array}
use Rattle.pm_basis.specs.Prices.{BasisValue}
use Rattle.pm_frames.specs.declared.terms.RelayTerms.{RelayTerms}
use Rattle.pm_services.specs.DeviceWrites.{agent_after}
use Rattle.pm_system.specs.System.{with_agent}
use Rattle.pm_lives.specs.DeviceLife.{IsGivenOffer}
use Rattle.pm_services.specs.DeviceWrites.{device_outs}
use Rattle.pm_lives.specs.Lives.{World, IsNewWorld, handed_out, stored_last, restart_outs}
use Rattle.pm_lives.specs.Worked.{new_world, LifeGoesOn}

abbrev up_after : Lists → Pricing → Numbering → World → ℕ → ℕ → World
up_after lists p numbering world d n = record world {
  seen = handed_out lists numbering (with_agent world.seen d
      (agent_stored (world.agent_kept d).number (world.agent_kept d).newest (world.agent_kept d).index)) d (take n (restart_outs p (world.agent_kept d)));
  up = update world.up d true;
}

abbrev read_after : Lists → Pricing → Numbering → World → ℕ → DeviceFrame → ℕ → World
read_after lists p numbering world d frame n = record world {
  seen = handed_out lists numbering (with_agent world.seen d (agent_after (world.seen.agents d) frame)) d
      (take n (device_outs p.steps world.basis (world.seen.agents d) frame));
  agent_kept = update world.agent_kept d (stored_last (world.agent_kept d) (take n (device_outs p.steps world.basis (world.seen.agents d) frame)));
}

-- in a new world nothing runs, is stored or was handed out
pub is_new_world : (p : Pricing) (numbering : Numbering) (basis : BasisValue) (terms : ℕ → RelayTerms) (root : RootValue)
    (relays : ℕ → RelayValue) →
    ((c : ℕ) (l : Limits) → p.limits c no_changes ≡ Some l → (terms c).limits ≡ l) → IsNewWorld p numbering
    (new_world numbering basis terms root relays)
is_new_world p numbering basis terms root relays are = record {
  up = λ y. refl;
  limits = are;
  relay_kept = λ c. refl;
  root_kept = refl;
  agent_kept = λ d. refl;
  bids_sent = λ x. refl;
  prices_sent = λ x. refl;
  setpoints = λ d. refl;
  let_go = λ d. refl;
}

-- the cut life goes on: the bid is handed out under the stored number
pub goes_on : (lists : Lists) (p : Pricing) (numbering : Numbering) (basis : BasisValue) (terms : ℕ → RelayTerms) (root : RootValue)
    (relays : ℕ → RelayValue) (demand : List ℤ) →
    ((c : ℕ) (l : Limits) → p.limits c no_changes ≡ Some l → (terms c).limits ≡ l) → IsLeaf lists 1 → IsGivenOffer lists p 1 2 demand →
    LifeGoesOn lists p numbering (new_world numbering basis terms root relays) demand
unfolding update
goes_on lists p numbering basis terms root relays demand are leaf given =
    let one : World = up_after lists p numbering (new_world numbering basis terms root relays) 1 0 in
    let two : World = read_after lists p numbering one 1 (Offer Array demand) 1 in
    let three : World = up_after lists p numbering two 1 1 in
    record {
      none = is_new_world p numbering basis terms root relays are;
      new = three;
      live = (
        one,
        record { leaf = leaf; new_is = refl },
        (
          two,
          record { leaf = leaf; runs = refl; may = λ e room. given; handled = inl (omega arith); new_is = refl },
          (three, record { leaf = leaf; new_is = refl }, refl),
        ),
      );
      bid = refl;
    }
