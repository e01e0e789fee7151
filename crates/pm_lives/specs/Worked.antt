-- A worked life: a device offers, its process is killed between the Resume and the bid, and the next process sends the bid.
use Rattle.std.specs.Prelude.{◌≡◌, ℕ, ◌+◌, ℤ, false, List, [], ◌∷◌, None}
use Rattle.pm_basis.specs.Prices.{BasisValue}
use Rattle.pm_frames.specs.declared.terms.RelayTerms.{RelayTerms}
use Rattle.pm_market.specs.Lists.{Lists}
use Rattle.pm_net.specs.Pricing.{Pricing}
use Rattle.pm_net.specs.Messages.{bid_message}
use Rattle.pm_net.specs.Agents.{new_agent}
use Rattle.pm_net_plan.specs.Places.{Numbering}
use Rattle.pm_relay.specs.Relays.{RelayValue}
use Rattle.pm_relay.specs.Roots.{RootValue}
use Rattle.pm_frames.specs.declared.device.DeviceFrame.TheVariants.{Offer}
use Rattle.pm_frames.specs.declared.form.OfferForm.TheVariants.{Array}
use Rattle.pm_lives.specs.RelayLife.{no_relay_stored}
use Rattle.pm_lives.specs.Lives.{World, LifeStep, DeviceUp, Device, Live, IsNewWorld, no_root_stored, no_agent_stored}

-- a world in which no process ran, of this basis and of relays with these arguments
abbrev pub new_world : Numbering → BasisValue → (ℕ → RelayTerms) → RootValue → (ℕ → RelayValue) → World
new_world numbering basis' terms' root' relays' = record {
  basis = basis';
  terms = terms';
  seen = record {
    root = root';
    relays = relays';
    agents = λ d. new_agent;
    setpoints = λ d. [];
    bids_sent = λ x. [];
    prices_sent = λ x. [];
  };
  up = λ y. false;
  waiting = λ c. None;
  relay_kept = λ c. no_relay_stored (record { child = numbering.place c + 1; terms = terms' c; basis = basis' });
  root_kept = no_root_stored basis';
  agent_kept = λ d. no_agent_stored basis';
  let_go = λ d. 0;
}

-- device 1 comes up, offers, and of the answer the Resume alone is handled; it comes up again
abbrev pub cut_life : List ℤ → List LifeStep
cut_life demand = DeviceUp 1 0 ∷ Device 1 (Offer Array demand) 1 ∷ DeviceUp 1 1 ∷ []

-- the bid is handed out then, under the number that was stored
pub record LifeGoesOn (lists : Lists) (p : Pricing) (numbering : Numbering) (start : World) (demand : List ℤ) : Type 0 where
  pub none : IsNewWorld p numbering start
  pub new : World
  pub live : Live lists p numbering start (cut_life demand) new
  pub bid : new.seen.bids_sent 1 ≡ bid_message 2 false demand ∷ []
