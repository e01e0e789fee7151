-- What is still to come of each process, and that it stays so while another node moves.
use Rattle.std.proofs.Common.{◌≡◌, ◌∙◌, sym, ap, subst, ℕ, ◌+◌, true, List, Option}
use Rattle.std.proofs.Common.{inl, inr}
use Rattle.std.proofs.lemmas.Bool.{cases_eq}
use Rattle.pm_market.specs.Lists.{Lists, IsLeaf, IsConcentrator}
use Rattle.pm_session.specs.declared.price.PriceUpdate.{PriceUpdate}
use Rattle.pm_net.specs.Pricing.{Pricing}
use Rattle.pm_net.specs.Agents.{DeviceAgent}
use Rattle.pm_net_plan.specs.Places.{Numbering}
use Rattle.pm_relay.specs.Relays.{RelayValue}
use Rattle.pm_relay.specs.Roots.{RootValue}
use Rattle.pm_basis.specs.Prices.{BasisValue}
use Rattle.pm_frames.specs.declared.terms.RelayTerms.{RelayTerms}
use Rattle.pm_services.specs.RelaySetups.{RelaySetup}
use Rattle.pm_lives.specs.Lives.{World, setup_of}
use Rattle.pm_processes.proofs.Offers.{AreDemands}
use Rattle.pm_processes.proofs.Streams.{RelayStream, RootStream}
use Rattle.pm_processes.proofs.Streams.{DeviceStream}
use Rattle.pm_processes.specs.RelayProcess.{RelayExchange, RelayExchanges, setup_with}
use Rattle.pm_processes.specs.RootProcess.{RootExchange, RootExchanges}
use Rattle.pm_processes.specs.DeviceProcess.{DeviceExchange, DeviceExchanges}
use Rattle.pm_processes.specs.History.{Scene}

-- what is still to come of each process that runs is what its node makes of the frames
pub record Follows (lists : Lists) (p : Pricing) (numbering : Numbering) (scene : Scene) : Type 0 where
  -- the basis of all has the steps of the market
  pub steps : scene.world.basis.steps ≡ p.steps
  -- of each relay
  pub relays : (c : ℕ) → IsConcentrator lists c → scene.world.up c ≡ true →
      RelayExchanges (setup_of numbering scene.world c) (record { relay = scene.world.seen.relays c; waiting = scene.world.waiting c }) (scene.relay_next c)
  -- and these frames stand in its stream
  pub relay_streams : (c : ℕ) → IsConcentrator lists c → scene.world.up c ≡ true →
      RelayStream (scene.world.terms c) scene.world.basis (scene.relay_next c)
  -- so it is of the auctioneer
  pub root : scene.world.up 0 ≡ true → RootExchanges scene.world.basis scene.world.seen.root scene.root_next
  pub root_stream : scene.world.up 0 ≡ true → RootStream scene.world.basis scene.root_next
  -- and of each device
  pub devices : (d : ℕ) → IsLeaf lists d → scene.world.up d ≡ true →
      DeviceExchanges p scene.world.basis (scene.world.seen.agents d) (scene.device_next d)
  -- in its stream
  pub device_streams : (d : ℕ) → IsLeaf lists d → scene.world.up d ≡ true → DeviceStream scene.world.basis (scene.device_next d)
  -- the offers of a device are demands
  pub offers : (d : ℕ) → IsLeaf lists d → scene.world.up d ≡ true → AreDemands p.steps (scene.world.seen.agents d)

-- ---- the same values

-- the same frames are answered by the same values
pub relay_as : (own : RelaySetup) (r r' : RelayValue) (w w' : Option PriceUpdate) (es es' : List RelayExchange) → r' ≡ r → w' ≡ w → es' ≡ es →
    RelayExchanges own (record { relay = r; waiting = w }) es → RelayExchanges own (record { relay = r'; waiting = w' }) es'
relay_as own r r' w w' es es' e1 e2 e3 is =
    subst (λ (x : RelayValue). RelayExchanges own (record { relay = x; waiting = w' }) es') (sym e1)
    (subst (λ (x : Option PriceUpdate). RelayExchanges own (record { relay = r; waiting = x }) es') (sym e2)
    (subst (λ (x : List RelayExchange). RelayExchanges own (record { relay = r; waiting = w }) x) (sym e3) is))

-- so it is of a device
pub device_as : (p : Pricing) (basis : BasisValue) (a a' : DeviceAgent) (es es' : List DeviceExchange) → a' ≡ a → es' ≡ es →
    DeviceExchanges p basis a es → DeviceExchanges p basis a' es'
device_as p basis a a' es es' e1 e2 is =
    subst (λ (x : DeviceAgent). DeviceExchanges p basis x es') (sym e1)
    (subst (λ (x : List DeviceExchange). DeviceExchanges p basis a x) (sym e2) is)

module _ (lists : Lists) (p : Pricing) (numbering : Numbering) (old : Scene) where
  abbrev world : World
  world = old.world

  -- two scenes are the same but for node y
  pub record Agrees (y : ℕ) (new : Scene) : Type 0 where
    -- nobody's Hello and arguments change
    pub basis : new.world.basis ≡ world.basis
    pub terms : new.world.terms ≡ world.terms
    -- the same other processes run, and each other relay has the same value
    pub up : (z : ℕ) → (z ≡ y → ⊥) → new.world.up z ≡ world.up z
    pub relays : (z : ℕ) → (z ≡ y → ⊥) → new.world.seen.relays z ≡ world.seen.relays z
    -- and the same price waiting; so has each other device
    pub waiting : (z : ℕ) → (z ≡ y → ⊥) → new.world.waiting z ≡ world.waiting z
    pub agents : (z : ℕ) → (z ≡ y → ⊥) → new.world.seen.agents z ≡ world.seen.agents z
    -- and the auctioneer unless it is y; and of each other node the same is to come
    pub root : (0 ≡ y → ⊥) → new.world.seen.root ≡ world.seen.root
    pub relay_next : (z : ℕ) → (z ≡ y → ⊥) → new.relay_next z ≡ old.relay_next z
    -- also of devices, and of the auctioneer
    pub device_next : (z : ℕ) → (z ≡ y → ⊥) → new.device_next z ≡ old.device_next z
    pub root_next : (0 ≡ y → ⊥) → new.root_next ≡ old.root_next

  setup_as : (y c : ℕ) (new : Scene) → Agrees y new → setup_of numbering new.world c ≡ setup_of numbering world c
  setup_as y c new agrees =
      ap (λ (b : BasisValue). setup_with (numbering.place c + 1) (new.world.terms c) b) agrees.basis
      ∙ ap (λ (t : ℕ → RelayTerms). setup_with (numbering.place c + 1) (t c) world.basis) agrees.terms

  -- what is still to come of the others is as before
  pub follows_but : Follows lists p numbering old → (y : ℕ) (new : Scene) → Agrees y new →
      (IsConcentrator lists y → RelayExchanges (setup_of numbering world y)
      (record { relay = new.world.seen.relays y; waiting = new.world.waiting y }) (new.relay_next y)
      × RelayStream (world.terms y) world.basis (new.relay_next y)) →
      (0 ≡ y → RootExchanges world.basis new.world.seen.root new.root_next × RootStream world.basis new.root_next) →
      (IsLeaf lists y → DeviceExchanges p world.basis (new.world.seen.agents y) (new.device_next y)
      × AreDemands p.steps (new.world.seen.agents y) × DeviceStream world.basis (new.device_next y)) → Follows lists p numbering new
  follows_but is y new agrees relay root device = record {
    steps = ap (λ (b : BasisValue). b.steps) agrees.basis ∙ is.steps;
    relays = λ c conc up. subst (λ (s : RelaySetup). RelayExchanges s (record { relay = new.world.seen.relays c; waiting = new.world.waiting c })
        (new.relay_next c)) (sym (setup_as y c new agrees)) (elim (cases_eq c y) [
          | inl e ↦ subst (λ (z : ℕ). RelayExchanges (setup_of numbering world z)
              (record { relay = new.world.seen.relays z; waiting = new.world.waiting z }) (new.relay_next z)) (sym e)
              (relay (subst (λ (z : ℕ). IsConcentrator lists z) e conc)).0
          | inr ne ↦ relay_as (setup_of numbering world c) (world.seen.relays c) (new.world.seen.relays c) (world.waiting c) (new.world.waiting c)
              (old.relay_next c) (new.relay_next c) (agrees.relays c ne) (agrees.waiting c ne) (agrees.relay_next c ne)
              (is.relays c conc (sym (agrees.up c ne) ∙ up))
        ]);
    relay_streams = λ c conc up. subst (λ (b : BasisValue). RelayStream (new.world.terms c) b (new.relay_next c)) (sym agrees.basis)
        (subst (λ (t : ℕ → RelayTerms). RelayStream (t c) world.basis (new.relay_next c)) (sym agrees.terms) (elim (cases_eq c y) [
          | inl e ↦ subst (λ (z : ℕ). RelayStream (world.terms z) world.basis (new.relay_next z)) (sym e)
              (relay (subst (λ (z : ℕ). IsConcentrator lists z) e conc)).1
          | inr ne ↦ subst (λ (l : List RelayExchange). RelayStream (world.terms c) world.basis l) (sym (agrees.relay_next c ne))
              (is.relay_streams c conc (sym (agrees.up c ne) ∙ up))
        ]));
    root = λ up. subst (λ (b : BasisValue). RootExchanges b new.world.seen.root new.root_next) (sym agrees.basis) (elim (cases_eq 0 y) [
      | inl e ↦ (root e).0
      | inr ne ↦ subst (λ (r : RootValue). RootExchanges world.basis r new.root_next) (sym (agrees.root ne))
          (subst (λ (l : List RootExchange). RootExchanges world.basis world.seen.root l) (sym (agrees.root_next ne))
          (is.root (sym (agrees.up 0 ne) ∙ up)))
    ]);
    root_stream = λ up. subst (λ (b : BasisValue). RootStream b new.root_next) (sym agrees.basis) (elim (cases_eq 0 y) [
      | inl e ↦ (root e).1
      | inr ne ↦ subst (λ (l : List RootExchange). RootStream world.basis l) (sym (agrees.root_next ne)) (is.root_stream (sym (agrees.up 0 ne) ∙ up))
    ]);
    devices = λ d leaf up. subst (λ (b : BasisValue). DeviceExchanges p b (new.world.seen.agents d) (new.device_next d)) (sym agrees.basis)
        (elim (cases_eq d y) [
          | inl e ↦ subst (λ (z : ℕ). DeviceExchanges p world.basis (new.world.seen.agents z) (new.device_next z)) (sym e)
              (device (subst (λ (z : ℕ). IsLeaf lists z) e leaf)).0
          | inr ne ↦ device_as p world.basis (world.seen.agents d) (new.world.seen.agents d) (old.device_next d) (new.device_next d) (agrees.agents d ne)
              (agrees.device_next d ne) (is.devices d leaf (sym (agrees.up d ne) ∙ up))
        ]);
    device_streams = λ d leaf up. subst (λ (b : BasisValue). DeviceStream b (new.device_next d)) (sym agrees.basis) (elim (cases_eq d y) [
      | inl e ↦ subst (λ (z : ℕ). DeviceStream world.basis (new.device_next z)) (sym e) (device (subst (λ (z : ℕ). IsLeaf lists z) e leaf)).2
      | inr ne ↦ subst (λ (l : List DeviceExchange). DeviceStream world.basis l) (sym (agrees.device_next d ne))
          (is.device_streams d leaf (sym (agrees.up d ne) ∙ up))
    ]);
    offers = λ d leaf up. elim (cases_eq d y) [
      | inl e ↦ subst (λ (z : ℕ). AreDemands p.steps (new.world.seen.agents z)) (sym e) (device (subst (λ (z : ℕ). IsLeaf lists z) e leaf)).1
      | inr ne ↦ subst (AreDemands p.steps) (sym (agrees.agents d ne)) (is.offers d leaf (sym (agrees.up d ne) ∙ up))
    ];
  }
