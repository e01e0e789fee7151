-- In any lives, the limits that are stored of a relay are those of a message of its giver.
use Rattle.std.proofs.Common.{◌≡◌, ◌∙◌, sym, ap, subst, ℕ, Bool, true, replicate, List, [], ◌∷◌, take, Some, None, refl}
use Rattle.std.proofs.Common.{inl, inr, arith, cond, eqb}
use Rattle.std.proofs.lemmas.Bool.{cases_eq, cases_lt, both_ways}
use Rattle.std.proofs.lemmas.List.{get_or-replicate, get_or_past, length-replicate}
use Rattle.pm_base.specs.Limits.{most_nodes}
use Rattle.pm_base.specs.declared.limits.Limits.{Limits}
use Rattle.pm_market.specs.Lists.{Lists, IsLeaf, IsConcentrator}
use Rattle.pm_market.specs.State.{update}
use Rattle.pm_market.proofs.Cuts.{updated_same, updated_other}
use Rattle.pm_net.specs.Pricing.{Pricing}
use Rattle.pm_net.specs.Messages.{BidMessage}
use Rattle.pm_net_plan.specs.Places.{Numbering}
use Rattle.pm_relay.specs.Numbers.{child_number}
use Rattle.pm_relay.specs.Relays.{RelayValue}
use Rattle.pm_frames.specs.Stored.{StoredRelay}
use Rattle.pm_frames.specs.declared.terms.RelayTerms.{RelayTerms}
use Rattle.pm_frames.specs.declared.relay.RelayFrame.{RelayFrame}
use Rattle.pm_services.specs.Receipts.{sender_place}
use Rattle.pm_system.specs.System.{System, with_relay, with_root, with_agent, with_bid_sent, with_prices_sent, with_setpoints}
use Rattle.pm_system.specs.Market.{IsIn}
use Rattle.pm_system.proofs.Moving.{relay_no_leaf, relay_no_root}
use Rattle.pm_services.specs.Outputs.{Output, Up, Down, Keeps, Tells, Says}
use Rattle.pm_lives.specs.RelayLife.{CarriesLimits, RelayMayRead}
use Rattle.pm_services.specs.DeviceWrites.{device_outs, agent_after}
use Rattle.pm_lives.specs.Lives.{World, LifeStep, RelayUp, Relay, RootUp, Root, DeviceUp, Device, Lives1, Live, IsNewWorld, KeptMayBeLearnt}
use Rattle.pm_lives.specs.Lives.{setup_of, handed_out, stored_last, restart_outs, RelayBegins, RelayReads}
use Rattle.pm_lives.proofs.Staying.{bid_pushed, bid_still_sent}
use Rattle.pm_lives.proofs.WorldStands.{limits_there}
use Rattle.pm_lives.proofs.Handing.{handed_values, stored_may}
use Rattle.pm_lives.proofs.Learnt.{HoldsGiven, KeepsGiven, comes_back, learns_by_frame, learns_by_kept}

-- ---- what was handed out stays so

-- what was given stays given if more was
holds_on : (Gave Gives : ℕ → Limits → Type 0) (place : ℕ) → ((number : ℕ) (limits : Limits) → Gave number limits → Gives number limits) →
    (r : RelayValue) → HoldsGiven Gave place r → HoldsGiven Gives place r
holds_on Gave Gives place on r is = record {
  children = is.children;
  heard = λ some. let at = is.heard some in (at.0, at.1, on _ at.0 at.2);
  recorded = λ some. let at = is.recorded some in (at.0, at.1, on _ at.0 at.2);
}

keeps_on : (Gave Gives : ℕ → Limits → Type 0) (place : ℕ) → ((number : ℕ) (limits : Limits) → Gave number limits → Gives number limits) →
    (stored : StoredRelay) → KeepsGiven Gave place stored → KeepsGiven Gives place stored
keeps_on Gave Gives place on stored is = record { children = is.children; given = λ some. on _ stored.limits (is.given some) }

-- a bid that was handed out is still among those, whatever is handed out
handed_stays : {K : Type 0} (lists : Lists) (p : Pricing) (numbering : Numbering) (y : ℕ) (outs : List (Output K)) (seen : System) (x : ℕ)
    (bid : BidMessage) → IsIn p (seen.bids_sent x) bid → IsIn p ((handed_out lists numbering seen y outs).bids_sent x) bid
handed_stays lists p numbering y [] seen x bid at = at
handed_stays lists p numbering y (Up more ∷ outs) seen x bid at =
    handed_stays lists p numbering y outs (with_bid_sent seen y more) x bid
    (bid_still_sent p y seen (with_bid_sent seen y more) (bid_pushed seen y y more) x bid at)
handed_stays lists p numbering y (Down place price ∷ outs) seen x bid at =
    handed_stays lists p numbering y outs (with_prices_sent lists numbering seen y (λ k. cond (eqb k place) (price ∷ []) [])) x bid at
handed_stays lists p numbering y (Keeps stored ∷ outs) seen x bid at = handed_stays lists p numbering y outs seen x bid at
handed_stays lists p numbering y (Tells setpoint ∷ outs) seen x bid at =
    handed_stays lists p numbering y outs (with_setpoints seen y (setpoint ∷ [])) x bid at
handed_stays lists p numbering y (Says bytes ∷ outs) seen x bid at = handed_stays lists p numbering y outs seen x bid at

module _ (lists : Lists) (p : Pricing) (numbering : Numbering) where
  abbrev BidsStay : System → System → Type 0
  BidsStay seen new = (x : ℕ) (bid : BidMessage) → IsIn p (seen.bids_sent x) bid → IsIn p (new.bids_sent x) bid

  limits_stay : (seen new : System) → BidsStay seen new → (c giver number : ℕ) (limits : Limits) →
      CarriesLimits lists p numbering seen c giver number limits → CarriesLimits lists p numbering new c giver number limits
  limits_stay seen new stay c giver number limits may = limits_there lists p numbering seen new c giver number limits may
      (stay may.x (Rattle.pm_system.specs.System.bid_in_channel p seen may.x may.place)
      (record { place = may.place; inside = may.inside; is = refl }))

  -- ---- a world

  abbrev GaveIn : System → ℕ → ℕ → ℕ → Limits → Type 0
  GaveIn seen c giver number limits = CarriesLimits lists p numbering seen c giver number limits

  -- the limits that relay c holds and that are stored of it are those of messages of its giver
  pub record RelayGiven (seen : System) (c giver : ℕ) (up : Bool) (relay : RelayValue) (stored : StoredRelay) : Type 0 where
    -- what is stored of it
    pub kept : KeepsGiven (GaveIn seen c giver) (sender_place giver) stored
    pub holds : up ≡ true → HoldsGiven (GaveIn seen c giver) (sender_place giver) relay

  -- so it is of each relay that is given limits
  abbrev pub AllGiven : World → Type 0
  AllGiven world = (c : ℕ) → IsConcentrator lists c → (giver : ℕ) → (world.terms c).giver ≡ Some giver →
      RelayGiven world.seen c giver (world.up c) (world.seen.relays c) (world.relay_kept c)

  given_as : (seen : System) (c giver : ℕ) (up up' : Bool) (r r' : RelayValue) (k k' : StoredRelay) → up' ≡ up → r' ≡ r → k' ≡ k →
      RelayGiven seen c giver up r k → RelayGiven seen c giver up' r' k'
  given_as seen c giver up up' r r' k k' e1 e2 e3 is =
      subst (λ (x : Bool). RelayGiven seen c giver x r' k') (sym e1) (subst (λ (x : RelayValue). RelayGiven seen c giver up x k') (sym e2)
      (subst (λ (x : StoredRelay). RelayGiven seen c giver up r x) (sym e3) is))

  given_on : (seen new : System) → BidsStay seen new → (c giver : ℕ) (up : Bool) (r : RelayValue) (k : StoredRelay) →
      RelayGiven seen c giver up r k → RelayGiven new c giver up r k
  given_on seen new stay c giver up r k is = record {
    kept = keeps_on (GaveIn seen c giver) (GaveIn new c giver) (sender_place giver) (limits_stay seen new stay c giver) k is.kept;
    holds = λ e. holds_on (GaveIn seen c giver) (GaveIn new c giver) (sender_place giver) (limits_stay seen new stay c giver) r (is.holds e);
  }

  -- ---- a step

  -- node y alone moved
  record MovesAlone (y : ℕ) (world new : World) : Type 0 where
    terms : new.terms ≡ world.terms
    up : (z : ℕ) → (z ≡ y → ⊥) → new.up z ≡ world.up z
    relays : (z : ℕ) → (z ≡ y → ⊥) → new.seen.relays z ≡ world.seen.relays z
    kept : (z : ℕ) → (z ≡ y → ⊥) → new.relay_kept z ≡ world.relay_kept z
    bids : BidsStay world.seen new.seen

  -- it is as before of each relay but y
  given_but : (y : ℕ) (world new : World) → MovesAlone y world new → AllGiven world →
      (IsConcentrator lists y → (giver : ℕ) → (world.terms y).giver ≡ Some giver →
      RelayGiven new.seen y giver (new.up y) (new.seen.relays y) (new.relay_kept y)) → AllGiven new
  given_but y world new alone is here c conc giver is_giver =
      let was : (world.terms c).giver ≡ Some giver = sym (ap (λ (t : ℕ → RelayTerms). (t c).giver) alone.terms) ∙ is_giver in
      elim (cases_eq c y) [
        | inl e ↦ subst (λ (z : ℕ). RelayGiven new.seen z giver (new.up z) (new.seen.relays z) (new.relay_kept z)) (sym e)
            (here (subst (λ (z : ℕ). IsConcentrator lists z) e conc) giver (subst (λ (z : ℕ). (world.terms z).giver ≡ Some giver) e was))
        | inr ne ↦ given_as new.seen c giver (world.up c) (new.up c) (world.seen.relays c) (new.seen.relays c) (world.relay_kept c) (new.relay_kept c)
            (alone.up c ne) (alone.relays c ne) (alone.kept c ne)
            (given_on world.seen new.seen alone.bids c giver (world.up c) (world.seen.relays c) (world.relay_kept c) (is c conc giver was))
      ]

  module _ (world : World) (is : AllGiven world) where
    -- a relay begins
    begins : (c n : ℕ) (new : World) → RelayBegins lists p numbering world c n new → AllGiven new
    begins c n new did =
        let base : System = with_relay world.seen c did.after.relay in
        let first : List (Output StoredRelay) = take n did.outs in
        let values = handed_values lists numbering c first base in
        let after : World = record world {
          seen = handed_out lists numbering base c first;
          up = update world.up c true;
          waiting = update world.waiting c did.after.waiting;
        } in
        let stay : BidsStay world.seen after.seen = λ x bid at. handed_stays lists p numbering c first base x bid at in
        let alone : MovesAlone c world after = record {
          terms = refl;
          up = λ z ne. updated_other world.up c true z ne;
          relays = λ z ne. ap (λ f. f z) values.0 ∙ updated_other world.seen.relays c did.after.relay z ne;
          kept = λ z ne. refl;
          bids = stay;
        } in
        subst (λ (w : World). AllGiven w) (sym did.new_is) (given_but c world after alone is (λ conc giver is_giver.
        let was = is c did.conc giver is_giver in
        let back = comes_back (GaveIn world.seen c giver) (sender_place giver) p.steps (world.terms c).limits (world.relay_kept c) did.relay did.back
        was.kept in
        let learns = learns_by_kept (GaveIn world.seen c giver) giver (setup_of numbering world c) is_giver (record { relay = did.relay; waiting = None })
        (world.relay_kept c) did.after did.outs did.learns was.kept back in
        given_as after.seen c giver true (update world.up c true c) did.after.relay (after.seen.relays c) (world.relay_kept c) (world.relay_kept c)
        (updated_same world.up c true) (ap (λ f. f c) values.0 ∙ updated_same world.seen.relays c did.after.relay) refl
        (given_on world.seen after.seen stay c giver true did.after.relay (world.relay_kept c) (record { kept = was.kept; holds = λ e. learns.holds }))))

    -- a relay reads a frame
    reads : (c : ℕ) (frame : RelayFrame) (n : ℕ) (new : World) → RelayReads lists p numbering world c frame n new → AllGiven new
    reads c frame n new did =
        let base : System = with_relay world.seen c did.after.relay in
        let first : List (Output StoredRelay) = take n did.outs in
        let kept : StoredRelay = stored_last (world.relay_kept c) first in
        let after : World = record world {
          seen = handed_out lists numbering base c first;
          waiting = update world.waiting c did.after.waiting;
          relay_kept = update world.relay_kept c kept;
          let_go = Rattle.pm_lives.specs.Lives.let_go_at_relay lists numbering world.seen c frame world.let_go;
        } in
        let values = handed_values lists numbering c first base in
        let stay : BidsStay world.seen after.seen = λ x bid at. handed_stays lists p numbering c first base x bid at in
        let alone : MovesAlone c world after = record {
          terms = refl;
          up = λ z ne. refl;
          relays = λ z ne. ap (λ f. f z) values.0 ∙ updated_other world.seen.relays c did.after.relay z ne;
          kept = λ z ne. updated_other world.relay_kept c kept z ne;
          bids = stay;
        } in
        subst (λ (w : World). AllGiven w) (sym did.new_is) (given_but c world after alone is (λ conc giver is_giver.
        let was = is c did.conc giver is_giver in
        let learns = learns_by_frame (GaveIn world.seen c giver) giver (setup_of numbering world c) is_giver did.bounds
        (record { relay = world.seen.relays c; waiting = world.waiting c }) frame did.after did.outs did.passes
        (λ number limits e. subst (λ (f : RelayFrame). RelayMayRead lists p numbering (setup_of numbering world c) world.seen c f) e did.may giver is_giver)
        (λ stored e. subst (λ (f : RelayFrame). RelayMayRead lists p numbering (setup_of numbering world c) world.seen c f) e did.may)
        did.writes (was.holds did.runs) in
        given_as after.seen c giver (world.up c) (world.up c) did.after.relay (after.seen.relays c) kept (update world.relay_kept c kept c) refl
        (ap (λ f. f c) values.0 ∙ updated_same world.seen.relays c did.after.relay) (updated_same world.relay_kept c kept)
        (given_on world.seen after.seen stay c giver (world.up c) did.after.relay kept (record {
          kept = stored_may (KeepsGiven (GaveIn world.seen c giver) (sender_place giver)) (KeepsGiven (GaveIn world.seen c giver) (sender_place giver))
              (world.relay_kept c) n did.outs was.kept learns.kept (inl (λ k holds. holds)) did.handled;
          holds = λ e. learns.holds;
        }))))

    -- another node moves
    elsewhere : (y : ℕ) (new : World) → MovesAlone y world new → (IsConcentrator lists y → ⊥) → AllGiven new
    elsewhere y new alone none = given_but y world new alone is (λ conc giver is_giver. absurd (none conc))

    no_root : IsConcentrator lists 0 → ⊥
    no_root conc = relay_no_root lists 0 conc refl

    no_device : (d : ℕ) → IsLeaf lists d → IsConcentrator lists d → ⊥
    no_device d leaf conc = relay_no_leaf lists d d conc leaf refl

    -- after each step
    pub step_given : (step : LifeStep) (new : World) → Lives1 lists p numbering world step new → AllGiven new
    step_given (RelayUp c n) new did = begins c n new did
    step_given (Relay c frame n) new did = reads c frame n new did
    step_given RootUp new did =
        let after : World = record world { seen = with_root world.seen did.root; up = update world.up 0 true } in
        subst (λ (w : World). AllGiven w) (sym did.new_is) (elsewhere 0 after (record {
          terms = refl;
          up = λ z ne. updated_other world.up 0 true z ne;
          relays = λ z ne. refl;
          kept = λ z ne. refl;
          bids = λ x bid at. at;
        }) no_root)
    step_given (Root frame n) new did =
        let base : System = with_root world.seen did.after in
        let after : World = record world {
          seen = handed_out lists numbering base 0 (take n did.outs);
          root_kept = stored_last world.root_kept (take n did.outs);
          let_go = Rattle.pm_lives.specs.Lives.let_go_at_root lists numbering world.seen frame world.let_go;
        } in
        let values = handed_values lists numbering 0 (take n did.outs) base in
        subst (λ (w : World). AllGiven w) (sym did.new_is) (elsewhere 0 after (record {
          terms = refl;
          up = λ z ne. refl;
          relays = λ z ne. ap (λ f. f z) values.0;
          kept = λ z ne. refl;
          bids = λ x bid at. handed_stays lists p numbering 0 (take n did.outs) base x bid at;
        }) no_root)
    step_given (DeviceUp d n) new did =
        let stored = world.agent_kept d in
        let base : System = with_agent world.seen d (Rattle.pm_control.specs.Control.agent_stored stored.number stored.newest stored.index) in
        let first = take n (restart_outs p stored) in
        let after : World = record world { seen = handed_out lists numbering base d first; up = update world.up d true } in
        let values = handed_values lists numbering d first base in
        subst (λ (w : World). AllGiven w) (sym did.new_is) (elsewhere d after (record {
          terms = refl;
          up = λ z ne. updated_other world.up d true z ne;
          relays = λ z ne. ap (λ f. f z) values.0;
          kept = λ z ne. refl;
          bids = λ x bid at. handed_stays lists p numbering d first base x bid at;
        }) (no_device d did.leaf))
    step_given (Device d frame n) new did =
        let base : System = with_agent world.seen d (agent_after (world.seen.agents d) frame) in
        let first = take n (device_outs p.steps world.basis (world.seen.agents d) frame) in
        let after : World = record world {
          seen = handed_out lists numbering base d first;
          agent_kept = update world.agent_kept d (stored_last (world.agent_kept d) first);
        } in
        let values = handed_values lists numbering d first base in
        subst (λ (w : World). AllGiven w) (sym did.new_is) (elsewhere d after (record {
          terms = refl;
          up = λ z ne. refl;
          relays = λ z ne. ap (λ f. f z) values.0;
          kept = λ z ne. refl;
          bids = λ x bid at. handed_stays lists p numbering d first base x bid at;
        }) (no_device d did.leaf))

  -- ---- lives

  no_number : (place : ℕ) → child_number (replicate most_nodes 0) place ≡ 0
  no_number place = elim (cases_lt place most_nodes) [
    | inl inside ↦ get_or-replicate most_nodes place 0 0 inside
    | inr past ↦ get_or_past (replicate most_nodes 0) place 0 (omega (arith, past, length-replicate {A = ℕ} most_nodes 0))
  ]

  -- before any life nothing is stored
  pub new_given : (world : World) → IsNewWorld p numbering world → AllGiven world
  new_given world none c conc giver is_giver = record {
    kept = subst (λ (k : StoredRelay). KeepsGiven (GaveIn world.seen c giver) (sender_place giver) k) (sym (none.relay_kept c)) (record {
      children = length-replicate {A = ℕ} most_nodes 0;
      given = λ some. absurd (omega (arith, some, no_number (sender_place giver)));
    });
    holds = λ e. absurd (both_ways (world.up c) (none.up c) e);
  }

  -- after any lives
  pub lives_given : (steps : List LifeStep) (world new : World) → AllGiven world → Live lists p numbering world steps new → AllGiven new
  lives_given [] world new is live = subst (λ (w : World). AllGiven w) live is
  lives_given (step ∷ steps) world new is live = lives_given steps live.0 new (step_given world is step live.0 live.1) live.2

  -- so a relay that comes back may learn the limits that it gave last
  pub may_be_learnt : (world : World) → AllGiven world → (c : ℕ) → IsConcentrator lists c → KeptMayBeLearnt lists p numbering world c
  may_be_learnt world is c conc giver is_giver some = (is c conc giver is_giver).kept.given some
