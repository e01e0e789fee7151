-- Nobody goes back, except over its own restart.
use Rattle.std.proofs.Common.{◌≡◌, ◌∙◌, sym, ap, subst, ℕ, ◌<◌, ◌≤◌, Bool, true, false, cond, leb, ltb, List, Option, ◌⊎◌}
use Rattle.pm_cache.specs.Cache.{kept_number}
use Rattle.std.proofs.Common.{Some, None, arith, inl, inr, refl}
use Rattle.std.proofs.lemmas.Bool.{cases_eq, cases_Bool, cond-true, cond-false, ltb-true, leb-true}
use Rattle.pm_market.specs.Lists.{Lists, parent, is_leaf}
use Rattle.pm_market.specs.State.{update}
use Rattle.pm_market.proofs.Cuts.{updated_same, updated_other}
use Rattle.pm_net.specs.Pricing.{Pricing}
use Rattle.pm_net.specs.Messages.{BidMessage, PriceMessage, price_message}
use Rattle.pm_net.specs.Agents.{Offer, DeviceAgent, after_price, answered_by, kept_offer}
use Rattle.pm_net.proofs.Messages.{either}
use Rattle.pm_net_plan.specs.Places.{Numbering}
use Rattle.pm_control.specs.Control.{newest_demand, agent_stored}
use Rattle.pm_relay.specs.Relays as relays
use Rattle.pm_relay.specs.Relays.{RelayValue, LooksForRecord, with_child_bid}
use Rattle.pm_relay.specs.declared.outcome.PriceOutcome.{PriceOutcome}
use Rattle.pm_relay.specs.declared.outcome.PriceOutcome.TheVariants.{PassedOn, Alone, Waits, Dropped}
use Rattle.pm_relay_net.specs.RelayIs.{update_of}
use Rattle.pm_system.specs.System.{System, bid_in_channel, price_in_channel, price_stored}
use Rattle.pm_system.specs.Calls.{NodeCall, Does, IsNoRestart, DeviceChanges, LearnsChildBid, LearnsLimits}
use Rattle.pm_system.specs.Calls.{Bids, Expires, TakesBid, Sends, Clears, TakesPrice, Restarts, StopsBidding, Resends, StopsClearing, TellsOne}
use Rattle.pm_system.specs.Settled.{index_of_held}

-- what a node holds, where neither its relay's nor its agent's index falls
held_from : (lists : Lists) (sys new : System) (x : ℕ) → (sys.agents x).index ≤ (new.agents x).index → (sys.relays x).index ≤
    (new.relays x).index →
    index_of_held lists sys x ≤ index_of_held lists new x
held_from lists sys new x agents relays = elim (cases_Bool (is_leaf lists x)) [
  | inl e ↦ omega (
    arith,
    cond-true (is_leaf lists x) (sys.agents x).index (sys.relays x).index e,
    cond-true (is_leaf lists x) (new.agents x).index (new.relays x).index e,
    agents,
  )
  | inr e ↦ omega (
    arith,
    cond-false (is_leaf lists x) (sys.agents x).index (sys.relays x).index e,
    cond-false (is_leaf lists x) (new.agents x).index (new.relays x).index e,
    relays,
  )
]

-- where one value is replaced by one with no smaller index, no index falls
value_rises : {A : Type 0} → (index : A → ℕ) (f : ℕ → A) (c : ℕ) (v : A) (x : ℕ) → (x ≡ c → index (f c) ≤ index v) →
    index (f x) ≤ index (update f c v x)
value_rises index f c v x rises = elim (cases_eq x c) [
  | inl e ↦ omega (
    arith,
    ap (λ (i : ℕ). index (f i)) e,
    rises e,
    ap (λ (i : ℕ). index (update f c v i)) e,
    ap index (updated_same f c v),
  )
  | inr ne ↦ omega (arith, ap index (updated_other f c v x ne))
]

-- ---- one node

answered_rises : (agent : DeviceAgent) (price : PriceMessage) (o : Option Offer) → agent.index < price.index →
    agent.index ≤ (answered_by agent price o).index
answered_rises agent price None lt = omega (arith, lt)
answered_rises agent price (Some offer) lt = omega (arith, lt)

price_rises : (agent : DeviceAgent) (price : PriceMessage) → agent.index ≤ (after_price agent price).index
price_rises agent price =
    either (λ (a : DeviceAgent). agent.index ≤ a.index) (Rattle.std.proofs.Common.ltb agent.index price.index)
    (answered_by agent price (kept_offer agent price.number)) agent
    (λ e. answered_rises agent price (kept_offer agent price.number) (ltb-true agent.index price.index e)) (λ e. omega arith)

changed_index : (lists : Lists) (p : Pricing) (sys : System) (d : ℕ) (agent : DeviceAgent) (bid : Rattle.pm_net.specs.Messages.BidMessage) →
    DeviceChanges lists p sys d agent bid → (sys.agents d).index ≤ agent.index
changed_index lists p sys d agent bid made = elim made.change [
  | inl offers ↦ omega (arith, ap (λ (a : DeviceAgent). a.index) offers.offered)
  | inr leaves ↦ omega (arith, ap (λ (a : DeviceAgent). a.index) leaves.left)
]

looks_index : (old new : RelayValue) → LooksForRecord old new → old.index ≤ new.index
looks_index old new (inl did) = omega (arith, did.1.index)
looks_index old new (inr stays) = omega (arith, ap (λ (r : RelayValue). r.index) stays.1)

learnt_index : (lists : Lists) (p : Pricing) (numbering : Numbering) (sys : System) (x : ℕ) (bid : BidMessage) (relay : RelayValue) →
    LearnsChildBid lists p numbering sys x bid relay ⊎ LearnsLimits lists p numbering sys x bid relay → (sys.relays (parent lists x)).index ≤ relay.index
learnt_index lists p numbering sys x bid relay (inl did) = looks_index _ relay did.learnt
learnt_index lists p numbering sys x bid relay (inr did) =
    let r : RelayValue = sys.relays (parent lists x) in
    omega (
      arith,
      looks_index _ relay did.learnt,
      either (λ (v : RelayValue). v.index ≡ r.index) (ltb (kept_number r.gathered.cache (numbering.place x)) bid.number)
          (record r { gathered = record (with_child_bid r (numbering.place x) bid.number None).gathered { limits = Some did.limits } }) r
          (λ e. refl) (λ e. refl),
    )

took_index : (old new : RelayValue) (price : PriceMessage) (outcome : PriceOutcome) → relays.TakesPrice old new (update_of price) outcome →
    old.index ≤ new.index
took_index old new price Dropped did = omega (arith, ap (λ (r : RelayValue). r.index) did.1)
took_index old new price PassedOn did = omega (arith, did.0.newer, did.2.index)
took_index old new price Waits did = omega (arith, ap (λ (r : RelayValue). r.index) did.3)
took_index old new price Alone did = omega (arith, did.0.newer, ap (λ (r : RelayValue). r.index) did.3)

-- ---- each call

module _ (lists : Lists) (p : Pricing) (numbering : Numbering) (sys : System) (x : ℕ) where
  abbrev Rises : System → Type 0
  Rises t = index_of_held lists sys x ≤ index_of_held lists t x

  by_relay : (new : System) (c : ℕ) (v : RelayValue) → new.relays ≡ update sys.relays c v → new.agents ≡ sys.agents →
      (x ≡ c → (sys.relays c).index ≤ v.index) → Rises new
  by_relay new c v relays agents rises = held_from lists sys new x (omega (arith, ap (λ f. (f x).index) agents))
      (omega (arith, value_rises (λ (r : RelayValue). r.index) sys.relays c v x rises, ap (λ f. (f x).index) relays))

  by_agent : (new : System) (d : ℕ) (v : DeviceAgent) → new.agents ≡ update sys.agents d v → new.relays ≡ sys.relays →
      (x ≡ d → (sys.agents d).index ≤ v.index) → Rises new
  by_agent new d v agents relays rises = held_from lists sys new x
      (omega (arith, value_rises (λ (r : DeviceAgent). r.index) sys.agents d v x rises, ap (λ f. (f x).index) agents))
      (omega (arith, ap (λ f. (f x).index) relays))

  by_none : (new : System) → new.agents ≡ sys.agents → new.relays ≡ sys.relays → Rises new
  by_none new agents relays = held_from lists sys new x (omega (arith, ap (λ f. (f x).index) agents)) (omega (arith, ap (λ f. (f x).index) relays))

  -- a call lowers no index that a node holds, if it is not its restart
  pub rises : (call : NodeCall) (new : System) → Does lists p numbering sys call new → IsNoRestart x call → Rises new
  rises (Bids d) new did up = by_agent new d did.agent (ap (λ (t : System). t.agents) did.new_is) (ap (λ (t : System). t.relays) did.new_is)
      (λ e. changed_index lists p sys d did.agent did.bid did.made)
  rises (Expires d n) new did up = by_none new (ap (λ (t : System). t.agents) did.new_is) (ap (λ (t : System). t.relays) did.new_is)
  rises (TakesBid z k) new (inl did) up = by_relay new (parent lists z) did.relay (ap (λ (t : System). t.relays) did.new_is)
      (ap (λ (t : System). t.agents) did.new_is) (λ e. learnt_index lists p numbering sys z (bid_in_channel p sys z k) did.relay did.learnt)
  rises (TakesBid z k) new (inr did) up = by_none new (ap (λ (t : System). t.agents) did.new_is) (ap (λ (t : System). t.relays) did.new_is)
  rises (Sends c) new did up = by_relay new c did.relay (ap (λ (t : System). t.relays) did.new_is) (ap (λ (t : System). t.agents) did.new_is)
      (λ e. omega (arith, did.sent.index))
  rises Clears new did up = by_none new (ap (λ (t : System). t.agents) did.new_is) (ap (λ (t : System). t.relays) did.new_is)
  rises (TakesPrice c k) new (inl did) up = by_relay new c did.relay (ap (λ (t : System). t.relays) did.new_is) (ap (λ (t : System). t.agents) did.new_is)
      (λ e. took_index (sys.relays c) did.relay (price_in_channel sys c k) did.outcome did.taken)
  rises (TakesPrice d k) new (inr did) up = by_agent new d _ (ap (λ (t : System). t.agents) did.new_is) (ap (λ (t : System). t.relays) did.new_is)
      (λ e. price_rises (sys.agents d) (price_in_channel sys d k))
  rises (Restarts y k) new (inl did) up = by_none new (ap (λ (t : System). t.agents) did.1.new_is) (ap (λ (t : System). t.relays) did.1.new_is)
  rises (Restarts y k) new (inr (inl did)) up = by_relay new y did.relay (ap (λ (t : System). t.relays) did.new_is)
      (ap (λ (t : System). t.agents) did.new_is)
      (λ e. absurd (up (sym e)))
  rises (Restarts y k) new (inr (inr did)) up = by_agent new y _ (ap (λ (t : System). t.agents) did.new_is) (ap (λ (t : System). t.relays) did.new_is)
      (λ e. absurd (up (sym e)))
  rises (StopsBidding c) new (inl did) up = by_relay new c did.relay (ap (λ (t : System). t.relays) did.new_is) (ap (λ (t : System). t.agents) did.new_is)
      (λ e. omega (arith, did.sent.index))
  rises (StopsBidding d) new (inr did) up = by_agent new d did.agent (ap (λ (t : System). t.agents) did.new_is) (ap (λ (t : System). t.relays) did.new_is)
      (λ e. changed_index lists p sys d did.agent did.bid did.made)
  rises (Resends c) new (inl did) up = by_none new (ap (λ (t : System). t.agents) did.new_is) (ap (λ (t : System). t.relays) did.new_is)
  rises (Resends c) new (inr did) up = by_none new (ap (λ (t : System). t.agents) did.new_is) (ap (λ (t : System). t.relays) did.new_is)
  rises StopsClearing new did up = by_none new (ap (λ (t : System). t.agents) did.new_is) (ap (λ (t : System). t.relays) did.new_is)
  rises (TellsOne z) new did up = by_none new (ap (λ (t : System). t.agents) did.new_is) (ap (λ (t : System). t.relays) did.new_is)

-- ---- a restart

stored_older : (sys : System) (x k number index : ℕ) → (price_stored sys x k number index).index ≤ index
stored_older sys x k number index =
    either (λ (q : PriceMessage). q.index ≤ index) (leb (price_in_channel sys x k).index index) (price_in_channel sys x k) (price_message number index 0)
    (λ e. leb-true (price_in_channel sys x k).index index e) (λ e. omega arith)

-- a restart raises none
pub falls_back : (lists : Lists) (p : Pricing) (numbering : Numbering) (sys : System) (y k : ℕ) (new : System) →
    Does lists p numbering sys (Restarts y k) new → index_of_held lists new y ≤ index_of_held lists sys y
falls_back lists p numbering sys y k new (inl did) = held_from lists new sys y
    (omega (arith, ap (λ (t : System). (t.agents y).index) did.1.new_is)) (omega (arith, ap (λ (t : System). (t.relays y).index) did.1.new_is))
falls_back lists p numbering sys y k new (inr (inl did)) = held_from lists new sys y
    (omega (arith, ap (λ (t : System). (t.agents y).index) did.new_is))
    (omega (
      arith,
      ap (λ (t : System). (t.relays y).index) did.new_is,
      ap (λ (r : RelayValue). r.index) (updated_same sys.relays y did.relay),
      did.back.index,
      stored_older sys y k (sys.relays y).answered (sys.relays y).index,
    ))
falls_back lists p numbering sys y k new (inr (inr did)) = held_from lists new sys y
    (omega (
      arith,
      ap (λ (t : System). (t.agents y).index) did.new_is,
      ap (λ (a : DeviceAgent). a.index) (updated_same sys.agents y (agent_stored (sys.agents y).number (newest_demand (sys.agents y))
          (price_stored sys y k (sys.agents y).answered (sys.agents y).index).index)),
      stored_older sys y k (sys.agents y).answered (sys.agents y).index,
    ))
    (omega (arith, ap (λ (t : System). (t.relays y).index) did.new_is))
