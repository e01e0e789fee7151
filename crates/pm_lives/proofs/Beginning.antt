-- A node that begins a life, with what is stored of it, is a call of the system that restarts it.
use Rattle.std.proofs.Common.{◌≡◌, ◌∙◌, sym, ap, subst, subst₂, ℕ, ◌≤◌, eqb, leb, ℤ, List, [], ◌∷◌, length, Option}
use Rattle.std.proofs.Common.{Some, None, refl, inl, inr, arith, le-leb}
use Rattle.std.proofs.lemmas.Bool.{cases_Bool, cond-true, cond-false, eq-eqb}
use Rattle.pm_base.specs.declared.limits.Limits.{Limits}
use Rattle.pm_market.specs.Lists.{Lists, IsConcentrator, IsLeaf}
use Rattle.pm_market.specs.State.{no_changes}
use Rattle.pm_market.proofs.Cuts.{updated_same}
use Rattle.pm_net.specs.Pricing.{Pricing}
use Rattle.pm_net.specs.Messages.{BidMessage, PriceMessage, price_message, no_price}
use Rattle.pm_net.specs.Agents.{DeviceAgent}
use Rattle.pm_net.proofs.Messages.{past}
use Rattle.pm_net_plan.specs.Places.{Numbering}
use Rattle.pm_control.specs.Control.{newest_demand, agent_stored, demand_of_kept}
use Rattle.pm_relay.specs.Relays.{RelayValue, newest_bid_number, RelayComesBack}
use Rattle.pm_relay.specs.Roots.{RootValue, RootComesBack}
use Rattle.pm_frames.specs.Stored.{StoredRelay, StoredRoot}
use Rattle.pm_frames.specs.declared.stored.StoredAgent.{StoredAgent}
use Rattle.pm_system.specs.System.{System, price_in_channel, price_stored, with_relay, with_root, with_agent, with_bid_sent}
use Rattle.pm_system.specs.Calls as call
use Rattle.pm_system.specs.Calls.{NodeCall, SystemRuns, StaysUp, bid_kept}
use Rattle.pm_system.specs.Given.{IsTreeMarket}
use Rattle.pm_system.specs.Market.{RunsTheMarket}
use Rattle.pm_system.proofs.Moving.{new_in}
use Rattle.pm_lives.specs.Outputs.{WereSent}
use Rattle.pm_services.specs.Outputs.{Output, Up}
use Rattle.pm_lives.specs.Moves.{OnlyMoves}
use Rattle.pm_lives.specs.RelayLife.{IsOfPrice, RelayStands, IsRelayKept, numbers_in_places}
use Rattle.pm_lives.specs.RootLife.{IsRootKept}
use Rattle.pm_lives.specs.DeviceLife.{IsIndexOfSent, AgentStands, IsAgentKept}
use Rattle.pm_lives.specs.Lives.{restart_outs}
use Rattle.pm_lives.proofs.Staying.{relay_moved, root_moved, agent_moved, bid_pushed, then_moves}
use Rattle.pm_lives.proofs.RelayValues.{of_price_stays, under_numbers}
use Rattle.pm_lives.proofs.DeviceMoves.{index_stays}
use Rattle.pm_lives.specs.Moves.{lets_none}
use Rattle.pm_lives.proofs.Giving.{GivesOnly}

-- the system after a node began: it stands for it, and what is stored may stay
pub record Began {K : Type 0} (lists : Lists) (p : Pricing) (numbering : Numbering) (Stands : System → Type 0) (MayBeKept : System → Type 0)
    (sys : System) (y : ℕ) (outs : List (Output K)) : Type 0 where
  -- the calls by which it begins
  pub calls : List NodeCall
  pub new : System
  -- they lead to the new system
  pub runs : SystemRuns lists p numbering sys calls new
  pub only : OnlyMoves y sys new
  -- the node stands for its part there
  pub stands : Stands new
  pub kept : MayBeKept new
  -- each message in its first frames was sent
  pub sent : WereSent lists p numbering new y outs
  -- nobody else restarts
  pub up : (x : ℕ) → (x ≡ y → ⊥) → StaysUp x calls
  -- nobody is let go, or told anything
  pub gives : GivesOnly lets_none calls
  pub silent : (x : ℕ) → new.setpoints x ≡ sys.setpoints x

-- a place in the channel of the price that was stored
record StoredAt (sys : System) (x held_number held_index index : ℕ) : Type 0 where
  place : ℕ
  index_is : (price_stored sys x place held_number held_index).index ≡ index

record StoredWhole (sys : System) (x held_number held_index number index : ℕ) : Type 0 where
  place : ℕ
  number_is : (price_stored sys x place held_number held_index).number ≡ number
  index_is : (price_stored sys x place held_number held_index).index ≡ index

none_there : (sys : System) (x held_number held_index : ℕ) → price_stored sys x (length (sys.prices_sent x)) held_number held_index ≡ no_price
none_there sys x held_number held_index =
    let none : price_in_channel sys x (length (sys.prices_sent x)) ≡ no_price =
    past (sys.prices_sent x) (length (sys.prices_sent x)) no_price (omega arith) in
    cond-true (leb (price_in_channel sys x (length (sys.prices_sent x))).index held_index) (price_in_channel sys x (length (sys.prices_sent x)))
    (price_message held_number held_index 0)
    (le-leb (price_in_channel sys x (length (sys.prices_sent x))).index held_index (omega (arith, ap (λ (q : PriceMessage). q.index) none)))
    ∙ none

one_there : (sys : System) (x held_number held_index k : ℕ) → (price_in_channel sys x k).index ≤ held_index →
    price_stored sys x k held_number held_index ≡ price_in_channel sys x k
one_there sys x held_number held_index k le =
    cond-true (leb (price_in_channel sys x k).index held_index) (price_in_channel sys x k) (price_message held_number held_index 0)
    (le-leb (price_in_channel sys x k).index held_index le)

stored_whole : (sys : System) (x held_number held_index number index : ℕ) → IsOfPrice sys x number index → index ≤ held_index →
    StoredWhole sys x held_number held_index number index
stored_whole sys x held_number held_index number index (inl none) le =
    let is = none_there sys x held_number held_index in
    record {
      place = length (sys.prices_sent x);
      number_is = ap (λ (q : PriceMessage). q.number) is ∙ sym none.0;
      index_is = ap (λ (q : PriceMessage). q.index) is ∙ sym none.1;
    }
stored_whole sys x held_number held_index number index (inr at) le =
    let is = one_there sys x held_number held_index at.0 (omega (arith, le, at.3)) in
    record {
      place = at.0;
      number_is = ap (λ (q : PriceMessage). q.number) is ∙ at.2;
      index_is = ap (λ (q : PriceMessage). q.index) is ∙ at.3;
    }

stored_at : (sys : System) (x held_number held_index index : ℕ) → IsIndexOfSent sys x index → index ≤ held_index →
    StoredAt sys x held_number held_index index
stored_at sys x held_number held_index index (inl none) le = record {
  place = length (sys.prices_sent x);
  index_is = ap (λ (q : PriceMessage). q.index) (none_there sys x held_number held_index) ∙ sym none;
}
stored_at sys x held_number held_index index (inr at) le = record {
  place = at.0;
  index_is = ap (λ (q : PriceMessage). q.index) (one_there sys x held_number held_index at.0 (omega (arith, le, at.2))) ∙ at.2;
}

module _ (lists : Lists) (p : Pricing) (numbering : Numbering) where
  -- a relay
  pub relay_begins : IsTreeMarket lists p numbering → (before : List NodeCall) (sys : System) → RunsTheMarket lists p numbering before sys → (c : ℕ) →
      IsConcentrator lists c → (limits : Limits) → p.limits c no_changes ≡ Some limits → (stored : StoredRelay) →
      IsRelayKept p numbering sys c stored → (relay : RelayValue) →
      RelayComesBack p.steps limits stored.last stored.answered stored.index stored.numbers stored.limits relay →
      Began {K = StoredRelay} lists p numbering (λ t. RelayStands t c (record { relay = relay; waiting = None }))
      (λ t. IsRelayKept p numbering t c stored) sys c []
  relay_begins market before sys has c conc limits limited stored kept relay back =
      let r : RelayValue = sys.relays c in
      let new : System = with_relay sys c relay in
      let is : new.relays c ≡ relay = updated_same sys.relays c relay in
      let at = stored_whole sys c r.answered r.index stored.answered stored.index kept.price kept.older in
      let now = price_stored sys c at.place r.answered r.index in
      let Back : ℕ → ℕ → Type 0 = λ n i. RelayComesBack p.steps limits (newest_bid_number r) n i r.recorded stored.limits relay in
      let mine : Back stored.answered stored.index =
      subst₂ (λ (n : ℕ) (l : List ℕ). RelayComesBack p.steps limits n stored.answered stored.index l stored.limits relay) kept.last kept.numbers back in
      record {
        calls = call.Restarts c at.place ∷ [];
        up = λ x ne. (λ e. ne (sym e), tt);
        gives = (tt, tt);
        silent = λ x. refl;
        new = new;
        runs = (
          new,
          inr (inl (record {
            conc = conc;
            limits = limits;
            limited = limited;
            under = stored.limits;
            under_is = sym kept.limits ∙ ap (λ (l : List ℕ). p.limits c (numbers_in_places numbering l)) kept.numbers
                ∙ under_numbers lists p numbering market before sys has c conc;
            relay = relay;
            back = subst₂ Back (sym at.number_is) (sym at.index_is) mine;
            new_is = refl;
          })),
          refl,
        );
        only = relay_moved sys c relay;
        stands = record {
          relay_is = sym is;
          waiting = tt;
          held = of_price_stays c sys new (relay_moved sys c relay) c relay.answered relay.index
              (subst₂ (IsOfPrice sys c) (sym back.answered) (sym back.index) kept.price);
        };
        kept = record {
          last = sym (ap newest_bid_number is ∙ omega (arith, back.base, back.gathered.window.last));
          numbers = sym (ap (λ (q : RelayValue). q.recorded) is ∙ back.recorded);
          limits = kept.limits;
          price = of_price_stays c sys new (relay_moved sys c relay) c stored.answered stored.index kept.price;
          older = omega (arith, ap (λ (q : RelayValue). q.index) is, back.index);
        };
        sent = tt;
      }

  -- the root
  pub root_begins : (sys : System) (stored : StoredRoot) → IsRootKept sys stored → (root : RootValue) →
      RootComesBack p.steps stored.last stored.numbers root →
      Began {K = StoredRoot} lists p numbering (λ t. t.root ≡ root) (λ t. IsRootKept t stored) sys 0 []
  root_begins sys stored kept root back = record {
    calls = call.Restarts 0 0 ∷ [];
    up = λ x ne. (λ e. ne (sym e), tt);
    gives = (tt, tt);
    silent = λ x. refl;
    new = with_root sys root;
    runs = (
      with_root sys root,
      inl (
        refl,
        record {
          root = root;
          back = subst₂ (λ (n : ℕ) (l : List ℕ). RootComesBack p.steps n l root) kept.last kept.numbers back;
          new_is = refl;
        },
      ),
      refl,
    );
    only = root_moved sys root;
    stands = refl;
    kept = record {
      last = omega (arith, back.base, ap (λ (a : Rattle.pm_auctioneer.specs.Auctions.Auction). a.index) back.auction);
      numbers = sym back.recorded;
    };
    sent = tt;
  }

  -- a device
  newest_stored : (number : ℕ) (newest : Option (List ℤ)) (index : ℕ) → newest_demand (agent_stored number newest index) ≡ newest
  newest_stored number None index = refl
  newest_stored number (Some demand) index =
      ap demand_of_kept (cond-true (eqb number number) (Some (record { number = number; demand = demand })) None (eq-eqb number number refl))

  -- an agent that comes back has offers with numbers up to its own
  pub within_stored : (number : ℕ) (newest : Option (List ℤ)) (index : ℕ) →
      Rattle.pm_lives.proofs.AgentFacts.AreWithin number (agent_stored number newest index).offers
  within_stored number None index = tt
  within_stored number (Some demand) index = (omega arith, tt)

  -- a device that begins with what is stored of it is a call that restarts it
  pub device_begins : (sys : System) (d : ℕ) → IsLeaf lists d → (stored : StoredAgent) → IsAgentKept sys d stored →
      Began lists p numbering (λ t. AgentStands t d (agent_stored stored.number stored.newest stored.index)) (λ t. IsAgentKept t d stored) sys d
      (restart_outs p stored)
  device_begins sys d leaf stored kept =
      let a : DeviceAgent = sys.agents d in
      let agent : DeviceAgent = agent_stored stored.number stored.newest stored.index in
      let mid : System = with_agent sys d agent in
      let bid : BidMessage = bid_kept p stored.number stored.newest in
      let is : mid.agents d ≡ agent = updated_same sys.agents d agent in
      let at = stored_at sys d a.answered a.index stored.index kept.price kept.older in
      let moved : OnlyMoves d sys mid = agent_moved sys d agent in
      let same : agent ≡ agent_stored a.number (newest_demand a) (price_stored sys d at.place a.answered a.index).index =
      ap (λ (n : ℕ). agent_stored n stored.newest stored.index) kept.number
      ∙ ap (λ (o : Option (List ℤ)). agent_stored a.number o stored.index) kept.newest
      ∙ ap (λ (i : ℕ). agent_stored a.number (newest_demand a) i) (sym at.index_is) in
      let stands : (t : System) → OnlyMoves d sys t → t.agents d ≡ agent → AgentStands t d agent = λ t moves there. record {
        agent_is = sym there;
        held = index_stays d sys t moves d stored.index kept.price;
        within = within_stored stored.number stored.newest stored.index;
      } in
      let still_kept : (t : System) → OnlyMoves d sys t → t.agents d ≡ agent → IsAgentKept t d stored = λ t moves there. record {
        number = sym (ap (λ (b : DeviceAgent). b.number) there);
        newest = sym (ap newest_demand there ∙ newest_stored stored.number stored.newest stored.index);
        price = index_stays d sys t moves d stored.index kept.price;
        older = omega (arith, ap (λ (b : DeviceAgent). b.index) there);
      } in
      let restarted : call.DeviceRestarts lists sys d at.place mid = record { leaf = leaf; new_is = ap (λ (b : DeviceAgent). with_agent sys d b) same } in
      elim (cases_Bool (eqb stored.number 0)) [
        | inl none ↦
            let outs_are : restart_outs p stored ≡ [] = cond-true (eqb stored.number 0) [] (Up bid ∷ []) none in
            record {
              calls = call.Restarts d at.place ∷ [];
              up = λ x ne. (λ e. ne (sym e), tt);
              gives = (tt, tt);
              silent = λ x. refl;
              new = mid;
              runs = (mid, inr (inr restarted), refl);
              only = moved;
              stands = stands mid moved is;
              kept = still_kept mid moved is;
              sent = subst (λ (l : List (Output StoredAgent)). WereSent lists p numbering mid d l) (sym outs_are) tt;
            }
        | inr some ↦
            let outs_are : restart_outs p stored ≡ Up bid ∷ [] = cond-false (eqb stored.number 0) [] (Up bid ∷ []) some in
            let new : System = with_bid_sent mid d bid in
            let all : OnlyMoves d sys new = then_moves d sys mid new moved (bid_pushed mid d d bid) in
            let bid_is : bid ≡ bid_kept p (mid.agents d).number (newest_demand (mid.agents d)) =
            ap (bid_kept p stored.number) (sym (newest_stored stored.number stored.newest stored.index))
            ∙ ap (λ (b : DeviceAgent). bid_kept p b.number (newest_demand b)) (sym is) in
            record {
              calls = call.Restarts d at.place ∷ call.Resends d ∷ [];
              up = λ x ne. (λ e. ne (sym e), (tt, tt));
              gives = (tt, (tt, tt));
              silent = λ x. refl;
              new = new;
              runs = (
                mid,
                inr (inr restarted),
                (
                  new,
                  inr (record {
                    leaf = leaf;
                    some = subst (λ (b : DeviceAgent). 1 ≤ b.number) (sym is)
                        (omega (
                          arith,
                          λ (z : stored.number ≡ 0). Rattle.std.proofs.lemmas.Bool.both_ways (eqb stored.number 0) some (eq-eqb stored.number 0 z),
                        ));
                    new_is = ap (λ (b : BidMessage). with_bid_sent mid d b) bid_is;
                  }),
                  refl,
                ),
              );
              only = all;
              stands = stands new all is;
              kept = still_kept new all is;
              sent = subst (λ (l : List (Output StoredAgent)). WereSent lists p numbering new d l) (sym outs_are) (new_in p mid.bids_sent d bid, tt);
            }
      ]
