-- What the service of a device's agent answers to a frame is some calls of the device.
use Rattle.std.proofs.Common.{◌≡◌, ◌∙◌, sym, ap, subst, ℕ, ◌+◌, ◌-◌, ◌<◌, ◌≤◌, ◌^◌, Bool, true, false, cond, ltb}
use Rattle.std.proofs.Common.{ℤ, List, [], ◌∷◌, ◌++◌, length, Option, Some, None, refl, inl, inr, arith, length-append, append-nil}
use Rattle.std.proofs.Common.{ltb-true}
use Rattle.std.proofs.lemmas.Bool.{cases_Bool, cond-true, cond-false, lt-ltb}
use Rattle.std.proofs.lemmas.List.{get_or_at}
use Rattle.std.specs.List.{Contains}
use Rattle.pm_bid.specs.Bids.{zeros}
use Rattle.pm_market.specs.Lists.{Lists, changes, IsLeaf}
use Rattle.pm_market.proofs.Cuts.{updated_same}
use Rattle.pm_net.specs.Pricing.{Pricing}
use Rattle.pm_net.specs.Messages.{BidMessage, PriceMessage, bid_message}
use Rattle.pm_net.specs.Agents.{Setpoint, DeviceAgent, may_offer, after_offer, after_leaving, setpoints_for, after_price}
use Rattle.pm_net_plan.specs.Places.{Numbering}
use Rattle.pm_control.specs.Control.{newest_demand, offered_anew}
use Rattle.pm_frames.specs.Answers.{window_full_bytes, out_of_numbers_bytes}
use Rattle.pm_frames.specs.declared.stored.StoredAgent.{StoredAgent}
use Rattle.pm_frames.specs.declared.parent.ParentFrame.TheVariants.{Price, Old}
use Rattle.pm_frames.specs.declared.device.DeviceFrame.{DeviceFrame}
use Rattle.pm_frames.specs.declared.device.DeviceFrame.TheVariants.{Hello, Offer, Kind, Leave, Parent, Resume}
use Rattle.pm_basis.specs.Prices.{BasisValue}
use Rattle.pm_services.specs.DeviceWrites.{numbered_bid, agent_after}
use Rattle.pm_system.specs.System.{System, price_in_channel, with_agent, with_bid_sent, with_setpoints}
use Rattle.pm_system.specs.Calls as call
use Rattle.pm_system.specs.Calls.{NodeCall, SystemRuns, DeviceChanges, bid_kept}
use Rattle.pm_system.proofs.Moving.{new_in}
use Rattle.pm_lives.specs.Outputs.{WereSent, EachKept}
use Rattle.pm_services.specs.Outputs.{Output, Up, Says}
use Rattle.pm_services.specs.DeviceWrites.{stored_agent, made_outs, told_outs, device_outs}
use Rattle.pm_lives.specs.Moves.{OnlyMoves, AreCalm, lets_none}
use Rattle.pm_lives.specs.DeviceLife.{IsIndexOfSent, AgentStands, IsAgentKept, IsGivenOffer, IsGivenLeaving, DeviceMayRead, AgentStandsTold, told_of}
use Rattle.pm_lives.specs.DeviceLife.{DeviceFollows}
use Rattle.pm_lives.proofs.Staying.{then_moves, agent_moved, bid_pushed, setpoints_pushed, price_stays}
use Rattle.pm_lives.proofs.After.{nothing_follows, says, follows_as}
use Rattle.pm_lives.proofs.AgentFacts.{AreWithin, within_more, within_push, PriceLeaves, price_leaves, pushed_demand}

-- an index of a price that was sent to a device stays one
pub index_stays : (y : ℕ) (sys new : System) → OnlyMoves y sys new → (d index : ℕ) → IsIndexOfSent sys d index → IsIndexOfSent new d index
index_stays y sys new moves d index (inl none) = inl none
index_stays y sys new moves d index (inr at) =
    let there = price_stays y sys new moves d at.0 at.1 in
    inr (at.0, there.0, ap (λ (q : PriceMessage). q.index) there.1 ∙ at.2)

-- what it stores of itself may be stored
own_kept : (own : BasisValue) (sys : System) (d : ℕ) (agent : DeviceAgent) → sys.agents d ≡ agent → IsIndexOfSent sys d agent.index →
    IsAgentKept sys d (stored_agent own agent)
own_kept own sys d agent is held = record {
  number = ap (λ (a : DeviceAgent). a.number) (sym is);
  newest = ap newest_demand (sym is);
  price = held;
  older = omega (arith, ap (λ (a : DeviceAgent). a.index) is);
}

module _ (lists : Lists) (p : Pricing) (numbering : Numbering) (own : BasisValue) (d : ℕ) (leaf : IsLeaf lists d) where
  abbrev Does : DeviceAgent → System → List (Output StoredAgent) → Type 0
  Does after sys reply = DeviceFollows lists p numbering sys d after [] reply

  -- its control was told nothing
  untold : (sys t : System) (after : DeviceAgent) → AgentStands t d after → t.setpoints d ≡ sys.setpoints d → AgentStandsTold sys d after [] t
  untold sys t after stands same = record { stands = stands; told = same ∙ sym (append-nil (sys.setpoints d)) }

  says_so : (sys : System) (said : List ℕ) → AgentStands sys d (sys.agents d) → Does (sys.agents d) sys (Says said ∷ [])
  says_so sys said stands =
      says lists p numbering lets_none (λ t stored. IsAgentKept t d stored) d (λ t. AgentStandsTold sys d (sys.agents d) [] t) sys said
      (untold sys sys (sys.agents d) stands refl)

  silent : (sys : System) → AgentStands sys d (sys.agents d) → Does (sys.agents d) sys []
  silent sys stands =
      nothing_follows lists p numbering lets_none (λ t stored. IsAgentKept t d stored) d (λ t. AgentStandsTold sys d (sys.agents d) [] t) sys
      (untold sys sys (sys.agents d) stands refl)

  -- it makes a bid, which is sent behind a Resume; before it, it may make one that is not sent
  makes : (sys mid : System) (before : List NodeCall) → SystemRuns lists p numbering sys before mid →
      ((x : ℕ) → AreCalm lets_none x before) → OnlyMoves d sys mid →
      mid.setpoints d ≡ sys.setpoints d →
      (after : DeviceAgent) (bid : BidMessage) → DeviceChanges lists p mid d after bid → IsIndexOfSent mid d after.index →
      AreWithin after.number after.offers → Does after sys (made_outs own after bid)
  makes sys mid before runs up only quiet after bid made held within =
      let new : System = with_bid_sent (with_agent mid d after) d bid in
      let moved : OnlyMoves d mid new = then_moves d mid (with_agent mid d after) new (agent_moved mid d after) (bid_pushed (with_agent mid d after) d d bid) in
      let is : new.agents d ≡ after = updated_same mid.agents d after in
      let holds : IsIndexOfSent new d after.index = index_stays d mid new moved d after.index held in
      record {
        calls = before ++ call.Bids d ∷ [];
        new = new;
        runs = Rattle.pm_lives.proofs.After.runs_on lists p numbering before (call.Bids d ∷ []) sys mid new runs
            (new, record { agent = after; bid = bid; made = made; new_is = refl }, refl);
        only = then_moves d sys mid new only moved;
        up = λ x. Rattle.pm_lives.proofs.After.calm_on lets_none x before (call.Bids d ∷ []) (up x) (tt, tt);
        stands = untold sys new after (record { agent_is = sym is; held = holds; within = within }) quiet;
        sent = (tt, (new_in p mid.bids_sent d bid, tt));
        kept = (own_kept own new d after is holds, (tt, tt));
        first = inr (stored_agent own after, Up bid ∷ [], refl);
      }

  abbrev itself : (sys : System) → OnlyMoves d sys sys
  itself sys = Rattle.pm_lives.proofs.Staying.still d sys

  module _ (sys : System) (stands : AgentStands sys d (sys.agents d)) where
    abbrev agent : DeviceAgent
    agent = sys.agents d

    -- ---- it offers

    offers : (demand : List ℤ) → may_offer agent ≡ true → IsGivenOffer lists p d (agent.number + 2) demand →
        Does (after_offer agent demand) sys (made_outs own (after_offer agent demand) (numbered_bid p.steps (agent.number + 2) (Some demand)))
    offers demand may given =
        makes sys sys [] refl (λ x. tt) (itself sys) refl (after_offer agent demand) (bid_message (agent.number + 2) false demand)
        (record {
          leaf = leaf;
          has_next = given.has;
          change = inl (record {
            member = given.member;
            may = may;
            offered = ap (after_offer agent) given.is;
            bid_is = ap (bid_message (agent.number + 2) false) given.is;
          });
        })
        stands.held
        (within_push (agent.number + 2) agent.offers (record { number = agent.number + 2; demand = demand })
        (within_more agent.number (agent.number + 2) (omega arith) agent.offers stands.within) (omega arith))

    offer_by : (may room : Bool) → may_offer agent ≡ may → (demand : List ℤ) →
        (may ≡ true → room ≡ true → IsGivenOffer lists p d (agent.number + 2) demand) →
        Does (cond may (cond room (after_offer agent demand) agent) agent) sys
        (cond may (cond room (made_outs own (after_offer agent demand) (numbered_bid p.steps (agent.number + 2) (Some demand)))
        (Says out_of_numbers_bytes ∷ [])) (Says window_full_bytes ∷ []))
    offer_by true true is demand given = offers demand is (given refl refl)
    offer_by true false is demand given = says_so sys out_of_numbers_bytes stands
    offer_by false room is demand given = says_so sys window_full_bytes stands

    -- ---- it leaves

    leaves : IsGivenLeaving lists d (agent.number + 2) → Does (after_leaving agent) sys
        (made_outs own (after_leaving agent) (numbered_bid p.steps (agent.number + 2) None))
    leaves given =
        makes sys sys [] refl (λ x. tt) (itself sys) refl (after_leaving agent) (bid_message (agent.number + 2) true (zeros p.steps))
        (record {
          leaf = leaf;
          has_next = given.has;
          change = inr (record { absent = given.absent; left = refl; bid_is = refl });
        })
        stands.held tt

    leave_by : (room : Bool) → (room ≡ true → IsGivenLeaving lists d (agent.number + 2)) → Does (cond room (after_leaving agent) agent) sys
        (cond room (made_outs own (after_leaving agent) (numbered_bid p.steps (agent.number + 2) None)) (Says out_of_numbers_bytes ∷ []))
    leave_by true given = leaves (given refl)
    leave_by false given = says_so sys out_of_numbers_bytes stands

    -- ---- its parent let it go: it leaves, which is not sent, and offers anew

    abbrev left : DeviceAgent
    left = after_leaving agent

    abbrev stopped : System
    stopped = with_agent sys d left

    left_is : stopped.agents d ≡ left
    left_is = updated_same sys.agents d left

    anew : (demand : List ℤ) → IsGivenLeaving lists d (agent.number + 2) → IsGivenOffer lists p d (agent.number + 2 + 2) demand →
        Does (after_offer left demand) sys (made_outs own (after_offer left demand) (numbered_bid p.steps (agent.number + 2 + 2) (Some demand)))
    anew demand leaving given =
        let after : DeviceAgent = after_offer left demand in
        let bid : BidMessage = bid_message (agent.number + 2 + 2) false demand in
        let Changes : DeviceAgent → Type 0 = λ a. (a.number + 2 ≤ changes lists d) × call.Offers lists p d a after bid in
        let offered : Changes left = (
          given.has,
          record {
            member = given.member;
            may = lt-ltb (left.number - left.answered) 16 (omega arith);
            offered = ap (after_offer left) given.is;
            bid_is = ap (bid_message (agent.number + 2 + 2) false) given.is;
          },
        ) in
        let there : Changes (stopped.agents d) = subst Changes (sym left_is) offered in
        makes sys stopped (call.StopsBidding d ∷ []) (
          stopped,
          inr (record {
            agent = left;
            bid = bid_message (agent.number + 2) true (zeros p.steps);
            made = record {
              leaf = leaf;
              has_next = leaving.has;
              change = inr (record { absent = leaving.absent; left = refl; bid_is = refl });
            };
            new_is = refl;
          }),
          refl,
        )
        (λ x. (tt, tt)) (agent_moved sys d left) refl after bid (record { leaf = leaf; has_next = there.0; change = inl there.1 })
        (index_stays d sys stopped (agent_moved sys d left) d agent.index stands.held) (omega arith, tt)

    -- ---- it takes a price

    told_sent : (new : System) (before given : List Setpoint) → new.setpoints d ≡ before ++ given → (after : DeviceAgent) (price : PriceMessage) →
        WereSent lists p numbering new d (told_outs own after price given)
    told_sent new before [] is after price = (tt, tt)
    told_sent new before (setpoint ∷ more) is after price = (
      subst (λ (l : List Setpoint). Contains l setpoint) (sym is)
          (length before, omega (arith, length-append before (setpoint ∷ more)), get_or_at before setpoint more setpoint (length before) refl),
      (tt, tt),
    )

    told_kept : (new : System) (after : DeviceAgent) (price : PriceMessage) (given : List Setpoint) → IsAgentKept new d (stored_agent own after) →
        EachKept (λ (stored : StoredAgent). IsAgentKept new d stored) (told_outs own after price given)
    told_kept new after price [] own = (tt, tt)
    told_kept new after price (setpoint ∷ more) own = (tt, (own, tt))

    takes : (k : ℕ) → k < length (sys.prices_sent d) →
        DeviceFollows lists p numbering sys d (after_price agent (price_in_channel sys d k)) (setpoints_for agent (price_in_channel sys d k))
        (told_outs own (after_price agent (price_in_channel sys d k)) (price_in_channel sys d k) (setpoints_for agent (price_in_channel sys d k)))
    takes k inside =
        let price : PriceMessage = price_in_channel sys d k in
        let after : DeviceAgent = after_price agent price in
        let given : List Setpoint = setpoints_for agent price in
        let new : System = with_setpoints (with_agent sys d after) d given in
        let moved : OnlyMoves d sys new =
        then_moves d sys (with_agent sys d after) new (agent_moved sys d after) (setpoints_pushed (with_agent sys d after) d given) in
        let is : new.agents d ≡ after = updated_same sys.agents d after in
        let leaves : PriceLeaves agent price after = price_leaves agent price stands.within in
        let held : IsIndexOfSent sys d after.index = elim leaves.index [
          | inl same ↦ subst (IsIndexOfSent sys d) (sym same) stands.held
          | inr its ↦ inr (k, inside, sym its)
        ] in
        let holds : IsIndexOfSent new d after.index = index_stays d sys new moved d after.index held in
        record {
          calls = call.TakesPrice d k ∷ [];
          new = new;
          runs = (new, inr (record { leaf = leaf; inside = inside; new_is = refl }), refl);
          only = moved;
          up = λ x. (tt, tt);
          stands = record {
            stands = record { agent_is = sym is; held = holds; within = leaves.within };
            told = updated_same sys.setpoints d (sys.setpoints d ++ given);
          };
          sent = told_sent new (sys.setpoints d) given (updated_same sys.setpoints d (sys.setpoints d ++ given)) after price;
          kept = told_kept new after price given (own_kept own new d after is holds);
          first = inl (λ stored kept. record {
            number = kept.number ∙ sym (ap (λ (a : DeviceAgent). a.number) is ∙ leaves.number);
            newest = kept.newest ∙ sym (ap newest_demand is ∙ leaves.newest);
            price = index_stays d sys new moved d stored.index kept.price;
            older = omega (arith, kept.older, leaves.rises, ap (λ (a : DeviceAgent). a.index) is);
          });
        }

    -- ---- all frames

    -- what is given where it made its offer anew
    abbrev made_by : DeviceAgent → List (Output StoredAgent)
    made_by after = made_outs own after (numbered_bid p.steps after.number (newest_demand after))

    abbrev given_by : DeviceAgent → List (Output StoredAgent)
    given_by after = cond (ltb agent.number after.number) (made_by after) []

    -- nothing is given
    old_same : Does agent sys (given_by agent)
    old_same =
        follows_as lists p numbering lets_none (λ t stored. IsAgentKept t d stored) d (λ t. AgentStandsTold sys d agent [] t) sys [] (given_by agent)
        (elim (cases_Bool (ltb agent.number agent.number)) [
          | inl e ↦ absurd (omega (arith, ltb-true agent.number agent.number e))
          | inr e ↦ cond-false (ltb agent.number agent.number) (made_by agent) [] e
        ])
        (silent sys stands)

    old_by : (newer room : Bool) (newest : Option (List ℤ)) → newest_demand agent ≡ newest →
        (newer ≡ true → room ≡ true → (demand : List ℤ) →
        newest ≡ Some demand → IsGivenLeaving lists d (agent.number + 2) × IsGivenOffer lists p d (agent.number + 2 + 2) demand) →
        Does (cond newer (cond room (offered_anew agent newest) agent) agent) sys (given_by (cond newer (cond room (offered_anew agent newest) agent) agent))
    old_by true true (Some demand) is given =
        let after : DeviceAgent = after_offer left demand in
        let both = given refl refl demand refl in
        follows_as lists p numbering lets_none (λ t stored. IsAgentKept t d stored) d (λ t. AgentStandsTold sys d after [] t) sys
        (made_outs own after (numbered_bid p.steps after.number (Some demand))) (given_by after)
        (cond-true (ltb agent.number after.number) (made_by after) [] (lt-ltb agent.number after.number (omega arith))
        ∙ ap (λ (o : Option (List ℤ)). made_outs own after (numbered_bid p.steps after.number o))
        (pushed_demand (agent.number + 2 + 2) [] demand 0 tt (omega arith)))
        (anew demand both.0 both.1)
    old_by true true None is given = old_same
    old_by true false newest is given = old_same
    old_by false room newest is given = old_same

    frame_follows : (frame : DeviceFrame) → DeviceMayRead lists p own sys d frame →
        DeviceFollows lists p numbering sys d (agent_after agent frame) (told_of agent frame) (device_outs p.steps own agent frame)
    frame_follows (Hello basis) may = silent sys stands
    frame_follows (Kind named) may = silent sys stands
    frame_follows (Offer form demand) may = offer_by (may_offer agent) (ltb (agent.number + 5) (2 ^ 32)) refl demand may
    frame_follows Leave may = leave_by (ltb (agent.number + 3) (2 ^ 32)) may
    frame_follows (Parent (Price child number index step basis)) may =
        subst (λ (q : PriceMessage). DeviceFollows lists p numbering sys d (after_price agent q) (setpoints_for agent q)
        (told_outs own (after_price agent q) q (setpoints_for agent q))) may.1.2 (takes may.1.0 may.1.1)
    frame_follows (Parent (Old child kept)) may =
        old_by (ltb agent.number kept) (ltb (agent.number + 7) (2 ^ 32)) (newest_demand agent) refl may
    frame_follows (Resume stored) may = absurd may

-- What the service of a device's agent answers to a frame is some calls of the device.
pub device_answers : (lists : Lists) (p : Pricing) (numbering : Numbering) (sys : System) (d : ℕ) → IsLeaf lists d → (own : BasisValue)
    (old : DeviceAgent) (frame : DeviceFrame) → AgentStands sys d old → DeviceMayRead lists p own sys d frame →
    DeviceFollows lists p numbering sys d (agent_after old frame) (told_of old frame) (device_outs p.steps own old frame)
device_answers lists p numbering sys d leaf own old frame stands may =
    subst (λ (a : DeviceAgent). DeviceFollows lists p numbering sys d (agent_after a frame) (told_of a frame) (device_outs p.steps own a frame))
    (sym stands.agent_is)
    (frame_follows lists p numbering own d leaf sys (subst (λ (a : DeviceAgent). AgentStands sys d a) stands.agent_is stands) frame may)
