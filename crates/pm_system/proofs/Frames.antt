-- Each message that was ever sent is one that a frame has room for.
use Rattle.std.proofs.Common.{◌≡◌, ◌∙◌, sym, ap, subst, ℕ, ◌+◌, ◌<◌, ◌≤◌, true, false, not, List, [], ◌∷◌}
use Rattle.std.proofs.Common.{◌++◌, length, get_or, Option, Some, None, arith, inl, inr, ℤ}
use Rattle.std.proofs.lemmas.Bool.{cases_eq, both_ways}
use Rattle.pm_market.specs.Lists.{Lists, parent, IsNode}
use Rattle.pm_market.specs.Legality.{has_reached}
use Rattle.pm_market.specs.State.{State, start, update, part, number, cleared_cut, addresses}
use Rattle.pm_market.specs.Moves.{after_from}
use Rattle.pm_market.proofs.Cuts.{updated_same, updated_other}
use Rattle.pm_laws.specs.Gone.{is_gone}
use Rattle.pm_laws.proofs.Gone.{gone_zero, gone_addresses}
use Rattle.pm_laws.proofs.Published.{due_within}
use Rattle.pm_net.specs.Pricing.{Pricing}
use Rattle.pm_net.specs.Messages.{BidMessage, PriceMessage, nothing_heard}
use Rattle.pm_net.specs.Network.{Network, sent_price}
use Rattle.pm_net.specs.Agrees.{NetworkAgrees, IsItsBid, IsItsPrice}
use Rattle.pm_net.specs.Devices.{Devices, start_devices, devices_after, DevicesAgree}
use Rattle.pm_net.proofs.Messages.{each_push}
use Rattle.pm_net.proofs.Steps.{run_from_start}
use Rattle.pm_net_plan.specs.Places.{Numbering}
use Rattle.pm_control.specs.Control.{newest_demand}
use Rattle.pm_system.specs.System.{System, bid_in_channel}
use Rattle.pm_system.specs.Calls.{NodeCall, Does, SystemRuns, DeviceChanges, bid_kept}
use Rattle.pm_system.specs.Calls.{Bids, Expires, TakesBid, Sends, Clears, TakesPrice, Restarts, StopsBidding, Resends, StopsClearing, TellsOne}
use Rattle.pm_system.specs.Given.{IsDemand, IsTreeMarket, IsStarted}
use Rattle.pm_system.specs.Frames.{IsSentPrice, AreSent}
use Rattle.pm_system.proofs.Moving.{its_place, same_bid, same_price, bids_in, prices_in}
use Rattle.pm_system.proofs.Offers.{offer_is, step_is}
use Rattle.pm_system.proofs.RelayCalls.{gone_zeros}
use Rattle.pm_system.proofs.DeviceCalls.{ComesBackAsStored}
use Rattle.pm_system.proofs.Runs.{system_runs}

-- ---- numbers of bids

abbrev AreNumbered : Pricing → System → Type 0
AreNumbered p sys = (x k : ℕ) → k < length (sys.bids_sent x) → 1 ≤ (bid_in_channel p sys x k).number

-- the bid that a device has of what is stored has the stored number
pub kept_number : (p : Pricing) (n : ℕ) (o : Option (List ℤ)) → (bid_kept p n o).number ≡ n
kept_number p n None = Rattle.std.proofs.Common.refl
kept_number p n (Some demand) = Rattle.std.proofs.Common.refl

module _ (lists : Lists) (p : Pricing) (numbering : Numbering) where
  -- a bid with a number is sent
  sends_one : (sys new : System) (c : ℕ) (bid : BidMessage) → AreNumbered p sys → new.bids_sent ≡ update sys.bids_sent c
      (sys.bids_sent c ++ bid ∷ []) →
      1 ≤ bid.number → AreNumbered p new
  sends_one sys new c bid were is one x k =
      let Numbered : List BidMessage → Type 0 = λ l. k < length l → 1 ≤ (get_or l k (nothing_heard p)).number in
      elim (cases_eq x c) [
        | inl e ↦ subst Numbered (sym (ap (λ f. f x) is ∙ ap (update sys.bids_sent c (sys.bids_sent c ++ bid ∷ [])) e
            ∙ updated_same sys.bids_sent c (sys.bids_sent c ++ bid ∷ [])))
            (each_push (λ (b : BidMessage). 1 ≤ b.number) (sys.bids_sent c) bid (nothing_heard p) (were c) one k)
        | inr ne ↦ subst Numbered (sym (ap (λ f. f x) is ∙ updated_other sys.bids_sent c (sys.bids_sent c ++ bid ∷ []) x ne)) (were x k)
      ]

  sends_none : (sys new : System) → AreNumbered p sys → new.bids_sent ≡ sys.bids_sent → AreNumbered p new
  sends_none sys new were is x k =
      let Numbered : List BidMessage → Type 0 = λ l. k < length l → 1 ≤ (get_or l k (nothing_heard p)).number in
      subst Numbered (sym (ap (λ f. f x) is)) (were x k)

  change_number : (sys : System) (d : ℕ) (agent : Rattle.pm_net.specs.Agents.DeviceAgent) (bid : BidMessage) →
      DeviceChanges lists p sys d agent bid → 1 ≤ bid.number
  change_number sys d agent bid made = elim made.change [
    | inl offers ↦ omega (arith, ap (λ (b : BidMessage). b.number) offers.bid_is)
    | inr leaves ↦ omega (arith, ap (λ (b : BidMessage). b.number) leaves.bid_is)
  ]

  call_numbers : (sys : System) (call : NodeCall) (new : System) → AreNumbered p sys → Does lists p numbering sys call new → AreNumbered p new
  call_numbers sys (Bids d) new were did = sends_one sys new d did.bid were (ap (λ (t : System). t.bids_sent) did.new_is)
      (change_number sys d did.agent did.bid did.made)
  call_numbers sys (Expires d n) new were did = sends_one sys new d _ were (ap (λ (t : System). t.bids_sent) did.new_is) (omega (arith, did.odd))
  call_numbers sys (TakesBid z k) new were (inl did) = sends_none sys new were (ap (λ (t : System). t.bids_sent) did.new_is)
  call_numbers sys (TakesBid z k) new were (inr did) = sends_none sys new were (ap (λ (t : System). t.bids_sent) did.new_is)
  call_numbers sys (Sends c) new were did = sends_one sys new c _ were (ap (λ (t : System). t.bids_sent) did.new_is) (omega (arith, did.sent.number))
  call_numbers sys Clears new were did = sends_none sys new were (ap (λ (t : System). t.bids_sent) did.new_is)
  call_numbers sys (TakesPrice c k) new were (inl did) = sends_none sys new were (ap (λ (t : System). t.bids_sent) did.new_is)
  call_numbers sys (TakesPrice c k) new were (inr did) = sends_none sys new were (ap (λ (t : System). t.bids_sent) did.new_is)
  call_numbers sys (Restarts y k) new were (inl did) = sends_none sys new were (ap (λ (t : System). t.bids_sent) did.1.new_is)
  call_numbers sys (Restarts y k) new were (inr (inl did)) = sends_none sys new were (ap (λ (t : System). t.bids_sent) did.new_is)
  call_numbers sys (Restarts y k) new were (inr (inr did)) = sends_none sys new were (ap (λ (t : System). t.bids_sent) did.new_is)
  call_numbers sys (StopsBidding c) new were (inl did) = sends_none sys new were (ap (λ (t : System). t.bids_sent) did.new_is)
  call_numbers sys (StopsBidding c) new were (inr did) = sends_none sys new were (ap (λ (t : System). t.bids_sent) did.new_is)
  call_numbers sys (Resends c) new were (inl did) = sends_one sys new c _ were (ap (λ (t : System). t.bids_sent) did.new_is) (omega (arith, did.has))
  call_numbers sys (Resends c) new were (inr did) = sends_one sys new c _ were (ap (λ (t : System). t.bids_sent) did.new_is)
      (omega (arith, did.some, kept_number p (sys.agents c).number (newest_demand (sys.agents c))))
  call_numbers sys StopsClearing new were did = sends_none sys new were (ap (λ (t : System). t.bids_sent) did.new_is)
  call_numbers sys (TellsOne z) new were did = sends_none sys new were (ap (λ (t : System). t.bids_sent) did.new_is)

  run_numbers : (calls : List NodeCall) (sys new : System) → AreNumbered p sys → SystemRuns lists p numbering sys calls new → AreNumbered p new
  run_numbers [] sys new were runs = sends_none sys new were (ap (λ (t : System). t.bids_sent) (sym runs))
  run_numbers (call ∷ calls) sys new were runs = run_numbers calls runs.0 new (call_numbers sys call runs.0 were runs.1) runs.2

-- ---- all messages

module _ (lists : Lists) (p : Pricing) (numbering : Numbering) (market : IsTreeMarket lists p numbering) (s : State) (net : Network)
    (agrees : NetworkAgrees lists p net s) (x : ℕ) (node : IsNode lists x) where
  its_demand : (bid : BidMessage) → IsItsBid lists p s x bid → IsDemand p.steps bid.demand
  its_demand bid its = subst (IsDemand p.steps) (sym (ap (λ (b : BidMessage). b.demand) its.1))
      (offer_is lists p numbering market (part lists s x bid.number) x node)

  -- a price that is due to a node has a number of it
  its_number : (price : PriceMessage) → IsItsPrice lists p s x price → 1 ≤ price.number
  its_number price its =
      let within = due_within lists s agrees.sound x price.index its.0 in
      let n : ℕ = number lists s x (cleared_cut s price.index) in
      let addressed : addresses lists s price.index x ≡ true =
      (Rattle.std.proofs.lemmas.Bool.and_parts (has_reached s (parent lists x) price.index) (addresses lists s price.index x) its.0).1 in
      let here : is_gone lists x n ≡ false = gone_addresses lists market.law s agrees.sound x price.index node within.1 ∙ ap not addressed in
      let some : n ≡ 0 → ⊥ = λ zero. both_ways (is_gone lists x n) here (ap (is_gone lists x) zero ∙ gone_zero lists x) in
      omega (arith, some, ap (λ (q : PriceMessage). q.number) its.1)

  its_price : (price : PriceMessage) → IsItsPrice lists p s x price → IsSentPrice p price
  its_price price its = record {
    number = its_number price its;
    index = (due_within lists s agrees.sound x price.index its.0).0;
    step = omega (arith, ap (λ (q : PriceMessage). q.step) its.1, step_is lists p numbering market (cleared_cut s price.index) x node);
  }

-- each message that was ever sent fits a frame
pub all_sent : ComesBackAsStored → (lists : Lists) (p : Pricing) (numbering : Numbering) (sys new : System) (calls : List NodeCall) →
    IsTreeMarket lists p numbering →
    IsStarted lists p sys → SystemRuns lists p numbering sys calls new → AreSent lists p new
all_sent back lists p numbering sys new calls market at runs =
    let has = system_runs lists p numbering market back sys new calls at runs in
    let devices : Devices = devices_after lists p (start_devices p) has.events in
    let goes = run_from_start lists market.law market.one_phase p market.by_nodes has.events in
    let s : State = after_from lists start goes.moves in
    let agree : DevicesAgree lists p devices s = goes.agree in
    let numbered : AreNumbered p new = run_numbers lists p numbering calls sys new (λ x k lt.
    absurd (omega (arith, lt, ap (λ (l : List BidMessage). length l) (at.bids_sent x)))) runs in
    let its : (x k : ℕ) → IsNode lists x → k < length (new.bids_sent x) → IsItsBid lists p s x (bid_in_channel p new x k) =
    λ x k node inside.
    let Its : BidMessage → Type 0 = λ b. IsItsBid lists p s x b in
    subst Its (sym (same_bid lists p numbering market.places devices new has.is x k node inside))
    (agree.agrees.bids_sent x (its_place lists p numbering market.places devices new has.is x k node inside) node
    (bids_in lists p numbering market.places devices new has.is x k node inside)) in
    record {
      bids = λ x k node inside. record {
        number = numbered x k inside;
        demand = its_demand lists p numbering market s devices.net agree.agrees x node (bid_in_channel p new x k) (its x k node inside);
        gone = gone_zeros lists p numbering market s x node (bid_in_channel p new x k) (its x k node inside);
      };
      prices = λ x k node inside.
          let Sent : PriceMessage → Type 0 = λ q. IsSentPrice p q in
          subst Sent (sym (same_price lists p numbering market.places devices new has.is x k node))
          (its_price lists p numbering market s devices.net agree.agrees x node (sent_price devices.net x k)
          (agree.agrees.prices_sent x k node (prices_in lists p numbering market.places devices new has.is x k node inside)));
    }
