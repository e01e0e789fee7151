-- What the turns of a phase leave is what the law of settled phases wants.
use Rattle.std.proofs.Common.{◌≡◌, ◌∙◌, sym, ap, subst, ℕ, zero, suc, ℤ}
use Rattle.std.proofs.Common.{List, [], ◌∷◌, Option, Some, None, refl, arith, inl, inr, Contains}
use Rattle.std.proofs.lemmas.Bool.{cases_Bool, cond-true, cond-false}
use Rattle.std.proofs.lemmas.List.Elements.{All-contains, Contains-append_right}
use Rattle.pm_base.specs.Cuts.{Cut}
use Rattle.pm_bid.specs.Bids.{zeros}
use Rattle.pm_bid.specs.declared.head.BidHead.{BidHead}
use Rattle.pm_cache.specs.Cache.{Cache, child_head, child_demand}
use Rattle.pm_cache.specs.Learning.{demand_of_offer}
use Rattle.pm_cells.specs.declared.message.UpMessage.{UpMessage}
use Rattle.pm_cells.specs.declared.message.Message.{Message}
use Rattle.pm_cells.specs.declared.message.Message.TheVariants.{Bid, Price}
use Rattle.pm_market.specs.Lists.{Lists, parent, IsNode, IsLeaf, IsConcentrator}
use Rattle.pm_market.proofs.Tree.{leaf_node}
use Rattle.pm_offer.specs.Offers.{device_demand}
use Rattle.pm_plan.specs.Auction.{demand_in_cut, node_bid}
use Rattle.pm_plan.specs.Kept.{IsPlan}
use Rattle.pm_plan.specs.Plans.{PlanData, node, is_member}
use Rattle.pm_plan.specs.States.{state, end_of}
use Rattle.pm_plan.specs.Market.{plan_lists}
use Rattle.pm_plan.proofs.MarketLists.{lawful}
use Rattle.pm_session.specs.Ports.{Seat}
use Rattle.pm_session.specs.declared.price.PriceUpdate.{PriceUpdate}
use Rattle.pm_tree.specs.Entries.{place_of}
use Rattle.pm_carried.specs.Carried.{Carried, cache_at, entry_head, entry_demand, last_price, carried_end}
use Rattle.pm_carried.specs.Kept.{TellsByNumber}
use Rattle.pm_carried.specs.Settled.{IsSettledOver}
use Rattle.pm_carried.proofs.Bids.{cache_root}
use Rattle.pm_carried.proofs.Ends.{settled_end}
use Rattle.pm_phase.specs.KeepingParents.{TellsBidMessage}
use Rattle.pm_phase.specs.PhaseEnds.{DeviceLeft, ConcentratorLeft, NodeLeft, AreNodesLeft}
use Rattle.pm_phase.specs.declared.matcher.Matcher.TheVariants.{Concentrator}
use Rattle.pm_phase.specs.Telling.{TellsMessage, TellsChange, bid_after, prices_among}
use Rattle.pm_phase.specs.TellingParents.{bids_among, EntryCame, TellsSum, FollowsAbove, FollowsClearing}

-- a bid among messages is one of them
pub bid_among : (ms : List Message) (bid : UpMessage) → Contains (bids_among ms) bid → Contains ms (Bid bid)
bid_among [] bid h = absurd (let lt = h.1 in omega (arith, lt))
bid_among (Price p ∷ ms) bid h = Contains-append_right (Price p ∷ []) ms (Bid bid) (bid_among ms bid h)
bid_among (Bid b ∷ ms) bid (zero, lt, e) = (0, omega arith, ap Bid e)
bid_among (Bid b ∷ ms) bid (suc k, lt, e) = Contains-append_right (Bid b ∷ []) ms (Bid bid) (bid_among ms bid (k, omega (arith, lt), e))

price_among : (ms : List Message) (price : PriceUpdate) → Contains (prices_among ms) price → Contains ms (Price price)
price_among [] price h = absurd (let lt = h.1 in omega (arith, lt))
price_among (Bid b ∷ ms) price h = Contains-append_right (Bid b ∷ []) ms (Price price) (price_among ms price h)
price_among (Price p ∷ ms) price (zero, lt, e) = (0, omega arith, ap Price e)
price_among (Price p ∷ ms) price (suc k, lt, e) = Contains-append_right (Price p ∷ []) ms (Price price) (price_among ms price (k, omega (arith, lt), e))

among_prices : (ms : List Message) (price : PriceUpdate) → Contains ms (Price price) → Contains (prices_among ms) price
among_prices [] price h = absurd (let lt = h.1 in omega (arith, lt))
among_prices (Bid b ∷ ms) price (zero, lt, e) = absurd (cc e)
among_prices (Bid b ∷ ms) price (suc k, lt, e) = among_prices ms price (k, omega (arith, lt), e)
among_prices (Price p ∷ ms) price (zero, lt, e) = (0, omega arith, (let same : p ≡ price = cc e in same))
among_prices (Price p ∷ ms) price (suc k, lt, e) = Contains-append_right (p ∷ []) (prices_among ms) price (among_prices ms price (k, omega (arith, lt), e))

-- the demand that a device's bid offers
offered_by : (plan : PlanData) (cache : Cache) (d n : ℕ) (demand : Option (List ℤ)) → cache.steps ≡ plan.basis.steps →
    demand ≡ bid_after plan d n →
    demand_of_offer cache demand ≡ device_demand plan d n
unfolding demand_in_cut
offered_by plan cache d n demand steps is = ap (demand_of_offer cache) is ∙ elim (cases_Bool (is_member plan d n)) [
  | inl belongs ↦ ap (demand_of_offer cache) (cond-true (is_member plan d n) (Some (device_demand plan d n)) None belongs)
  | inr gone ↦
      ap (demand_of_offer cache) (cond-false (is_member plan d n) (Some (device_demand plan d n)) None gone) ∙ ap zeros steps
      ∙ sym (cond-false (is_member plan d n) (node_bid plan (node plan d) (state plan d n)) (zeros plan.basis.steps) gone)
]

module _ (plan : PlanData) (is_plan : IsPlan plan) (c : Carried) (left : AreNodesLeft plan c) where
  abbrev lists : Lists
  lists = plan_lists plan

  -- the entry of a device in a place of a cache
  device_entry : (d : ℕ) (now : Cache) (k : ℕ) (n : NodeLeft plan c d) → now.steps ≡ plan.basis.steps → k ≡ place_of plan.entries d →
      DeviceLeft plan n.was c d n.child_end → EntryCame n.was now k (bids_among n.parent_end.known.up.received) →
      child_demand now k ≡ device_demand plan d (child_head now k).number
  device_entry d now k n steps here is (inl was) =
      was.demand ∙ ap (child_demand n.was) here ∙ is.entry
      ∙ ap (λ (j : ℕ). device_demand plan d (child_head n.was j).number) (sym here)
      ∙ ap (λ (h : BidHead). device_demand plan d h.number) (sym was.head)
  device_entry d now k n steps here is (inr has) =
      let put = n.took.bids (Bid has.bid) (bid_among n.parent_end.known.up.received has.bid has.came) in
      let tells : TellsChange plan d has.bid = All-contains (TellsMessage plan d) n.child_end.known.up.sent (Bid has.bid) is.keeps.sent put in
      has.entry.demand ∙ offered_by plan now d has.bid.number has.bid.demand steps tells ∙ ap (device_demand plan d) (sym has.entry.number)

  -- the entry of a concentrator in a place of a cache
  sum_entry : (y : ℕ) (now : Cache) (k : ℕ) (n : NodeLeft plan c y) → k ≡ place_of plan.entries y → ConcentratorLeft plan n.was c y n.child_end →
      EntryCame n.was now k (bids_among n.parent_end.known.up.received) →
      TellsSum (c.concentrators y) (child_head now k).number (child_demand now k)
  sum_entry y now k n here is (inl was) =
      subst (λ (e : BidHead × List ℤ). TellsSum (c.concentrators y) e.0.number e.1)
      (λ i. (sym (was.head ∙ ap (child_head n.was) here) i, sym (was.demand ∙ ap (child_demand n.was) here) i)) is.entry
  sum_entry y now k n here is (inr has) =
      let put = n.took.bids (Bid has.bid) (bid_among n.parent_end.known.up.received has.bid has.came) in
      let tells = All-contains (TellsBidMessage (Concentrator (c.concentrators y))) n.child_end.known.up.sent (Bid has.bid) is.sent put in
      let demand : child_demand now k ≡ tells.0 = has.entry.demand ∙ ap (demand_of_offer now) tells.1 in
      subst (λ (e : ℕ × List ℤ). TellsSum (c.concentrators y) e.0 e.1) (λ i. (sym has.entry.number i, sym demand i)) tells.2

  -- the entries of devices and of concentrators in the caches above them
  pub left_device : (d : ℕ) → IsLeaf lists d →
      entry_demand plan c d ≡ device_demand plan d (entry_head plan c d).number
  unfolding entry_head entry_demand
  left_device d leaf =
      let law = lawful plan is_plan in
      let node = leaf_node lists law d leaf in
      let n = left.nodes d node in
      device_entry d (cache_at c (parent lists d)) (place_of plan.entries d) n
      (left.shaped.steps (parent lists d) (omega (arith, law.earlier d node, node.1)) (law.inner d node)) refl (n.device leaf) n.entry

  -- and of a concentrator
  pub left_concentrator : (y : ℕ) → IsConcentrator lists y → TellsSum (c.concentrators y) (entry_head plan c y).number (entry_demand plan c y)
  unfolding entry_head entry_demand
  left_concentrator y conc =
      let n = left.nodes y (conc.0, conc.1) in
      sum_entry y (cache_at c (parent lists y)) (place_of plan.entries y) n refl (n.concentrator conc) n.entry

  -- what came over a link was put on it
  price_put : (x : ℕ) (price : PriceUpdate) (node : IsNode lists x) → Contains (c.came x) price →
      Contains (prices_among (left.nodes x node).parent_end.known.down.sent) price
  price_put x price node has =
      let n = left.nodes x node in
      let came : Contains (prices_among n.child_end.known.down.received) price =
      subst (λ (ps : List PriceUpdate). Contains ps price) n.came has in
      among_prices n.parent_end.known.down.sent price
      (n.took.prices (Price price) (price_among n.child_end.known.down.received price came))

  -- what the phase left says what its numbers say
  pub left_is_kept : TellsByNumber plan c
  unfolding entry_head entry_demand
  left_is_kept = record {
    shaped = left.shaped;
    auction = left.auction;
    devices = λ d leaf. record { demand = left_device d leaf };
    concentrators = λ y conc.
        let is = (left.nodes y (conc.0, conc.1)).concentrator conc in
        record { sum = is.keeps.sum; demand = λ sent newest. (left_concentrator y conc).is sent newest };
    seats = λ d leaf.
        let n = left.nodes d (leaf_node lists (lawful plan is_plan) d leaf) in
        let is = n.device leaf in
        let port = ap (λ (s : Seat). s.joined) is.seat in
        record {
          joined = λ member.
              let j = is.keeps.joined (is.keeps.member ∙ ap (is_member plan d) (sym is.made) ∙ member) in
              (j.0, port ∙ j.1, omega (arith, j.2, is.made));
          left = λ out. port ∙ is.keeps.left (is.keeps.member ∙ ap (is_member plan d) (sym is.made) ∙ out);
          given = λ price last inside.
              ap (λ (s : Seat). s.given) is.seat ∙ is.keeps.given price (ap last_price (sym n.came) ∙ last) inside;
        };
    root_prices = λ x price node up has.
        let n = left.nodes x node in
        let follows = All-contains (FollowsClearing c.auctioneer (place_of plan.entries x)) (prices_among n.parent_end.known.down.sent) price
        (n.root_prices up) (price_put x price node has) in
        record {
          step = follows.step;
          number = λ newest still.
              follows.number newest still ∙ ap (λ (q : Cache). (child_head q (place_of plan.entries x)).number) (sym (at_root x up));
        };
    prices = λ x price node conc has.
        let n = left.nodes x node in
        let follows = All-contains (FollowsAbove (c.concentrators (parent lists x)) (c.came (parent lists x)) (place_of plan.entries x))
        (prices_among n.parent_end.known.down.sent) price (n.prices conc) (price_put x price node has) in
        record { above = follows.above; came = follows.came; passed = follows.passed };
  }
    where
      at_root : (x : ℕ) → parent lists x ≡ 0 → cache_at c (parent lists x) ≡ c.auctioneer.cache
      at_root x up = ap (cache_at c) up ∙ cache_root c

-- and where the numbers agree, its end is the plain auction's
pub left_ends : (plan : PlanData) (cut : Cut) (c : Carried) → IsPlan plan → AreNodesLeft plan c → IsSettledOver plan cut c →
    carried_end plan c ≡ end_of plan cut
left_ends plan cut c is_plan left settled = settled_end plan cut c is_plan (left_is_kept plan is_plan c left) settled
