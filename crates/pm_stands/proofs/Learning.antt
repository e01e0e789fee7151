-- A parent learns a bid: the core stands for the state after it.
use Rattle.std.proofs.Common.{◌≡◌, ◌∙◌, sym, ap, subst, ℕ, ◌<◌, ◌≤◌, ℤ, Bool, true, false, not}
use Rattle.std.proofs.Common.{eqb, List, [], length, get_or, Option, refl, arith, inl, inr, get_or-set_same, get_or-set_other}
use Rattle.std.proofs.Math.ListN.{length-set}
use Rattle.std.proofs.lemmas.Bool.{cases_eq, cases_Bool, cond-true, cond-false, eq-eqb, eqb-true, ne_eqb}
use Rattle.pm_bid.specs.Heads.{nothing_sent}
use Rattle.pm_bid.specs.Bids.{zeros}
use Rattle.pm_tree.specs.Entries.{children_of, place_of}
use Rattle.pm_market.specs.Lists.{Lists, nodes, parent, is_leaf, is_member, changes, IsNode, Lawful}
use Rattle.pm_market.specs.State.{State, update, is_same_on, cut_at, newest_number_of, part, knowledge, clearings, cleared_cut}
use Rattle.pm_market.specs.Moves.{Legal, step}
use Rattle.pm_market.specs.Sound.{Sound}
use Rattle.pm_market.specs.declared.moves.Move.TheVariants.{Learn}
use Rattle.pm_market.proofs.Tree.{leaf_zero}
use Rattle.pm_market.proofs.Cuts.{updated_same, updated_other, part_leaf, newest_leaf}
use Rattle.pm_laws.proofs.Kept.{sound_step}
use Rattle.pm_laws.proofs.Learnt.{is_same_alike, known_elsewhere, learnt_differs}
use Rattle.pm_cache.specs.Cache.{Cache, with_entry}
use Rattle.pm_cache.specs.Learning.{with_newer_bid, bid_demand}
use Rattle.pm_session.specs.Links.{Session, UpBid, BidTaken}
use Rattle.pm_session.specs.Prices.{head_at}
use Rattle.pm_session.specs.Windows.{WindowValue, Keeps, record_of, newest_record}
use Rattle.pm_concentrator.specs.Concentrators.{Gathered}
use Rattle.pm_auctioneer.specs.Auctions.{Auction}
use Rattle.pm_plan.specs.Kept.{IsPlan}
use Rattle.pm_plan.specs.Plans.{PlanData}
use Rattle.pm_plan.specs.States.{state}
use Rattle.pm_plan.specs.Market.{plan_lists}
use Rattle.pm_offer.specs.Offers.{offer, device_demand}
use Rattle.pm_stands.specs.Core.{Core, IsShaped, link_at, uplink_of, concentrator_of, node_cache, head_of_child, demand_of_child}
use Rattle.pm_stands.specs.Rows.{OneLink, EntryLearnt}
use Rattle.pm_laws.specs.Due.{IsNewestDue}
use Rattle.pm_laws.specs.Gone.{is_gone}
use Rattle.pm_stands.specs.Stands.{head_for, BidAgrees, StandsFor, MakesMove}
use Rattle.pm_plan.specs.Auction.{demand_in_cut, node_bid}
use Rattle.pm_plan.specs.Plans as plans
use Rattle.pm_plan.proofs.MarketLists as market_lists
use Rattle.pm_tree.proofs.Named.{length-parents_of}
use Rattle.pm_plan.proofs.MarketLists.{lawful}
use Rattle.pm_stands.proofs.Places.{placed, one_place}
use Rattle.pm_laws.proofs.Gone.{gone_leaf, gone_inner}
use Rattle.pm_stands.proofs.Offered.{offer_device}

-- the entry of a bid, where the demand is zeros if it is gone
entered_is : (cache : Cache) (k n : ℕ) (gone : Bool) (demand : List ℤ) → (gone ≡ true → demand ≡ zeros cache.steps) →
    with_newer_bid cache k n (bid_demand gone demand) ≡ with_entry cache k (record { number = n; gone = gone }) demand
entered_is cache k n true demand zeros_if = ap (λ d. with_entry cache k (record { number = n; gone = true }) d) (sym (zeros_if refl))
entered_is cache k n false demand zeros_if = refl

-- what a device asks for where it is no member
absent_zeros : (plan : PlanData) → IsPlan plan → (d n : ℕ) → IsNode (plan_lists plan) d → n ≤ changes (plan_lists plan) d →
    is_member (plan_lists plan) d n ≡ false → device_demand plan d n ≡ zeros plan.basis.steps
unfolding demand_in_cut
absent_zeros plan is_plan d n node within out =
    let high : d ≤ length plan.nodes = omega (arith, node.1, length-parents_of plan.entries, is_plan.nodes.one_each) in
    let out' : plans.is_member plan d n ≡ false =
    sym (market_lists.is_member-is plan d n node.0 high (omega (arith, within, market_lists.changes-is plan d node.0 high))) ∙ out in
    cond-false (plans.is_member plan d n) (node_bid plan (plans.node plan d) (state plan d n)) (zeros plan.basis.steps) out'

-- A bid of a number above 0 that is gone is a device's, and all zeros.
pub gone_zeros : (plan : PlanData) → IsPlan plan → (s : State) → Sound (plan_lists plan) s → (x n : ℕ) → IsNode (plan_lists plan) x → 0 < n →
    n ≤ newest_number_of (plan_lists plan) s x → is_gone (plan_lists plan) x n ≡ true →
    offer plan x (part (plan_lists plan) s x n) ≡ zeros plan.basis.steps
gone_zeros plan is_plan s sound x n node positive within gone =
    elim (cases_Bool (is_leaf (plan_lists plan) x)) [
      | inl leaf ↦
          let out : is_member (plan_lists plan) x n ≡ false =
          not_true (is_member (plan_lists plan) x n) (sym (gone_leaf (plan_lists plan) x n leaf) ∙ gone) in
          let made : n ≤ changes (plan_lists plan) x =
          omega (arith, within, newest_leaf (plan_lists plan) s.counts s.published x leaf, sound.counts_within x leaf) in
          offer_device plan is_plan x (part (plan_lists plan) s x n) leaf
          ∙ ap (λ (k : ℕ). device_demand plan x k) (part_leaf (plan_lists plan) s.published x n x leaf) ∙ absent_zeros plan is_plan x n node made out
      | inr inner ↦ absurd (omega (arith, eqb-true n 0 (sym (gone_inner (plan_lists plan) x n inner) ∙ gone)))
    ]
  where
    not_true : (b : Bool) → not b ≡ true → b ≡ false
    not_true true e = sym e
    not_true false e = refl

module _ (plan : PlanData) (is_plan : IsPlan plan) (c : Core) (s : State) (stands : StandsFor plan c s) (x : ℕ) (node : IsNode (plan_lists plan) x)
    (links : List (List Session)) (auctioneer : Auction) (concentrators : List (Option Gathered)) (bid : UpBid)
    (taken : BidTaken (uplink_of plan c x) (link_at links (parent (plan_lists plan) x) (place_of plan.entries x)) bid)
    (one : OneLink c.links links (parent (plan_lists plan) x) (place_of plan.entries x))
    (learnt : EntryLearnt c.auctioneer auctioneer c.concentrators concentrators (parent (plan_lists plan) x) (place_of plan.entries x) bid.number
    (bid_demand bid.gone bid.demand)) where
  abbrev lists : Lists
  lists = plan_lists plan

  law : Lawful lists
  law = lawful plan is_plan

  abbrev place : ℕ → ℕ
  place y = place_of plan.entries y

  abbrev after_core : Core
  after_core = record c { links = links; auctioneer = auctioneer; concentrators = concentrators }

  abbrev after_state : State
  after_state = step lists s (Learn x bid.number)

  agrees : BidAgrees plan s x bid
  agrees = stands.bids x node bid taken.up.waited

  legal : Legal lists s (Learn x bid.number)
  legal = (node, agrees.above, agrees.within)

  other_place : (y : ℕ) → IsNode lists y → (y ≡ x → ⊥) → parent lists y ≡ parent lists x → place y ≡ place x → ⊥
  other_place y y_node ne e f = ne (one_place plan is_plan y x y_node node e f)

  session_kept : (y : ℕ) → IsNode lists y → (y ≡ x → ⊥) → uplink_of plan after_core y ≡ uplink_of plan c y
  session_kept y y_node ne = one.others (parent lists y) (place y) (other_place y y_node ne)

  session_new : (y : ℕ) → y ≡ x → uplink_of plan after_core y ≡ link_at links (parent lists x) (place x)
  session_new y e = ap (λ (z : ℕ). uplink_of plan after_core z) e

  down_kept : (y : ℕ) → IsNode lists y → (uplink_of plan after_core y).down ≡ (uplink_of plan c y).down
  down_kept y y_node = elim (cases_eq y x) [
    | inl e ↦ ap (λ (z : Session). z.down) (session_new y e) ∙ taken.down ∙ ap (λ (z : ℕ). (uplink_of plan c z).down) (sym e)
    | inr ne ↦ ap (λ (z : Session). z.down) (session_kept y y_node ne)
  ]

  inner_le : (y : ℕ) → IsNode lists y → parent lists y ≤ nodes lists
  inner_le y y_node = omega (arith, law.earlier y y_node, y_node.1)

  -- the cache of the parent
  the_entry : node_cache after_core (parent lists x) ≡ with_entry (node_cache c (parent lists x)) (place x) (head_for lists x bid.number) bid.demand
  the_entry =
      let steps : (node_cache c (parent lists x)).steps ≡ plan.basis.steps =
      stands.shaped.cache_steps (parent lists x) (inner_le x node) (law.inner x node) in
      learnt.entry
      ∙ entered_is (node_cache c (parent lists x)) (place x) bid.number bid.gone bid.demand (λ e.
      agrees.demand ∙ gone_zeros plan is_plan s stands.sound x bid.number node (omega (arith, agrees.above)) agrees.within (sym agrees.gone ∙ e)
      ∙ ap zeros (sym steps))
      ∙ ap (λ (b : Bool). with_entry (node_cache c (parent lists x)) (place x) (record { number = bid.number; gone = b }) bid.demand) agrees.gone

  heads_count : length (node_cache c (parent lists x)).heads ≡ length (children_of plan.entries (parent lists x))
  heads_count = stands.shaped.cache_heads (parent lists x) (inner_le x node) (law.inner x node)

  demands_count : length (node_cache c (parent lists x)).demands ≡ length (children_of plan.entries (parent lists x))
  demands_count = stands.shaped.cache_demands (parent lists x) (inner_le x node) (law.inner x node)

  heads_new : head_of_child plan after_core x ≡ head_for lists x bid.number
  heads_new = ap (λ (z : Cache). head_at z.heads (place x)) the_entry
      ∙ get_or-set_same (node_cache c (parent lists x)).heads (place x) (head_for lists x bid.number) nothing_sent
      (omega (arith, heads_count, placed plan is_plan x node))

  demand_new : demand_of_child plan after_core x ≡ bid.demand
  demand_new = ap (λ (z : Cache). get_or z.demands (place x) []) the_entry
      ∙ get_or-set_same (node_cache c (parent lists x)).demands (place x) bid.demand [] (omega (arith, demands_count, placed plan is_plan x node))

  entry_kept : (y : ℕ) → IsNode lists y → (y ≡ x → ⊥) → (head_of_child plan after_core y ≡ head_of_child plan c y)
      × (demand_of_child plan after_core y ≡ demand_of_child plan c y)
  entry_kept y y_node ne = elim (cases_eq (parent lists y) (parent lists x)) [
    | inl e ↦
        let k : ℕ = place y in
        let differs : k ≡ place x → ⊥ = other_place y y_node ne e in (
          ap (λ (z : ℕ). head_at (node_cache after_core z).heads k) e ∙ ap (λ (z : Cache). head_at z.heads k) the_entry
              ∙ get_or-set_other (node_cache c (parent lists x)).heads (place x) k (head_for lists x bid.number) nothing_sent differs
              ∙ sym (ap (λ (z : ℕ). head_at (node_cache c z).heads k) e),
          ap (λ (z : ℕ). get_or (node_cache after_core z).demands k []) e ∙ ap (λ (z : Cache). get_or z.demands k []) the_entry
              ∙ get_or-set_other (node_cache c (parent lists x)).demands (place x) k bid.demand [] differs
              ∙ sym (ap (λ (z : ℕ). get_or (node_cache c z).demands k []) e),
        )
    | inr elsewhere ↦
        let same = learnt.others (parent lists y) elsewhere in
        (ap (λ (z : Cache). head_at z.heads (place y)) same, ap (λ (z : Cache). get_or z.demands (place y) []) same)
  ]

  window_kept : (y : ℕ) → (concentrator_of after_core y).window ≡ (concentrator_of c y).window
  window_kept y = (learnt.kept y).window

  cache_parts : (y : ℕ) → ((node_cache after_core y).steps ≡ (node_cache c y).steps)
      × (length (node_cache after_core y).heads ≡ length (node_cache c y).heads)
      × (length (node_cache after_core y).demands ≡ length (node_cache c y).demands)
  cache_parts y = elim (cases_eq y (parent lists x)) [
    | inl e ↦
        let is : node_cache after_core y ≡ with_entry (node_cache c y) (place x) (head_for lists x bid.number) bid.demand =
        ap (λ (z : ℕ). node_cache after_core z) e ∙ the_entry
        ∙ ap (λ (z : ℕ). with_entry (node_cache c z) (place x) (head_for lists x bid.number) bid.demand) (sym e) in (
          ap (λ (z : Cache). z.steps) is,
          ap (λ (z : Cache). length z.heads) is ∙ length-set (node_cache c y).heads (place x) (head_for lists x bid.number),
          ap (λ (z : Cache). length z.demands) is ∙ length-set (node_cache c y).demands (place x) bid.demand,
        )
    | inr ne ↦
        let same = learnt.others y ne in (
          ap (λ (z : Cache). z.steps) same,
          ap (λ (z : Cache). length z.heads) same,
          ap (λ (z : Cache). length z.demands) same,
        )
  ]

  shaped_after : IsShaped plan after_core
  shaped_after = record {
    all_links = one.all ∙ stands.shaped.all_links;
    all_concentrators = learnt.all ∙ stands.shaped.all_concentrators;
    all_ports = stands.shaped.all_ports;
    all_counts = stands.shaped.all_counts;
    all_states = stands.shaped.all_states;
    all_powers = stands.shaped.all_powers;
    rows = λ y le. one.rows y ∙ stands.shaped.rows y le;
    link_steps = λ y y_node. elim (cases_eq y x) [
      | inl e ↦ ap (λ (z : Session). z.steps) (session_new y e) ∙ taken.steps ∙ stands.shaped.link_steps x node
      | inr ne ↦ ap (λ (z : Session). z.steps) (session_kept y y_node ne) ∙ stands.shaped.link_steps y y_node
    ];
    there = λ y conc. learnt.there y (stands.shaped.there y conc);
    cache_steps = λ y le inner. (cache_parts y).0 ∙ stands.shaped.cache_steps y le inner;
    cache_heads = λ y le inner. (cache_parts y).1 ∙ stands.shaped.cache_heads y le inner;
    cache_demands = λ y le inner. (cache_parts y).2 ∙ stands.shaped.cache_demands y le inner;
    published_count = λ y conc. ap (λ (w : WindowValue). length (newest_record w).heads) (window_kept y) ∙ stands.shaped.published_count y conc;
    same_limits = λ y conc. (learnt.kept y).limits ∙ stands.shaped.same_limits y conc;
  }

  news_after : auctioneer.changed ≡ not (is_same_on lists 0 (knowledge lists after_state 0) (cleared_cut s (clearings s)))
  news_after = elim (cases_eq (parent lists x) 0) [
    | inl e ↦
        let P : ℕ → Type 0 = λ y. is_same_on lists y (knowledge lists after_state y) (cut_at (s.published y) (length (s.published y))) ≡ false in
        let differs = subst P e (learnt_differs lists law s stands.sound x bid.number legal) in
        learnt.changed ∙ cond-true (eqb (parent lists x) 0) true c.auctioneer.changed (eq-eqb (parent lists x) 0 e) ∙ sym (ap not differs)
    | inr ne ↦
        learnt.changed ∙ cond-false (eqb (parent lists x) 0) true c.auctioneer.changed (ne_eqb (parent lists x) 0 ne) ∙ stands.changed
        ∙ ap not (is_same_alike lists law 0 (knowledge lists s 0) (knowledge lists after_state 0) (cleared_cut s (clearings s))
        (known_elsewhere lists law s x bid.number 0 (leaf_zero lists) ne))
  ]

  stands_after : StandsFor plan after_core after_state
  stands_after = record {
    sound = sound_step lists law s stands.sound (Learn x bid.number) legal;
    shaped = shaped_after;
    counts = stands.counts;
    closed = stands.closed;
    states = stands.states;
    powers = stands.powers;
    heads = λ y y_node. elim (cases_eq y x) [
      | inl e ↦ ap (λ (z : ℕ). head_of_child plan after_core z) e ∙ heads_new ∙ ap (head_for lists x) (sym (updated_same s.learnt x bid.number))
          ∙ ap (λ (z : ℕ). head_for lists z (update s.learnt x bid.number z)) (sym e)
      | inr ne ↦ (entry_kept y y_node ne).0 ∙ stands.heads y y_node ∙ ap (head_for lists y) (sym (updated_other s.learnt x bid.number y ne))
    ];
    demands = λ y y_node. elim (cases_eq y x) [
      | inl e ↦ ap (λ (z : ℕ). demand_of_child plan after_core z) e ∙ demand_new ∙ agrees.demand
          ∙ ap (λ (k : ℕ). offer plan x (part lists s x k)) (sym (updated_same s.learnt x bid.number))
          ∙ ap (λ (z : ℕ). offer plan z (part lists s z (update s.learnt x bid.number z))) (sym e)
      | inr ne ↦ (entry_kept y y_node ne).1 ∙ stands.demands y y_node
          ∙ ap (λ (k : ℕ). offer plan y (part lists s y k)) (sym (updated_other s.learnt x bid.number y ne))
    ];
    bid_offered = λ y y_node. elim (cases_eq y x) [
      | inl e ↦ ap (λ (z : Session). z.up.offered) (session_new y e) ∙ taken.up.offered ∙ stands.bid_offered x node
          ∙ ap (newest_number_of lists s) (sym e)
      | inr ne ↦ ap (λ (z : Session). z.up.offered) (session_kept y y_node ne) ∙ stands.bid_offered y y_node
    ];
    bid_taken = λ y y_node. elim (cases_eq y x) [
      | inl e ↦ ap (λ (z : Session). z.up.taken) (session_new y e) ∙ taken.up.taken ∙ sym (updated_same s.learnt x bid.number)
          ∙ ap (update s.learnt x bid.number) (sym e)
      | inr ne ↦ ap (λ (z : Session). z.up.taken) (session_kept y y_node ne) ∙ stands.bid_taken y y_node ∙ sym (updated_other s.learnt x bid.number y ne)
    ];
    bids = λ y y_node b waits. elim (cases_eq y x) [
      | inl e ↦
          let was = taken.up.rest b (sym (ap (λ (z : Session). z.up.waiting) (session_new y e)) ∙ waits) in
          let at = stands.bids x node b was.0 in
          record {
            above = omega (arith, ap (update s.learnt x bid.number) e, updated_same s.learnt x bid.number, was.1);
            within = omega (arith, at.within, ap (newest_number_of lists s) e);
            demand = at.demand ∙ ap (λ (z : ℕ). offer plan z (part lists s z b.number)) (sym e);
            gone = at.gone ∙ ap (λ (z : ℕ). is_gone lists z b.number) (sym e);
          }
      | inr ne ↦
          let at = stands.bids y y_node b (sym (ap (λ (z : Session). z.up.waiting) (session_kept y y_node ne)) ∙ waits) in
          record { above = omega (arith, updated_other s.learnt x bid.number y ne, at.above); within = at.within; demand = at.demand; gone = at.gone }
    ];
    price_offered = λ y y_node.
        let at = subst (λ (n : ℕ). IsNewestDue lists s y n) (sym (ap (λ d. d.offered) (down_kept y y_node))) (stands.price_offered y y_node) in
        record { due = at.due; most = at.most };
    price_taken = λ y y_node. ap (λ d. d.taken) (down_kept y y_node) ∙ stands.price_taken y y_node;
    prices = λ y y_node price waits.
        let at = stands.prices y y_node price (sym (ap (λ d. d.waiting) (down_kept y y_node)) ∙ waits) in
        record { above = at.above; due = at.due; step = at.step; number = at.number };
    window_last = λ y conc. ap (λ (w : WindowValue). w.last) (window_kept y) ∙ stands.window_last y conc;
    window_answered = λ y conc. ap (λ (w : WindowValue). w.answered) (window_kept y) ∙ stands.window_answered y conc;
    records = λ y n y_node conc keeps.
        let w = window_kept (parent lists y) in
        ap (λ (z : WindowValue). head_at (record_of z n).heads (place y)) w
        ∙ stands.records y n y_node conc (subst (λ (z : WindowValue). Keeps z n) w keeps);
    sums = λ y n conc keeps. ap (λ (z : WindowValue). (record_of z n).sum) (window_kept y)
        ∙ stands.sums y n conc (subst (λ (z : WindowValue). Keeps z n) (window_kept y) keeps);
    newest_heads = λ y y_node conc.
        ap (λ (w : WindowValue). head_at (newest_record w).heads (place y)) (window_kept (parent lists y))
        ∙ stands.newest_heads y y_node conc;
    index = learnt.index ∙ stands.index;
    auction_step = learnt.step ∙ stands.auction_step;
    changed = news_after;
    joined = stands.joined;
    given_none = stands.given_none;
    given = stands.given;
  }

  -- The Learn of that child and number was legal, and the core stands for the state after it.
  pub learn_makes : MakesMove plan after_core s (Learn x bid.number)
  learn_makes = record { legal = legal; stands = stands_after }
