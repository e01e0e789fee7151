-- The auctioneer clears: the core stands for the state after it.
use Rattle.std.proofs.Common.{◌≡◌, ◌∙◌, sym, ap, subst, ℕ, ◌+◌, ◌<◌, ◌≤◌, true, false, not}
use Rattle.std.proofs.Common.{eqb, ◌⊎◌, List, [], length, get_or, Some, refl, arith, inl, inr}
use Rattle.std.proofs.lemmas.Bool.{cases_eq, cases_lt, cases_Bool, both_ways, cond-false, ne_eqb}
use Rattle.pm_base.specs.Cuts.{Cut}
use Rattle.pm_bid.specs.declared.head.BidHead.{BidHead}
use Rattle.pm_bid.specs.Bids.{sum_of}
use Rattle.pm_bid.specs.Clearing.{clearing_step}
use Rattle.pm_tree.specs.Entries.{children_of, place_of}
use Rattle.pm_market.specs.Lists.{Lists, parent, IsNode, IsConcentrator, Lawful}
use Rattle.pm_market.specs.State.{State, is_same_on, cut_at, knowledge, number, last_index, clearings, cleared_cut, addresses, addresses_of}
use Rattle.pm_market.specs.Moves.{Legal, step}
use Rattle.pm_market.specs.Sound.{Sound}
use Rattle.pm_market.specs.declared.moves.Move.TheVariants.{Clear}
use Rattle.pm_market.proofs.Tree.{leaf_zero}
use Rattle.pm_market.proofs.Cuts.{newest_inner, is_same_from}
use Rattle.pm_laws.specs.Due.{is_due}
use Rattle.pm_laws.proofs.Facts.{last_within}
use Rattle.pm_laws.proofs.Kept.{sound_step}
use Rattle.pm_laws.proofs.Published.{due_within, more, list_kept, list_longer, cut_at_old, cut_at_last, newest_other}
use Rattle.pm_laws.proofs.Published.{newest_le, part_old, known_same, number_published, number_last, number_cleared, cleared_old}
use Rattle.pm_cache.specs.Cache.{Cache, aggregate_of}
use Rattle.pm_session.specs.Links.{Session, PriceOffered}
use Rattle.pm_session.specs.Ways.{Waits}
use Rattle.pm_session.specs.Prices.{head_at, session_at}
use Rattle.pm_session.specs.Windows.{Keeps}
use Rattle.pm_session.specs.declared.price.PriceUpdate.{PriceUpdate}
use Rattle.pm_concentrator.specs.Limited.{sum_kept}
use Rattle.pm_auctioneer.specs.Auctions.{Auction, ClearedAt}
use Rattle.pm_plan.specs.Kept.{IsPlan}
use Rattle.pm_plan.specs.Plans.{PlanData}
use Rattle.pm_plan.specs.Market.{plan_lists}
use Rattle.pm_offer.specs.Offers.{offer, children_sum, local_step_at}
use Rattle.pm_stands.specs.Core.{Core, limits_at, row_at, link_at, uplink_of, concentrator_of, node_cache}
use Rattle.pm_stands.specs.Rows.{OneRow}
use Rattle.pm_laws.specs.Due.{IsNewestDue}
use Rattle.pm_laws.specs.Gone.{is_gone}
use Rattle.pm_stands.specs.Stands.{head_for, PriceAgrees, StandsFor, MakesMove}
use Rattle.pm_plan.proofs.MarketLists.{lawful}
use Rattle.pm_stands.proofs.Places.{placed}
use Rattle.pm_stands.proofs.Caches.{cache_root, cache_inner}
use Rattle.pm_stands.proofs.Offered.{offer_root}
use Rattle.pm_stands.proofs.Demands.{demands_are}
use Rattle.pm_laws.proofs.MoveLaws.{due_parts, due_from}
use Rattle.pm_laws.proofs.Gone.{gone_addresses}

module _ (plan : PlanData) (is_plan : IsPlan plan) (c : Core) (s : State) (stands : StandsFor plan c s)
    (links : List (List Session)) (auctioneer : Auction) (j k : ℕ)
    (made : ClearedAt c.auctioneer auctioneer (row_at c.links 0) (row_at links 0) j k)
    (row : OneRow c.links links 0) where
  abbrev lists : Lists
  lists = plan_lists plan

  law : Lawful lists
  law = lawful plan is_plan

  abbrev place : ℕ → ℕ
  place y = place_of plan.entries y

  abbrev after_core : Core
  after_core = record c { links = links; auctioneer = auctioneer }

  abbrev after_state : State
  after_state = step lists s (Clear j)

  j_is : j ≡ clearings s + 1
  j_is = omega (arith, made.cleared.index, stands.index)

  legal : Legal lists s (Clear j)
  legal = (
    elim (cases_Bool (is_same_on lists 0 (knowledge lists s 0) (cleared_cut s (clearings s)))) [
      | inl e ↦ absurd (both_ways c.auctioneer.changed (stands.changed ∙ ap not e) made.cleared.changed)
      | inr e ↦ e
    ],
    j_is,
  )

  sound' : Sound lists (more lists s 0)
  sound' = sound_step lists law s stands.sound (Clear j) legal

  not_root : (y : ℕ) → IsNode lists y → y ≡ 0 → ⊥
  not_root y y_node e = omega (arith, y_node.0)

  cleared_is : (i : ℕ) → i ≤ clearings s → cleared_cut after_state i ≡ cleared_cut s i
  cleared_is i le = cleared_old lists law s stands.sound 0 (leaf_zero lists) sound' i le

  new_cleared : cleared_cut after_state j ≡ knowledge lists s 0
  new_cleared = cut_at_last lists law s stands.sound 0 (leaf_zero lists) sound' j j_is

  clearings_is : clearings after_state ≡ j
  clearings_is = list_longer lists law s stands.sound 0 (leaf_zero lists) sound' ∙ sym j_is

  -- due indices
  due_more : (y i : ℕ) → is_due lists s y i ≡ true → is_due lists after_state y i ≡ true
  due_more y i h =
      let w = due_parts lists s y i h in
      let le = due_within lists s stands.sound y i h in
      due_from lists after_state y i
      (elim w.0 [ inl r ↦ inl (r.0, r.1, omega (arith, r.2, clearings_is, j_is)) | inr k ↦ inr k ])
      (ap (λ (a : Cut). addresses_of lists a y) (cleared_is i le.1) ∙ w.1)

  due_cases : (y i : ℕ) → is_due lists after_state y i ≡ true → (is_due lists s y i ≡ true) ⊎ ((parent lists y ≡ 0) × (i ≡ j))
  due_cases y i h =
      let w = due_parts lists after_state y i h in
      let le = (due_within lists after_state sound' y i h) in
      elim w.0 [
        | inl r ↦ elim (cases_lt i j) [
          | inl lt ↦ inl (due_from lists s y i (inl (r.0, r.1, omega (arith, lt, j_is)))
              (ap (λ (a : Cut). addresses_of lists a y) (sym (cleared_is i (omega (arith, lt, j_is)))) ∙ w.1))
          | inr ge ↦ inr (r.0, omega (arith, ge, le.1, clearings_is))
        ]
        | inr q ↦ inl (due_from lists s y i (inr q)
            (ap (λ (a : Cut). addresses_of lists a y) (sym (cleared_is i (stands.sound.passed_within (parent lists y) i q).1)) ∙ w.1))
      ]

  due_kept : (y n : ℕ) → (parent lists y ≡ 0 → ⊥) → IsNewestDue lists s y n → IsNewestDue lists after_state y n
  due_kept y n ne at = record {
    due = λ positive. due_more y n (at.due positive);
    most = λ i h. elim (due_cases y i h) [ inl old ↦ at.most i old | inr new ↦ absurd (ne new.0) ];
  }

  -- the links
  session_kept : (y : ℕ) → (parent lists y ≡ 0 → ⊥) → uplink_of plan after_core y ≡ uplink_of plan c y
  session_kept y ne = row.others (parent lists y) (place y) ne

  kept_price : (y : ℕ) → IsNode lists y → (q : PriceUpdate) → Waits (uplink_of plan c y).down q → PriceAgrees plan after_state y q
  kept_price y y_node q waits =
      let at = stands.prices y y_node q waits in
      let le = (due_within lists s stands.sound y q.index at.due).1 in
      record {
        above = at.above;
        due = due_more y q.index at.due;
        step = at.step ∙ ap (λ (a : Cut). local_step_at plan a y) (sym (cleared_is q.index le));
        number = at.number ∙ sym (number_cleared lists law s stands.sound 0 (leaf_zero lists) sound' y q.index y_node le);
      }

  -- of a child of the auctioneer
  module _ (y : ℕ) (y_node : IsNode lists y) (up : parent lists y ≡ 0) where
    row_length : place y < length (row_at c.links 0)
    row_length = omega (arith, stands.shaped.rows 0 (omega arith), placed plan is_plan y y_node, ap (λ (i : ℕ). length (children_of plan.entries i)) up)

    old_is : session_at (row_at c.links 0) (place y) ≡ uplink_of plan c y
    unfolding link_at
    old_is = ap (λ (i : ℕ). link_at c.links i (place y)) (sym up)

    new_is : session_at (row_at links 0) (place y) ≡ uplink_of plan after_core y
    unfolding link_at
    new_is = ap (λ (i : ℕ). link_at links i (place y)) (sym up)

    the_head : head_at c.auctioneer.cache.heads (place y) ≡ head_for lists y (s.learnt y)
    the_head =
        ap (λ (q : Cache). head_at q.heads (place y)) (sym (cache_root c.auctioneer c.concentrators 0 refl))
        ∙ ap (λ (i : ℕ). head_at (node_cache c i).heads (place y)) (sym up) ∙ stands.heads y y_node

    number_is : number lists after_state y (cleared_cut after_state j) ≡ s.learnt y
    number_is = number_last lists law s stands.sound 0 (leaf_zero lists) sound' y j y_node up j_is

    gone_is : (head_at c.auctioneer.cache.heads (place y)).gone ≡ not (addresses lists after_state j y)
    gone_is = ap (λ (h : BidHead). h.gone) the_head ∙ ap (is_gone lists y) (sym number_is)
        ∙ gone_addresses lists law after_state sound' y j y_node (omega (arith, clearings_is))

    the_step : k ≡ local_step_at plan (cleared_cut after_state j) y
    the_step =
        made.cleared.step
        ∙ ap (λ (q : Cache). clearing_step (aggregate_of q)) (sym (cache_root c.auctioneer c.concentrators 0 refl))
        ∙ ap (λ (n : ℕ). clearing_step (sum_of n (node_cache c 0).demands)) (stands.shaped.cache_steps 0 (omega arith) (leaf_zero lists))
        ∙ ap (λ ds. clearing_step (sum_of plan.basis.steps ds)) (demands_are plan is_plan c s stands 0 (omega arith) (leaf_zero lists))
        ∙ ap (λ (a : Cut). clearing_step (children_sum plan 0 a)) (sym new_cleared)
        ∙ sym (offer_root plan is_plan y (cleared_cut after_state j) y_node up)

    abbrev the_price : PriceUpdate
    the_price = record { step = k; number = (head_at c.auctioneer.cache.heads (place y)).number; index = j }

    addressed_or_not : (PriceOffered (uplink_of plan c y) (uplink_of plan after_core y) the_price
        × (addresses lists after_state j y ≡ true)) ⊎ ((uplink_of plan after_core y ≡ uplink_of plan c y) × (addresses lists after_state j y ≡ false))
    addressed_or_not = elim (cases_Bool (addresses lists after_state j y)) [
      | inl e ↦
          let at = made.prices.offered (place y) row_length (gone_is ∙ ap not e) in
          let from_old = subst (λ (z : Session). PriceOffered z (session_at (row_at links 0) (place y)) the_price) old_is at in
          inl (subst (λ (z : Session). PriceOffered (uplink_of plan c y) z the_price) new_is from_old, e)
      | inr e ↦ inr (sym new_is ∙ made.prices.others (place y) row_length (gone_is ∙ ap not e) ∙ old_is, e)
    ]

    new_due : addresses lists after_state j y ≡ true → is_due lists after_state y j ≡ true
    new_due e = due_from lists after_state y j (inl (up, omega (arith, j_is), omega (arith, clearings_is))) e

    child_newest : IsNewestDue lists after_state y (uplink_of plan after_core y).down.offered
    child_newest = elim addressed_or_not [
      | inl w ↦
          let is : (uplink_of plan after_core y).down.offered ≡ j = w.0.down.offered in
          record {
            due = λ positive. ap (is_due lists after_state y) is ∙ new_due w.1;
            most = λ i h. omega (arith, is, (due_within lists after_state sound' y i h).1, clearings_is);
          }
      | inr w ↦
          let is : (uplink_of plan after_core y).down.offered ≡ (uplink_of plan c y).down.offered = ap (λ (z : Session). z.down.offered) w.0 in
          let at = stands.price_offered y y_node in
          record {
            due = λ positive. ap (is_due lists after_state y) is ∙ due_more y _ (at.due (omega (arith, is, positive)));
            most = λ i h. elim (due_cases y i h) [
              | inl old ↦ omega (arith, is, at.most i old)
              | inr new ↦ absurd (both_ways (addresses lists after_state j y) w.1 (ap (λ (k : ℕ). addresses lists after_state k y) (sym new.1)
                  ∙ (due_parts lists after_state y i h).1))
            ];
          }
    ]

    new_price : addresses lists after_state j y ≡ true → PriceAgrees plan after_state y the_price
    new_price e = record {
      above = omega (arith, last_within lists s stands.sound y, j_is);
      due = new_due e;
      step = the_step;
      number = ap (λ (h : BidHead). h.number) the_head ∙ sym number_is;
    }

    child_prices : (q : PriceUpdate) → Waits (uplink_of plan after_core y).down q → PriceAgrees plan after_state y q
    child_prices q waits = elim addressed_or_not [
      | inl w ↦ elim (w.0.down.others q waits) [
        | inl is ↦ subst (λ (r : PriceUpdate). PriceAgrees plan after_state y r) (sym is) (new_price w.1)
        | inr old ↦ kept_price y y_node q old
      ]
      | inr w ↦ kept_price y y_node q (ap (λ (z : Session). z.down.waiting) (sym w.0) ∙ waits)
    ]

    child_same : ((uplink_of plan after_core y).up ≡ (uplink_of plan c y).up) × ((uplink_of plan after_core y).steps ≡ (uplink_of plan c y).steps)
        × ((uplink_of plan after_core y).down.taken ≡ (uplink_of plan c y).down.taken)
    child_same = elim addressed_or_not [
      | inl w ↦ (w.0.up, w.0.steps, w.0.down.taken)
      | inr w ↦ (ap (λ (z : Session). z.up) w.0, ap (λ (z : Session). z.steps) w.0, ap (λ (z : Session). z.down.taken) w.0)
    ]

  all_same : (y : ℕ) → IsNode lists y → ((uplink_of plan after_core y).up ≡ (uplink_of plan c y).up)
      × ((uplink_of plan after_core y).steps ≡ (uplink_of plan c y).steps) × ((uplink_of plan after_core y).down.taken ≡ (uplink_of plan c y).down.taken)
  all_same y y_node = elim (cases_eq (parent lists y) 0) [
    | inl up ↦ child_same y y_node up
    | inr ne ↦ let e = session_kept y ne in (ap (λ (z : Session). z.up) e, ap (λ (z : Session). z.steps) e, ap (λ (z : Session). z.down.taken) e)
  ]

  cache_kept : (y : ℕ) → node_cache after_core y ≡ node_cache c y
  cache_kept y = elim (cases_eq y 0) [
    | inl z ↦ cache_root auctioneer c.concentrators y z ∙ made.cleared.cache ∙ sym (cache_root c.auctioneer c.concentrators y z)
    | inr nz ↦ cache_inner auctioneer c.concentrators y nz ∙ sym (cache_inner c.auctioneer c.concentrators y nz)
  ]

  entry_kept : (y i : ℕ) → i ≤ length (s.published y) → cut_at (after_state.published y) i ≡ cut_at (s.published y) i
  entry_kept y i le = cut_at_old lists law s stands.sound 0 (leaf_zero lists) sound' y i le

  keeps_within : (y i : ℕ) → IsConcentrator lists y → Keeps (concentrator_of c y).window i → i ≤ length (s.published y)
  keeps_within y i conc_y keeps = omega (arith, keeps.to, stands.window_last y conc_y, newest_inner lists s.counts s.published y conc_y.2)

  record_kept : (z i : ℕ) → IsNode lists z → i ≤ length (s.published (parent lists z))
      → head_for lists z (number lists s z (cut_at (s.published (parent lists z)) i))
      ≡ head_for lists z (number lists after_state z (cut_at (after_state.published (parent lists z)) i))
  record_kept z i z_node le = ap (head_for lists z) (sym (number_published lists law s stands.sound 0 (leaf_zero lists) sound' z i z_node le))

  the_new_step : auctioneer.step ≡ clearing_step (children_sum plan 0 (cleared_cut after_state (clearings after_state)))
  the_new_step =
      made.cleared.new_step ∙ made.cleared.step
      ∙ ap (λ (q : Cache). clearing_step (aggregate_of q)) (sym (cache_root c.auctioneer c.concentrators 0 refl))
      ∙ ap (λ (n : ℕ). clearing_step (sum_of n (node_cache c 0).demands)) (stands.shaped.cache_steps 0 (omega arith) (leaf_zero lists))
      ∙ ap (λ ds. clearing_step (sum_of plan.basis.steps ds)) (demands_are plan is_plan c s stands 0 (omega arith) (leaf_zero lists))
      ∙ ap (λ (a : Cut). clearing_step (children_sum plan 0 a)) (sym (ap (cleared_cut after_state) clearings_is ∙ new_cleared))

  stands_after : StandsFor plan after_core after_state
  stands_after = record {
    sound = sound';
    shaped = record {
      all_links = row.all ∙ stands.shaped.all_links;
      all_concentrators = stands.shaped.all_concentrators;
      all_ports = stands.shaped.all_ports;
      all_counts = stands.shaped.all_counts;
      all_states = stands.shaped.all_states;
      all_powers = stands.shaped.all_powers;
      rows = λ y le. row.rows y ∙ stands.shaped.rows y le;
      link_steps = λ y y_node. (all_same y y_node).1 ∙ stands.shaped.link_steps y y_node;
      there = stands.shaped.there;
      cache_steps = λ y le inner. ap (λ (q : Cache). q.steps) (cache_kept y) ∙ stands.shaped.cache_steps y le inner;
      cache_heads = λ y le inner. ap (λ (q : Cache). length q.heads) (cache_kept y) ∙ stands.shaped.cache_heads y le inner;
      cache_demands = λ y le inner. ap (λ (q : Cache). length q.demands) (cache_kept y) ∙ stands.shaped.cache_demands y le inner;
      published_count = stands.shaped.published_count;
      same_limits = stands.shaped.same_limits;
    };
    counts = stands.counts;
    closed = stands.closed;
    states = stands.states;
    powers = stands.powers;
    heads = λ y y_node. ap (λ (q : Cache). head_at q.heads (place y)) (cache_kept (parent lists y)) ∙ stands.heads y y_node;
    demands = λ y y_node. ap (λ (q : Cache). get_or q.demands (place y) []) (cache_kept (parent lists y)) ∙ stands.demands y y_node
        ∙ ap (offer plan y) (sym (part_old lists law s stands.sound 0 (leaf_zero lists) sound' y (s.learnt y) (stands.sound.learnt_within y y_node)));
    bid_offered = λ y y_node. ap (λ u. u.offered) (all_same y y_node).0 ∙ stands.bid_offered y y_node
        ∙ sym (newest_other lists law s stands.sound 0 (leaf_zero lists) sound' y (not_root y y_node));
    bid_taken = λ y y_node. ap (λ u. u.taken) (all_same y y_node).0 ∙ stands.bid_taken y y_node;
    bids = λ y y_node b waits.
        let at = stands.bids y y_node b (sym (ap (λ u. u.waiting) (all_same y y_node).0) ∙ waits) in
        record {
          above = at.above;
          within = omega (arith, at.within, newest_le lists law s stands.sound 0 (leaf_zero lists) sound' y);
          demand = at.demand ∙ ap (offer plan y) (sym (part_old lists law s stands.sound 0 (leaf_zero lists) sound' y b.number at.within));
          gone = at.gone;
        };
    price_offered = λ y y_node. elim (cases_eq (parent lists y) 0) [
      | inl up ↦ child_newest y y_node up
      | inr ne ↦
          subst (λ (z : Session). IsNewestDue lists after_state y z.down.offered) (sym (session_kept y ne)) (due_kept y _ ne (stands.price_offered y y_node))
    ];
    price_taken = λ y y_node. (all_same y y_node).2 ∙ stands.price_taken y y_node;
    prices = λ y y_node q waits. elim (cases_eq (parent lists y) 0) [
      | inl up ↦ child_prices y y_node up q waits
      | inr ne ↦ kept_price y y_node q (sym (ap (λ (z : Session). z.down.waiting) (session_kept y ne)) ∙ waits)
    ];
    window_last = λ y conc_y. stands.window_last y conc_y
        ∙ sym (newest_other lists law s stands.sound 0 (leaf_zero lists) sound' y (not_root y (conc_y.0, conc_y.1)));
    window_answered = λ y conc_y. stands.window_answered y conc_y
        ∙ sym (number_cleared lists law s stands.sound 0 (leaf_zero lists) sound' y (last_index s y) (conc_y.0, conc_y.1)
        (last_within lists s stands.sound y));
    records = λ z i z_node conc_z keeps. stands.records z i z_node conc_z keeps ∙ record_kept z i z_node (keeps_within (parent lists z) i conc_z keeps);
    sums = λ y i conc_y keeps. stands.sums y i conc_y keeps
        ∙ ap (λ (a : Cut). sum_kept (limits_at plan y) (children_sum plan y a)) (sym (entry_kept y i (keeps_within y i conc_y keeps)));
    newest_heads = λ z z_node conc_z.
        let same = list_kept lists law s stands.sound 0 (leaf_zero lists) sound' (parent lists z) (not_root (parent lists z) (conc_z.0, conc_z.1)) in
        stands.newest_heads z z_node conc_z ∙ record_kept z (length (s.published (parent lists z))) z_node (omega arith)
        ∙ ap (λ (l : List Cut). head_for lists z (number lists after_state z (cut_at (after_state.published (parent lists z)) (length l)))) (sym same);
    index = made.cleared.new_index ∙ sym clearings_is;
    auction_step = the_new_step
        ∙ sym (cond-false (eqb (clearings after_state) 0) 0 (clearing_step (children_sum plan 0 (cleared_cut after_state (clearings after_state))))
        (ne_eqb (clearings after_state) 0 (λ e. omega (arith, clearings_is, j_is, e))));
    changed = made.cleared.not_changed
        ∙ sym (ap not (is_same_from lists 0 (knowledge lists after_state 0) (cleared_cut after_state (clearings after_state)) (λ d leaf.
        sym (known_same lists law s stands.sound 0 (leaf_zero lists) sound' 0 (leaf_zero lists) d leaf)
        ∙ ap (λ (a : Cut). a d) (sym (ap (cleared_cut after_state) clearings_is ∙ new_cleared)))));
    joined = stands.joined;
    given_none = stands.given_none;
    given = λ d leaf positive. stands.given d leaf positive
        ∙ ap (λ (a : Cut). Some (record {
          step = local_step_at plan a d;
          number = a d;
          index =
              last_index s d;
        })) (sym (cleared_is (last_index s d) (last_within lists s stands.sound d)));
  }

  -- The Clear under the next index was legal, and the core stands for the state after it.
  pub clear_makes : MakesMove plan after_core s (Clear j)
  clear_makes = record { legal = legal; stands = stands_after }
