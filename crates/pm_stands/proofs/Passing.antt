-- A concentrator passes a price on: the core stands for the state after it.
use Rattle.std.proofs.Common.{◌≡◌, ◌∙◌, sym, ap, subst, ℕ, ◌<◌, ◌≤◌, true, false, not, ◌⊎◌, List, [], length, get_or, Option}
use Rattle.std.proofs.Common.{Some, arith, inl, inr}
use Rattle.std.proofs.lemmas.Bool.{cases_eq, cases_Bool, both_ways}
use Rattle.pm_base.specs.Cuts.{Cut}
use Rattle.pm_bid.specs.declared.head.BidHead.{BidHead}
use Rattle.pm_tree.specs.Entries.{children_of, place_of}
use Rattle.pm_market.specs.Lists.{parent, is_leaf, IsNode, IsLeaf, IsConcentrator}
use Rattle.pm_market.specs.State.{State, SameOn, cut_at, number, last_index, clearings, cleared_cut, addresses}
use Rattle.pm_market.specs.Moves.{Legal, Reached, step}
use Rattle.pm_market.specs.declared.moves.Move.TheVariants.{Pass}
use Rattle.pm_market.proofs.Cuts.{part_inner}
use Rattle.pm_laws.specs.Due.{is_due}
use Rattle.pm_laws.proofs.Facts.{last_cases}
use Rattle.pm_laws.proofs.Kept.{sound_step}
use Rattle.pm_laws.proofs.Numbers.{number_down, cleared_is_part}
use Rattle.pm_laws.proofs.Published.{due_within}
use Rattle.pm_cache.specs.Cache.{Cache}
use Rattle.pm_session.specs.Links.{Session, PriceOffered}
use Rattle.pm_session.specs.Ways.{Waits}
use Rattle.pm_session.specs.Prices.{head_at, session_at}
use Rattle.pm_session.specs.Windows.{Sent, Keeps, record_of}
use Rattle.pm_session.specs.declared.price.PriceUpdate.{PriceUpdate}
use Rattle.pm_concentrator.specs.Limited.{sum_kept, local_step_of_record}
use Rattle.pm_concentrator.specs.Concentrators.{Gathered, published_heads}
use Rattle.pm_plan.specs.Kept.{IsPlan}
use Rattle.pm_plan.specs.Plans.{PlanData}
use Rattle.pm_plan.specs.Market.{plan_lists}
use Rattle.pm_offer.specs.Offers.{children_sum, local_step_at}
use Rattle.pm_stands.specs.Core.{Core, limits_at, row_at, link_at, uplink_of, gathered_at, concentrator_of, node_cache}
use Rattle.pm_laws.specs.Due.{IsNewestDue}
use Rattle.pm_stands.specs.Stands.{head_for, PriceAgrees, StandsFor, MakesMove}
use Rattle.pm_stands.specs.Made.{DidPass, passed_core}
use Rattle.pm_plan.proofs.MarketLists.{lawful}
use Rattle.pm_offer.proofs.Alike.{sum_alike}
use Rattle.pm_stands.proofs.Places.{placed, one_place}
use Rattle.pm_laws.proofs.Passes as passes
use Rattle.pm_laws.proofs.MoveLaws.{due_parts}
use Rattle.pm_laws.proofs.Facts.{came_last}
use Rattle.pm_laws.proofs.Gone.{gone_addresses}
use Rattle.pm_stands.proofs.Caches.{cache_root, cache_inner}
use Rattle.pm_stands.proofs.Offered.{offer_below}

module _ (plan : PlanData) (is_plan : IsPlan plan) (c : Core) (s : State) (stands : StandsFor plan c s) (x : ℕ) (conc : IsConcentrator (plan_lists plan) x)
    (between links : List (List Session)) (concentrators : List (Option Gathered)) (price : PriceUpdate)
    (did : DidPass c x between links concentrators price (parent (plan_lists plan) x) (place_of plan.entries x))
    (keeps : Keeps (concentrator_of c x).window price.number) where
  node : IsNode (plan_lists plan) x
  node = (conc.0, conc.1)

  abbrev j : ℕ
  j = price.index

  abbrev after_core : Core
  after_core = passed_core c links concentrators

  abbrev after_state : State
  after_state = step (plan_lists plan) s (Pass x j)

  agrees : PriceAgrees plan s x price
  agrees = stands.prices x node price did.taken.down.waited

  j_within : (1 ≤ j) × (j ≤ clearings s)
  j_within = due_within (plan_lists plan) s stands.sound x j agrees.due

  legal : Legal (plan_lists plan) s (Pass x j)
  legal = let w = due_parts (plan_lists plan) s x j agrees.due in (node, w.0, agrees.above, w.1)

  -- what was passed
  last_new : last_index after_state x ≡ j
  last_new = passes.last_new (plan_lists plan) s x j

  last_kept : (y : ℕ) → (y ≡ x → ⊥) → last_index after_state y ≡ last_index s y
  last_kept y ne = passes.last_kept (plan_lists plan) s x j y ne

  due_more : (y i : ℕ) → is_due (plan_lists plan) s y i ≡ true → is_due (plan_lists plan) after_state y i ≡ true
  due_more y i due = passes.due_more (plan_lists plan) s x j y i due

  -- the links
  parent_differs : parent (plan_lists plan) x ≡ x → ⊥
  parent_differs e = omega (arith, (lawful plan is_plan).earlier x node)

  between_kept : (y : ℕ) → IsNode (plan_lists plan) y → (y ≡ x → ⊥) →
      link_at between (parent (plan_lists plan) y) (place_of plan.entries y) ≡ uplink_of plan c y
  between_kept y y_node ne = did.one.others (parent (plan_lists plan) y) (place_of plan.entries y) (λ e f. ne (one_place plan is_plan y x y_node node e f))

  session_new : (y : ℕ) → y ≡ x → uplink_of plan after_core y ≡ link_at between (parent (plan_lists plan) x) (place_of plan.entries x)
  session_new y e = ap (λ (z : ℕ). uplink_of plan after_core z) e ∙ did.row.others (parent (plan_lists plan) x) (place_of plan.entries x) parent_differs

  session_kept : (y : ℕ) → IsNode (plan_lists plan) y → (y ≡ x → ⊥) → (parent (plan_lists plan) y ≡ x → ⊥) →
      uplink_of plan after_core y ≡ uplink_of plan c y
  session_kept y y_node ne elsewhere = did.row.others (parent (plan_lists plan) y) (place_of plan.entries y) elsewhere ∙ between_kept y y_node ne

  -- of a child of x
  module _ (y : ℕ) (y_node : IsNode (plan_lists plan) y) (up : parent (plan_lists plan) y ≡ x) where
    child_differs : y ≡ x → ⊥
    child_differs e = omega (arith, (lawful plan is_plan).earlier y y_node, up, e)

    conc_y : IsConcentrator (plan_lists plan) (parent (plan_lists plan) y)
    conc_y = subst (λ (i : ℕ). IsConcentrator (plan_lists plan) i) (sym up) conc

    row_length : place_of plan.entries y < length (row_at between x)
    row_length =
        let same_children : length (children_of plan.entries (parent (plan_lists plan) y)) ≡ length (children_of plan.entries x) =
        ap (λ (i : ℕ). length (children_of plan.entries i)) up in
        omega (arith, did.one.rows x, stands.shaped.rows x conc.1, placed plan is_plan y y_node, same_children)

    old_is : session_at (row_at between x) (place_of plan.entries y) ≡ uplink_of plan c y
    unfolding link_at
    old_is = ap (λ (i : ℕ). link_at between i (place_of plan.entries y)) (sym up) ∙ between_kept y y_node child_differs

    new_is : session_at (row_at links x) (place_of plan.entries y) ≡ uplink_of plan after_core y
    unfolding link_at
    new_is = ap (λ (i : ℕ). link_at links i (place_of plan.entries y)) (sym up)

    the_head : head_at (record_of (concentrator_of c x).window price.number).heads (place_of plan.entries y)
        ≡ head_for (plan_lists plan) y (number (plan_lists plan) s y (cleared_cut s j))
    the_head =
        ap (λ (i : ℕ). head_at (record_of (concentrator_of c i).window price.number).heads (place_of plan.entries y)) (sym up)
        ∙ stands.records y price.number y_node conc_y (subst (λ (i : ℕ). Keeps (concentrator_of c i).window price.number) (sym up) keeps)
        ∙ ap (λ (i : ℕ). head_for (plan_lists plan) y (number (plan_lists plan) s y (cut_at (s.published (parent (plan_lists plan) y)) i))) (
        agrees.number ∙ ap (λ (i : ℕ). number (plan_lists plan) s i (cleared_cut s j)) (sym up))
        ∙ ap (head_for (plan_lists plan) y) (
        sym (number_down (plan_lists plan) (lawful plan is_plan) s stands.sound y j y_node (conc_y.0, conc_y.1) j_within.1))

    gone_is : (head_at (record_of (concentrator_of c x).window price.number).heads (place_of plan.entries y)).gone ≡ not (addresses (plan_lists plan) s j y)
    gone_is = ap (λ (h : BidHead). h.gone) the_head ∙ gone_addresses (plan_lists plan) (lawful plan is_plan) s stands.sound y j y_node j_within.1

    the_step : local_step_of_record (concentrator_of c x).limits price.step (record_of (concentrator_of c x).window price.number).sum
        ≡ local_step_at plan (cleared_cut s j) y
    the_step =
        let at = (cleared_is_part (plan_lists plan) (lawful plan is_plan) s stands.sound x j node j_within.1).0 in
        let same : SameOn (plan_lists plan) x (cut_at (s.published x) price.number) (cleared_cut s j) = λ d leaf.
        sym (
        at d leaf
        ∙ ap (λ (a : Cut). a d) (part_inner (plan_lists plan) s.published x (number (plan_lists plan) s x (cleared_cut s j)) conc.2)
        ∙ ap (λ (i : ℕ). cut_at (s.published x) i d) (sym agrees.number)) in
        ap (λ l. local_step_of_record l price.step (record_of (concentrator_of c x).window price.number).sum) (stands.shaped.same_limits x conc)
        ∙ ap (local_step_of_record (limits_at plan x) price.step) (
        stands.sums x price.number conc keeps
        ∙ ap (sum_kept (limits_at plan x)) (sum_alike plan is_plan x (cut_at (s.published x) price.number) (cleared_cut s j) same))
        ∙ ap (λ (k : ℕ). local_step_of_record (limits_at plan x) k (sum_kept (limits_at plan x) (children_sum plan x (cleared_cut s j)))) agrees.step
        ∙ ap (λ (i : ℕ). local_step_of_record (limits_at plan i) (local_step_at plan (cleared_cut s j) i)
        (sum_kept (limits_at plan i) (children_sum plan i (cleared_cut s j)))) (
        sym up)
        ∙ sym (offer_below plan is_plan y (cleared_cut s j) y_node conc_y)

    abbrev the_price : PriceUpdate
    the_price = record {
      step = local_step_of_record (concentrator_of c x).limits price.step (record_of (concentrator_of c x).window price.number).sum;
      number = (head_at (record_of (concentrator_of c x).window price.number).heads (place_of plan.entries y)).number;
      index = j;
    }

    addressed_or_not :
        (PriceOffered (uplink_of plan c y) (uplink_of plan after_core y) the_price × (addresses (plan_lists plan) s j y ≡ true))
        ⊎ ((uplink_of plan after_core y ≡ uplink_of plan c y) × (addresses (plan_lists plan) s j y ≡ false))
    addressed_or_not = elim (cases_Bool (addresses (plan_lists plan) s j y)) [
      | inl e ↦
          let at = did.made.offered.offered (place_of plan.entries y) row_length (gone_is ∙ ap not e) in
          let from_old = subst (λ (z : Session). PriceOffered z (session_at (row_at links x) (place_of plan.entries y)) the_price) old_is at in
          inl (subst (λ (z : Session). PriceOffered (uplink_of plan c y) z the_price) new_is from_old, e)
      | inr e ↦ inr (sym new_is ∙ did.made.offered.others (place_of plan.entries y) row_length (gone_is ∙ ap not e) ∙ old_is, e)
    ]

    -- what was passed to the child came to x
    last_below : last_index s y < j
    last_below = elim (last_cases (s.passed y)) [
      | inl w ↦ omega (arith, w.1, j_within.0)
      | inr k ↦
          let came : Reached s x (last_index s y) = subst (λ (i : ℕ). Reached s i (last_index s y)) up (stands.sound.passed_reached y (last_index s y) k) in
          omega (arith, agrees.above, came_last (plan_lists plan) s stands.sound x (last_index s y) conc.0 came)
    ]

    due_below : (i : ℕ) → is_due (plan_lists plan) s y i ≡ true → i ≤ last_index s x
    due_below i h = came_last (plan_lists plan) s stands.sound x i conc.0 (subst (λ (z : ℕ). Reached s z i) up (due_parts (plan_lists plan) s y i h).0)

    child_newest : IsNewestDue (plan_lists plan) after_state y (uplink_of plan after_core y).down.offered
    child_newest = elim addressed_or_not [
      | inl w ↦
          let is : (uplink_of plan after_core y).down.offered ≡ j = w.0.down.offered in
          record {
            due = λ positive. ap (is_due (plan_lists plan) after_state y) is ∙ passes.due_new (plan_lists plan) s x j y up w.1;
            most = λ i h. elim (passes.due_cases (plan_lists plan) s x j y i h) [
              | inl old ↦ omega (arith, is, due_below i old, agrees.above)
              | inr new ↦ omega (arith, is, new.1)
            ];
          }
      | inr w ↦
          let is : (uplink_of plan after_core y).down.offered ≡ (uplink_of plan c y).down.offered = ap (λ (z : Session). z.down.offered) w.0 in
          let at = stands.price_offered y y_node in
          record {
            due = λ positive. ap (is_due (plan_lists plan) after_state y) is ∙ due_more y _ (at.due (omega (arith, is, positive)));
            most = λ i h. elim (passes.due_cases (plan_lists plan) s x j y i h) [
              | inl old ↦ omega (arith, is, at.most i old)
              | inr new ↦ absurd (both_ways (addresses (plan_lists plan) s j y) w.1
                  (ap (λ (k : ℕ). addresses (plan_lists plan) s k y) (sym new.1) ∙ new.2))
            ];
          }
    ]

    kept_price : (q : PriceUpdate) → Waits (uplink_of plan c y).down q → PriceAgrees plan after_state y q
    kept_price q waits = let at = stands.prices y y_node q waits in record {
      above = omega (arith, at.above, last_kept y child_differs);
      due = due_more y q.index at.due;
      step = at.step;
      number = at.number;
    }

    new_price : addresses (plan_lists plan) s j y ≡ true → PriceAgrees plan after_state y the_price
    new_price e = record {
      above = omega (arith, last_below, last_kept y child_differs);
      due = passes.due_new (plan_lists plan) s x j y up e;
      step = the_step;
      number = ap (λ (h : BidHead). h.number) the_head;
    }

    child_prices : (q : PriceUpdate) → Waits (uplink_of plan after_core y).down q → PriceAgrees plan after_state y q
    child_prices q waits = elim addressed_or_not [
      | inl w ↦ elim (w.0.down.others q waits) [
        | inl is ↦ subst (λ (r : PriceUpdate). PriceAgrees plan after_state y r) (sym is) (new_price w.1)
        | inr old ↦ kept_price q old
      ]
      | inr w ↦ kept_price q (ap (λ (z : Session). z.down.waiting) (sym w.0) ∙ waits)
    ]

    child_up : (uplink_of plan after_core y).up ≡ (uplink_of plan c y).up
    child_up = elim addressed_or_not [ inl w ↦ w.0.up | inr w ↦ ap (λ (z : Session). z.up) w.0 ]

    child_steps : (uplink_of plan after_core y).steps ≡ (uplink_of plan c y).steps
    child_steps = elim addressed_or_not [ inl w ↦ w.0.steps | inr w ↦ ap (λ (z : Session). z.steps) w.0 ]

    child_taken : (uplink_of plan after_core y).down.taken ≡ (uplink_of plan c y).down.taken
    child_taken = elim addressed_or_not [ inl w ↦ w.0.down.taken | inr w ↦ ap (λ (z : Session). z.down.taken) w.0 ]

  up_kept : (y : ℕ) → IsNode (plan_lists plan) y → (uplink_of plan after_core y).up ≡ (uplink_of plan c y).up
  up_kept y y_node = elim (cases_eq (parent (plan_lists plan) y) x) [
    | inl up ↦ child_up y y_node up
    | inr elsewhere ↦ elim (cases_eq y x) [
      | inl e ↦ ap (λ (z : Session). z.up) (session_new y e) ∙ did.taken.up ∙ ap (λ (z : ℕ). (uplink_of plan c z).up) (sym e)
      | inr ne ↦ ap (λ (z : Session). z.up) (session_kept y y_node ne elsewhere)
    ]
  ]

  -- the concentrators
  gathered_new : (y : ℕ) → y ≡ x → concentrator_of after_core y ≡ gathered_at concentrators x
  gathered_new y e = ap (gathered_at concentrators) e

  same_cache : (y : ℕ) → (concentrator_of after_core y).cache ≡ (concentrator_of c y).cache
  same_cache y = elim (cases_eq y x) [
    | inl e ↦ ap (λ (g : Gathered). g.cache) (gathered_new y e) ∙ did.made.passed.cache ∙ ap (λ (i : ℕ). (concentrator_of c i).cache) (sym e)
    | inr ne ↦ ap (λ (g : Gathered). g.cache) (did.alone.others y ne)
  ]

  same_limits : (y : ℕ) → (concentrator_of after_core y).limits ≡ (concentrator_of c y).limits
  same_limits y = elim (cases_eq y x) [
    | inl e ↦ ap (λ (g : Gathered). g.limits) (gathered_new y e) ∙ did.made.passed.limits ∙ ap (λ (i : ℕ). (concentrator_of c i).limits) (sym e)
    | inr ne ↦ ap (λ (g : Gathered). g.limits) (did.alone.others y ne)
  ]

  same_last : (y : ℕ) → (concentrator_of after_core y).window.last ≡ (concentrator_of c y).window.last
  same_last y = elim (cases_eq y x) [
    | inl e ↦ ap (λ (g : Gathered). g.window.last) (gathered_new y e) ∙ did.made.passed.window.last
        ∙ ap (λ (i : ℕ). (concentrator_of c i).window.last) (sym e)
    | inr ne ↦ ap (λ (g : Gathered). g.window.last) (did.alone.others y ne)
  ]

  old_keeps : (y k : ℕ) → Keeps (concentrator_of after_core y).window k → Keeps (concentrator_of c y).window k
  old_keeps y k now = elim (cases_eq y x) [
    | inl e ↦
        let new_is = ap (λ (z : Gathered). z.window.answered) (gathered_new y e) in
        let old_is = ap (λ (i : ℕ). (concentrator_of c i).window.answered) e in
        record {
          one = now.one;
          from = omega (arith, now.from, new_is, did.made.passed.window.answered, keeps.from, old_is);
          to = omega (arith, now.to, same_last y);
        }
    | inr ne ↦ subst (λ (g : Gathered). Keeps g.window k) (did.alone.others y ne) now
  ]

  -- the records that are kept are still as they were, the newest among them
  record_same : (y k : ℕ) → Keeps (concentrator_of after_core y).window k → record_of (concentrator_of after_core y).window k
      ≡ record_of (concentrator_of c y).window k
  record_same y k now = elim (cases_eq y x) [
    | inl e ↦
        ap (λ (g : Gathered). record_of g.window k) (gathered_new y e)
        ∙ did.made.passed.window.records k (subst (λ (g : Gathered). Keeps g.window k) (gathered_new y e) now)
        ∙ ap (λ (i : ℕ). record_of (concentrator_of c i).window k) (sym e)
    | inr ne ↦ ap (λ (g : Gathered). record_of g.window k) (did.alone.others y ne)
  ]

  newest_keeps : Keeps (gathered_at concentrators x).window (concentrator_of c x).window.last
  newest_keeps = record {
    one = omega (arith, keeps.one, keeps.to);
    from = omega (arith, did.made.passed.window.answered, keeps.to);
    to = omega (arith, did.made.passed.window.last);
  }

  same_heads : (y : ℕ) → published_heads (concentrator_of after_core y) ≡ published_heads (concentrator_of c y)
  same_heads y = elim (cases_eq y x) [
    | inl e ↦
        ap (λ (g : Gathered). published_heads g) (gathered_new y e)
        ∙ ap (λ (k : ℕ). (record_of (gathered_at concentrators x).window k).heads) did.made.passed.window.last
        ∙ ap (λ (r : Sent). r.heads) (did.made.passed.window.records (concentrator_of c x).window.last newest_keeps)
        ∙ ap (λ (i : ℕ). published_heads (concentrator_of c i)) (sym e)
    | inr ne ↦ ap (λ (g : Gathered). published_heads g) (did.alone.others y ne)
  ]

  cache_kept : (y : ℕ) → node_cache after_core y ≡ node_cache c y
  cache_kept y = elim (cases_eq y 0) [
    | inl z ↦ cache_root c.auctioneer concentrators y z ∙ sym (cache_root c.auctioneer c.concentrators y z)
    | inr nz ↦ cache_inner c.auctioneer concentrators y nz ∙ same_cache y ∙ sym (cache_inner c.auctioneer c.concentrators y nz)
  ]

  stands_after : StandsFor plan after_core after_state
  stands_after = record {
    sound = sound_step (plan_lists plan) (lawful plan is_plan) s stands.sound (Pass x j) legal;
    shaped = record {
      all_links = did.row.all ∙ did.one.all ∙ stands.shaped.all_links;
      all_concentrators = did.alone.all ∙ stands.shaped.all_concentrators;
      all_ports = stands.shaped.all_ports;
      all_counts = stands.shaped.all_counts;
      all_states = stands.shaped.all_states;
      all_powers = stands.shaped.all_powers;
      rows = λ y le. did.row.rows y ∙ did.one.rows y ∙ stands.shaped.rows y le;
      link_steps = λ y y_node. elim (cases_eq (parent (plan_lists plan) y) x) [
        | inl up ↦ child_steps y y_node up ∙ stands.shaped.link_steps y y_node
        | inr elsewhere ↦ elim (cases_eq y x) [
          | inl e ↦ ap (λ (z : Session). z.steps) (session_new y e) ∙ did.taken.steps ∙ stands.shaped.link_steps x node
          | inr ne ↦ ap (λ (z : Session). z.steps) (session_kept y y_node ne elsewhere) ∙ stands.shaped.link_steps y y_node
        ]
      ];
      there = λ y conc_y. did.alone.there y (stands.shaped.there y conc_y);
      cache_steps = λ y le inner. ap (λ (q : Cache). q.steps) (cache_kept y) ∙ stands.shaped.cache_steps y le inner;
      cache_heads = λ y le inner. ap (λ (q : Cache). length q.heads) (cache_kept y) ∙ stands.shaped.cache_heads y le inner;
      cache_demands = λ y le inner. ap (λ (q : Cache). length q.demands) (cache_kept y) ∙ stands.shaped.cache_demands y le inner;
      published_count = λ y conc_y. ap length (same_heads y) ∙ stands.shaped.published_count y conc_y;
      same_limits = λ y conc_y. same_limits y ∙ stands.shaped.same_limits y conc_y;
    };
    counts = stands.counts;
    closed = stands.closed;
    states = stands.states;
    powers = stands.powers;
    heads = λ y y_node. ap (λ (q : Cache). head_at q.heads (place_of plan.entries y)) (cache_kept (parent (plan_lists plan) y)) ∙ stands.heads y y_node;
    demands = λ y y_node. ap (λ (q : Cache). get_or q.demands (place_of plan.entries y) []) (cache_kept (parent (plan_lists plan) y))
        ∙ stands.demands y y_node;
    bid_offered = λ y y_node. ap (λ u. u.offered) (up_kept y y_node) ∙ stands.bid_offered y y_node;
    bid_taken = λ y y_node. ap (λ u. u.taken) (up_kept y y_node) ∙ stands.bid_taken y y_node;
    bids = λ y y_node b waits.
        let at = stands.bids y y_node b (sym (ap (λ u. u.waiting) (up_kept y y_node)) ∙ waits) in
        record { above = at.above; within = at.within; demand = at.demand; gone = at.gone };
    price_offered = λ y y_node. elim (cases_eq (parent (plan_lists plan) y) x) [
      | inl up ↦ child_newest y y_node up
      | inr elsewhere ↦ elim (cases_eq y x) [
        | inl e ↦
            let is : (uplink_of plan after_core y).down.offered ≡ (uplink_of plan c y).down.offered =
            ap (λ (z : Session). z.down.offered) (session_new y e) ∙ did.taken.down.offered
            ∙ ap (λ (z : ℕ). (uplink_of plan c z).down.offered) (sym e) in
            subst (λ (k : ℕ). IsNewestDue (plan_lists plan) after_state y k) (sym is) (
            passes.newest_due_kept (plan_lists plan) s x j y _ elsewhere (stands.price_offered y y_node))
        | inr ne ↦
            subst (λ (z : Session). IsNewestDue (plan_lists plan) after_state y z.down.offered) (sym (session_kept y y_node ne elsewhere)) (
            passes.newest_due_kept (plan_lists plan) s x j y _ elsewhere (stands.price_offered y y_node))
      ]
    ];
    price_taken = λ y y_node. elim (cases_eq y x) [
      | inl e ↦ ap (λ (z : Session). z.down.taken) (session_new y e) ∙ did.taken.down.taken ∙ sym last_new ∙ ap (last_index after_state) (sym e)
      | inr ne ↦ elim (cases_eq (parent (plan_lists plan) y) x) [
        | inl up ↦ child_taken y y_node up ∙ stands.price_taken y y_node ∙ sym (last_kept y ne)
        | inr elsewhere ↦ ap (λ (z : Session). z.down.taken) (session_kept y y_node ne elsewhere) ∙ stands.price_taken y y_node ∙ sym (last_kept y ne)
      ]
    ];
    prices = λ y y_node q waits. elim (cases_eq (parent (plan_lists plan) y) x) [
      | inl up ↦ child_prices y y_node up q waits
      | inr elsewhere ↦ elim (cases_eq y x) [
        | inl e ↦
            let was = did.taken.down.rest q (sym (ap (λ (z : Session). z.down.waiting) (session_new y e)) ∙ waits) in
            let at = stands.prices y y_node q (ap (λ (z : ℕ). (uplink_of plan c z).down.waiting) e ∙ was.0) in
            record {
              above = omega (arith, was.1, last_new, ap (last_index after_state) e);
              due = due_more y q.index at.due;
              step = at.step;
              number = at.number;
            }
        | inr ne ↦
            let at = stands.prices y y_node q (sym (ap (λ (z : Session). z.down.waiting) (session_kept y y_node ne elsewhere)) ∙ waits) in
            record { above = omega (arith, at.above, last_kept y ne); due = due_more y q.index at.due; step = at.step; number = at.number }
      ]
    ];
    window_last = λ y conc_y. same_last y ∙ stands.window_last y conc_y;
    window_answered = λ y conc_y. elim (cases_eq y x) [
      | inl e ↦
          ap (λ (z : Gathered). z.window.answered) (gathered_new y e) ∙ did.made.passed.window.answered ∙ agrees.number
          ∙ ap (λ (k : ℕ). number (plan_lists plan) s x (cleared_cut s k)) (sym last_new)
          ∙ ap (λ (i : ℕ). number (plan_lists plan) s i (cleared_cut s (last_index after_state i))) (sym e)
      | inr ne ↦
          ap (λ (g : Gathered). g.window.answered) (did.alone.others y ne) ∙ stands.window_answered y conc_y
          ∙ ap (λ (k : ℕ). number (plan_lists plan) s y (cleared_cut s k)) (sym (last_kept y ne))
    ];
    records = λ z k z_node conc_z now.
        ap (λ (r : Sent). head_at r.heads (place_of plan.entries z)) (record_same (parent (plan_lists plan) z) k now)
        ∙ stands.records z k z_node conc_z (old_keeps (parent (plan_lists plan) z) k now);
    sums = λ y k conc_y now. ap (λ (r : Sent). r.sum) (record_same y k now) ∙ stands.sums y k conc_y (old_keeps y k now);
    newest_heads = λ z z_node conc_z.
        ap (λ hs. head_at hs (place_of plan.entries z)) (same_heads (parent (plan_lists plan) z)) ∙ stands.newest_heads z z_node conc_z;
    index = stands.index;
    auction_step = stands.auction_step;
    changed = stands.changed;
    joined = stands.joined;
    given_none = λ d leaf none. stands.given_none d leaf (sym (last_kept d (differs d leaf)) ∙ none);
    given = λ d leaf positive.
        stands.given d leaf (omega (arith, positive, last_kept d (differs d leaf)))
        ∙ ap (λ (k : ℕ). Some (record { step = local_step_at plan (cleared_cut s k) d; number = cleared_cut s k d; index = k }))
        (sym (last_kept d (differs d leaf)));
  }
    where
      differs : (d : ℕ) → IsLeaf (plan_lists plan) d → d ≡ x → ⊥
      differs d leaf e = both_ways (is_leaf (plan_lists plan) x) conc.2 (ap (is_leaf (plan_lists plan)) (sym e) ∙ leaf)

  -- where the record of the number that the price names is kept, the pass is legal, and the cluster stands for the state after it
  pub pass_makes : MakesMove plan after_core s (Pass x j)
  pass_makes = record { legal = legal; stands = stands_after }
