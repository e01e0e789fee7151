-- A device takes a price: the cluster stands for the state after it.
use Rattle.std.proofs.Common.{◌≡◌, ◌∙◌, sym, ap, subst, ℕ, true, List, Some, arith, inl, inr}
use Rattle.std.proofs.lemmas.Bool.{cases_eq, both_ways}
use Rattle.pm_tree.specs.Entries.{place_of}
use Rattle.pm_market.specs.Lists.{parent, is_leaf, IsNode, IsLeaf, IsConcentrator}
use Rattle.pm_market.specs.State.{State, number, last_index, cleared_cut}
use Rattle.pm_market.specs.Moves.{Legal, step}
use Rattle.pm_market.specs.declared.moves.Move.TheVariants.{Pass}
use Rattle.pm_market.proofs.Tree.{leaf_node}
use Rattle.pm_laws.specs.Due.{is_due}
use Rattle.pm_laws.proofs.Kept.{sound_step}
use Rattle.pm_laws.proofs.Numbers.{number_leaf}
use Rattle.pm_laws.proofs.Published.{due_within}
use Rattle.pm_session.specs.Links.{Session}
use Rattle.pm_session.specs.Ports.{Seat}
use Rattle.pm_session.specs.declared.price.PriceUpdate.{PriceUpdate}
use Rattle.pm_plan.specs.Kept.{IsPlan}
use Rattle.pm_plan.specs.Plans.{PlanData}
use Rattle.pm_plan.specs.Market.{plan_lists}
use Rattle.pm_offer.specs.Offers.{local_step_at}
use Rattle.pm_stands.specs.Core.{Core, link_at, uplink_of, seat_at}
use Rattle.pm_laws.specs.Due.{IsNewestDue}
use Rattle.pm_stands.specs.Stands.{PriceAgrees, StandsFor, MakesMove}
use Rattle.pm_stands.specs.Made.{DidTake, taken_core}
use Rattle.pm_plan.proofs.MarketLists.{lawful}
use Rattle.pm_stands.proofs.Places.{one_place, at_node}
use Rattle.pm_laws.proofs.Passes as passes
use Rattle.pm_laws.proofs.MoveLaws.{due_parts}

module _ (plan : PlanData) (is_plan : IsPlan plan) (c : Core) (s : State) (stands : StandsFor plan c s) (x : ℕ)
    (node : IsNode (plan_lists plan) x) (leaf : IsLeaf (plan_lists plan) x)
    (links : List (List Session)) (ports : List Seat) (price : PriceUpdate)
    (did : DidTake c x links ports price (parent (plan_lists plan) x) (place_of plan.entries x)) where
  abbrev j : ℕ
  j = price.index

  abbrev after_core : Core
  after_core = taken_core c links ports

  abbrev after_state : State
  after_state = step (plan_lists plan) s (Pass x j)

  agrees : PriceAgrees plan s x price
  agrees = stands.prices x node price did.taken.down.waited

  legal : Legal (plan_lists plan) s (Pass x j)
  legal = let w = due_parts (plan_lists plan) s x j agrees.due in (node, w.0, agrees.above, w.1)

  -- what was passed
  last_new : last_index after_state x ≡ j
  last_new = passes.last_new (plan_lists plan) s x j

  last_kept : (y : ℕ) → (y ≡ x → ⊥) → last_index after_state y ≡ last_index s y
  last_kept y ne = passes.last_kept (plan_lists plan) s x j y ne

  due_more : (y i : ℕ) → is_due (plan_lists plan) s y i ≡ true → is_due (plan_lists plan) after_state y i ≡ true
  due_more y i due = passes.due_more (plan_lists plan) s x j y i due

  no_child : (y : ℕ) → IsNode (plan_lists plan) y → parent (plan_lists plan) y ≡ x → ⊥
  no_child y y_node up = both_ways (is_leaf (plan_lists plan) x) (ap (is_leaf (plan_lists plan)) (sym up) ∙ (lawful plan is_plan).inner y y_node) leaf

  session_new : (y : ℕ) → y ≡ x → uplink_of plan after_core y ≡ link_at links (parent (plan_lists plan) x) (place_of plan.entries x)
  session_new y e = ap (λ (z : ℕ). uplink_of plan after_core z) e

  session_kept : (y : ℕ) → IsNode (plan_lists plan) y → (y ≡ x → ⊥) → uplink_of plan after_core y ≡ uplink_of plan c y
  session_kept y y_node ne = did.one.others (parent (plan_lists plan) y) (place_of plan.entries y) (λ e f. ne (one_place plan is_plan y x y_node node e f))

  same_of : (y : ℕ) → IsNode (plan_lists plan) y →
      ((uplink_of plan after_core y).up ≡ (uplink_of plan c y).up)
      × ((uplink_of plan after_core y).steps ≡ (uplink_of plan c y).steps)
      × ((uplink_of plan after_core y).down.offered ≡ (uplink_of plan c y).down.offered)
  same_of y y_node = elim (cases_eq y x) [
    | inl e ↦
        let n = session_new y e in (
          ap (λ (z : Session). z.up) n ∙ did.taken.up ∙ ap (λ (z : ℕ). (uplink_of plan c z).up) (sym e),
          ap (λ (z : Session). z.steps) n ∙ did.taken.steps ∙ ap (λ (z : ℕ). (uplink_of plan c z).steps) (sym e),
          ap (λ (z : Session). z.down.offered) n ∙ did.taken.down.offered ∙ ap (λ (z : ℕ). (uplink_of plan c z).down.offered) (sym e),
        )
    | inr ne ↦ let k = session_kept y y_node ne in (ap (λ (z : Session). z.up) k, ap (λ (z : Session). z.steps) k, ap (λ (z : Session). z.down.offered) k)
  ]

  not_conc : (y : ℕ) → IsConcentrator (plan_lists plan) y → y ≡ x → ⊥
  not_conc y conc e = both_ways (is_leaf (plan_lists plan) y) conc.2 (ap (is_leaf (plan_lists plan)) e ∙ leaf)

  number_is : price.number ≡ cleared_cut s j x
  number_is = agrees.number ∙ number_leaf (plan_lists plan) s.published x (cleared_cut s j) leaf

  the_given : (seat_at ports x).given ≡ Some (record { step = local_step_at plan (cleared_cut s j) x; number = cleared_cut s j x; index = j })
  the_given =
      ap (λ (q : Seat). q.given) did.given
      ∙ ap (λ (k : ℕ). Some (record { step = k; number = price.number; index = j })) agrees.step
      ∙ ap (λ (k : ℕ). Some (record { step = local_step_at plan (cleared_cut s j) x; number = k; index = j })) number_is

  joined_kept : (d : ℕ) → (seat_at ports d).joined ≡ (seat_at c.ports d).joined
  joined_kept d = elim (cases_eq d x) [
    | inl e ↦
        ap (λ (i : ℕ). (seat_at ports i).joined) e ∙ ap (λ (q : Seat). q.joined) did.given
        ∙ ap (λ (i : ℕ). (seat_at c.ports i).joined) (sym e)
    | inr ne ↦ ap (λ (q : Seat). q.joined) (did.others d ne)
  ]

  take_makes : MakesMove plan after_core s (Pass x j)
  take_makes = record {
    legal = legal;
    stands = record {
      sound = sound_step (plan_lists plan) (lawful plan is_plan) s stands.sound (Pass x j) legal;
      shaped = record {
        all_links = did.one.all ∙ stands.shaped.all_links;
        all_concentrators = stands.shaped.all_concentrators;
        all_ports = did.same_ports ∙ stands.shaped.all_ports;
        all_counts = stands.shaped.all_counts;
        all_states = stands.shaped.all_states;
        all_powers = stands.shaped.all_powers;
        rows = λ y le. did.one.rows y ∙ stands.shaped.rows y le;
        link_steps = λ y y_node. (same_of y y_node).1 ∙ stands.shaped.link_steps y y_node;
        there = stands.shaped.there;
        cache_steps = stands.shaped.cache_steps;
        cache_heads = stands.shaped.cache_heads;
        cache_demands = stands.shaped.cache_demands;
        published_count = stands.shaped.published_count;
        same_limits = stands.shaped.same_limits;
      };
      counts = stands.counts;
      closed = stands.closed;
      states = stands.states;
      powers = stands.powers;
      heads = stands.heads;
      demands = stands.demands;
      bid_offered = λ y y_node. ap (λ u. u.offered) (same_of y y_node).0 ∙ stands.bid_offered y y_node;
      bid_taken = λ y y_node. ap (λ u. u.taken) (same_of y y_node).0 ∙ stands.bid_taken y y_node;
      bids = λ y y_node b waits.
          let at = stands.bids y y_node b (sym (ap (λ u. u.waiting) (same_of y y_node).0) ∙ waits) in
          record { above = at.above; within = at.within; demand = at.demand; gone = at.gone };
      price_offered = λ y y_node. subst (λ (k : ℕ). IsNewestDue (plan_lists plan) after_state y k) (sym (same_of y y_node).2) (
          passes.newest_due_kept (plan_lists plan) s x j y _ (no_child y y_node) (stands.price_offered y y_node));
      price_taken = λ y y_node. elim (cases_eq y x) [
        | inl e ↦ ap (λ (z : Session). z.down.taken) (session_new y e) ∙ did.taken.down.taken ∙ sym last_new ∙ ap (last_index after_state) (sym e)
        | inr ne ↦ ap (λ (z : Session). z.down.taken) (session_kept y y_node ne) ∙ stands.price_taken y y_node ∙ sym (last_kept y ne)
      ];
      prices = λ y y_node q waits. elim (cases_eq y x) [
        | inl e ↦
            let was = did.taken.down.rest q (sym (ap (λ (z : Session). z.down.waiting) (session_new y e)) ∙ waits) in
            let at = stands.prices y y_node q (ap (λ (z : ℕ). (uplink_of plan c z).down.waiting) e ∙ was.0) in
            record {
              above = omega (arith, was.1, last_new, ap (last_index after_state) e);
              due = due_more y q.index at.due;
              step = at.step;
              number = at.number;
            }
        | inr ne ↦
            let at = stands.prices y y_node q (sym (ap (λ (z : Session). z.down.waiting) (session_kept y y_node ne)) ∙ waits) in
            record { above = omega (arith, at.above, last_kept y ne); due = due_more y q.index at.due; step = at.step; number = at.number }
      ];
      window_last = stands.window_last;
      window_answered = λ y conc.
          stands.window_answered y conc ∙ ap (λ (k : ℕ). number (plan_lists plan) s y (cleared_cut s k)) (sym (last_kept y (not_conc y conc)));
      records = stands.records;
      sums = stands.sums;
      newest_heads = stands.newest_heads;
      index = stands.index;
      auction_step = stands.auction_step;
      changed = stands.changed;
      joined = λ d d_leaf. joined_kept d ∙ stands.joined d d_leaf;
      given_none = λ d d_leaf none. elim (cases_eq d x) [
        | inl e ↦ absurd (omega (arith, none, ap (last_index after_state) e, last_new, (due_within (plan_lists plan) s stands.sound x j agrees.due).0))
        | inr ne ↦ ap (λ (q : Seat). q.given) (did.others d ne) ∙ stands.given_none d d_leaf (sym (last_kept d ne) ∙ none)
      ];
      given = λ d d_leaf positive. elim (cases_eq d x) [
        | inl e ↦
            ap (λ (i : ℕ). (seat_at ports i).given) e ∙ the_given
            ∙ ap (λ (k : ℕ). Some (record { step = local_step_at plan (cleared_cut s k) x; number = cleared_cut s k x; index = k })) (sym last_new)
            ∙ ap (λ (i : ℕ). Some (record {
              step = local_step_at plan (cleared_cut s (last_index after_state i)) i;
              number = cleared_cut s (last_index after_state i) i;
              index = last_index after_state i;
            })) (sym e)
        | inr ne ↦
            ap (λ (q : Seat). q.given) (did.others d ne) ∙ stands.given d d_leaf (omega (arith, positive, last_kept d ne))
            ∙ ap (λ (k : ℕ). Some (record { step = local_step_at plan (cleared_cut s k) d; number = cleared_cut s k d; index = k })) (sym (last_kept d ne))
      ];
    };
  }

-- a device that took a price made a legal pass
pub take_made : (plan : PlanData) (c : Core) (s : State) (x : ℕ) (links : List (List Session)) (ports : List Seat) (price : PriceUpdate)
    → IsPlan plan → StandsFor plan c s → IsLeaf (plan_lists plan) x
    → DidTake c x links ports price (parent (plan_lists plan) x) (place_of plan.entries x)
    → MakesMove plan (taken_core c links ports) s (Pass x price.index)
take_made plan c s x links ports price is_plan stands leaf did =
    take_makes plan is_plan c s stands x (leaf_node (plan_lists plan) (lawful plan is_plan) x leaf) leaf links ports price did

-- the same by the numbers that were read of the device's parent and of its place there
pub take_did : (plan : PlanData) → IsPlan plan → (c : Core) (s : State) → StandsFor plan c s → (x y k : ℕ) → IsLeaf (plan_lists plan) x
    → y ≡ parent (plan_lists plan) x → k ≡ place_of plan.entries x
    → (links : List (List Session)) (ports : List Seat) (price : PriceUpdate) → DidTake c x links ports price y k
    → MakesMove plan (taken_core c links ports) s (Pass x price.index)
take_did plan is_plan c s stands x y k leaf e f links ports price did =
    take_made plan c s x links ports price is_plan stands leaf (at_node plan x y k (DidTake c x links ports price) e f did)
