-- A device changes: the core stands for the state after it.
use Rattle.std.proofs.Common.{◌≡◌, ◌∙◌, sym, ap, subst, ℕ, suc, ◌+◌, ◌≤◌, ℤ, pos, Bool, true, false, not, ◌&&◌, cond, List}
use Rattle.std.proofs.Common.{get_or, Option, Some}
use Rattle.std.proofs.Common.{None, refl, arith, inl, inr}
use Rattle.std.proofs.lemmas.Bool.{cases_eq, cases_Bool, both_ways}
use Rattle.pm_tree.specs.Entries.{place_of}
use Rattle.pm_market.specs.Lists.{Lists, parent, is_leaf, is_member, IsNode, IsConcentrator}
use Rattle.pm_market.specs.State.{State, update, newest_number_of, part}
use Rattle.pm_market.specs.Moves.{Legal, step}
use Rattle.pm_market.specs.Held.{last_join}
use Rattle.pm_market.specs.declared.moves.Move.TheVariants.{Change}
use Rattle.pm_market.proofs.Tree.{leaf_node}
use Rattle.pm_market.proofs.Cuts.{updated_same, updated_other, part_leaf, newest_leaf, newest_inner}
use Rattle.pm_laws.proofs.Kept.{sound_step}
use Rattle.pm_session.specs.Links.{Session, UpBid}
use Rattle.pm_session.specs.Ports.{Seat}
use Rattle.pm_plan.specs.Kept.{IsPlan}
use Rattle.pm_plan.specs.Plans.{PlanData}
use Rattle.pm_plan.specs.States.{state}
use Rattle.pm_plan.specs.Market.{plan_lists}
use Rattle.pm_offer.specs.Offers.{offer, device_demand}
use Rattle.pm_stands.specs.Core.{Core, link_at, uplink_of, seat_at}
use Rattle.pm_laws.specs.Due.{IsNewestDue}
use Rattle.pm_laws.specs.Gone.{is_gone}
use Rattle.pm_stands.specs.Stands.{BidAgrees, StandsFor, MakesMove}
use Rattle.pm_stands.specs.Made.{DidChange, changed_core, seat_after}
use Rattle.pm_plan.proofs.MarketLists.{lawful}
use Rattle.pm_stands.proofs.Places.{one_place, at_node}
use Rattle.pm_stands.proofs.Offered.{offer_device}

-- the last join of a device that made n changes, where it is a member
abbrev joined_at : Lists → ℕ → ℕ → Option ℕ
joined_at lists d n = cond (is_member lists d n) (Some (last_join lists d n)) None

-- a change after which the device is a member and before which it was none is a join
joined_after : (lists : Lists) (d m : ℕ) (seat : Seat) → seat.joined ≡ joined_at lists d m →
    (seat_after seat (is_member lists d m) (is_member lists d (suc m)) (suc m)).joined ≡ joined_at lists d (suc m)
unfolding last_join
joined_after lists d m seat was = go (is_member lists d m) (is_member lists d (suc m)) (last_join lists d m) was
  where
    go : (before after : Bool) (join : ℕ) → seat.joined ≡ cond before (Some join) None →
        (seat_after seat before after (suc m)).joined ≡ cond after (Some (cond (after && not before) (suc m) join)) None
    go true true join h = h
    go false true join h = refl
    go true false join h = refl
    go false false join h = refl

given_after : (seat : Seat) (before after : Bool) (n : ℕ) → (seat_after seat before after n).given ≡ seat.given
given_after seat true true n = refl
given_after seat false true n = refl
given_after seat true false n = refl
given_after seat false false n = refl

module _ (plan : PlanData) (is_plan : IsPlan plan) (c : Core) (s : State) (stands : StandsFor plan c s) (x n : ℕ)
    (legal : Legal (plan_lists plan) s (Change x n))
    (links : List (List Session)) (counts : List ℕ) (states : List ℤ) (ports : List Seat)
    (did : DidChange plan c x n links counts states ports (parent (plan_lists plan) x) (place_of plan.entries x)) where
  node : IsNode (plan_lists plan) x
  node = leaf_node (plan_lists plan) (lawful plan is_plan) x legal.0

  n_is : n ≡ suc (s.counts x)
  n_is = omega (arith, legal.2)

  abbrev after_core : Core
  after_core = changed_core c links counts states ports

  abbrev after_state : State
  after_state = step (plan_lists plan) s (Change x n)

  newest_new : newest_number_of (plan_lists plan) after_state x ≡ n
  newest_new = newest_leaf (plan_lists plan) after_state.counts s.published x legal.0 ∙ updated_same s.counts x n

  newest_old : newest_number_of (plan_lists plan) s x + 1 ≡ n
  newest_old = omega (arith, newest_leaf (plan_lists plan) s.counts s.published x legal.0, legal.2)

  newest_other : (y : ℕ) → (y ≡ x → ⊥) → newest_number_of (plan_lists plan) after_state y ≡ newest_number_of (plan_lists plan) s y
  newest_other y ne = elim (cases_Bool (is_leaf (plan_lists plan) y)) [
    | inl e ↦
        newest_leaf (plan_lists plan) after_state.counts s.published y e ∙ updated_other s.counts x n y ne
        ∙ sym (newest_leaf (plan_lists plan) s.counts s.published y e)
    | inr e ↦ newest_inner (plan_lists plan) after_state.counts s.published y e ∙ sym (newest_inner (plan_lists plan) s.counts s.published y e)
  ]

  newest_le : (y : ℕ) → newest_number_of (plan_lists plan) s y ≤ newest_number_of (plan_lists plan) after_state y
  newest_le y = elim (cases_eq y x) [
    | inl e ↦ omega (arith, ap (newest_number_of (plan_lists plan) s) e, ap (newest_number_of (plan_lists plan) after_state) e, newest_new, newest_old)
    | inr ne ↦ omega (arith, newest_other y ne)
  ]

  differs : (y : ℕ) → IsConcentrator (plan_lists plan) y → y ≡ x → ⊥
  differs y conc e = both_ways (is_leaf (plan_lists plan) y) conc.2 (ap (is_leaf (plan_lists plan)) e ∙ legal.0)

  session_kept : (y : ℕ) → IsNode (plan_lists plan) y → (y ≡ x → ⊥) → uplink_of plan after_core y ≡ uplink_of plan c y
  session_kept y y_node ne = did.one.others (parent (plan_lists plan) y) (place_of plan.entries y) (λ e f. ne (one_place plan is_plan y x y_node node e f))

  session_new : (y : ℕ) → y ≡ x → uplink_of plan after_core y ≡ link_at links (parent (plan_lists plan) x) (place_of plan.entries x)
  session_new y e = ap (λ (z : ℕ). uplink_of plan after_core z) e

  down_kept : (y : ℕ) → IsNode (plan_lists plan) y → (uplink_of plan after_core y).down ≡ (uplink_of plan c y).down
  down_kept y y_node = elim (cases_eq y x) [
    | inl e ↦ ap (λ (z : Session). z.down) (session_new y e) ∙ did.made.down ∙ ap (λ (z : ℕ). (uplink_of plan c z).down) (sym e)
    | inr ne ↦ ap (λ (z : Session). z.down) (session_kept y y_node ne)
  ]

  kept_agrees : (y : ℕ) (b : UpBid) → BidAgrees plan s y b → BidAgrees plan after_state y b
  kept_agrees y b at = record { above = at.above; within = omega (arith, at.within, newest_le y); demand = at.demand; gone = at.gone }

  new_agrees : (b : UpBid) → b ≡ record { number = n; gone = is_gone (plan_lists plan) x n; demand = device_demand plan x n } →
      BidAgrees plan after_state x b
  new_agrees b is = let number_b : b.number ≡ n = ap (λ (u : UpBid). u.number) is in record {
    above = omega (arith, number_b, newest_old, stands.sound.learnt_within x node);
    within = omega (arith, number_b, newest_new);
    demand =
        ap (λ (u : UpBid). u.demand) is ∙ ap (device_demand plan x) (sym (part_leaf (plan_lists plan) s.published x n x legal.0))
        ∙ sym (offer_device plan is_plan x (part (plan_lists plan) s x n) legal.0)
        ∙ ap (λ (k : ℕ). offer plan x (part (plan_lists plan) s x k)) (sym number_b);
    gone = ap (λ (u : UpBid). u.gone) is ∙ ap (is_gone (plan_lists plan) x) (sym number_b);
  }

  -- the ports
  the_joined : (seat_at ports x).joined ≡ joined_at (plan_lists plan) x (update s.counts x n x)
  the_joined =
      ap (λ (q : Seat). q.joined) did.seated
      ∙ ap (λ (m : ℕ). (seat_after (seat_at c.ports x) (is_member (plan_lists plan) x m) (is_member (plan_lists plan) x n) n).joined)
      (stands.counts x legal.0)
      ∙ ap (λ (i : ℕ). (seat_after (seat_at c.ports x) (is_member (plan_lists plan) x (s.counts x)) (is_member (plan_lists plan) x i) i).joined) n_is
      ∙ joined_after (plan_lists plan) x (s.counts x) (seat_at c.ports x) (stands.joined x legal.0)
      ∙ ap (joined_at (plan_lists plan) x) (sym (updated_same s.counts x n ∙ n_is))

  given_kept : (d : ℕ) → (seat_at ports d).given ≡ (seat_at c.ports d).given
  given_kept d = elim (cases_eq d x) [
    | inl e ↦
        ap (λ (i : ℕ). (seat_at ports i).given) e ∙ ap (λ (q : Seat). q.given) did.seated
        ∙ given_after (seat_at c.ports x) (is_member (plan_lists plan) x (get_or c.counts x 0)) (is_member (plan_lists plan) x n) n
        ∙ ap (λ (i : ℕ). (seat_at c.ports i).given) (sym e)
    | inr ne ↦ ap (λ (q : Seat). q.given) (did.others d ne)
  ]

  change_makes : MakesMove plan after_core s (Change x n)
  change_makes = record {
    legal = legal;
    stands = record {
      sound = sound_step (plan_lists plan) (lawful plan is_plan) s stands.sound (Change x n) legal;
      shaped = record {
        all_links = did.one.all ∙ stands.shaped.all_links;
        all_concentrators = stands.shaped.all_concentrators;
        all_ports = did.same_ports ∙ stands.shaped.all_ports;
        all_counts = did.same_counts ∙ stands.shaped.all_counts;
        all_states = did.same_states ∙ stands.shaped.all_states;
        all_powers = stands.shaped.all_powers;
        rows = λ y le. did.one.rows y ∙ stands.shaped.rows y le;
        link_steps = λ y y_node. elim (cases_eq y x) [
          | inl e ↦ ap (λ (z : Session). z.steps) (session_new y e) ∙ did.made.steps ∙ stands.shaped.link_steps x node
          | inr ne ↦ ap (λ (z : Session). z.steps) (session_kept y y_node ne) ∙ stands.shaped.link_steps y y_node
        ];
        there = stands.shaped.there;
        cache_steps = stands.shaped.cache_steps;
        cache_heads = stands.shaped.cache_heads;
        cache_demands = stands.shaped.cache_demands;
        published_count = stands.shaped.published_count;
        same_limits = stands.shaped.same_limits;
      };
      counts = λ d leaf. did.counted d leaf ∙ elim (cases_eq d x) [
        | inl e ↦
            ap (update (λ (i : ℕ). get_or c.counts i 0) x n) e ∙ updated_same (λ (i : ℕ). get_or c.counts i 0) x n
            ∙ sym (ap (update s.counts x n) e ∙ updated_same s.counts x n)
        | inr ne ↦ updated_other (λ (i : ℕ). get_or c.counts i 0) x n d ne ∙ stands.counts d leaf ∙ sym (updated_other s.counts x n d ne)
      ];
      closed = stands.closed;
      states = λ d leaf. did.moved d leaf ∙ elim (cases_eq d x) [
        | inl e ↦
            ap (update (λ (i : ℕ). get_or c.states i (pos 0)) x (state plan x n)) e
            ∙ updated_same (λ (i : ℕ). get_or c.states i (pos 0)) x (state plan x n)
            ∙ ap (state plan x) (sym (updated_same s.counts x n)) ∙ ap (λ (i : ℕ). state plan i (update s.counts x n i)) (sym e)
        | inr ne ↦
            updated_other (λ (i : ℕ). get_or c.states i (pos 0)) x (state plan x n) d ne ∙ stands.states d leaf
            ∙ ap (state plan d) (sym (updated_other s.counts x n d ne))
      ];
      powers = stands.powers;
      heads = stands.heads;
      demands = stands.demands;
      bid_offered = λ y y_node. elim (cases_eq y x) [
        | inl e ↦
            ap (λ (z : Session). z.up.offered) (session_new y e) ∙ did.made.up.offered ∙ sym newest_new
            ∙ ap (newest_number_of (plan_lists plan) after_state) (sym e)
        | inr ne ↦ ap (λ (z : Session). z.up.offered) (session_kept y y_node ne) ∙ stands.bid_offered y y_node ∙ sym (newest_other y ne)
      ];
      bid_taken = λ y y_node. elim (cases_eq y x) [
        | inl e ↦ ap (λ (z : Session). z.up.taken) (session_new y e) ∙ did.made.up.taken ∙ stands.bid_taken x node ∙ ap s.learnt (sym e)
        | inr ne ↦ ap (λ (z : Session). z.up.taken) (session_kept y y_node ne) ∙ stands.bid_taken y y_node
      ];
      bids = λ y y_node b waits. elim (cases_eq y x) [
        | inl e ↦
            let waits_there = sym (ap (λ (z : Session). z.up.waiting) (session_new y e)) ∙ waits in
            subst (λ (i : ℕ). BidAgrees plan after_state i b) (sym e) (elim (did.made.up.others b waits_there) [
              | inl is ↦ new_agrees b is
              | inr old ↦ kept_agrees x b (stands.bids x node b old)
            ])
        | inr ne ↦ kept_agrees y b (stands.bids y y_node b (sym (ap (λ (z : Session). z.up.waiting) (session_kept y y_node ne)) ∙ waits))
      ];
      price_offered = λ y y_node.
          let at = subst (λ (k : ℕ). IsNewestDue (plan_lists plan) s y k) (sym (ap (λ d. d.offered) (down_kept y y_node)))
          (stands.price_offered y y_node) in
          record { due = at.due; most = at.most };
      price_taken = λ y y_node. ap (λ d. d.taken) (down_kept y y_node) ∙ stands.price_taken y y_node;
      prices = λ y y_node q waits.
          let at = stands.prices y y_node q (sym (ap (λ d. d.waiting) (down_kept y y_node)) ∙ waits) in
          record { above = at.above; due = at.due; step = at.step; number = at.number };
      window_last = λ y conc. stands.window_last y conc ∙ sym (newest_other y (differs y conc));
      window_answered = stands.window_answered;
      records = stands.records;
      sums = stands.sums;
      newest_heads = stands.newest_heads;
      index = stands.index;
      auction_step = stands.auction_step;
      changed = stands.changed;
      joined = λ d leaf. elim (cases_eq d x) [
        | inl e ↦ ap (λ (i : ℕ). (seat_at ports i).joined) e ∙ the_joined
            ∙ ap (λ (i : ℕ). joined_at (plan_lists plan) i (update s.counts x n i)) (sym e)
        | inr ne ↦
            ap (λ (q : Seat). q.joined) (did.others d ne) ∙ stands.joined d leaf
            ∙ ap (joined_at (plan_lists plan) d) (sym (updated_other s.counts x n d ne))
      ];
      given_none = λ d leaf none. given_kept d ∙ stands.given_none d leaf none;
      given = λ d leaf positive. given_kept d ∙ stands.given d leaf positive;
    };
  }

-- a device that made a change that is legal, and offered its bid, made the move
pub change_made : (plan : PlanData) (c : Core) (s : State) (x n : ℕ)
    (links : List (List Session)) (counts : List ℕ) (states : List ℤ) (ports : List Seat)
    → IsPlan plan → StandsFor plan c s → Legal (plan_lists plan) s (Change x n)
    → DidChange plan c x n links counts states ports (parent (plan_lists plan) x) (place_of plan.entries x)
    → MakesMove plan (changed_core c links counts states ports) s (Change x n)
change_made plan c s x n links counts states ports is_plan stands legal did = change_makes plan is_plan c s stands x n legal links counts states ports did

-- the same by the numbers that were read of the device's parent and of its place there
pub change_did : (plan : PlanData) → IsPlan plan → (c : Core) (s : State) → StandsFor plan c s → (x n y k : ℕ) →
    Legal (plan_lists plan) s (Change x n)
    → y ≡ parent (plan_lists plan) x → k ≡ place_of plan.entries x
    → (links : List (List Session)) (counts : List ℕ) (states : List ℤ) (ports : List Seat) → DidChange plan c x n links counts states ports y k
    → MakesMove plan (changed_core c links counts states ports) s (Change x n)
change_did plan is_plan c s stands x n y k legal e f links counts states ports did =
    change_made plan c s x n links counts states ports is_plan stands legal (
    at_node plan x y k (DidChange plan c x n links counts states ports) e f did)
