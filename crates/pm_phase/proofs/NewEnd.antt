-- Parts to which nobody sent anything hold the end over no changes.
use Rattle.std.proofs.Common.{◌≡◌, ◌∙◌, sym, ap, subst, ℕ, ◌<◌, ◌≤◌, true, false, List, []}
use Rattle.std.proofs.Common.{length, Option, None, refl, arith, inl, inr}
use Rattle.std.specs.Prelude.{slice_get}
use Rattle.std.proofs.lemmas.Bool.{cases_eq}
use Rattle.std.proofs.lemmas.List.{length-replicate, get_or-replicate}
use Rattle.std.proofs.lemmas.Option.{slice_get_within}
use Rattle.pm_auctioneer.specs.Auctions.{Auction, new_auction}
use Rattle.pm_base.specs.Cuts.{Cut}
use Rattle.pm_bid.specs.Bids.{zeros}
use Rattle.pm_bid.specs.Heads.{nothing_sent}
use Rattle.pm_bid.specs.Limited.{within_limits}
use Rattle.pm_bid.specs.declared.head.BidHead.{BidHead}
use Rattle.pm_bid.proofs.Limited.{within_limits-zeros}
use Rattle.pm_cache.specs.Cache.{Cache, empty_cache, aggregate_of, child_head, child_demand}
use Rattle.pm_concentrator.specs.Concentrators.{IsNewConcentrator}
use Rattle.pm_market.specs.Lists.{Lists, nodes, parent, IsNode, IsLeaf, IsInner, IsConcentrator}
use Rattle.pm_market.proofs.Tree.{leaf_node}
use Rattle.pm_offer.specs.Offers.{device_demand}
use Rattle.pm_offer.proofs.Nothing.{demand_zero}
use Rattle.pm_plan.specs.Kept.{IsPlan}
use Rattle.pm_plan.specs.Plans.{PlanData, limits_of, is_leaf, is_member}
use Rattle.pm_plan.specs.Plans as plans
use Rattle.pm_plan.specs.Market.{plan_lists}
use Rattle.pm_plan.proofs.MarketLists.{lawful, limits_around, is_leaf-is, parent-is, nodes_are}
use Rattle.pm_session.specs.Ports.{Seat}
use Rattle.pm_tree.specs.Entries.{place_of, children_of}
use Rattle.pm_tree.proofs.Places.{child_at_place}
use Rattle.pm_carried.specs.Carried.{Carried, cache_at, entry_head, entry_demand}
use Rattle.pm_carried.specs.Kept.{TellsByNumber}
use Rattle.pm_carried.specs.Settled.{IsSettledOver}
use Rattle.pm_carried.proofs.Bids.{cache_root, cache_inner}
use Rattle.pm_carried.proofs.Ends.{settled_end}
use Rattle.pm_phase.specs.Matchers.{child_count, IsNewMatcher}
use Rattle.pm_phase.specs.Nodes.{IsNewDuty, AreNewParts}
use Rattle.pm_phase.specs.PartsEnd.{held_of_parts, EndsPlainly}
use Rattle.pm_phase.specs.SettledParts.{of_part, auction_of_duty, auction_of_matcher, gathered_of_duty, gathered_of_matcher, no_gathered, seat_of_duty}
use Rattle.pm_phase.specs.SettledParts.{made_of_duty}
use Rattle.pm_phase.specs.declared.device.DevicePart.{DevicePart}
use Rattle.pm_phase.specs.declared.matcher.Matcher.{Matcher}
use Rattle.pm_phase.specs.declared.matcher.Matcher.TheVariants.{Concentrator, Auctioneer}
use Rattle.pm_phase.specs.declared.node.Duty.{Duty}
use Rattle.pm_phase.specs.declared.node.Duty.TheVariants.{Device, Parent}
use Rattle.pm_phase.specs.declared.node.NodePart.{NodePart}
use Rattle.pm_phase.proofs.Ended.{at_inside}
use Rattle.pm_phase.proofs.HeldEnd.{agent_leaf, no_seat, member_joined, held_is}
use Rattle.pm_phase.proofs.NewParts.{new_auction_tells, new_sum, new_stand}

new_root : (plan : PlanData) → IsPlan plan → (duty : Duty) → is_leaf plan 0 ≡ false → IsNewDuty plan 0 duty →
    auction_of_duty duty ≡ new_auction (child_count plan 0) plan.basis.steps
new_root plan is_plan (Device device) inner new = absurd (let both = sym inner ∙ agent_leaf plan is_plan 0 device.agent new.0 in cc both)
new_root plan is_plan (Parent parent) inner new = by parent.matcher new.1.matcher
  where
    by : (m : Matcher) → IsNewMatcher plan 0 m → auction_of_matcher m ≡ new_auction (child_count plan 0) plan.basis.steps
    by (Concentrator g) is = absurd (is.0 refl)
    by (Auctioneer a) is = is.1

new_concentrator : (plan : PlanData) → IsPlan plan → (y : ℕ) (duty : Duty) → 1 ≤ y → is_leaf plan y ≡ false → IsNewDuty plan y duty →
    IsNewConcentrator (child_count plan y) plan.basis.steps (limits_of (plans.node plan y)) (gathered_of_duty duty)
new_concentrator plan is_plan y (Device device) low inner new = absurd (let both = sym inner ∙ agent_leaf plan is_plan y device.agent new.0 in cc both)
new_concentrator plan is_plan y (Parent parent) low inner new = by parent.matcher new.1.matcher
  where
    by : (m : Matcher) → IsNewMatcher plan y m →
        IsNewConcentrator (child_count plan y) plan.basis.steps (limits_of (plans.node plan y)) (gathered_of_matcher m)
    by (Concentrator g) is = is.1
    by (Auctioneer a) is = absurd (omega (arith, is.0, low))

-- a device made no change, and its port is joined by none
record IsIdle (made : ℕ) (seat : Seat) : Type 0 where
  none : made ≡ 0
  left : seat.joined ≡ None

idle_duty : (plan : PlanData) (d : ℕ) (duty : Duty) → IsNewDuty plan d duty → IsIdle (made_of_duty duty) (seat_of_duty duty)
idle_duty plan d (Device device) new = record { none = ap (λ (p : DevicePart). p.made) new.1; left = ap (λ (p : DevicePart). p.port.joined) new.1 }
idle_duty plan d (Parent parent) new = record { none = refl; left = refl }

module _ (plan : PlanData) (is_plan : IsPlan plan) (parts : List NodePart) (new : AreNewParts plan parts) where
  abbrev lists : Lists
  lists = plan_lists plan

  abbrev none_made : Cut
  none_made d = 0

  abbrev c : Carried
  c = held_of_parts parts

  inside : (y : ℕ) → y ≤ nodes lists → y < length parts
  inside y le = omega (arith, le, nodes_are plan, new.many)

  root_is : c.auctioneer ≡ new_auction (child_count plan 0) plan.basis.steps
  root_is =
      let at = at_inside parts 0 (inside 0 (omega arith)) in
      ap (of_part auction_of_duty (new_auction 0 0)) at.1 ∙ new_root plan is_plan at.0.duty refl (new.duties 0 at.0 at.1)

  concentrator_is : (y : ℕ) → IsConcentrator lists y →
      IsNewConcentrator (child_count plan y) plan.basis.steps (limits_of (plans.node plan y)) (c.concentrators y)
  concentrator_is y conc =
      let at = at_inside parts y (inside y conc.1) in
      subst (IsNewConcentrator (child_count plan y) plan.basis.steps (limits_of (plans.node plan y))) (sym (ap (of_part gathered_of_duty no_gathered) at.1))
      (new_concentrator plan is_plan y at.0.duty conc.0 (sym (is_leaf-is plan y) ∙ conc.2) (new.duties y at.0 at.1))

  cache_is : (y : ℕ) → y ≤ nodes lists → IsInner lists y → cache_at c y ≡ empty_cache (child_count plan y) plan.basis.steps
  cache_is y le inner = elim (cases_eq y 0) [
    | inl e ↦
        ap (cache_at c) e ∙ cache_root c ∙ ap (λ (a : Auction). a.cache) root_is
        ∙ ap (λ (j : ℕ). empty_cache (child_count plan j) plan.basis.steps) (sym e)
    | inr ne ↦
        let low : 1 ≤ y = omega arith in
        cache_inner c y low ∙ (concentrator_is y (low, le, inner)).cache
  ]

  idle : (d : ℕ) → IsLeaf lists d → IsIdle (c.made d) (c.seats d)
  idle d leaf =
      let node = leaf_node lists (lawful plan is_plan) d leaf in
      let at = at_inside parts d (inside d node.1) in
      let is = idle_duty plan d at.0.duty (new.duties d at.0 at.1) in
      record {
        none =
            let made = ap (of_part made_of_duty 0) at.1 ∙ is.none in
            omega (arith, made);
        left = ap (λ (o : Option NodePart). (of_part seat_of_duty no_seat o).joined) at.1 ∙ is.left;
      }

  not_joined : (d : ℕ) → IsLeaf lists d → is_member plan d (c.made d) ≡ true → ⊥
  unfolding is_member
  not_joined d leaf member =
      let none = ap (is_member plan d) (idle d leaf).none in
      let both : false ≡ true = sym none ∙ member in
      cc both

  number_is : (x : ℕ) → IsNode lists x → (entry_head plan c x).number ≡ 0
  unfolding entry_head
  number_is x node =
      let law = lawful plan is_plan in
      let y : ℕ = parent lists x in
      let n : ℕ = child_count plan y in
      let place : ℕ = place_of plan.entries x in
      ap (λ (q : Cache). (child_head q place).number) (cache_is y (omega (arith, law.earlier x node, node.1)) (law.inner x node))
      ∙ ap (λ (h : BidHead). h.number) (get_or-replicate n place nothing_sent nothing_sent (placed x node))
    where
      placed : (x : ℕ) → IsNode lists x → place_of plan.entries x < child_count plan (parent lists x)
      placed x node = slice_get_within (children_of plan.entries (parent lists x)) (place_of plan.entries x) x
          (ap (λ (j : ℕ). slice_get (children_of plan.entries j) (place_of plan.entries x)) (parent-is plan x)
          ∙ child_at_place plan.entries x node.0 (omega (arith, node.1, nodes_are plan)))

  demand_is : (x : ℕ) → IsNode lists x → entry_demand plan c x ≡ zeros plan.basis.steps
  unfolding entry_demand
  demand_is x node =
      let law = lawful plan is_plan in
      let y : ℕ = parent lists x in
      let n : ℕ = child_count plan y in
      let place : ℕ = place_of plan.entries x in
      ap (λ (q : Cache). child_demand q place) (cache_is y (omega (arith, law.earlier x node, node.1)) (law.inner x node))
      ∙ get_or-replicate n place (zeros plan.basis.steps) [] (placed x node)
    where
      placed : (x : ℕ) → IsNode lists x → place_of plan.entries x < child_count plan (parent lists x)
      placed x node = slice_get_within (children_of plan.entries (parent lists x)) (place_of plan.entries x) x
          (ap (λ (j : ℕ). slice_get (children_of plan.entries j) (place_of plan.entries x)) (parent-is plan x)
          ∙ child_at_place plan.entries x node.0 (omega (arith, node.1, nodes_are plan)))

  kept : TellsByNumber plan c
  kept = record {
    shaped = record {
      steps = λ y le inner. ap (λ (q : Cache). q.steps) (cache_is y le inner);
      demands = λ y le inner.
          ap (λ (q : Cache). length q.demands) (cache_is y le inner) ∙ length-replicate (child_count plan y) (zeros plan.basis.steps);
      limits = λ y conc. (concentrator_is y conc).limits;
    };
    auction = new_auction_tells (child_count plan 0) plan.basis.steps c.auctioneer root_is;
    devices = λ d leaf.
        let node = leaf_node lists (lawful plan is_plan) d leaf in
        record { demand = demand_is d node ∙ sym (ap (device_demand plan d) (number_is d node) ∙ demand_zero plan d) };
    concentrators = λ y conc.
        let is = concentrator_is y conc in
        record {
          sum = λ sent some. absurd (omega (arith, some, is.window.last));
          demand = λ sent newest.
              demand_is y (conc.0, conc.1) ∙ sym (
              ap (λ l. within_limits l (aggregate_of (c.concentrators y).cache)) is.limits
              ∙ ap (λ (q : Cache). within_limits (limits_of (plans.node plan y)) (aggregate_of q)) is.cache
              ∙ ap (within_limits (limits_of (plans.node plan y))) (new_sum (child_count plan y) plan.basis.steps)
              ∙ within_limits-zeros (limits_of (plans.node plan y)) plan.basis.steps (λ l told. limits_around plan is_plan y l told)
              );
        };
    seats = λ d leaf. record {
      joined = λ member. absurd (not_joined d leaf member);
      left = λ out. (idle d leaf).left;
      given = λ price last within. absurd (cc last);
    };
    root_prices = λ x price node up has. absurd (let lt = has.1 in omega (arith, lt));
    prices = λ x price node conc has. absurd (let lt = has.1 in omega (arith, lt));
  }

  settled : IsSettledOver plan none_made c
  unfolding is_member
  settled = record {
    made = λ d leaf. (idle d leaf).none;
    learnt = λ d leaf. number_is d (leaf_node lists (lawful plan is_plan) d leaf);
    sent = λ y conc.
        let is = concentrator_is y conc in ap (λ (q : Cache). q.heads) is.cache ∙ sym is.window.opening;
    taken = λ y conc. number_is y (conc.0, conc.1) ∙ sym (concentrator_is y conc).window.last;
    cleared = ap (λ (a : Auction). a.changed) root_is;
    prices = λ d leaf member. absurd (let both : false ≡ true = member in cc both);
  }

  -- new parts hold the end over no changes, and stand
  pub new_ends_plainly : EndsPlainly plan parts none_made
  new_ends_plainly =
      let stand = new_stand plan is_plan parts new in
      record {
        end = held_is plan parts [] (λ x. []) (λ d. member_joined plan is_plan d 0 (slice_get parts d) (λ part here. (stand.each d part here).stands))
            ∙ settled_end plan none_made c is_plan kept settled;
        stand = stand;
      }
