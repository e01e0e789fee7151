-- In a settled phase the end that is read of the nodes is the plain auction's.
use Rattle.std.proofs.Common.{◌≡◌, ◌∙◌, sym, ap, ℕ, ◌<◌, ◌≤◌, ℤ, Bool, true, false, List, [], ◌∷◌, length, leb, Some}
use Rattle.std.proofs.Common.{None, Contains, refl, arith, inl, inr}
use Rattle.std.specs.Prelude.{is_some, ◌&&◌}
use Rattle.std.proofs.Math.ListN.{get_or-eq_default}
use Rattle.std.proofs.lemmas.List.Elements.{Contains-append_right}
use Rattle.std.proofs.lemmas.Bool.{cases_Bool, cases_lt, both_ways, cond-true, le-leb}
use Rattle.pm_base.specs.Cuts.{Cut}
use Rattle.pm_bid.specs.Bids.{demand_at}
use Rattle.pm_bid.specs.Limited.{local_step}
use Rattle.pm_cache.specs.Cache.{aggregate_of}
use Rattle.pm_session.specs.Ports.{Seat, held_by}
use Rattle.pm_session.specs.declared.price.PriceUpdate.{PriceUpdate}
use Rattle.pm_market.specs.Lists.{Lists, is_leaf, IsLeaf, IsConcentrator}
use Rattle.pm_market.proofs.Tree.{leaf_node}
use Rattle.pm_plan.specs.Kept.{IsPlan}
use Rattle.pm_plan.specs.Plans.{PlanData, NodeData, node, limits_of, is_device, is_limited, is_member, node_numbers}
use Rattle.pm_plan.specs.declared.node.Node.TheVariants.{Concentrator, Limited, Device}
use Rattle.pm_plan.specs.Auction.{plain_step, sum_in, local_step_in, local_step_of_group, demand_in_cut, power, member_line, limited_line}
use Rattle.pm_plan.specs.States.{state, end_of}
use Rattle.pm_plan.specs.EndLines.{members_to, limited_to}
use Rattle.pm_plan.specs.Market.{plan_lists}
use Rattle.pm_plan.proofs.MarketLists.{lawful, is_leaf-is}
use Rattle.pm_plan.proofs.EndLines.{member_line_is, limited_line_is, end_is}
use Rattle.pm_plan.proofs.Drafts.{limited_is_no_root}
use Rattle.pm_offer.specs.Offers.{device_demand}
use Rattle.pm_offer.proofs.Alike.{listed_alike}
use Rattle.pm_offer.proofs.Laws as laws
use Rattle.pm_offer.proofs.Offers.{limited_sum}
use Rattle.pm_offer.proofs.Steps.{demand_is, no_member}
use Rattle.pm_offer.proofs.GroupNodes.{nodes_are}
use Rattle.pm_carried.specs.Carried.{Carried, last_price, carried_power, entry_demand, is_port_joined, carried_member, carried_step, carried_limited}
use Rattle.pm_carried.specs.Carried.{carried_end}
use Rattle.pm_carried.specs.Kept.{TellsByNumber}
use Rattle.pm_carried.specs.Settled.{IsSettledOver}
use Rattle.pm_carried.proofs.Bids.{cache_inner, sum_came, total_came, step_came}
use Rattle.pm_carried.proofs.Prices.{local_price}

-- a limited concentrator is one of the nodes
limited_concentrator : (plan : PlanData) (g : ℕ) → IsPlan plan → is_limited plan g ≡ true → IsConcentrator (plan_lists plan) g
limited_concentrator plan g is_plan limited = (
  limited_is_no_root plan g limited,
  elim (cases_lt (length plan.nodes) g) [
    | inl past ↦ absurd (both_ways (is_limited plan g) (no_limits_past plan g past) limited)
    | inr near ↦ omega (arith, near, nodes_are plan is_plan)
  ],
  is_leaf-is plan g ∙ sym (is_plan.nodes.devices g) ∙ no_device (node plan g) limited,
)
  where
    no_limits_past : (plan : PlanData) (g : ℕ) → length plan.nodes < g → is_limited plan g ≡ false
    no_limits_past plan g past =
        ap (λ (n : NodeData). is_some (limits_of n)) (get_or-eq_default (Concentrator ∷ plan.nodes) Concentrator {n = g} (omega arith))

    no_device : (n : NodeData) → is_some (limits_of n) ≡ true → is_device n ≡ false
    no_device Concentrator e = refl
    no_device (Limited limits) e = refl
    no_device (Device planned) e = absurd (cc e)

-- the price that a joined port holds
held_is : (seat : Seat) (join : ℕ) (price : PriceUpdate) → seat.joined ≡ Some join → seat.given ≡ Some price → join ≤ price.number →
    held_by seat ≡ Some (record { step = price.step; number = price.number; index = price.index })
held_is seat join price joined given newer =
    let s : Seat = record { joined = Some join; given = Some price } in
    let same : seat ≡ s = λ i. record { joined = joined i; given = given i } in
    ap held_by same ∙ cond-true (leb join price.number) _ None (le-leb join price.number newer)

-- the message that came last came
newest_came : (came : List PriceUpdate) (price : PriceUpdate) → last_price came ≡ Some price → Contains came price
newest_came [] price none = absurd (cc none)
newest_came (p ∷ []) price last = Contains-append_right [] (p ∷ []) price (let same : p ≡ price = cc last in (0, omega arith, same))
newest_came (p ∷ q ∷ rest) price last = Contains-append_right (p ∷ []) (q ∷ rest) price (newest_came (q ∷ rest) price last)

module _ (plan : PlanData) (is_plan : IsPlan plan) (cut : Cut) (c : Carried) (kept : TellsByNumber plan c) (settled : IsSettledOver plan cut c) where
  abbrev lists : Lists
  lists = plan_lists plan

  demand_came : (d : ℕ) → IsLeaf lists d → entry_demand plan c d ≡ demand_in_cut plan (state plan) cut d
  demand_came d leaf = (kept.devices d leaf).demand ∙ ap (device_demand plan d) (settled.learnt d leaf) ∙ sym (demand_is plan cut d)

  -- a member holds its local step
  step_held : (d : ℕ) → IsLeaf lists d → is_member plan d (cut d) ≡ true →
      carried_power (held_by (c.seats d)) (entry_demand plan c d) ≡ demand_at (entry_demand plan c d) (local_step_in plan (state plan) cut d)
  step_held d leaf member =
      let seat = kept.seats d leaf in
      let last = settled.prices d leaf member in
      let price = last.price in
      let local = local_price plan is_plan cut c kept settled d price (leaf_node lists (lawful plan is_plan) d leaf)
      (newest_came (c.came d) price last.last) last.index in
      let j = seat.joined (ap (is_member plan d) (settled.made d leaf) ∙ member) in
      let inside : price.step < plan.basis.steps = omega (arith, local.step, laws.local_inside plan d cut is_plan) in
      let newer : j.0 ≤ price.number = omega (arith, j.2, settled.made d leaf, local.number, settled.learnt d leaf) in
      ap (λ h. carried_power h (entry_demand plan c d)) (held_is (c.seats d) j.0 price j.1 (seat.given price last.last inside) newer)
      ∙ ap (demand_at (entry_demand plan c d)) local.step

  power_came : (d : ℕ) → IsLeaf lists d → is_member plan d (cut d) ≡ true →
      carried_power (held_by (c.seats d)) (entry_demand plan c d) ≡ power plan (state plan) cut d
  unfolding power
  power_came d leaf member =
      step_held d leaf member ∙ ap (λ (bid : List ℤ). demand_at bid (local_step_in plan (state plan) cut d)) (demand_came d leaf)

  joined_came : (d : ℕ) → is_port_joined plan c d ≡ is_member plan d (cut d)
  joined_came d = elim (cases_Bool (is_leaf lists d)) [
    | inl leaf ↦ ap (λ b. b && is_some (c.seats d).joined) (sym (is_leaf-is plan d) ∙ leaf) ∙ at_leaf d leaf
    | inr inner ↦ ap (λ b. b && is_some (c.seats d).joined) (sym (is_leaf-is plan d) ∙ inner) ∙ sym (no_member plan is_plan d (cut d) inner)
  ]
    where
      at_leaf : (d : ℕ) → IsLeaf lists d → is_some (c.seats d).joined ≡ is_member plan d (cut d)
      at_leaf d leaf = elim (cases_Bool (is_member plan d (cut d))) [
        | inl member ↦
            let j = (kept.seats d leaf).joined (ap (is_member plan d) (settled.made d leaf) ∙ member) in
            ap is_some j.1 ∙ sym member
        | inr out ↦ ap is_some ((kept.seats d leaf).left (ap (is_member plan d) (settled.made d leaf) ∙ out)) ∙ sym out
      ]

  member_came : (d : ℕ) → is_port_joined plan c d ≡ true → carried_member plan c d ≡ member_line plan (state plan) cut d
  unfolding carried_member
  member_came d joined =
      let member : is_member plan d (cut d) ≡ true = sym (joined_came d) ∙ joined in
      elim (cases_Bool (is_leaf lists d)) [
        | inl leaf ↦ member_line_is plan (state plan) cut d _ _ (power_came d leaf member) (settled.learnt d leaf)
        | inr inner ↦ absurd (both_ways (is_member plan d (cut d)) (no_member plan is_plan d (cut d) inner) member)
      ]

  limited_came : (g : ℕ) → is_limited plan g ≡ true → carried_limited plan c g ≡ limited_line plan (state plan) cut g
  unfolding carried_limited local_step_of_group
  limited_came g limited =
      let conc = limited_concentrator plan g is_plan limited in
      let sum_is : aggregate_of (c.concentrators g).cache ≡ sum_in plan (state plan) cut g =
      ap aggregate_of (sym (cache_inner c g conc.0)) ∙ sum_came plan is_plan cut c kept settled g conc.1 conc.2
      ∙ sym (limited_sum plan is_plan g cut limited) in
      limited_line_is plan (state plan) cut g (carried_step plan c g) (aggregate_of (c.concentrators g).cache) _
      (ap (λ k. local_step (limits_of (node plan g)) k (aggregate_of (c.concentrators g).cache)) (step_came plan is_plan cut c kept settled)
      ∙ ap (local_step (limits_of (node plan g)) (plain_step plan (state plan) cut)) sum_is) sum_is refl

  end_came : carried_end plan c ≡ end_of plan cut
  unfolding carried_end members_to limited_to
  end_came =
      end_is plan cut c.auctioneer.step _ _ (aggregate_of c.auctioneer.cache) _ _ (step_came plan is_plan cut c kept settled) refl refl
      (total_came plan is_plan cut c kept settled)
      (listed_alike (carried_member plan c) (member_line plan (state plan) cut) (is_port_joined plan c)
      (λ d. is_member plan d (cut d)) joined_came member_came (node_numbers plan))
      (listed_alike (carried_limited plan c) (limited_line plan (state plan) cut) (is_limited plan) (is_limited plan) (λ g. refl) limited_came
      (node_numbers plan))

-- the law
pub settled_end : (plan : PlanData) (cut : Cut) (c : Carried) → IsPlan plan → TellsByNumber plan c → IsSettledOver plan cut c →
    carried_end plan c ≡ end_of plan cut
settled_end plan cut c is_plan kept settled = end_came plan is_plan cut c kept settled
