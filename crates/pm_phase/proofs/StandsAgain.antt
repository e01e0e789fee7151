-- After a settled phase the parts stand as they stood before it, each device after the changes of the phase.
use Rattle.std.proofs.Common.{◌≡◌, ◌∙◌, sym, ap, subst, ℕ, zero, suc, ◌+◌, ◌≤◌, ◌⊎◌, true, List, []}
use Rattle.std.proofs.Common.{◌∷◌, length, Option, Some, refl, arith, inl, inr, Contains}
use Rattle.std.specs.Prelude.{All, Vec, slice_get}
use Rattle.std.specs.declared.alloc.Global.{Global}
use Rattle.std.proofs.lemmas.Bool.{cases_Bool, cases_eq}
use Rattle.std.proofs.lemmas.List.{length-map}
use Rattle.std.proofs.lemmas.List.Elements.{All-contains}
use Rattle.std.proofs.lemmas.Option.{same_Some, slice_get_within}
use Rattle.pm_base.specs.Cuts.{Cut, cut_of}
use Rattle.pm_cache.specs.Cache.{Cache, child_head, child_demand}
use Rattle.pm_cells.specs.declared.message.UpMessage.{UpMessage}
use Rattle.pm_cells.specs.declared.message.Message.{Message}
use Rattle.pm_cells.specs.declared.message.Message.TheVariants.{Bid}
use Rattle.pm_device.specs.declared.state.Next.{Next}
use Rattle.pm_market.specs.Lists.{Lists, nodes, parent, IsNode, IsLeaf, IsInner, IsConcentrator}
use Rattle.pm_market.proofs.Tree.{leaf_zero}
use Rattle.pm_market.specs.Lists as market
use Rattle.pm_offer.specs.Offers.{device_demand}
use Rattle.pm_plan.specs.Kept.{IsPlan}
use Rattle.pm_plan.specs.Plans.{PlanData, is_leaf, is_member}
use Rattle.pm_plan.specs.Plans as plans
use Rattle.pm_plan.specs.Market.{plan_lists}
use Rattle.pm_plan.proofs.MarketLists.{is_leaf-is, parent-is, nodes_are}
use Rattle.pm_tree.specs.Entries.{place_of}
use Rattle.pm_carried.specs.Carried.{cache_at, entry_head, entry_demand}
use Rattle.pm_phase.specs.KeepingParents.{sent_over, learnt_at, TellsBid, TellsBidMessage, KeepsParent}
use Rattle.pm_phase.specs.Running.{HasRun}
use Rattle.pm_phase.specs.SettledParts.{AreSettled, cache_of_part, cache_of_duty, kept_in, changes_count, cut_after}
use Rattle.pm_phase.specs.Standing.{learnt_of, HadBid, DeviceStands, DutyStands, TellsUpward, TellsEntry, TellsSumEntry, OwnTells, PartStands}
use Rattle.pm_phase.specs.Standing.{PartsStand}
use Rattle.pm_phase.specs.Telling.{AreChanges, TellsChange, TellsMessage, KeepsDevice}
use Rattle.pm_phase.specs.TellingParents.{bids_among, TellsSum}
use Rattle.pm_phase.specs.declared.device.DevicePart.{DevicePart}
use Rattle.pm_phase.specs.declared.ends.UpEnd.{UpEnd}
use Rattle.pm_phase.specs.declared.matcher.Matcher.{Matcher}
use Rattle.pm_phase.specs.declared.node.Duty.{Duty}
use Rattle.pm_phase.specs.declared.node.Duty.TheVariants.{Device, Parent}
use Rattle.pm_phase.specs.declared.node.FreeNode.{FreeNode}
use Rattle.pm_phase.specs.declared.node.NodePart.{NodePart}
use Rattle.pm_phase.specs.declared.phase.PhaseRun.{PhaseRun}
use Rattle.pm_phase.proofs.Ended.{contained, contains_at, own_none, ended_at, part_at, node_at, ended_many}
use Rattle.pm_phase.proofs.EndsKept.{bid_among, left_device, left_concentrator}
use Rattle.pm_phase.proofs.PhaseLeft as phase

-- ---- a bid that the node above had before the phase

abbrev bid_alone : UpMessage → List Message
bid_alone bid = Bid bid ∷ []

own_bid : (plan : PlanData) (x : ℕ) (bid : UpMessage) (duty : Duty) → TellsUpward plan x duty bid → OwnTells (bid_alone bid) duty
own_bid plan x bid (Device device) told = tt
own_bid plan x bid (Parent parent) told = alone
  where
    alone : All (TellsBidMessage parent.matcher) (bid_alone bid)
    alone zero d lt = told
    alone (suc k) d lt = absurd (omega (arith, lt))

change_told : (plan : PlanData) (d before : ℕ) (bid : UpMessage) (duty : Duty) → DutyStands plan d before duty → is_leaf plan d ≡ true →
    TellsUpward plan d duty bid → TellsChange plan d bid
change_told plan d before bid (Device device) stands leaf told = told
change_told plan d before bid (Parent parent) stands leaf told = absurd (stands.shaped.inner leaf)

device_stands : (plan : PlanData) (d before count : ℕ) (device : DevicePart) (up : UpEnd) → device.made ≡ count →
    KeepsDevice plan d before device up.end →
    DeviceStands plan d (before + count) device
device_stands plan d before count device up made kept = record {
  agent = kept.agent;
  member = kept.member ∙ ap (λ (n : ℕ). is_member plan d (before + n)) made;
  joined = λ is. let j = kept.joined is in (j.0, j.1, omega (arith, j.2, made));
  left = kept.left;
  waits = kept.waits;
}

module _ (plan : PlanData) (is_plan : IsPlan plan) (before : List ℕ) (changes : List (Vec Next Global)) (parts : List NodePart) (run : PhaseRun)
    (stand : PartsStand plan parts (cut_of before)) (next : AreChanges plan (cut_of before) changes) (ran : HasRun plan changes parts run)
    (settled : AreSettled plan run.parts.items before changes run.links.items) where
  abbrev lists : Lists
  lists = plan_lists plan

  abbrev cut : Cut
  cut = cut_of before

  abbrev now : List NodePart
  now = run.parts.items

  abbrev later : Cut
  later = cut_after before changes

  back : (x : ℕ) (node : FreeNode) → slice_get ran.ended x ≡ Some node → slice_get now x ≡ Some node.part
  back x node at = part_at plan cut changes parts run stand next ran x node at

  number_of : (x : ℕ) (node : FreeNode) → slice_get ran.ended x ≡ Some node → node.part.number ≡ x
  number_of x node at = (ended_at plan cut changes parts run stand next ran x node at).number

  now_many : length now ≡ length plan.entries + 1
  now_many =
      ap length ran.back ∙ length-map ran.ended (λ (n : FreeNode). n.part) ∙ ended_many plan cut changes parts run stand next ran

  abbrev ParentHere : ℕ → FreeNode → Type 0
  ParentHere y node = phase.ParentEnded plan cut parts (phase.c plan is_plan before changes parts run stand next ran settled) y node

  kept : (y : ℕ) (node : FreeNode) (p : ParentHere y node) (own : List Message) → OwnTells own p.is.part.duty →
      KeepsParent plan y (cache_of_duty p.is.part.duty) (learnt_of p.is.part.duty) own p.parent node.up node.downs.items
  kept y node p own tells =
      phase.parent_kept plan cut parts (phase.c plan is_plan before changes parts run stand next ran settled) y node p own tells

  parent_stands : (y : ℕ) (node : FreeNode) (p : ParentHere y node) → DutyStands plan y (later y) node.part.duty
  parent_stands y node p =
      let is = (kept y node p [] (own_none p.is.part.duty)).part in
      subst (DutyStands plan y (later y)) (sym p.duty) (record { shaped = is.shaped; tells = is.own; waits = is.waits })

  -- the auctioneer
  root_stands : (node : FreeNode) → slice_get ran.ended 0 ≡ Some node → PartStands plan now later 0 node.part
  root_stands node at =
      let p = phase.inner_at plan is_plan before changes parts run stand next ran settled 0 node at (omega arith) (leaf_zero lists) in
      record {
        number = number_of 0 node at;
        stands = parent_stands 0 node p;
        told = λ bid had.
            subst (λ (d : Duty). TellsUpward plan 0 d bid) (sym p.duty) (subst (λ (m : Matcher). TellsBid m bid) (sym (p.root refl)) tt);
        entry =
            subst
            (λ (d : Duty). TellsEntry plan 0 d (kept_in plan now 0)
            (child_demand (cache_of_part (slice_get now (plans.parent plan 0))) (place_of plan.entries 0)))
            (sym p.duty)
            (subst
            (λ (m : Matcher). TellsSumEntry m (kept_in plan now 0)
            (child_demand (cache_of_part (slice_get now (plans.parent plan 0))) (place_of plan.entries 0)))
            (sym (p.root refl)) tt);
      }

  -- ---- a node with the link above it

  module _ (x : ℕ) (node : IsNode lists x) where
    abbrev link : phase.LinkEnded plan ran.ended run.links.items x
    link = phase.link_at plan is_plan before changes parts run stand next ran settled x node

    abbrev place : ℕ
    place = place_of plan.entries x

    abbrev y : ℕ
    y = parent lists x

    abbrev part : NodePart
    part = link.child.part

    abbrev above : ParentHere y link.above
    above = phase.above plan is_plan before changes parts run stand next ran settled x node

    -- the part that has the bid is that of the node above
    above_is : (bid : UpMessage) (had : HadBid plan now x bid) → had.above ≡ link.above.part
    above_is bid had =
        let at = contained now had.above had.has in
        let inside : at.0 ≤ length plan.entries = omega (arith, slice_get_within now at.0 had.above at.1, now_many) in
        let found = node_at plan cut changes parts run stand next ran at.0 inside in
        let same : had.above ≡ found.0.part = same_Some had.above found.0.part (sym at.1 ∙ back at.0 found.0 found.1) in
        let here : at.0 ≡ y =
        sym (number_of at.0 found.0 found.1) ∙ ap (λ (p : NodePart). p.number) (sym same) ∙ had.number ∙ sym (parent-is plan x) in
        same_Some had.above link.above.part (sym at.1 ∙ ap (slice_get now) here ∙ back y link.above link.above_at)

    -- as it had the bid before the phase, or as it took it from the link
    bid_source : (bid : UpMessage) → HadBid plan now x bid →
        ((was : NodePart) → slice_get parts x ≡ Some was → TellsUpward plan x was.duty bid) ⊎ Contains link.up.end.known.up.sent (Bid bid)
    bid_source bid had =
        by
        ((phase.child_kept plan is_plan before changes parts run stand next ran settled x node).learnt bid
        (ap (λ (d : Duty). learnt_at (learnt_of d) place) (sym above.duty)
        ∙ ap (λ (p : NodePart). learnt_at (learnt_of p.duty) place) (sym (above_is bid had)) ∙ had.learnt))
      where
        by : (learnt_at (learnt_of above.is.part.duty) place ≡ Some bid) ⊎ Contains (bids_among link.down.end.known.up.received) bid →
            ((was : NodePart) → slice_get parts x ≡ Some was → TellsUpward plan x was.duty bid) ⊎ Contains link.up.end.known.up.sent (Bid bid)
        by (inl was) = inl (λ part here. (stand.each x part here).told bid (record {
          above = above.is.part;
          has = contains_at parts y above.is.part above.is.was;
          number = (stand.each y above.is.part above.is.was).number ∙ parent-is plan x;
          learnt = was;
        }))
        by (inr came) = inr (link.took.bids (Bid bid) (bid_among link.down.end.known.up.received bid came))

    cache_now : cache_at (phase.c plan is_plan before changes parts run stand next ran settled) y
        ≡ cache_of_part (slice_get now (plans.parent plan x))
    cache_now =
        above.cache ∙ sym (ap cache_of_part (back y link.above link.above_at) ∙ ap cache_of_duty above.duty)
        ∙ ap (λ (j : ℕ). cache_of_part (slice_get now j)) (parent-is plan x)

    device_again : IsLeaf lists x → PartStands plan now later x part
    unfolding entry_head entry_demand
    device_again leaf =
        let device = phase.device_at plan is_plan before changes parts run stand next ran settled x link.child link.child_at leaf in
        let keeps = phase.device_keeps plan is_plan before changes parts run stand next ran settled x node leaf in
        let is = ended_at plan cut changes parts run stand next ran x link.child link.child_at in
        let leaf_is : is_leaf plan x ≡ true = sym (is_leaf-is plan x) ∙ leaf in
        record {
          number = number_of x link.child link.child_at;
          stands = subst (DutyStands plan x (later x)) (sym device.1)
              (device_stands plan x (cut x) (changes_count (slice_get changes x)) device.0 link.up device.2 keeps);
          told = λ bid had. subst (λ (d : Duty). TellsUpward plan x d bid) (sym device.1) (elim (bid_source bid had) [
            | inl was ↦ change_told plan x (cut x) bid is.part.duty (stand.each x is.part is.was).stands leaf_is (was is.part is.was)
            | inr sent ↦ All-contains (TellsMessage plan x) link.up.end.known.up.sent (Bid bid) keeps.sent sent
          ]);
          entry = subst (λ (d : Duty). TellsEntry plan x d (kept_in plan now x) (child_demand (cache_of_part (slice_get now (plans.parent plan x))) place))
              (sym device.1)
              (subst (λ (q : Cache). child_demand q place ≡ device_demand plan x (child_head q place).number) cache_now
              (left_device plan is_plan (phase.c plan is_plan before changes parts run stand next ran settled)
              (phase.is_left plan is_plan before changes parts run stand next ran settled) x leaf));
        }

    concentrator_again : IsConcentrator lists x → PartStands plan now later x part
    unfolding entry_head entry_demand
    concentrator_again conc =
        let p = phase.inner_at plan is_plan before changes parts run stand next ran settled x link.child link.child_at conc.1 conc.2 in
        let sent = subst (λ (u : Option UpEnd). All (TellsBidMessage p.parent.matcher) (sent_over u)) link.has_up
        (kept x link.child p [] (own_none p.is.part.duty)).sent in
        record {
          number = number_of x link.child link.child_at;
          stands = parent_stands x link.child p;
          told = λ bid had. subst (λ (d : Duty). TellsUpward plan x d bid) (sym p.duty) (elim (bid_source bid had) [
            | inl was ↦ (kept x link.child p (bid_alone bid) (own_bid plan x bid p.is.part.duty (was p.is.part p.is.was))).told 0 (Bid bid) (omega arith)
            | inr put ↦ All-contains (TellsBidMessage p.parent.matcher) link.up.end.known.up.sent (Bid bid) sent put
          ]);
          entry = subst (λ (d : Duty). TellsEntry plan x d (kept_in plan now x) (child_demand (cache_of_part (slice_get now (plans.parent plan x))) place))
              (sym p.duty)
              (subst (λ (m : Matcher). TellsSumEntry m (kept_in plan now x) (child_demand (cache_of_part (slice_get now (plans.parent plan x))) place))
              (sym (p.inner conc.0))
              (subst
              (λ (q : Cache). TellsSum ((phase.c plan is_plan before changes parts run stand next ran settled).concentrators x)
              (child_head q place).number (child_demand q place)) cache_now
              (left_concentrator plan is_plan (phase.c plan is_plan before changes parts run stand next ran settled)
              (phase.is_left plan is_plan before changes parts run stand next ran settled) x conc)));
        }

    linked_again : PartStands plan now later x part
    linked_again = elim (cases_Bool (market.is_leaf lists x)) [
      | inl leaf ↦ device_again leaf
      | inr inner ↦ concentrator_again (node.0, node.1, inner)
    ]

  node_again : (x : ℕ) (node : FreeNode) → slice_get ran.ended x ≡ Some node → PartStands plan now later x node.part
  node_again x node at = elim (cases_eq x 0) [
    | inl e ↦
        subst (λ (j : ℕ). PartStands plan now later j node.part) (sym e) (root_stands node (ap (slice_get ran.ended) (sym e) ∙ at))
    | inr ne ↦
        let many = ended_many plan cut changes parts run stand next ran in
        let is : IsNode lists x = (omega arith, omega (arith, slice_get_within ran.ended x node at, many, nodes_are plan)) in
        subst (λ (n : FreeNode). PartStands plan now later x n.part) (same_Some (link x is).child node (sym (link x is).child_at ∙ at)) (linked_again x is)
  ]

  -- all parts stand again
  pub stands_again : PartsStand plan now later
  stands_again = record {
    many = now_many;
    each = λ x part here.
        let inside : x ≤ length plan.entries = omega (arith, slice_get_within now x part here, now_many) in
        let found = node_at plan cut changes parts run stand next ran x inside in
        subst (PartStands plan now later x) (same_Some found.0.part part (sym (back x found.0 found.1) ∙ here)) (node_again x found.0 found.1);
  }
