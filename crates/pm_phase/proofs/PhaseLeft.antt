-- The law of settled phases from what the parts were before the phase, and from the numbers after it.
use Rattle.std.proofs.Common.{◌≡◌, ◌∙◌, sym, ap, subst, ℕ, zero, suc, ◌+◌, ◌-◌, ◌<◌, ◌≤◌, ℤ, true, false, List}
use Rattle.std.proofs.Common.{[], ◌∷◌, length, map, get_or, Option, Some, None, refl, arith, inl, inr}
use Rattle.std.specs.Prelude.{All, IfSome, Vec, slice_get, slice_index_or}
use Rattle.std.specs.declared.alloc.Global.{Global}
use Rattle.std.proofs.lemmas.Bool.{cases_eq}
use Rattle.std.proofs.lemmas.Option.{slice_get_within, get_or_from_slice_get}
use Rattle.pm_auctioneer.specs.Auctions.{Auction, new_auction}
use Rattle.pm_base.specs.Cuts.{Cut, cut_of}
use Rattle.pm_cache.specs.Cache.{Cache, child_head, child_demand}
use Rattle.pm_cells.specs.Ends.{LinkEnd}
use Rattle.pm_cells.specs.Numbers.{newest_number}
use Rattle.pm_cells.specs.declared.link.LinkLog.{LinkLog}
use Rattle.pm_cells.specs.declared.message.UpMessage.{UpMessage}
use Rattle.pm_cells.specs.declared.message.Message.{Message}
use Rattle.pm_cells.specs.declared.message.Message.TheVariants.{Bid}
use Rattle.pm_concentrator.specs.Concentrators.{Gathered}
use Rattle.pm_device.specs.declared.state.Next.{Next}
use Rattle.pm_market.specs.Lists.{Lists, nodes, parent, IsNode, IsLeaf, IsInner, IsConcentrator}
use Rattle.pm_market.proofs.Tree.{leaf_node, leaf_zero}
use Rattle.pm_offer.specs.Offers.{device_demand}
use Rattle.pm_plan.specs.Kept.{IsPlan}
use Rattle.pm_plan.specs.Plans.{PlanData, limits_of, is_leaf, is_member}
use Rattle.pm_plan.specs.Plans as plans
use Rattle.pm_plan.specs.Market.{plan_lists}
use Rattle.pm_plan.specs.States.{end_of}
use Rattle.pm_plan.proofs.MarketLists.{lawful, is_leaf-is, parent-is, nodes_are}
use Rattle.pm_session.specs.declared.price.PriceUpdate.{PriceUpdate}
use Rattle.pm_tree.specs.Entries.{place_of}
use Rattle.pm_carried.specs.Carried.{Carried, cache_at, carried_end}
use Rattle.pm_carried.specs.Kept.{HasPlanShape}
use Rattle.pm_carried.proofs.Bids.{cache_root, cache_inner}
use Rattle.pm_phase.specs.Closing.{TookThose, ClosedLink}
use Rattle.pm_phase.specs.KeepingParents.{IsUpHere, IsDownHere, AreDownHere, OverEnd, came_over, sent_over, IsKindOf, IsShapedMatcher, TellsOwn, TellsSumBid}
use Rattle.pm_phase.specs.KeepingParents.{TellsBidMessage, TellsPrice, KeepsChild, KeepsParent}
use Rattle.pm_phase.specs.Matchers.{cache_of_matcher}
use Rattle.pm_phase.specs.Messages.{prices_among}
use Rattle.pm_phase.specs.PhaseEnds.{DeviceLeft, ConcentratorLeft, NodeLeft, AreNodesLeft}
use Rattle.pm_phase.specs.Running.{HasRun}
use Rattle.pm_phase.specs.SettledParts.{AreSettled, AreRead, HasLog, PartCleared, DutyCleared, MatcherCleared, PartSent, DutySent, MatcherSent, PartMade}
use Rattle.pm_phase.specs.SettledParts.{DutyMade}
use Rattle.pm_phase.specs.SettledParts.{cache_of_part, cache_of_duty, kept_in, taken_of, taken_in, changes_count, carried_of, cut_after, of_part, no_gathered}
use Rattle.pm_phase.specs.SettledParts.{auction_of_duty, auction_of_matcher, gathered_of_duty, gathered_of_matcher, seat_of_duty, made_of_duty, member_of_duty}
use Rattle.pm_phase.specs.Standing.{learnt_of, DutyStands, OwnTells, TellsEntry, TellsSumEntry, PartsStand}
use Rattle.pm_phase.specs.Telling.{AreChanges, KeepsDevice, DutyKeeps}
use Rattle.pm_phase.specs.TellingParents.{bids_among, EntryCame, TellsSum, FollowsAbove}
use Rattle.pm_phase.specs.declared.device.DevicePart.{DevicePart}
use Rattle.pm_phase.specs.declared.ends.UpEnd.{UpEnd}
use Rattle.pm_phase.specs.declared.ends.DownEnd.{DownEnd}
use Rattle.pm_phase.specs.declared.matcher.Matcher.{Matcher}
use Rattle.pm_phase.specs.declared.matcher.Matcher.TheVariants.{Concentrator, Auctioneer}
use Rattle.pm_phase.specs.declared.node.Duty.{Duty}
use Rattle.pm_phase.specs.declared.node.Duty.TheVariants.{Device, Parent}
use Rattle.pm_phase.specs.declared.node.FreeNode.{FreeNode}
use Rattle.pm_phase.specs.declared.node.NodePart.{NodePart}
use Rattle.pm_phase.specs.declared.parent.ParentPart.{ParentPart}
use Rattle.pm_phase.specs.declared.phase.PhaseRun.{PhaseRun}
use Rattle.pm_phase.proofs.Ended.{NodeEnded, contained, own_none, ended_at, part_at, node_at}
use Rattle.pm_phase.proofs.EndsKept.{left_ends}
use Rattle.pm_phase.proofs.PartsSettled.{parts_settled}

-- ---- what a duty is, by the numbers that it passed

device_made : (p : Option NodePart) (part : NodePart) (before count kept taken index : ℕ) → p ≡ Some part → PartMade p before count kept taken index →
    (device : DevicePart) × (part.duty ≡ Device device) × (device.made ≡ count)
device_made p part before count kept taken index is made =
    by part.duty (subst (λ (q : Option NodePart). PartMade q before count kept taken index) is made)
  where
    by : (duty : Duty) → DutyMade duty before count kept taken index → (device : DevicePart) × (duty ≡ Device device) × (device.made ≡ count)
    by (Device device) h = (device, refl, h.0)
    by (Parent parent) h = absurd h

concentrator_sent : (p : Option NodePart) (part : NodePart) (kept : ℕ) → p ≡ Some part → PartSent p kept →
    (parent : ParentPart) × (g : Gathered) × (part.duty ≡ Parent parent) × (parent.matcher ≡ Concentrator g)
concentrator_sent p part kept is sent = by part.duty (subst (λ (q : Option NodePart). PartSent q kept) is sent)
  where
    by_matcher : (m : Matcher) → MatcherSent m kept → (g : Gathered) × (m ≡ Concentrator g)
    by_matcher (Concentrator g) h = (g, refl)
    by_matcher (Auctioneer a) h = absurd h

    by : (duty : Duty) → DutySent duty kept → (parent : ParentPart) × (g : Gathered) × (duty ≡ Parent parent) × (parent.matcher ≡ Concentrator g)
    by (Device device) h = absurd h
    by (Parent parent) h = let m = by_matcher parent.matcher h in (parent, m.0, refl, m.1)

auctioneer_cleared : (p : Option NodePart) (part : NodePart) (index : ℕ) → p ≡ Some part → PartCleared p index →
    (parent : ParentPart) × (a : Auction) × (part.duty ≡ Parent parent) × (parent.matcher ≡ Auctioneer a)
auctioneer_cleared p part index is cleared = by part.duty (subst (λ (q : Option NodePart). PartCleared q index) is cleared)
  where
    by_matcher : (m : Matcher) → MatcherCleared m index → (a : Auction) × (m ≡ Auctioneer a)
    by_matcher (Concentrator g) h = absurd h
    by_matcher (Auctioneer a) h = (a, refl)

    by : (duty : Duty) → DutyCleared duty index → (parent : ParentPart) × (a : Auction) × (duty ≡ Parent parent) × (parent.matcher ≡ Auctioneer a)
    by (Device device) h = absurd h
    by (Parent parent) h = let m = by_matcher parent.matcher h in (parent, m.0, refl, m.1)

logged : (o : Option (Option LinkLog)) → HasLog o → (log : LinkLog) × (o ≡ Some (Some log))
logged None h = absurd h
logged (Some None) h = absurd h
logged (Some (Some log)) h = (log, refl)

-- ---- what a duty keeps

-- its ends of links to children are of those links, whatever it does
downs_here : (plan : PlanData) (x before : ℕ) (was : Cache) (had : List (Option UpMessage)) (own : List Message) (duty : Duty) (up : Option UpEnd)
    (downs : List DownEnd) →
    DutyKeeps plan x before was had own duty up downs → AreDownHere plan x downs
downs_here plan x before was had own (Device device) up downs kept = kept.1
downs_here plan x before was had own (Parent parent) up downs kept = λ place d inside. (kept.each place d inside).link

entry_of_device : (plan : PlanData) (d before number : ℕ) (demand : List ℤ) (duty : Duty) → DutyStands plan d before duty → is_leaf plan d ≡ true →
    TellsEntry plan d duty number demand → demand ≡ device_demand plan d number
entry_of_device plan d before number demand (Device device) stands leaf entry = entry
entry_of_device plan d before number demand (Parent parent) stands leaf entry = absurd (stands.shaped.inner leaf)

abbrev entry_bid : ℕ → List ℤ → List Message
entry_bid number demand = Bid (record { number = number; demand = Some demand }) ∷ []

own_entry : (plan : PlanData) (x number : ℕ) (demand : List ℤ) (duty : Duty) → TellsEntry plan x duty number demand →
    OwnTells (entry_bid number demand) duty
own_entry plan x number demand (Device device) entry = tt
own_entry plan x number demand (Parent parent) entry = by parent.matcher entry
  where
    by : (m : Matcher) → TellsSumEntry m number demand → All (TellsBidMessage m) (entry_bid number demand)
    by (Concentrator g) tells zero d lt = (demand, refl, tells)
    by (Concentrator g) tells (suc k) d lt = absurd (omega (arith, lt))
    by (Auctioneer a) tells zero d lt = tt
    by (Auctioneer a) tells (suc k) d lt = absurd (omega (arith, lt))

sum_of_bid : (g : Gathered) (number : ℕ) (demand : List ℤ) → TellsSumBid g (record { number = number; demand = Some demand }) → TellsSum g number demand
sum_of_bid g number demand tells = let same : demand ≡ tells.0 = cc tells.1 in subst (TellsSum g number) (sym same) tells.2

-- ---- after a phase

-- the prices that came to a node
abbrev pub came_to : Option FreeNode → List PriceUpdate
came_to None = []
came_to (Some node) = came_over node.up

-- a node and the one above it, with their ends of the link
pub record LinkEnded (plan : PlanData) (ended : List FreeNode) (links : List (Option LinkLog)) (x : ℕ) : Type 0 where
  -- the node, and its end
  pub child : FreeNode
  pub child_at : slice_get ended x ≡ Some child
  -- its end of the link
  pub up : UpEnd
  pub has_up : child.up ≡ Some up
  -- the node above it, and its end
  pub above : FreeNode
  pub above_at : slice_get ended (parent (plan_lists plan) x) ≡ Some above
  -- the end of that node
  pub down : DownEnd
  pub inside : place_of plan.entries x < length above.downs.items
  -- in the place of the child
  pub has_down : get_or above.downs.items (place_of plan.entries x) down ≡ down
  pub took : TookThose up.end down.end
  -- the log tells what the node took
  pub taken : taken_in links x ≡ newest_number up.end.known.down.takes

-- a node with children
pub record ParentEnded (plan : PlanData) (cut : Cut) (parts : List NodePart) (c : Carried) (y : ℕ) (node : FreeNode) : Type 0 where
  -- what it keeps
  pub is : NodeEnded plan cut parts y node
  pub parent : ParentPart
  -- it is a node with children
  pub duty : node.part.duty ≡ Parent parent
  pub root : y ≡ 0 → parent.matcher ≡ Auctioneer c.auctioneer
  -- a concentrator is the one carried
  pub inner : 1 ≤ y → parent.matcher ≡ Concentrator (c.concentrators y)
  pub cache : cache_at c y ≡ cache_of_matcher parent.matcher

-- what a node with children keeps
pub parent_kept : (plan : PlanData) (cut : Cut) (parts : List NodePart) (c : Carried) (y : ℕ) (node : FreeNode) (p : ParentEnded plan cut parts c y node)
    (own : List Message) → OwnTells own p.is.part.duty →
    KeepsParent plan y (cache_of_duty p.is.part.duty) (learnt_of p.is.part.duty) own p.parent node.up node.downs.items
parent_kept plan cut parts c y node p own tells =
    subst (λ (duty : Duty). DutyKeeps plan y (cut y) (cache_of_duty p.is.part.duty) (learnt_of p.is.part.duty) own duty node.up node.downs.items) p.duty
    (p.is.duty own tells)

module _ (plan : PlanData) (is_plan : IsPlan plan) (before : List ℕ) (changes : List (Vec Next Global)) (parts : List NodePart) (run : PhaseRun)
    (stand : PartsStand plan parts (cut_of before)) (next : AreChanges plan (cut_of before) changes) (ran : HasRun plan changes parts run)
    (settled : AreSettled plan run.parts.items before changes run.links.items) where
  abbrev lists : Lists
  lists = plan_lists plan

  abbrev cut : Cut
  cut = cut_of before

  abbrev pub came : ℕ → List PriceUpdate
  came x = came_to (slice_get ran.ended x)

  abbrev pub c : Carried
  c = carried_of run.parts.items before came

  node_ended : (x : ℕ) (node : FreeNode) → slice_get ran.ended x ≡ Some node → NodeEnded plan cut parts x node
  node_ended x node at = ended_at plan cut changes parts run stand next ran x node at

  back : (x : ℕ) (node : FreeNode) → slice_get ran.ended x ≡ Some node → slice_get run.parts.items x ≡ Some node.part
  back x node at = part_at plan cut changes parts run stand next ran x node at

  within : (x : ℕ) → x ≤ nodes lists → x ≤ length plan.entries
  within x le = omega (arith, le, nodes_are plan)

  -- a leaf is a device that made all its changes
  pub device_at : (d : ℕ) (node : FreeNode) → slice_get ran.ended d ≡ Some node → IsLeaf lists d →
      (device : DevicePart) × (node.part.duty ≡ Device device) × (device.made ≡ changes_count (slice_get changes d))
  device_at d node at leaf =
      let is = leaf_node lists (lawful plan is_plan) d leaf in
      device_made (slice_get run.parts.items d) node.part (slice_index_or before d 0) (changes_count (slice_get changes d)) (kept_in plan run.parts.items d)
      (taken_in run.links.items d) settled.index (back d node at) ((settled.nodes d is.0 (within d is.1)).made (sym (is_leaf-is plan d) ∙ leaf))

  root_at : (node : FreeNode) → slice_get ran.ended 0 ≡ Some node → ParentEnded plan cut parts c 0 node
  root_at node at =
      let now = back 0 node at in
      let is = auctioneer_cleared (slice_get run.parts.items 0) node.part settled.index now settled.cleared in
      let a_is : c.auctioneer ≡ is.1 =
      ap (of_part auction_of_duty (new_auction 0 0)) now ∙ ap auction_of_duty is.2 ∙ ap auction_of_matcher is.3 in
      record {
        is = node_ended 0 node at;
        parent = is.0;
        duty = is.2;
        root = λ zero. is.3 ∙ ap Auctioneer (sym a_is);
        inner = λ low. absurd (omega (arith, low));
        cache = cache_root c ∙ ap (λ (a : Auction). a.cache) a_is ∙ sym (ap cache_of_matcher is.3);
      }

  concentrator_at : (y : ℕ) (node : FreeNode) → slice_get ran.ended y ≡ Some node → IsConcentrator lists y → ParentEnded plan cut parts c y node
  concentrator_at y node at conc =
      let now = back y node at in
      let is = concentrator_sent (slice_get run.parts.items y) node.part (kept_in plan run.parts.items y) now
      ((settled.nodes y conc.0 (within y conc.1)).sent (sym (is_leaf-is plan y) ∙ conc.2)) in
      let g_is : c.concentrators y ≡ is.1 = ap (of_part gathered_of_duty no_gathered) now ∙ ap gathered_of_duty is.2 ∙ ap gathered_of_matcher is.3 in
      record {
        is = node_ended y node at;
        parent = is.0;
        duty = is.2;
        root = λ zero. absurd (omega (arith, zero, conc.0));
        inner = λ low. is.3 ∙ ap Concentrator (sym g_is);
        cache = cache_inner c y conc.0 ∙ ap (λ (g : Gathered). g.cache) g_is ∙ sym (ap cache_of_matcher is.3);
      }

  -- a node with children at the end of the phase
  pub inner_at : (y : ℕ) (node : FreeNode) → slice_get ran.ended y ≡ Some node → y ≤ nodes lists → IsInner lists y →
      ParentEnded plan cut parts c y node
  inner_at y node at le inner = elim (cases_eq y 0) [
    | inl e ↦
        subst (λ (j : ℕ). ParentEnded plan cut parts c j node) (sym e) (root_at node (ap (slice_get ran.ended) (sym e) ∙ at))
    | inr ne ↦ concentrator_at y node at (omega arith, le, inner)
  ]

  -- the link above a node, with the two nodes that had its ends
  pub link_at : (x : ℕ) → IsNode lists x → LinkEnded plan ran.ended run.links.items x
  link_at x node =
      let log = logged (slice_get run.links.items (x - 1)) (settled.nodes x node.0 (within x node.1)).closed in
      let closed : ClosedLink ran.ended (x - 1) log.0 =
      subst (λ (o : Option LinkLog). IfSome o (ClosedLink ran.ended (x - 1))) (get_or_from_slice_get run.links.items (x - 1) (Some log.0) None log.1)
      (ran.closed (x - 1) (slice_get_within run.links.items (x - 1) (Some log.0) log.1)) in
      let from = closed.child_from in
      let over = closed.parent_from in
      let child = contained ran.ended from.node from.has in
      let above = contained ran.ended over.node over.has in
      let child_here : from.up.at + 1 ≡ child.0 = subst (IsUpHere child.0) from.is (node_ended child.0 from.node child.1).up in
      let child_is : child.0 ≡ x = omega (arith, child_here, from.stands, node.0) in
      let is = node_ended above.0 over.node above.1 in
      let down_here : IsDownHere plan above.0 over.is.0 over.down.at =
      subst (λ (d : DownEnd). IsDownHere plan above.0 over.is.0 d.at) over.is.2
      (downs_here plan above.0 (cut above.0) (cache_of_duty is.part.duty) (learnt_of is.part.duty) [] over.node.part.duty over.node.up over.node.downs.items
      (is.duty [] (own_none is.part.duty)) over.is.0 over.down over.is.1) in
      let down_at : over.down.at + 1 ≡ x = omega (arith, over.stands, node.0) in
      let above_is : parent lists x ≡ above.0 = parent-is plan x ∙ ap (plans.parent plan) (sym down_at) ∙ down_here.0 in
      let place_is : place_of plan.entries x ≡ over.is.0 = ap (place_of plan.entries) (sym down_at) ∙ down_here.1 in
      record {
        child = from.node;
        child_at = ap (slice_get ran.ended) (sym child_is) ∙ child.1;
        up = from.up;
        has_up = from.is;
        above = over.node;
        above_at = ap (slice_get ran.ended) above_is ∙ above.1;
        down = over.down;
        inside = omega (arith, place_is, over.is.1);
        has_down = ap (λ (k : ℕ). get_or over.node.downs.items k over.down) place_is ∙ over.is.2;
        took = subst (λ (e : LinkEnd × LinkEnd). TookThose e.0 e.1) (λ i. (sym from.same i, sym over.same i)) closed.took;
        taken = ap taken_of log.1 ∙ ap newest_number closed.taken ∙ ap (λ (e : LinkEnd). newest_number e.known.down.takes) (sym from.same);
      }

  -- ---- a node with the link above it

  module _ (x : ℕ) (node : IsNode lists x) where
    abbrev pub link : LinkEnded plan ran.ended run.links.items x
    link = link_at x node

    abbrev place : ℕ
    place = place_of plan.entries x

    abbrev y : ℕ
    y = parent lists x

    abbrev pub above : ParentEnded plan cut parts c y link.above
    above =
        inner_at y link.above link.above_at
        (let earlier = (lawful plan is_plan).earlier x node in omega (arith, earlier, node.1)) ((lawful plan is_plan).inner x node)

    abbrev pub was : Cache
    was = cache_of_duty above.is.part.duty

    -- what the node above keeps
    pub above_keeps : KeepsParent plan y was (learnt_of above.is.part.duty) [] above.parent link.above.up link.above.downs.items
    above_keeps = parent_kept plan cut parts c y link.above above [] (own_none above.is.part.duty)

    -- what the node above has of this one
    pub child_kept : KeepsChild plan y was (learnt_of above.is.part.duty) (came_over link.above.up) above.parent place link.down
    child_kept =
        subst (KeepsChild plan y was (learnt_of above.is.part.duty) (came_over link.above.up) above.parent place) link.has_down
        (above_keeps.each place link.down link.inside)

    -- what it keeps
    pub is : NodeEnded plan cut parts x link.child
    is = node_ended x link.child link.child_at

    came_is : c.came x ≡ prices_among link.up.end.known.down.received
    came_is = ap came_to link.child_at ∙ ap came_over link.has_up

    -- the entry before the phase
    entry_before : (part : NodePart) → slice_get parts x ≡ Some part → TellsEntry plan x part.duty (child_head was place).number (child_demand was place)
    entry_before part here =
        subst (λ (q : Cache). TellsEntry plan x part.duty (child_head q place).number (child_demand q place))
        (ap (λ (j : ℕ). cache_of_part (slice_get parts j)) (sym (parent-is plan x)) ∙ ap cache_of_part above.is.was)
        (stand.each x part here).entry

    -- a device keeps what it kept
    pub device_keeps : (leaf : IsLeaf lists x) → KeepsDevice plan x (cut x) (device_at x link.child link.child_at leaf).0 link.up.end
    device_keeps leaf =
        let device = device_at x link.child link.child_at leaf in
        let over =
        subst
        (λ (duty : Duty). DutyKeeps plan x (cut x) (cache_of_duty is.part.duty) (learnt_of is.part.duty) [] duty link.child.up link.child.downs.items)
        device.1 (is.duty [] (own_none is.part.duty)) in
        subst (OverEnd (KeepsDevice plan x (cut x) device.0)) link.has_up over.0

    made_is : (leaf : IsLeaf lists x) → c.made x ≡ cut x + (device_at x link.child link.child_at leaf).0.made
    made_is leaf =
        ap (λ (p : Option NodePart). cut x + of_part made_of_duty 0 p) (back x link.child link.child_at)
        ∙ ap (λ (d : Duty). cut x + made_of_duty d) (device_at x link.child link.child_at leaf).1

    device_left : IsLeaf lists x → DeviceLeft plan was c x link.up.end
    device_left leaf =
        let device = device_at x link.child link.child_at leaf in
        let now = back x link.child link.child_at in
        record {
          before = cut x;
          device = device.0;
          keeps = device_keeps leaf;
          seat = ap (of_part seat_of_duty (record { joined = None; given = None })) now ∙ ap seat_of_duty device.1;
          made = made_is leaf;
          entry = entry_of_device plan x (cut x) (child_head was place).number (child_demand was place) is.part.duty (stand.each x is.part is.was).stands
              (sym (is_leaf-is plan x) ∙ leaf) (entry_before is.part is.was);
        }

    concentrator_left : IsConcentrator lists x → ConcentratorLeft plan was c x link.up.end
    concentrator_left conc =
        let p = concentrator_at x link.child link.child_at conc in
        let m = p.inner conc.0 in
        let kept = parent_kept plan cut parts c x link.child p [] (own_none p.is.part.duty) in
        let own = entry_bid (child_head was place).number (child_demand was place) in
        let told = (parent_kept plan cut parts c x link.child p own
        (own_entry plan x (child_head was place).number (child_demand was place) p.is.part.duty (entry_before p.is.part p.is.was))).told 0
        (Bid (record { number = (child_head was place).number; demand = Some (child_demand was place) })) (omega arith) in
        record {
          keeps = subst TellsOwn m kept.part.own;
          sent = subst (λ (u : Option UpEnd). All (TellsBidMessage (Concentrator (c.concentrators x))) (sent_over u)) link.has_up
              (subst (λ (n : Matcher). All (TellsBidMessage n) (sent_over link.child.up)) m kept.sent);
          entry = sum_of_bid (c.concentrators x) (child_head was place).number (child_demand was place)
              (subst (λ (n : Matcher). TellsBidMessage n (Bid (record { number = (child_head was place).number; demand = Some (child_demand was place) }))) m
              told);
        }

    -- what the phase left of the node
    pub node_left : NodeLeft plan c x
    node_left = record {
      child_end = link.up.end;
      parent_end = link.down.end;
      was = was;
      took = link.took;
      entry = subst (λ (q : Cache). EntryCame was q place (bids_among link.down.end.known.up.received)) (sym above.cache) child_kept.entry;
      came = came_is;
      device = device_left;
      concentrator = concentrator_left;
      root_prices = λ zero.
          subst (λ (m : Matcher). All (TellsPrice m (came_over link.above.up) place) (prices_among link.down.end.known.down.sent))
          (above.root zero) child_kept.put;
      prices = λ conc.
          subst (λ (ps : List PriceUpdate). All (FollowsAbove (c.concentrators y) ps place) (prices_among link.down.end.known.down.sent))
          (sym (ap came_to link.above_at))
          (subst (λ (m : Matcher). All (TellsPrice m (came_over link.above.up) place) (prices_among link.down.end.known.down.sent))
          (above.inner conc.0) child_kept.put);
    }

  inner_shaped : (y : ℕ) → y ≤ nodes lists → IsInner lists y → (node : FreeNode) × ParentEnded plan cut parts c y node
  inner_shaped y le inner =
      let at = node_at plan cut changes parts run stand next ran y (within y le) in
      (at.0, inner_at y at.0 at.1 le inner)

  shaped_at : (y : ℕ) (node : FreeNode) (p : ParentEnded plan cut parts c y node) → IsShapedMatcher plan y p.parent.matcher
  shaped_at y node p = (parent_kept plan cut parts c y node p [] (own_none p.is.part.duty)).part.shaped

  shaped : HasPlanShape plan c
  shaped = record {
    steps = λ y le inner.
        let p = inner_shaped y le inner in ap (λ (q : Cache). q.steps) p.1.cache ∙ (shaped_at y p.0 p.1).steps;
    demands = λ y le inner.
        let p = inner_shaped y le inner in ap (λ (q : Cache). length q.demands) p.1.cache ∙ (shaped_at y p.0 p.1).demands;
    limits = λ y conc.
        let p = inner_shaped y conc.1 conc.2 in (subst (IsKindOf plan y) (p.1.inner conc.0) (shaped_at y p.0 p.1).kind).1;
  }

  -- what it left of all
  pub is_left : AreNodesLeft plan c
  is_left =
      let root = inner_shaped 0 (omega arith) (leaf_zero lists) in
      record {
        shaped = shaped;
        auction = subst TellsOwn (root.1.root refl) (parent_kept plan cut parts c 0 root.0 root.1 [] (own_none root.1.is.part.duty)).part.own;
        nodes = λ x node. node_left x node;
      }

  reads : AreRead plan run.parts.items before run.links.items came
  reads = record {
    taken = λ d leaf.
        let node = leaf_node lists (lawful plan is_plan) d leaf in
        (link d node).taken ∙ ap newest_number (device_keeps d node leaf).takes
        ∙ ap (λ (ps : List PriceUpdate). newest_number (map (λ (p : PriceUpdate). p.index) ps)) (sym (came_is d node));
    members = λ d leaf.
        let node = leaf_node lists (lawful plan is_plan) d leaf in
        let at = link d node in
        ap (of_part member_of_duty false) (back d at.child at.child_at) ∙ ap member_of_duty (device_at d at.child at.child_at leaf).1
        ∙ (device_keeps d node leaf).member ∙ ap (is_member plan d) (sym (made_is d node leaf));
  }

  -- the end that is carried is that of the plain auction
  pub phase_end : carried_end plan c ≡ end_of plan (cut_after before changes)
  phase_end =
      left_ends plan (cut_after before changes) c is_plan is_left
      (parts_settled plan is_plan run.parts.items before changes run.links.items came settled reads)
