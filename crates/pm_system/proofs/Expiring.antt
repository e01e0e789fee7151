-- The number that a parent gives for a device is the device's next but one, and so its call is two calls of the system.
use Rattle.std.proofs.Common.{◌≡◌, ◌∙◌, sym, ap, subst, ℕ, ◌+◌, ◌*◌, ◌/◌, ◌%◌, ◌<◌, ◌≤◌, eqb, ltb, inl, inr}
use Rattle.std.proofs.Common.{true, List, [], ◌∷◌, ◌++◌, length, get_or, refl, arith}
use Rattle.std.proofs.lemmas.Bool.{eqb-true, eq-eqb, both_ways}
use Rattle.std.proofs.lemmas.Nat.{div-add-mod', mod_below}
use Rattle.std.proofs.lemmas.List.{get_or_push, length_push}
use Rattle.pm_bid.specs.Bids.{zeros}
use Rattle.pm_bid.specs.declared.head.BidHead.{BidHead}
use Rattle.pm_market.specs.Lists.{Lists, parent, IsNode, IsLeaf}
use Rattle.pm_market.specs.State.{State, start, update}
use Rattle.pm_market.specs.Moves.{after_from}
use Rattle.pm_market.proofs.Cuts.{updated_same, newest_leaf}
use Rattle.pm_market.proofs.Tree.{leaf_node}
use Rattle.pm_net.specs.Pricing.{Pricing}
use Rattle.pm_net.specs.Messages.{BidMessage, bid_message, nothing_heard}
use Rattle.pm_net.specs.Network.{Network}
use Rattle.pm_net.specs.Running.{recorded_number}
use Rattle.pm_net.specs.Agents.{DeviceAgent}
use Rattle.pm_net.specs.Agrees.{NetworkAgrees}
use Rattle.pm_net.specs.Devices.{Devices, start_devices, devices_after, AgentIs, DevicesAgree}
use Rattle.pm_net.proofs.Messages.{either}
use Rattle.pm_net.proofs.Steps.{run_from_start}
use Rattle.pm_net_plan.specs.Places.{Numbering}
use Rattle.pm_relay.specs.Numbers.{child_number, head_number, known_number, parents_number}
use Rattle.pm_relay_net.proofs.Children as children
use Rattle.pm_relay_net.proofs.Children.{KnowsChildren}
use Rattle.pm_system.specs.System.{System, bid_in_channel, with_bid_sent}
use Rattle.pm_system.specs.Calls.{NodeCall, DeviceExpires, RelayTakesBid, RootTakesBid}
use Rattle.pm_system.specs.Given.{IsTreeMarket}
use Rattle.pm_system.specs.Market.{RunsTheMarket}
use Rattle.pm_system.specs.Expiry.{MayExpire, RelayExpires, RootExpires, AreTwoCalls}
use Rattle.pm_system.proofs.Moving.{parent_relay}

-- the parent's number is odd, and at most one above the last of the device, where no more is known of it
record IsParents (last number : ℕ) : Type 0 where
  half : ℕ
  odd : number ≡ half + half + 1
  within : number ≤ last + 1

odd_number : (known last half : ℕ) → last ≡ half + half → known ≤ last + 1 → IsParents last (parents_number known)
odd_number known last half even le =
    let parts : known / 2 * 2 + known % 2 ≡ known = div-add-mod' known 2 in
    let small : known % 2 < 2 = mod_below known 2 (omega arith) in
    either (IsParents last) (eqb (known % 2) 0) (known + 1) known
    (λ e.
    let none : known % 2 ≡ 0 = eqb-true (known % 2) 0 e in
    record { half = known / 2; odd = omega (arith, parts, none); within = omega (arith, parts, none, even, le) })
    (λ e.
    let some : known % 2 ≡ 0 → ⊥ = λ none. both_ways (eqb (known % 2) 0) e (eq-eqb (known % 2) 0 none) in
    record { half = known / 2; odd = omega (arith, parts, small, some); within = le })

known_within : (numbers : List ℕ) (heads : List BidHead) (child count : ℕ) → child_number numbers child ≤ count →
    head_number heads child ≤ count →
    known_number numbers heads child ≤ count
known_within numbers heads child count recorded heard =
    either (λ (n : ℕ). n ≤ count) (ltb (child_number numbers child) (head_number heads child)) (head_number heads child) (child_number numbers child)
    (λ e. heard) (λ e. recorded)

module _ (lists : Lists) (p : Pricing) (numbering : Numbering) (calls : List NodeCall) (sys : System) (market : IsTreeMarket lists p numbering)
    (has : RunsTheMarket lists p numbering calls sys) (d : ℕ) (leaf : IsLeaf lists d) where
  abbrev net : Network
  net = (devices_after lists p (start_devices p) has.events).net

  goes : Rattle.pm_net.specs.Devices.DevicesGoOn lists p start (devices_after lists p (start_devices p) has.events)
  goes = run_from_start lists market.law market.one_phase p market.by_nodes has.events

  abbrev s : State
  s = after_from lists start goes.moves

  agrees : NetworkAgrees lists p net s
  agrees = goes.agree.agrees

  node : IsNode lists d
  node = leaf_node lists market.law d leaf

  agent_is : AgentIs lists p d (net.counts d) (net.taken d).index (sys.agents d)
  agent_is =
      let Is : DeviceAgent → Type 0 = λ a. AgentIs lists p d (net.counts d) (net.taken d).index a in
      subst Is (has.is.agents d leaf) (goes.agree.agents d leaf)

  counts_within : net.counts d ≤ (sys.agents d).number + 1
  counts_within = elim agent_is.number [
    | inl e ↦ omega (arith, e)
    | inr e ↦ omega (arith, e)
  ]

  newest_is : Rattle.pm_market.specs.State.newest_number_of lists s d ≡ net.counts d
  newest_is = newest_leaf lists s.counts s.published d leaf ∙ sym (agrees.counts d leaf)

  -- what the device's parent knows of it is no more than it made
  of_parent : (heads : List BidHead) (recorded : List ℕ) → KnowsChildren numbering net (parent lists d) heads recorded →
      IsParents (sys.agents d).number (parents_number (known_number recorded heads (numbering.place d)))
  of_parent heads recorded knows =
      let at_record : child_number recorded (numbering.place d) ≡ recorded_number net (parent lists d) d =
      children.recorded_at lists numbering market.places net (parent lists d) heads recorded knows d node refl in
      let at_heard : head_number heads (numbering.place d) ≡ (net.heard d).number =
      children.heard_at lists numbering market.places net (parent lists d) heads recorded knows d node refl in
      odd_number (known_number recorded heads (numbering.place d)) (sys.agents d).number agent_is.half agent_is.even
      (known_within recorded heads (numbering.place d) ((sys.agents d).number + 1)
      (omega (arith, at_record, agrees.newest_numbers d node, agrees.sound.learnt_within d node, newest_is, counts_within))
      (omega (arith, at_heard, (agrees.heard d node).0, newest_is, counts_within)))

  module _ (number : ℕ) (its : IsParents (sys.agents d).number number) (may : MayExpire lists d number) where
    abbrev bid : BidMessage
    bid = bid_message number true (zeros p.steps)

    abbrev mid : System
    mid = with_bid_sent sys d bid

    given : DeviceExpires lists p sys d number mid
    given = record { leaf = leaf; half = its.half; odd = its.odd; within = its.within; absent = may.absent; has_next = may.has_next; new_is = refl }

    abbrev place : ℕ
    place = length (sys.bids_sent d)

    in_channel : mid.bids_sent d ≡ sys.bids_sent d ++ bid ∷ []
    in_channel = updated_same sys.bids_sent d (sys.bids_sent d ++ bid ∷ [])

    inside : place < length (mid.bids_sent d)
    inside = omega (arith, ap (λ (l : List BidMessage). length l) in_channel, length_push (sys.bids_sent d) bid)

    there : bid_in_channel p mid d place ≡ bid
    there = ap (λ (l : List BidMessage). get_or l place (nothing_heard p)) in_channel
        ∙ get_or_push (sys.bids_sent d) bid (nothing_heard p) place refl

-- the call of a relay
pub relay_expires : (lists : Lists) (p : Pricing) (numbering : Numbering) (calls : List NodeCall) (sys new : System) (d : ℕ) →
    IsTreeMarket lists p numbering → RunsTheMarket lists p numbering calls sys → (did : RelayExpires lists p numbering sys d new) →
    AreTwoCalls lists p numbering sys d did.number new
relay_expires lists p numbering calls sys new d market has did =
    let leaf : IsLeaf lists d = did.may.leaf in
    let y : ℕ = parent lists d in
    let m = (has.is.relays (parent lists d) (parent_relay lists market.law d (leaf_node lists market.law d leaf) did.below)).matches in
    let its : IsParents (sys.agents d).number did.number = subst (IsParents (sys.agents d).number) (sym did.number_is)
    (of_parent lists p numbering calls sys market has d leaf (sys.relays y).gathered.cache.heads (sys.relays y).recorded
    (record { heads_are = m.heads; children = m.children; numbers_are = m.recorded })) in
    let Looks : BidMessage → Type 0 = λ b. Rattle.pm_relay.specs.Relays.LooksForRecord
    (Rattle.pm_relay.specs.Relays.with_child_bid (sys.relays (parent lists d)) (numbering.place d) b.number
    (Rattle.pm_relay_net.specs.RelayIs.told_demand b)) did.relay in
    let took : RelayTakesBid lists p numbering (mid lists p numbering calls sys market has d leaf did.number its did.may) d
    (length (sys.bids_sent d)) new = record {
      node = leaf_node lists market.law d leaf;
      below = did.below;
      inside = inside lists p numbering calls sys market has d leaf did.number its did.may;
      relay = did.relay;
      learnt = inl (record {
        passes = did.passes;
        learnt = subst Looks (sym (there lists p numbering calls sys market has d leaf did.number its did.may)) did.gone;
      });
      new_is = did.new_is;
    } in
    record {
      place = length (sys.bids_sent d);
      runs = (
        mid lists p numbering calls sys market has d leaf did.number its did.may,
        given lists p numbering calls sys market has d leaf did.number its did.may,
        (new, inl took, refl),
      );
    }

-- and that of a root
pub root_expires : (lists : Lists) (p : Pricing) (numbering : Numbering) (calls : List NodeCall) (sys new : System) (d : ℕ) →
    IsTreeMarket lists p numbering → RunsTheMarket lists p numbering calls sys → (did : RootExpires lists p numbering sys d new) →
    AreTwoCalls lists p numbering sys d did.number new
root_expires lists p numbering calls sys new d market has did =
    let leaf : IsLeaf lists d = did.may.leaf in
    let m = has.is.root.matches in
    let net_of : Network = (devices_after lists p (start_devices p) has.events).net in
    let knows : KnowsChildren numbering net_of 0 sys.root.auction.cache.heads sys.root.recorded =
    record { heads_are = m.heads; children = m.children; numbers_are = m.recorded } in
    let its : IsParents (sys.agents d).number did.number = subst (IsParents (sys.agents d).number) (sym did.number_is)
    (of_parent lists p numbering calls sys market has d leaf sys.root.auction.cache.heads sys.root.recorded
    (subst (λ (y : ℕ). KnowsChildren numbering net_of y sys.root.auction.cache.heads sys.root.recorded) (sym did.below) knows)) in
    let Looks : BidMessage → Type 0 = λ b. Rattle.pm_relay.specs.Roots.LooksForClearing
    (Rattle.pm_relay.specs.Roots.with_root_bid sys.root (numbering.place d) b.number
    (Rattle.pm_relay_net.specs.RelayIs.told_demand b)) did.root in
    let took : RootTakesBid lists p numbering (mid lists p numbering calls sys market has d leaf did.number its did.may) d
    (length (sys.bids_sent d)) new = record {
      node = leaf_node lists market.law d leaf;
      below = did.below;
      inside = inside lists p numbering calls sys market has d leaf did.number its did.may;
      root = did.root;
      learnt = subst Looks (sym (there lists p numbering calls sys market has d leaf did.number its did.may)) did.gone;
      new_is = did.new_is;
    } in
    record {
      place = length (sys.bids_sent d);
      runs = (
        mid lists p numbering calls sys market has d leaf did.number its did.may,
        given lists p numbering calls sys market has d leaf did.number its did.may,
        (new, inr took, refl),
      );
    }
