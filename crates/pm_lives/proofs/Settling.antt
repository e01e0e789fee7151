-- A settled world is current, and so is one that is taken by its numbers and indices alone.
use Rattle.std.proofs.Common.{◌≡◌, ◌∙◌, sym, ap, subst, ℕ, zero, suc, ◌<◌, ◌≤◌, Bool, true, false, cond, eqb, List, length}
use Rattle.std.proofs.Common.{get_or, pos, refl, inl, inr, arith}
use Rattle.std.proofs.lemmas.Bool.{cases_eq, cond-true, cond-false, eq-eqb, ne_eqb, both_ways}
use Rattle.std.proofs.lemmas.List.{get_or_default}
use Rattle.std.specs.List.{All, Contains}
use Rattle.pm_bid.specs.declared.head.BidHead.{BidHead}
use Rattle.pm_cache.specs.Cache.{child_head}
use Rattle.pm_market.specs.Lists.{Lists, parent, is_leaf, is_member, IsNode, IsLeaf, IsConcentrator}
use Rattle.pm_market.specs.Moves as moves
use Rattle.pm_market.proofs.Tree.{leaf_node}
use Rattle.pm_net.specs.Pricing.{Pricing}
use Rattle.pm_net.specs.Messages.{BidMessage, PriceMessage, price_message}
use Rattle.pm_net.specs.Agents.{Setpoint, DeviceAgent}
use Rattle.pm_net.specs.Agrees.{price_of_clearing}
use Rattle.pm_net_plan.specs.Places.{Numbering}
use Rattle.pm_relay.specs.Relays.{RelayValue, newest_bid_number}
use Rattle.pm_relay.specs.Roots.{RootValue, newest_index}
use Rattle.pm_system.specs.System.{System, price_in_channel}
use Rattle.pm_system.specs.Calls.{NodeCall, StaysUp}
use Rattle.pm_system.specs.Given.{IsTreeMarket}
use Rattle.pm_system.specs.Market.{RunsTheMarket, KeepsTheLaw}
use Rattle.pm_system.specs.Frames.{AreSent}
use Rattle.pm_system.specs.Settled.{number_made, number_held, index_of_held, head_held, HasNothingToSend, HasNothingToClear}
use Rattle.pm_system.specs.Settled.{CountsAtParent, IsReachedSystem, IsCurrentSystem, numbers_counted, HoldsNewestBid, WasTold}
use Rattle.pm_system.proofs.Moving.{parent_relay}
use Rattle.pm_lives.specs.Lives.{World, LifeStep, BeginsOnce}
use Rattle.pm_lives.specs.Settled.{index_above, IsSettledWorld, IsCurrentWorld}
use Rattle.pm_lives.proofs.WorldStands.{WorldStands}
use Rattle.std.proofs.Common.{◌⊎◌}
use Rattle.pm_relay.specs.Numbers.{child_number}
use Rattle.pm_system.specs.Settled.{number_taken, IsTakenSystem}
use Rattle.pm_lives.specs.Settled.{number_stored, number_noted, IsTakenWorld}

cond_same : {A : Type 0} (b : Bool) (a a' c c' : A) → (b ≡ true → a ≡ a') → (b ≡ false → c ≡ c') → cond b a c ≡ cond b a' c'
cond_same true a a' c c' one two = one refl
cond_same false a a' c c' one two = two refl

head_number_of : (b : Bool) (one two : BidHead) → cond b one.number two.number ≡ (cond b one two).number
head_number_of true one two = refl
head_number_of false one two = refl

module _ (lists : Lists) (p : Pricing) (numbering : Numbering) (market : IsTreeMarket lists p numbering) (calls : List NodeCall) (sys : System)
    (has : RunsTheMarket lists p numbering calls sys) (sent : AreSent lists p sys) (law : KeepsTheLaw lists p sys) (world : World)
    (stands : WorldStands lists p numbering world sys) (up : (y : ℕ) → (y ≡ 0) ⊎ IsNode lists y → world.up y ≡ true) where
  abbrev seen : System
  seen = world.seen

  -- ---- the values are those of the system

  root_same : world.seen.root ≡ sys.root
  root_same = sym (stands.root.stands (up 0 (inl refl)))

  relay_same : (c : ℕ) → IsConcentrator lists c → world.seen.relays c ≡ sys.relays c
  relay_same c conc = ((stands.relays c conc).stands (up c (inr (conc.0, conc.1)))).relay_is

  agent_same : (d : ℕ) → IsLeaf lists d → world.seen.agents d ≡ sys.agents d
  agent_same d leaf = ((stands.agents d leaf).stands (up d (inr (leaf_node lists market.law d leaf)))).agent_is

  parent_conc : (x : ℕ) → IsNode lists x → eqb (parent lists x) 0 ≡ false → IsConcentrator lists (parent lists x)
  parent_conc x node e = parent_relay lists market.law x node (λ z. both_ways (eqb (parent lists x) 0) e (eq-eqb (parent lists x) 0 z))

  made_same : (x : ℕ) → IsNode lists x → number_made lists world.seen x ≡ number_made lists sys x
  made_same x node =
      cond_same (is_leaf lists x) (seen.agents x).number (sys.agents x).number (newest_bid_number (seen.relays x)) (newest_bid_number (sys.relays x))
      (λ leaf. ap (λ (a : DeviceAgent). a.number) (agent_same x leaf)) (λ inner. ap newest_bid_number (relay_same x (node.0, node.1, inner)))

  index_same : (x : ℕ) → IsNode lists x → index_of_held lists world.seen x ≡ index_of_held lists sys x
  index_same x node = cond_same (is_leaf lists x) (seen.agents x).index (sys.agents x).index (seen.relays x).index (sys.relays x).index
      (λ leaf. ap (λ (a : DeviceAgent). a.index) (agent_same x leaf)) (λ inner. ap (λ (r : RelayValue). r.index) (relay_same x (node.0, node.1, inner)))

  head_same : (x : ℕ) → IsNode lists x → head_held lists numbering world.seen x ≡ head_held lists numbering sys x
  head_same x node = cond_same (eqb (parent lists x) 0) (child_head seen.root.auction.cache (numbering.place x))
      (child_head sys.root.auction.cache (numbering.place x)) (child_head (seen.relays (parent lists x)).gathered.cache (numbering.place x))
      (child_head (sys.relays (parent lists x)).gathered.cache (numbering.place x))
      (λ e. ap (λ (r : RootValue). child_head r.auction.cache (numbering.place x)) root_same)
      (λ e. ap (λ (r : RelayValue). child_head r.gathered.cache (numbering.place x)) (relay_same (parent lists x) (parent_conc x node e)))

  number_is : (t : System) (x : ℕ) → number_held lists numbering t x ≡ (head_held lists numbering t x).number
  number_is t x = head_number_of (eqb (parent lists x) 0) (child_head t.root.auction.cache (numbering.place x))
      (child_head (t.relays (parent lists x)).gathered.cache (numbering.place x))

  held_same : (x : ℕ) → IsNode lists x → number_held lists numbering world.seen x ≡ number_held lists numbering sys x
  held_same x node = number_is seen x ∙ ap (λ (h : BidHead). h.number) (head_same x node) ∙ sym (number_is sys x)

  newest_same : newest_index world.seen.root ≡ newest_index sys.root
  newest_same = ap newest_index root_same

  module _ (bids : (x : ℕ) → IsNode lists x → number_made lists world.seen x ≤ number_held lists numbering world.seen x)
      (let_go : (d : ℕ) → IsLeaf lists d → world.let_go d ≤ number_held lists numbering world.seen d) where
    -- each bid of a device is held, and each number under which it was let go
    all_held : (d : ℕ) → IsLeaf lists d → All (λ (bid : BidMessage). bid.number ≤ number_held lists numbering sys d) (sys.bids_sent d)
    all_held d leaf k e inside =
        let node : IsNode lists d = leaf_node lists market.law d leaf in
        let bid : BidMessage = get_or (sys.bids_sent d) k e in
        elim (stands.known d leaf bid (k, inside, get_or_default (sys.bids_sent d) k bid e inside)) [
          | inl own ↦ omega (
            arith,
            own,
            bids d node,
            made_same d node,
            held_same d node,
            cond-true (is_leaf lists d) (sys.agents d).number (newest_bid_number (sys.relays d)) leaf,
          )
          | inr gone ↦ omega (arith, gone, let_go d leaf, held_same d node)
        ]

  -- a price of the newest clearing was handed to d
  abbrev pub WasHanded : ℕ → Type 0
  WasHanded d = (k : ℕ) × (k < length (world.seen.prices_sent d)) × ((price_in_channel world.seen d k).index ≡ newest_index world.seen.root)

  module _ (quiet : IsSettledWorld lists numbering world) where
    -- ---- the newest clearing reached each node that counts

    -- a price that was handed out has an index and a number
    handed_one : (x k : ℕ) → IsNode lists x → k < length (world.seen.prices_sent x) → 1 ≤ (price_in_channel world.seen x k).index
    handed_one x k node inside =
        let at = stands.sent.prices x k node inside in
        omega (arith, (sent.prices x at.0 node at.1).index, ap (λ (q : PriceMessage). q.index) at.2)

    -- a relay that took a price made a bid, so its parent counts it
    relay_counts : (c : ℕ) → IsConcentrator lists c → 1 ≤ (world.seen.relays c).index → CountsAtParent lists numbering world.seen c
    relay_counts c conc some =
        let node : IsNode lists c = (conc.0, conc.1) in
        let here = (stands.relays c conc).stands (up c (inr node)) in
        let answered : 1 ≤ (seen.relays c).answered = elim here.held [
          | inl none ↦ absurd (omega (arith, some, none.1))
          | inr at ↦ omega (arith, (sent.prices c at.0 node at.1).number, at.2)
        ] in
        let made : number_made lists seen c ≡ newest_bid_number (seen.relays c) =
        cond-false (is_leaf lists c) (seen.agents c).number (newest_bid_number (seen.relays c)) conc.2 in
        let order : (seen.relays c).answered ≤ newest_bid_number (seen.relays c) =
        subst (λ (r : RelayValue). r.answered ≤ newest_bid_number r) (sym (relay_same c conc)) (has.is.relays c conc).matches.order in
        inr (conc, omega (arith, answered, order, made, quiet.bids c node, number_is seen c))

    -- what a parent has is of the newest clearing, where it reached the parent
    above_from : (x : ℕ) → IsNode lists x → CountsAtParent lists numbering world.seen x →
        ((c : ℕ) → c < x → IsNode lists c → CountsAtParent lists numbering world.seen c →
        newest_index world.seen.root ≤ index_of_held lists world.seen c) →
        newest_index world.seen.root ≤ index_above world.seen (parent lists x)
    above_from x node counts earlier = elim (cases_eq (parent lists x) 0) [
      | inl up ↦
          let at_root = eq-eqb (parent lists x) 0 up in
          omega (arith, cond-true (eqb (parent lists x) 0) (newest_index seen.root) (seen.relays (parent lists x)).index at_root)
      | inr ne ↦
          let c : ℕ = parent lists x in
          let conc : IsConcentrator lists c = parent_relay lists market.law x node ne in
          let at = quiet.told x node counts in
          let above : index_above seen c ≡ (seen.relays c).index =
          cond-false (eqb c 0) (newest_index seen.root) (seen.relays c).index (ne_eqb c 0 ne) in
          let some : 1 ≤ (seen.relays c).index = omega (arith, handed_one x at.0 node at.1, at.2, above) in
          let index_is : index_of_held lists seen c ≡ (seen.relays c).index =
          cond-false (is_leaf lists c) (seen.agents c).index (seen.relays c).index conc.2 in
          omega (arith, above, index_is, earlier c (market.law.earlier x node) (conc.0, conc.1) (relay_counts c conc some))
    ]

    reached_to : (n x : ℕ) → x < n → IsNode lists x → CountsAtParent lists numbering world.seen x →
        newest_index world.seen.root ≤ index_of_held lists world.seen x
    reached_to zero x less node counts = absurd (omega (arith, less))
    reached_to (suc n) x less node counts =
        let at = quiet.told x node counts in
        omega (
          arith,
          quiet.prices x at.0 node at.1,
          at.2,
          above_from x node counts (λ c before c_node c_counts. reached_to n c (omega (arith, before, less)) c_node c_counts),
        )

    reached_seen : (x : ℕ) → IsNode lists x → CountsAtParent lists numbering world.seen x →
        newest_index world.seen.root ≤ index_of_held lists world.seen x
    reached_seen x node counts = reached_to (suc x) x (omega arith) node counts

    above_newest : (x : ℕ) → IsNode lists x → CountsAtParent lists numbering world.seen x →
        newest_index world.seen.root ≤ index_above world.seen (parent lists x)
    above_newest x node counts = above_from x node counts (λ c before c_node c_counts. reached_seen c c_node c_counts)

    counts_seen : (x : ℕ) → IsNode lists x → CountsAtParent lists numbering sys x → CountsAtParent lists numbering world.seen x
    counts_seen x node (inl device) = inl (device.0, ap (λ (h : BidHead). h.gone) (head_same x node) ∙ device.1)
    counts_seen x node (inr relay) = inr (relay.0, omega (arith, relay.1, ap (λ (h : BidHead). h.number) (head_same x node)))

    -- the system of a settled world has nothing under way
    pub is_reached : IsReachedSystem lists numbering sys
    is_reached = record {
      bids = λ x node. omega (arith, quiet.bids x node, made_same x node, held_same x node);
      expired = all_held quiet.bids quiet.let_go;
      reached = λ x node counts. omega (arith, reached_seen x node (counts_seen x node counts), newest_same, index_same x node);
      relays = λ c conc. subst HasNothingToSend (relay_same c conc) (quiet.relays c conc);
      root = subst HasNothingToClear root_same quiet.root;
    }

    -- the price of the newest clearing was handed to each device that counts
    pub handed_settled : (d : ℕ) → IsLeaf lists d → (head_held lists numbering world.seen d).gone ≡ false →
        (world.seen.agents d).index ≡ newest_index world.seen.root → WasHanded d
    handed_settled d leaf there taken =
        let node : IsNode lists d = leaf_node lists market.law d leaf in
        let counts : CountsAtParent lists numbering world.seen d = inl (leaf, there) in
        let at = quiet.told d node counts in
        let index_is : index_of_held lists seen d ≡ (seen.agents d).index = cond-true (is_leaf lists d) (seen.agents d).index (seen.relays d).index leaf in
        (at.0, at.1, omega (arith, quiet.prices d at.0 node at.1, at.2, above_newest d node counts, taken, index_is))

  -- ---- taken, by numbers and indices alone

  module _ (quiet : IsTakenWorld lists numbering world) where
    -- what is stored of a node is of its newest bid
    stored_is : (x : ℕ) → IsNode lists x → number_stored lists world x ≡ number_made lists sys x
    stored_is x node = cond_same (is_leaf lists x) (world.agent_kept x).number (sys.agents x).number (world.relay_kept x).last
        (newest_bid_number (sys.relays x)) (λ leaf. (stands.agents x leaf).kept.number) (λ inner. (stands.relays x (node.0, node.1, inner)).kept.last)

    -- and has the numbers of its children
    noted_is : (x : ℕ) → IsNode lists x → number_noted lists numbering world x ≡ number_taken lists numbering sys x
    noted_is x node = cond_same (eqb (parent lists x) 0) (child_number world.root_kept.numbers (numbering.place x))
        (child_number sys.root.recorded (numbering.place x)) (child_number (world.relay_kept (parent lists x)).numbers (numbering.place x))
        (child_number (sys.relays (parent lists x)).recorded (numbering.place x))
        (λ e. ap (λ (l : List ℕ). child_number l (numbering.place x)) stands.root.kept.numbers)
        (λ e. ap (λ (l : List ℕ). child_number l (numbering.place x)) (stands.relays (parent lists x) (parent_conc x node e)).kept.numbers)

    made_held : (x : ℕ) → IsNode lists x → number_made lists world.seen x ≤ number_held lists numbering world.seen x
    made_held x node = omega (arith, made_same x node, stored_is x node, quiet.bids x node)

    -- the system of such a world is taken
    pub is_taken : IsTakenSystem lists numbering sys
    is_taken = record {
      bids = λ x node. omega (arith, stored_is x node, quiet.bids x node, held_same x node);
      expired = all_held made_held quiet.let_go;
      taken = λ x node. omega (arith, quiet.noted x node, held_same x node, noted_is x node);
      devices = λ d leaf there.
          let node : IsNode lists d = leaf_node lists market.law d leaf in
          omega (
            arith,
            quiet.taken d leaf (ap (λ (h : BidHead). h.gone) (head_same d node) ∙ there),
            stands.root.kept.last,
            ap (λ (a : DeviceAgent). a.index) (agent_same d leaf),
            cond-true (is_leaf lists d) (sys.agents d).index (sys.relays d).index leaf,
          );
    }

    -- to a device that took a price of the newest clearing, such a price was handed
    pub handed_taken : (d : ℕ) → IsLeaf lists d → (head_held lists numbering world.seen d).gone ≡ false →
        (world.seen.agents d).index ≡ newest_index world.seen.root → WasHanded d
    handed_taken d leaf there taken =
        let at = quiet.told d leaf there in
        (at.0, at.1, at.2 ∙ stands.root.kept.last ∙ sym newest_same)

  -- ---- such a world is current

  module _ (handed : (d : ℕ) → IsLeaf lists d → (head_held lists numbering world.seen d).gone ≡ false →
      (world.seen.agents d).index ≡ newest_index world.seen.root → WasHanded d) (cur : IsCurrentSystem lists p numbering calls sys) where
    abbrev counted : ℕ → ℕ
    counted = numbers_counted lists numbering world.seen

    steps_same : (d : ℕ) → IsLeaf lists d → p.local (numbers_counted lists numbering sys) d ≡ p.local (numbers_counted lists numbering world.seen) d
    steps_same d leaf = market.by_nodes.steps_alike d (numbers_counted lists numbering sys) (numbers_counted lists numbering world.seen)
        (leaf_node lists market.law d leaf) (λ e e_leaf. sym (held_same e (leaf_node lists market.law e e_leaf)))

    module _ (d : ℕ) (leaf : IsLeaf lists d) (member : is_member lists d (numbers_counted lists numbering world.seen d) ≡ true) where
      node : IsNode lists d
      node = leaf_node lists market.law d leaf

      member_too : is_member lists d (numbers_counted lists numbering sys d) ≡ true
      member_too = ap (is_member lists d) (sym (held_same d node)) ∙ member

      number_same : (sys.agents d).number ≡ (world.seen.agents d).number
      number_same = ap (λ (a : DeviceAgent). a.number) (sym (agent_same d leaf))

      is_there : (head_held lists numbering world.seen d).gone ≡ false
      is_there = ap (λ (h : BidHead). h.gone) (head_same d node) ∙ cur.not_gone d leaf member_too

      holds : HoldsNewestBid p world.seen (numbers_counted lists numbering world.seen) d
      holds =
          let own = cur.held d leaf member_too in
          let taken : (seen.agents d).index ≡ newest_index seen.root =
          ap (λ (a : DeviceAgent). a.index) (agent_same d leaf) ∙ own.taken ∙ sym newest_same in
          let at = handed d leaf is_there taken in
          let there = stands.sent.prices d at.0 node at.1 in
          let s = moves.after lists law.journal in
          let one : price_in_channel sys d there.0 ≡ price_of_clearing lists p s d (price_in_channel sys d there.0).index =
          (law.prices d there.0 node there.1).1 in
          let two : price_in_channel sys d own.place ≡ price_of_clearing lists p s d (price_in_channel sys d own.place).index =
          (law.prices d own.place node own.inside).1 in
          let same : (price_in_channel sys d there.0).index ≡ (price_in_channel sys d own.place).index =
          ap (λ (m : PriceMessage). m.index) there.2 ∙ at.2 ∙ newest_same ∙ sym (ap (λ (m : PriceMessage). m.index) own.price) in
          record {
            place = at.0;
            inside = at.1;
            price = sym there.2 ∙ one ∙ ap (price_of_clearing lists p s d) same ∙ sym two ∙ own.price
                ∙ ap (λ (n : ℕ). price_message n (newest_index sys.root) (p.local (numbers_counted lists numbering sys) d)) number_same
                ∙ ap (λ (i : ℕ). price_message (seen.agents d).number i (p.local (numbers_counted lists numbering sys) d)) (sym newest_same)
                ∙ ap (price_message (seen.agents d).number (newest_index seen.root)) (steps_same d leaf);
            taken = taken;
          }

      told : StaysUp d calls → WasTold p world.seen (numbers_counted lists numbering world.seen) d
      told up =
          let was = cur.told d leaf member_too up in
          record {
            setpoint = was.setpoint;
            given = subst (λ (l : List Setpoint). Contains l was.setpoint) (sym (stands.told d leaf)) was.given;
            number = was.number ∙ number_same;
            step = was.step ∙ steps_same d leaf;
            power = was.power
                ∙ ap (λ (n : ℕ). get_or (p.demand d n) (p.local (numbers_counted lists numbering sys) d) (pos 0)) number_same
                ∙ ap (λ (n : ℕ). get_or (p.demand d (seen.agents d).number) n (pos 0)) (steps_same d leaf);
          }

      counted_own : numbers_counted lists numbering world.seen d ≡ (world.seen.agents d).number
      counted_own = held_same d node ∙ cur.counted d leaf member_too ∙ number_same

    -- such a world is current
    pub current_world : (steps : List LifeStep) → ((d : ℕ) → IsLeaf lists d → BeginsOnce d steps → StaysUp d calls) →
        IsCurrentWorld lists p numbering steps world
    current_world steps ups = record {
      counted = counted_own;
      held = holds;
      told = λ d leaf member once. told d leaf member (ups d leaf once);
    }
