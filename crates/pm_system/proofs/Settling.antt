-- A settled system is current.
use Rattle.std.proofs.Common.{◌≡◌, ◌∙◌, sym, ap, subst, ℕ, ◌+◌, ◌<◌, ◌≤◌, true, false, not, eqb, List, length}
use Rattle.std.proofs.Common.{get_or, arith, inl, inr, pos}
use Rattle.std.proofs.Common.{◌⊎◌}
use Rattle.std.proofs.lemmas.Bool.{cases_eq, cases_Bool, cond-true, cond-false, eq-eqb, ne_eqb, both_ways}
use Rattle.std.specs.List.{Contains}
use Rattle.pm_bid.specs.Heads.{nothing_sent}
use Rattle.pm_bid.specs.declared.head.BidHead.{BidHead}
use Rattle.pm_cache.specs.Cache.{kept_number, child_head}
use Rattle.pm_market.specs.Lists.{Lists, parent, is_leaf, is_member, IsNode, IsLeaf, IsConcentrator}
use Rattle.std.specs.List.{All}
use Rattle.pm_market.specs.State.{State, start, clearings, cleared_cut, last_index}
use Rattle.pm_market.specs.Moves.{after_from}
use Rattle.pm_market.proofs.Cuts.{updated_same, newest_leaf}
use Rattle.pm_market.proofs.Tree.{leaf_node, leaf_zero}
use Rattle.pm_laws.proofs.Facts.{last_within}
use Rattle.pm_laws.proofs.Gone.{gone_leaf}
use Rattle.pm_net.specs.Pricing.{Pricing}
use Rattle.pm_net.specs.Messages.{BidMessage, PriceMessage, price_message}
use Rattle.pm_net.specs.Network.{Network, sent_price, WasSent}
use Rattle.pm_net.specs.Running.{can_send, after_sending, can_clear, after_clearing}
use Rattle.pm_net.specs.Events.{network_step, Sends, Clears}
use Rattle.pm_net.specs.Agents.{Setpoint}
use Rattle.pm_net.specs.Agrees.{NetworkAgrees, price_of_clearing}
use Rattle.pm_net.specs.Devices.{Devices, start_devices, devices_after, DevicesAgree, IsToldNow}
use Rattle.pm_net.specs.Settled.{IsSettledNetwork, made_number}
use Rattle.pm_net.proofs.Settled as settled
use Rattle.pm_net.proofs.Steps.{run_from_start}
use Rattle.pm_net.proofs.Told.{told_where_held}
use Rattle.pm_net_plan.specs.Places.{Numbering}
use Rattle.pm_relay.specs.Roots.{newest_index}
use Rattle.pm_relay.specs.Relays.{newest_bid_number}
use Rattle.pm_relay_net.specs.Heads.{bid_head, heads_of}
use Rattle.pm_relay_net.proofs.Places.{head_there}
use Rattle.pm_relay_net.proofs.RootClearing as clearing
use Rattle.pm_relay_net.proofs.Sending as sending
use Rattle.pm_system.specs.System.{System, price_in_channel}
use Rattle.pm_system.specs.Calls.{NodeCall, StaysUp}
use Rattle.pm_system.specs.Given.{IsTreeMarket}
use Rattle.pm_system.specs.Market.{RunsTheMarket}
use Rattle.pm_system.specs.Settled.{number_made, number_held, index_of_held, IsSettledSystem, IsReachedSystem, IsToldSystem, IsCurrentSystem}
use Rattle.pm_system.specs.Settled.{HoldsNewestBid, WasTold, numbers_counted, head_held, CountsAtParent, HasNothingToSend, HasNothingToClear}
use Rattle.pm_system.proofs.Reached as reaching
use Rattle.pm_system.proofs.Reached.{CountsIn}
use Rattle.pm_system.proofs.Told as telling
use Rattle.pm_net.specs.Running.{has_news}
use Rattle.pm_system.proofs.Moving.{same_price, prices_in, parent_relay}
use Rattle.std.proofs.Common.{refl}
use Rattle.pm_market.specs.State.{newest_number_of}
use Rattle.pm_market.proofs.Cuts.{newest_inner}
use Rattle.pm_net.specs.Running.{recorded_number}
use Rattle.pm_net.proofs.News.{child_at}
use Rattle.pm_relay.specs.Numbers.{child_number}
use Rattle.pm_relay_net.proofs.Children as children
use Rattle.pm_relay_net.proofs.Matching.{recorded_at}
use Rattle.pm_relay_net.proofs.RootLearning.{knows}
use Rattle.pm_system.specs.Settled.{number_taken, IsTakenSystem}

-- a node that sends and does not change cannot send
cannot_send : (lists : Lists) (p : Pricing) (net : Network) (c : ℕ) → network_step lists p net (Sends c) ≡ net → can_send lists net c ≡ false
cannot_send lists p net c same = elim (cases_Bool (can_send lists net c)) [
  | inr e ↦ e
  | inl e ↦ absurd (omega (
    arith,
    ap (λ (w : Network). w.last_number c) (sym same ∙ cond-true (can_send lists net c) (after_sending p net c) net e),
    updated_same net.last_number c (net.last_number c + 1),
  ))
]

cannot_clear : (lists : Lists) (p : Pricing) (net : Network) → network_step lists p net Clears ≡ net → can_clear lists net ≡ false
cannot_clear lists p net same = elim (cases_Bool (can_clear lists net)) [
  | inr e ↦ e
  | inl e ↦ absurd (omega (
    arith,
    ap (λ (w : Network). w.last_number 0) (sym same ∙ cond-true (can_clear lists net) (after_clearing lists p net) net e),
    updated_same net.last_number 0 (net.last_number 0 + 1),
  ))
]

not_left : {A B : Type 0} → (A → ⊥) → A ⊎ B → B
not_left never (inl a) = absurd (never a)
not_left never (inr b) = b

module _ (lists : Lists) (p : Pricing) (numbering : Numbering) (market : IsTreeMarket lists p numbering) (calls : List NodeCall) (sys : System)
    (has : RunsTheMarket lists p numbering calls sys) where
  abbrev devices : Devices
  devices = devices_after lists p (start_devices p) has.events

  abbrev net : Network
  net = devices.net

  goes : Rattle.pm_net.specs.Devices.DevicesGoOn lists p start (devices_after lists p (start_devices p) has.events)
  goes = run_from_start lists market.law market.one_phase p market.by_nodes has.events

  abbrev s : State
  s = after_from lists start goes.moves

  agree : DevicesAgree lists p devices (after_from lists start goes.moves)
  agree = goes.agree

  agrees : NetworkAgrees lists p net s
  agrees = agree.agrees

  -- what a relay made is what the network's node made
  number_is : (x : ℕ) → IsNode lists x → is_leaf lists x ≡ false → number_made lists sys x ≡ made_number lists net x
  number_is x node inner = cond-false (is_leaf lists x) (sys.agents x).number (newest_bid_number (sys.relays x)) inner
      ∙ (has.is.relays x (node.0, node.1, inner)).matches.newest ∙ sym (cond-false (is_leaf lists x) (net.counts x) (net.last_number x) inner)

  head_here : (x : ℕ) → IsNode lists x → (heads : List BidHead) → heads ≡ heads_of numbering (parent lists x) net.heard →
      get_or heads (numbering.place x) nothing_sent ≡ bid_head (net.heard x)
  head_here x node heads e = ap (λ (l : List BidHead). get_or l (numbering.place x) nothing_sent) e
      ∙ head_there lists numbering market.places net.heard x node

  root_head : (x : ℕ) → IsNode lists x → parent lists x ≡ 0 → child_head sys.root.auction.cache (numbering.place x) ≡ bid_head (net.heard x)
  root_head x node up = head_here x node sys.root.auction.cache.heads
      (has.is.root.matches.heads ∙ ap (λ (y : ℕ). heads_of numbering y net.heard) (sym up))

  held_is : (x : ℕ) → IsNode lists x → number_held lists numbering sys x ≡ (net.heard x).number
  held_is x node =
      let at_root : ℕ = kept_number sys.root.auction.cache (numbering.place x) in
      let at_relay : ℕ = kept_number (sys.relays (parent lists x)).gathered.cache (numbering.place x) in
      elim (cases_eq (parent lists x) 0) [
        | inl up ↦ cond-true (eqb (parent lists x) 0) at_root at_relay (eq-eqb (parent lists x) 0 up)
            ∙ ap (λ (h : BidHead). h.number) (root_head x node up)
        | inr ne ↦ cond-false (eqb (parent lists x) 0) at_root at_relay (ne_eqb (parent lists x) 0 ne)
            ∙ ap (λ (h : BidHead). h.number) (head_here x node (sys.relays (parent lists x)).gathered.cache.heads
            (has.is.relays (parent lists x) (parent_relay lists market.law x node ne)).matches.heads)
      ]

  agent_index : (d : ℕ) → IsLeaf lists d → (sys.agents d).index ≡ (net.taken d).index
  agent_index d leaf = ap (λ a. a.index) (sym (has.is.agents d leaf)) ∙ (agree.agents d leaf).its_index

  index_is : (x : ℕ) → IsNode lists x → index_of_held lists sys x ≡ (net.taken x).index
  index_is x node = elim (cases_Bool (is_leaf lists x)) [
    | inl leaf ↦ cond-true (is_leaf lists x) (sys.agents x).index (sys.relays x).index leaf ∙ agent_index x leaf
    | inr inner ↦ cond-false (is_leaf lists x) (sys.agents x).index (sys.relays x).index inner ∙ (has.is.relays x (node.0, node.1, inner)).matches.index
  ]

  price_same : (x k : ℕ) → IsNode lists x → price_in_channel sys x k ≡ sent_price net x k
  price_same x k node = same_price lists p numbering market.places devices sys has.is x k node

  newest_is : newest_index sys.root ≡ clearings s
  newest_is = has.is.root.matches.newest ∙ agrees.last_number 0 (leaf_zero lists)

  head_is : (x : ℕ) → IsNode lists x → head_held lists numbering sys x ≡ bid_head (net.heard x)
  head_is x node =
      let at_root : BidHead = child_head sys.root.auction.cache (numbering.place x) in
      let at_relay : BidHead = child_head (sys.relays (parent lists x)).gathered.cache (numbering.place x) in
      elim (cases_eq (parent lists x) 0) [
        | inl up ↦ cond-true (eqb (parent lists x) 0) at_root at_relay (eq-eqb (parent lists x) 0 up) ∙ root_head x node up
        | inr ne ↦ cond-false (eqb (parent lists x) 0) at_root at_relay (ne_eqb (parent lists x) 0 ne)
            ∙ head_here x node (sys.relays (parent lists x)).gathered.cache.heads
            (has.is.relays (parent lists x) (parent_relay lists market.law x node ne)).matches.heads
      ]

  -- the newest clearing is over all numbers, and each member holds its price
  record Facts : Type 0 where
    counted : (d : ℕ) → IsLeaf lists d → cleared_cut s (clearings s) d ≡ net.counts d
    one : (d : ℕ) → IsLeaf lists d → is_member lists d (net.counts d) ≡ true → 1 ≤ clearings s
    held : (d : ℕ) → IsLeaf lists d → is_member lists d (net.counts d) ≡ true →
        net.taken d ≡ price_message (net.counts d) (clearings s) (p.local net.counts d)

  relays_quiet : ((c : ℕ) → IsConcentrator lists c → HasNothingToSend (sys.relays c)) → (c : ℕ) → IsConcentrator lists c →
      can_send lists net c ≡ false
  relays_quiet all c conc =
      let why = all c conc in
      cannot_send lists p net c (not_left why.2 (sending.refuses lists market.law p numbering market.places net s agrees c conc (sys.relays c)
      (has.is.relays c conc) why.0 why.1))

  root_quiet : HasNothingToClear sys.root → can_clear lists net ≡ false
  root_quiet why = cannot_clear lists p net (not_left why.2 (clearing.refuses lists p numbering market.places net sys.root has.is.root why.0 why.1))

  module _ (bids : (x : ℕ) → IsNode lists x → number_made lists sys x ≤ number_held lists numbering sys x)
      (let_go : (d : ℕ) → IsLeaf lists d → All (λ (bid : BidMessage). bid.number ≤ number_held lists numbering sys d) (sys.bids_sent d)) where
    -- the parent of each device holds its newest change, be it the device's own or the parent's
    counts_held : (d : ℕ) → IsLeaf lists d → net.counts d ≤ number_held lists numbering sys d
    counts_held d leaf = elim (has.is.counted d leaf) [
      | inl own ↦ omega (
        arith,
        own,
        bids d (leaf_node lists market.law d leaf),
        cond-true (is_leaf lists d) (sys.agents d).number
            (newest_bid_number (sys.relays d)) leaf,
      )
      | inr expired ↦
          let at = let_go d leaf expired.sent.0 expired.bid expired.sent.1 in
          omega (arith, at, ap (λ (b : BidMessage). b.number) expired.sent.2, expired.its, expired.next)
    ]

    bids_held : (x : ℕ) → IsNode lists x → made_number lists net x ≤ (net.heard x).number
    bids_held x node = elim (cases_Bool (is_leaf lists x)) [
      | inl leaf ↦ omega (arith, cond-true (is_leaf lists x) (net.counts x) (net.last_number x) leaf, counts_held x leaf, held_is x node)
      | inr inner ↦ omega (arith, bids x node, number_is x node inner, held_is x node)
    ]

    -- it is the one under which the parent counts the device
    counted_is : (d : ℕ) → IsLeaf lists d → numbers_counted lists numbering sys d ≡ net.counts d
    counted_is d leaf =
        let node : IsNode lists d = leaf_node lists market.law d leaf in
        omega (
          arith,
          counts_held d leaf,
          held_is d node,
          (agrees.heard d node).0,
          newest_leaf lists s.counts s.published d leaf,
          agrees.counts d leaf,
        )

    module _ (facts : Facts) where
      -- the local steps over all bids that count
      abbrev counted : ℕ → ℕ
      counted = numbers_counted lists numbering sys

      steps_same : (d : ℕ) → IsLeaf lists d → p.local net.counts d ≡ p.local (numbers_counted lists numbering sys) d
      steps_same d leaf = market.by_nodes.steps_alike d net.counts (numbers_counted lists numbering sys) (leaf_node lists market.law d leaf) (λ e e_leaf. sym
          (counted_is e e_leaf))

      module _ (d : ℕ) (leaf : IsLeaf lists d) (member : is_member lists d (numbers_counted lists numbering sys d) ≡ true) where
        d_node : IsNode lists d
        d_node = leaf_node lists market.law d leaf

        is_counted : is_member lists d (net.counts d) ≡ true
        is_counted = ap (is_member lists d) (sym (counted_is d leaf)) ∙ member

        -- a member that counts has not expired since its newest bid
        own : (sys.agents d).number ≡ net.counts d
        own = elim (has.is.counted d leaf) [
          | inl same ↦ sym same
          | inr expired ↦ absurd (both_ways (is_member lists d ((sys.agents d).number + 1)) expired.absent
              (ap (is_member lists d) (sym expired.next) ∙ is_counted))
        ]

        counted_own : numbers_counted lists numbering sys d ≡ (sys.agents d).number
        counted_own = counted_is d leaf ∙ sym own

        is_there : (head_held lists numbering sys d).gone ≡ false
        is_there = ap (λ (h : BidHead). h.gone) (head_is d d_node) ∙ ap (λ (b : BidMessage). b.gone) (agrees.heard d d_node).1
            ∙ gone_leaf lists d (net.heard d).number leaf ∙ ap not (ap (is_member lists d) (sym (held_is d d_node)) ∙ member)

        taken_is : net.taken d ≡ price_message (net.counts d) (clearings s) (p.local net.counts d)
        taken_is = facts.held d leaf is_counted

        one : 1 ≤ clearings s
        one = facts.one d leaf is_counted

        last_is : last_index s d ≡ clearings s
        last_is = omega (arith, agrees.index d d_node, ap (λ (q : PriceMessage). q.index) taken_is, last_within lists s agrees.sound d)

        was_sent : WasSent net d (last_index s d)
        was_sent = agrees.last_sent d d_node (omega (arith, last_is, one))

        -- the price that it holds is the one in that place
        sent_is : sent_price net d was_sent.0 ≡ net.taken d
        sent_is = elim (agrees.taken d d_node) [
          | inl none ↦ absurd (omega (arith, ap (λ (q : PriceMessage). q.index) (sym none ∙ taken_is), one))
          | inr its ↦ (agrees.prices_sent d was_sent.0 d_node was_sent.1).1
              ∙ ap (price_of_clearing lists p s d) (was_sent.2 ∙ last_is ∙ ap (λ (q : PriceMessage). q.index) (sym taken_is)) ∙ sym its.1
        ]

        holds : HoldsNewestBid p sys counted d
        holds = record {
          place = was_sent.0;
          inside = subst (λ (l : List PriceMessage). was_sent.0 < length l) (has.is.prices_sent d d_node) was_sent.1;
          price = price_same d was_sent.0 d_node ∙ sent_is ∙ taken_is
              ∙ ap (λ (n : ℕ). price_message n (clearings s) (p.local net.counts d)) (sym own)
              ∙ ap (λ (i : ℕ). price_message (sys.agents d).number i (p.local net.counts d)) (sym newest_is)
              ∙ ap (price_message (sys.agents d).number (newest_index sys.root)) (steps_same d leaf);
          taken = agent_index d leaf ∙ ap (λ (q : PriceMessage). q.index) taken_is ∙ sym newest_is;
        }

        told : StaysUp d calls → WasTold p sys counted d
        unfolding goes
        told up =
            let was : IsToldNow p devices d = told_where_held lists market.law market.one_phase p market.by_nodes has.events d leaf
            (has.restarts d up) taken_is facts.counted is_counted
            (ap (λ a. a.number) (has.is.agents d leaf) ∙ own) in
            let Given : List Setpoint → Type 0 = λ l. Contains l was.0 in
            record {
              setpoint = was.0;
              given = subst Given (has.is.setpoints d leaf) was.1;
              number = was.2 ∙ sym own;
              step = was.3 ∙ steps_same d leaf;
              power = was.4 ∙ ap (λ (n : ℕ). get_or (p.demand d n) (p.local net.counts d) (pos 0)) (sym own)
                  ∙ ap (λ (n : ℕ). get_or (p.demand d (sys.agents d).number) n (pos 0)) (steps_same d leaf);
            }

      current_where : IsCurrentSystem lists p numbering calls sys
      current_where = record { counted = counted_own; not_gone = is_there; held = holds; told = told }

  module _ (quiet : IsSettledSystem lists numbering sys) where
    -- the network is settled
    net_settled : IsSettledNetwork lists (devices_after lists p (start_devices p) has.events).net
    net_settled = record {
      bids = bids_held quiet.bids quiet.expired;
      prices = λ x k node inside.
          let within : k < length (sys.prices_sent x) = subst (λ (l : List PriceMessage). k < length l) (has.is.prices_sent x node) inside in
          omega (arith, quiet.prices x k node within, index_is x node, ap (λ (q : PriceMessage). q.index) (price_same x k node));
      told = λ x node up there.
          let told = quiet.told x node up (ap (λ (h : BidHead). h.gone) (root_head x node up) ∙ there) in (
            told.0,
            prices_in lists p numbering market.places devices sys has.is x told.0 node told.1,
            ap (λ (q : PriceMessage). q.index) (sym (price_same x told.0 node)) ∙ told.2 ∙ has.is.root.matches.newest,
          );
      relays = relays_quiet quiet.relays;
      auctioneer = root_quiet quiet.root;
    }

    -- a settled system is current
    pub current : IsCurrentSystem lists p numbering calls sys
    current = current_where quiet.bids quiet.expired (record {
      counted = settled.all_counted lists market.law p market.by_nodes net s agrees net_settled;
      one = settled.one_cleared lists market.law p market.by_nodes net s agrees net_settled;
      held = settled.all_held lists market.law p market.by_nodes net s agrees net_settled;
    })

  module _ (quiet : IsReachedSystem lists numbering sys) where
    counts_here : (x : ℕ) → IsNode lists x → CountsIn lists net x → CountsAtParent lists numbering sys x
    counts_here x node (inl device) = inl (device.0, ap (λ (h : BidHead). h.gone) (head_is x node) ∙ device.1)
    counts_here x node (inr relay) = inr (relay.0, omega (arith, relay.1, ap (λ (h : BidHead). h.number) (head_is x node)))

    reached_net : (x : ℕ) → IsNode lists x → CountsIn lists net x → clearings s ≤ (net.taken x).index
    reached_net x node counts = omega (arith, newest_is, quiet.reached x node (counts_here x node counts), index_is x node)

    -- so is one of which each node that counts was reached by the newest clearing
    pub current_reached : IsCurrentSystem lists p numbering calls sys
    current_reached =
        let held : (x : ℕ) → IsNode lists x → made_number lists net x ≤ (net.heard x).number = bids_held quiet.bids quiet.expired in
        let relays = relays_quiet quiet.relays in
        let root = root_quiet quiet.root in
        current_where quiet.bids quiet.expired (record {
          counted = reaching.all_counted lists market.law p market.by_nodes net s agrees held relays root reached_net;
          one = reaching.one_cleared lists market.law p market.by_nodes net s agrees held relays root reached_net;
          held = reaching.all_held lists market.law p market.by_nodes net s agrees held relays root reached_net;
        })

  -- where each device that is there holds a price of the newest clearing, so it is in the network
  devices_net : ((d : ℕ) → IsLeaf lists d → (head_held lists numbering sys d).gone ≡ false → newest_index sys.root ≤ index_of_held lists sys d) →
      (d : ℕ) → IsLeaf lists d → (net.heard d).gone ≡ false → clearings s ≤ (net.taken d).index
  devices_net each d leaf there =
      let node : IsNode lists d = leaf_node lists market.law d leaf in
      omega (arith, newest_is, each d leaf (ap (λ (h : BidHead). h.gone) (head_is d node) ∙ there), index_is d node)

  module _ (quiet : IsToldSystem lists numbering sys) where
    no_relay_news : (c : ℕ) → IsConcentrator lists c → has_news lists net c ≡ false
    no_relay_news c conc =
        let why = quiet.relays c conc in
        sending.no_news lists market.law p numbering market.places net s agrees c conc (sys.relays c) (has.is.relays c conc) why.0 why.1

    no_root_news : has_news lists net 0 ≡ false
    no_root_news = clearing.no_news lists p numbering market.places net sys.root has.is.root quiet.root.0 quiet.root.1

    -- and so is one of which each device that counts was told the newest clearing, and nobody has news
    pub current_told : IsCurrentSystem lists p numbering calls sys
    current_told =
        let held : (x : ℕ) → IsNode lists x → made_number lists net x ≤ (net.heard x).number = bids_held quiet.bids quiet.expired in
        current_where quiet.bids quiet.expired (record {
          counted = telling.all_counted lists market.law p market.by_nodes net s agrees held no_relay_news no_root_news (devices_net quiet.devices);
          one = telling.one_cleared lists market.law p market.by_nodes net s agrees held no_relay_news no_root_news (devices_net quiet.devices);
          held = telling.all_held lists market.law p market.by_nodes net s agrees held no_relay_news no_root_news (devices_net quiet.devices);
        })

  module _ (quiet : IsTakenSystem lists numbering sys) where
    held_all : (x : ℕ) → IsNode lists x → made_number lists net x ≤ (net.heard x).number
    held_all = bids_held quiet.bids quiet.expired

    -- what a parent noted of its child is what the network's node noted
    noted_is : (x : ℕ) → IsNode lists x → number_taken lists numbering sys x ≡ recorded_number net (parent lists x) x
    noted_is x node =
        let at_root : ℕ = child_number sys.root.recorded (numbering.place x) in
        let at_relay : ℕ = child_number (sys.relays (parent lists x)).recorded (numbering.place x) in
        elim (cases_eq (parent lists x) 0) [
          | inl up ↦ cond-true (eqb (parent lists x) 0) at_root at_relay (eq-eqb (parent lists x) 0 up)
              ∙ children.recorded_at lists numbering market.places net 0 sys.root.auction.cache.heads sys.root.recorded
              (knows p numbering net sys.root has.is.root.matches) x node up
              ∙ ap (λ (y : ℕ). recorded_number net y x) (sym up)
          | inr ne ↦ cond-false (eqb (parent lists x) 0) at_root at_relay (ne_eqb (parent lists x) 0 ne)
              ∙ recorded_at lists p numbering market.places net (parent lists x) (sys.relays (parent lists x))
              (has.is.relays (parent lists x) (parent_relay lists market.law x node ne)).matches x node refl
        ]

    -- a parent heard of its child just what it noted
    level_there : (x : ℕ) → IsNode lists x → (net.heard x).number ≡ recorded_number net (parent lists x) x
    level_there x node =
        let newest : newest_number_of lists s x ≤ made_number lists net x = elim (cases_Bool (is_leaf lists x)) [
          | inl leaf ↦ omega (
            arith,
            newest_leaf lists s.counts s.published x leaf,
            agrees.counts x leaf,
            cond-true (is_leaf lists x) (net.counts x) (net.last_number x) leaf,
          )
          | inr inner ↦ omega (
            arith,
            newest_inner lists s.counts s.published x inner,
            agrees.last_number x inner,
            cond-false (is_leaf lists x) (net.counts x) (net.last_number x) inner,
          )
        ] in
        omega (
          arith,
          held_is x node,
          quiet.taken x node,
          noted_is x node,
          agrees.newest_numbers x node,
          agrees.sound.learnt_within x node,
          newest,
          held_all x node,
        )

    -- so nobody has news
    nobody_has_news : (y : ℕ) → has_news lists net y ≡ false
    unfolding has_news
    nobody_has_news y = ap not (child_at lists y (λ x. eqb (net.heard x).number (recorded_number net y x)) (λ x node up.
        eq-eqb (net.heard x).number (recorded_number net y x) (level_there x node ∙ ap (λ (z : ℕ). recorded_number net z x) up)))

    -- so is one whose bids and clearing are over the newest numbers, by the numbers alone
    pub current_taken : IsCurrentSystem lists p numbering calls sys
    current_taken = current_where quiet.bids quiet.expired (record {
      counted = telling.all_counted lists market.law p market.by_nodes net s agrees held_all (λ c conc. nobody_has_news c) (nobody_has_news 0)
          (devices_net quiet.devices);
      one = telling.one_cleared lists market.law p market.by_nodes net s agrees held_all (λ c conc. nobody_has_news c) (nobody_has_news 0)
          (devices_net quiet.devices);
      held = telling.all_held lists market.law p market.by_nodes net s agrees held_all (λ c conc. nobody_has_news c) (nobody_has_news 0)
          (devices_net quiet.devices);
    })
