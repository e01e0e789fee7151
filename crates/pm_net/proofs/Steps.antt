-- Each event is some legal moves, and keeps agents and setpoints right.
use Rattle.std.proofs.Common.{◌≡◌, ◌∙◌, sym, ap, subst, ℕ, ◌+◌, ◌<◌, ◌≤◌, Bool, true, false, cond, not, ltb, leb, ◌&&◌}
use Rattle.std.proofs.Common.{◌||◌, eqb, inl, inr, List, [], ◌∷◌, ◌++◌, length, get_or, Option, Some, None, refl, arith}
use Rattle.std.proofs.lemmas.Bool.{cases_eq, cases_lt, cases_Bool, and_parts, cond-true, cond-false, ltb-true, both_ways, true≢false}
use Rattle.std.proofs.lemmas.List.{append-nil}
use Rattle.std.specs.List.{All, AllPairs}
use Rattle.pm_base.specs.Cuts.{Cut}
use Rattle.pm_market.specs.declared.moves.Move.{Move}
use Rattle.pm_market.specs.Lists.{changes as lists_changes}
use Rattle.pm_market.specs.Lists.{Lists, parent, phases, is_leaf, is_member, IsNode, IsLeaf, Lawful}
use Rattle.pm_market.specs.State.{State, start, update, cleared_cut}
use Rattle.pm_market.specs.Moves.{after_from}
use Rattle.pm_market.proofs.Tree.{leaf_node}
use Rattle.pm_market.proofs.Cuts.{updated_same, updated_other}
use Rattle.pm_market.proofs.Legality.{is_node_at}
use Rattle.pm_laws.proofs.Facts.{cleared_within, updated_at}
use Rattle.pm_laws.proofs.Numbers.{number_leaf}
use Rattle.pm_laws.proofs.Order.{after_append, legal_append, cleared_stays}
use Rattle.pm_laws.proofs.Published.{due_within}
use Rattle.pm_net.specs.Pricing.{Pricing, GoesByNodes}
use Rattle.pm_net.specs.Messages.{PriceMessage, no_price}
use Rattle.pm_net.specs.Network.{Network, sent_bid, sent_price}
use Rattle.pm_net.specs.Running.{is_new_bid, can_send, can_clear, is_new_price, names_a_bid, waits}
use Rattle.pm_net.specs.Restarts.{can_rebuild}
use Rattle.pm_net.specs.Running.{after_taking_bid, after_sending, after_clearing, after_taking_price, after_answer, after_passing, after_relay_price}
use Rattle.pm_net.specs.Restarts.{after_rebuilding, stored_price}
use Rattle.pm_net.specs.Restarts.{auctioneer_stopped, can_tell_one, after_telling_one, can_pass_to_one, after_passing_to_one, device_stopped}
use Rattle.pm_net.specs.Restarts.{relay_stopped, can_resend, after_resending}
use Rattle.pm_net.specs.Events.{Event, network_step, Bids, TakesBid, Sends, Clears, TakesPrice, Restarts, Rebuilds, StopsBidding, Resends, PassesToOne}
use Rattle.pm_net.specs.Events.{StopsClearing, TellsOne, KeepsRunning, RunsOn}
use Rattle.pm_net.specs.Agrees.{IsItsPrice, GoesOn}
use Rattle.pm_net.proofs.Messages.{either, past}
use Rattle.pm_net.proofs.Bidding.{bidding}
use Rattle.pm_net.proofs.Resending.{device_stops}
use Rattle.pm_net.proofs.Runs.{event_goes_on}
use Rattle.pm_net.proofs.Starting.{starting}
use Rattle.pm_net.specs.Agents.{Offer, Setpoint, DeviceAgent, may_offer, after_offer, after_leaving, kept_offer, setpoints_of, setpoints_for}
use Rattle.pm_net.specs.Agents.{answered_by, after_price, after_coming_back}
use Rattle.pm_net.specs.Devices.{Devices, start_devices, may_change, agent_after_own, agent_after_change, after_change, after_stop, after_given, devices_step}
use Rattle.pm_net.specs.Devices.{devices_after, IsRight, AgentIs}
use Rattle.pm_net.specs.Devices.{DevicesAgree, DevicesGoOn, SetpointsRise}
use Rattle.pm_net.proofs.Offers.{starts, changes, takes, restarts, gives_right, rising_more}

-- setpoints stay right whatever moves follow
stays : (lists : Lists) (p : Pricing) (s : State) (d : ℕ) (moves : List Move) (xs : List Setpoint) →
    All (IsRight lists p s d) xs → All (IsRight lists p (after_from lists s moves) d) xs
stays lists p s d moves xs all k o lt =
    let one = all k o lt in
    let still = cleared_stays lists moves s (get_or xs k o).index one.cleared_by_now in
    record {
      cleared_one = one.cleared_one;
      cleared_by_now = still.0;
      number = one.number ∙ ap (λ (cut : Cut). cut d) (sym still.1);
      member = one.member;
      step = one.step ∙ ap (λ (cut : Cut). p.local cut d) (sym still.1);
      power = one.power;
    }

-- what is so of a network in each way in which a node may take a price
pub hears_each : (lists : Lists) (p : Pricing) (net : Network) (x k : ℕ) (Q : Network → Type 0) → Q net →
    Q (after_taking_price net x (sent_price net x k)) →
    Q (after_passing lists p net x (sent_price net x k)) → Q (after_answer net x (sent_price net x k)) → Q (network_step lists p net (TakesPrice x k))
hears_each lists p net x k Q nothing held passed answered =
    let price : PriceMessage = sent_price net x k in
    either Q (is_new_price lists net x price) (cond (is_leaf lists x) (after_taking_price net x price) (after_relay_price lists p net x price)) net
    (λ newer. either Q (is_leaf lists x) (after_taking_price net x price) (after_relay_price lists p net x price)
    (λ leaf. held)
    (λ inner. either Q (names_a_bid net x price.number)
    (cond (leb (net.whole_from x) price.number) (after_passing lists p net x price) (cond (waits lists net x price.number) net (after_answer net x price))) net
    (λ names. either Q (leb (net.whole_from x) price.number) (after_passing lists p net x price) (cond (waits lists net x price.number) net
    (after_answer net x price))
    (λ e. passed)
    (λ e. either Q (waits lists net x price.number) net (after_answer net x price) (λ e. nothing) (λ e. answered)))
    (λ e. nothing)))
    (λ e. nothing)

-- counts, and what a device holds, at another node
abbrev IsSameAt : Network → ℕ → Network → Type 0
IsSameAt net d after = (after.counts d ≡ net.counts d) × ((after.taken d).index ≡ (net.taken d).index)

module _ (lists : Lists) (law : Lawful lists) (one : phases lists ≡ 1) (p : Pricing) (by : GoesByNodes lists p) (devices : Devices) (s : State)
    (agree : DevicesAgree lists p devices s) where
  abbrev net : Network
  net = devices.net

  -- the agents are the same, and so is what the network has of the devices
  quiet : (after : Network) → (goes : GoesOn lists p s after) → ((d : ℕ) → IsLeaf lists d → IsSameAt net d after) →
      DevicesGoOn lists p s (record devices { net = after })
  quiet after goes same = record {
    moves = goes.moves;
    legal = goes.legal;
    agree = record {
      agrees = goes.agrees;
      agents = λ d leaf. subst (λ (i : ℕ). AgentIs lists p d (after.counts d) i (devices.agents d)) (sym (same d leaf).1)
          (subst (λ (n : ℕ). AgentIs lists p d n (net.taken d).index (devices.agents d)) (sym (same d leaf).0) (agree.agents d leaf));
      setpoints = λ d leaf. stays lists p s d goes.moves (devices.setpoints d) (agree.setpoints d leaf);
    };
  }

  nothing : DevicesGoOn lists p s devices
  nothing = record { moves = []; legal = tt; agree = agree }

  module _ (d : ℕ) (may : may_change lists devices d ≡ true) where
    abbrev n : ℕ
    n = net.counts d + 1

    abbrev new_agent_of : DeviceAgent
    new_agent_of = agent_after_change lists p d n (devices.agents d)

    parts : ((is_leaf lists d && ltb (net.counts d) (lists_changes lists d)) ≡ true)
        × ((eqb (net.counts d) (devices.agents d).number || (not (is_member lists d n) || may_offer (devices.agents d))) ≡ true)
    parts = and_parts (is_leaf lists d && ltb (net.counts d) (lists_changes lists d)) (eqb (net.counts d) (devices.agents d).number
        || (not (is_member lists d n) || may_offer (devices.agents d))) may

    leaf_is : IsLeaf lists d
    leaf_is = (and_parts (is_leaf lists d) (ltb (net.counts d) (lists_changes lists d)) parts.0).0

    room_of : (c a b : Bool) → c ≡ false → a ≡ true → (c || (not a || b)) ≡ true → b ≡ true
    room_of true a b none e h = absurd (true≢false none)
    room_of false true b none e h = h
    room_of false false b none e h = absurd (true≢false (sym e))

    agents_changed : (x : ℕ) → IsLeaf lists x →
        AgentIs lists p x (update net.counts d n x) (net.taken x).index (update devices.agents d new_agent_of x)
    agents_changed x x_leaf = elim (cases_eq x d) [
      | inl e ↦
          let Is : ℕ → Type 0 = λ z. AgentIs lists p z (update net.counts d n z) (net.taken z).index (update devices.agents d new_agent_of z) in
          subst Is (sym e) (subst (λ (a : DeviceAgent). AgentIs lists p d (update net.counts d n d) (net.taken d).index a) (sym
          (updated_same devices.agents d new_agent_of))
          (subst (λ (c : ℕ). AgentIs lists p d c (net.taken d).index new_agent_of) (sym (updated_same net.counts d n))
          (changes lists p d (net.counts d) (net.taken d).index (devices.agents d) (agree.agents d leaf_is)
          (λ own member. room_of (eqb (net.counts d) (devices.agents d).number) (is_member lists d n) (may_offer (devices.agents d)) own member parts.1))))
      | inr ne ↦ subst (λ (a : DeviceAgent). AgentIs lists p x (update net.counts d n x) (net.taken x).index a) (sym
          (updated_other devices.agents d new_agent_of x ne))
          (subst (λ (c : ℕ). AgentIs lists p x c (net.taken x).index (devices.agents x)) (sym (updated_other net.counts d n x ne)) (agree.agents x x_leaf))
    ]

    changing : DevicesGoOn lists p s (after_change lists p devices d)
    changing =
        let goes = bidding lists law one p by net s agree.agrees d parts.0 in
        record {
          moves = goes.moves;
          legal = goes.legal;
          agree = record {
            agrees = goes.agrees;
            agents = agents_changed;
            setpoints = λ x x_leaf. stays lists p s x goes.moves (devices.setpoints x) (agree.setpoints x x_leaf);
          };
        }

    stopping : DevicesGoOn lists p s (after_stop lists p devices d)
    stopping =
        let goes = device_stops lists law p by net s agree.agrees one d parts.0 in
        record {
          moves = goes.moves;
          legal = goes.legal;
          agree = record {
            agrees = goes.agrees;
            agents = agents_changed;
            setpoints = λ x x_leaf. stays lists p s x goes.moves (devices.setpoints x) (agree.setpoints x x_leaf);
          };
        }

  -- a device is given a price
  module _ (x k : ℕ) (leaf : IsLeaf lists x) where
    abbrev price : PriceMessage
    price = sent_price net x k

    abbrev agent : DeviceAgent
    agent = devices.agents x

    abbrev after : Network
    after = network_step lists p net (TakesPrice x k)

    node : IsNode lists x
    node = leaf_node lists law x leaf

    is : AgentIs lists p x (net.counts x) (net.taken x).index agent
    is = agree.agents x leaf

    newer_is : is_new_price lists net x price ≡ ltb agent.index price.index
    unfolding is_new_price
    newer_is = ap (λ (b : Bool). b && ltb (net.taken x).index price.index) (is_node_at lists x node)
        ∙ ap (λ (i : ℕ). ltb i price.index) (sym is.its_index)

    -- a device takes a newer price
    pub after_newer : ltb agent.index price.index ≡ true → after ≡ after_taking_price net x price
    after_newer e =
        cond-true (is_new_price lists net x price) (cond (is_leaf lists x) (after_taking_price net x price) (after_relay_price lists p net x price)) net
        (newer_is ∙ e)
        ∙ cond-true (is_leaf lists x) (after_taking_price net x price) (after_relay_price lists p net x price) leaf

    -- and leaves any other
    pub after_older : ltb agent.index price.index ≡ false → after ≡ net
    after_older e = cond-false (is_new_price lists net x price) (cond (is_leaf lists x) (after_taking_price net x price)
        (after_relay_price lists p net x price)) net (newer_is ∙ e)

    its : ltb agent.index price.index ≡ true → IsItsPrice lists p s x price
    its e = elim (cases_lt k (length (net.prices_sent x))) [
      | inl lt ↦ agree.agrees.prices_sent x k node lt
      | inr ge ↦ absurd (omega (arith, ltb-true agent.index price.index e, ap (λ (q : PriceMessage). q.index) (past (net.prices_sent x) k no_price ge)))
    ]

    new_setpoints : All (IsRight lists p s x) (devices.setpoints x ++ setpoints_for agent price)
    new_setpoints =
        let P : List Setpoint → Type 0 = λ l. All (IsRight lists p s x) (devices.setpoints x ++ l) in
        either P (ltb agent.index price.index) (setpoints_of price (kept_offer agent price.number)) []
        (λ e.
        let at = its e in
        let within = due_within lists s agree.agrees.sound x price.index at.0 in
        gives_right lists p x s price within.0 within.1
        (ap (λ (q : PriceMessage). q.number) at.1 ∙ number_leaf lists s.published x (cleared_cut s price.index) leaf)
        (ap (λ (q : PriceMessage). q.step) at.1) (net.counts x) (net.taken x).index agent is (devices.setpoints x) (agree.setpoints x leaf))
        (λ e. subst (All (IsRight lists p s x)) (sym (append-nil (devices.setpoints x))) (agree.setpoints x leaf))

    counts_same : (d : ℕ) → after.counts d ≡ net.counts d
    counts_same d = hears_each lists p net x k (λ (n : Network). n.counts d ≡ net.counts d) refl refl refl refl

    others_same : (d : ℕ) → (d ≡ x → ⊥) → (after.taken d).index ≡ (net.taken d).index
    others_same d ne = hears_each lists p net x k (λ (n : Network). (n.taken d).index ≡ (net.taken d).index) refl
        (ap (λ (q : PriceMessage). q.index) (updated_other net.taken x price d ne)) (ap (λ (q : PriceMessage). q.index)
        (updated_other net.taken x price d ne))
        (ap (λ (q : PriceMessage). q.index) (updated_other net.taken x price d ne))

    giving : DevicesGoOn lists p s (after_given devices x k after)
    giving =
        let goes = event_goes_on lists law one p by net s agree.agrees (TakesPrice x k) in
        let new : DeviceAgent = after_price agent price in
        let mine : AgentIs lists p x (net.counts x) (after.taken x).index new =
        takes lists p x (net.counts x) (net.taken x).index agent is price (after.taken x).index
        (λ e. ap (λ (n : Network). (n.taken x).index) (after_newer e) ∙ ap (λ (q : PriceMessage). q.index) (updated_same net.taken x price))
        (λ e. ap (λ (n : Network). (n.taken x).index) (after_older e)) in
        record {
          moves = goes.moves;
          legal = goes.legal;
          agree = record {
            agrees = goes.agrees;
            agents = λ d d_leaf. subst (λ (n : ℕ). AgentIs lists p d n (after.taken d).index (update devices.agents x new d)) (sym (counts_same d))
                (elim (cases_eq d x) [
                  | inl e ↦ subst (λ (z : ℕ). AgentIs lists p z (net.counts z) (after.taken z).index (update devices.agents x new z)) (sym e)
                      (subst (λ (a : DeviceAgent). AgentIs lists p x (net.counts x) (after.taken x).index a) (sym (updated_same devices.agents x new)) mine)
                  | inr ne ↦ subst (λ (a : DeviceAgent). AgentIs lists p d (net.counts d) (after.taken d).index a) (sym
                      (updated_other devices.agents x new d ne))
                      (subst (λ (i : ℕ). AgentIs lists p d (net.counts d) i (devices.agents d)) (sym (others_same d ne)) (agree.agents d d_leaf))
                ]);
            setpoints = λ d d_leaf. stays lists p s d goes.moves _ (elim (updated_at devices.setpoints x
                (devices.setpoints x ++ setpoints_for agent price) d) [
                  | inl w ↦ subst (All (IsRight lists p s d)) (sym w.1)
                      (subst (λ (z : ℕ). All (IsRight lists p s z) (devices.setpoints x ++ setpoints_for agent price)) (sym w.0) new_setpoints)
                  | inr w ↦ subst (All (IsRight lists p s d)) (sym w.1) (agree.setpoints d d_leaf)
                ]);
          };
        }

  restarting : (y k : ℕ) → DevicesGoOn lists p s (devices_step lists p devices (Restarts y k))
  restarting y k =
      let goes = event_goes_on lists law one p by net s agree.agrees (Restarts y k) in
      let stored : PriceMessage = stored_price net y k in
      let new : DeviceAgent = after_coming_back (devices.agents y) stored.index in
      record {
        moves = goes.moves;
        legal = goes.legal;
        agree = record {
          agrees = goes.agrees;
          agents = λ d leaf. elim (cases_eq d y) [
            | inl e ↦
                let Is : ℕ → Type 0 = λ z. AgentIs lists p z (net.counts z) (update net.taken y stored z).index (update devices.agents y new z) in
                subst Is (sym e) (subst (λ (a : DeviceAgent). AgentIs lists p y (net.counts y) (update net.taken y stored y).index a) (sym
                (updated_same devices.agents y new))
                (subst (λ (q : PriceMessage). AgentIs lists p y (net.counts y) q.index new) (sym (updated_same net.taken y stored))
                (restarts lists p y (net.counts y) (net.taken y).index (devices.agents y) (agree.agents y (ap (is_leaf lists) (sym e) ∙ leaf)) stored.index)))
            | inr ne ↦ subst (λ (a : DeviceAgent). AgentIs lists p d (net.counts d) (update net.taken y stored d).index a) (sym
                (updated_other devices.agents y new d ne))
                (subst (λ (q : PriceMessage). AgentIs lists p d (net.counts d) q.index (devices.agents d)) (sym (updated_other net.taken y stored d ne))
                (agree.agents d leaf))
          ];
          setpoints = λ d leaf. stays lists p s d goes.moves (devices.setpoints d) (agree.setpoints d leaf);
        };
      }

  -- an event goes on
  pub step_goes_on : (e : Event) → DevicesGoOn lists p s (devices_step lists p devices e)
  step_goes_on (Bids d) = either (DevicesGoOn lists p s) (may_change lists devices d) (after_change lists p devices d) devices (λ e. changing d e)
      (λ e. nothing)
  step_goes_on (TakesBid x k) = quiet (network_step lists p net (TakesBid x k)) (event_goes_on lists law one p by net s agree.agrees (TakesBid x k)) (λ d leaf.
      either (IsSameAt net d) (is_new_bid lists net x (sent_bid p net x k)) (after_taking_bid net x (sent_bid p net x k)) net (λ e. (refl, refl)) (λ e.
      (refl, refl)))
  step_goes_on (Sends c) = quiet (network_step lists p net (Sends c)) (event_goes_on lists law one p by net s agree.agrees (Sends c)) (λ d leaf.
      either (IsSameAt net d) (can_send lists net c) (after_sending p net c) net (λ e. (refl, refl)) (λ e. (refl, refl)))
  step_goes_on Clears = quiet (network_step lists p net Clears) (event_goes_on lists law one p by net s agree.agrees Clears) (λ d leaf.
      either (IsSameAt net d) (can_clear lists net) (after_clearing lists p net) net (λ e. (refl, refl)) (λ e. (refl, refl)))
  step_goes_on (TakesPrice x k) =
      either (DevicesGoOn lists p s) (is_leaf lists x) (after_given devices x k (network_step lists p net (TakesPrice x k))) (record devices {
        net =
            network_step lists p net (TakesPrice x k);
      })
      (λ leaf. giving x k leaf)
      (λ inner. quiet (network_step lists p net (TakesPrice x k)) (event_goes_on lists law one p by net s agree.agrees (TakesPrice x k)) (λ d leaf.
      let other : (d ≡ x → ⊥) = λ e. both_ways (is_leaf lists x) inner (ap (is_leaf lists) (sym e) ∙ leaf) in
      let same : (net_taken : ℕ → PriceMessage) → net_taken ≡ update net.taken x (sent_price net x k) → (net_taken d).index ≡ (net.taken d).index =
      λ t is. ap (λ (f : ℕ → PriceMessage). (f d).index) is
      ∙ ap (λ (q : PriceMessage). q.index) (updated_other net.taken x (sent_price net x k) d other) in
      hears_each lists p net x k (IsSameAt net d) (refl, refl) (refl, same _ refl) (refl, same _ refl) (refl, same _ refl)))
  step_goes_on (Restarts y k) = restarting y k
  step_goes_on (Rebuilds c) = quiet (network_step lists p net (Rebuilds c)) (event_goes_on lists law one p by net s agree.agrees (Rebuilds c)) (λ d leaf.
      either (IsSameAt net d) (can_rebuild lists net c) (after_rebuilding net c) net (λ e. (refl, refl)) (λ e. (refl, refl)))
  step_goes_on (StopsBidding x) =
      either (DevicesGoOn lists p s) (is_leaf lists x) (cond (may_change lists devices x) (after_stop lists p devices x) devices)
      (record devices { net = network_step lists p net (StopsBidding x) })
      (λ leaf. either (DevicesGoOn lists p s) (may_change lists devices x) (after_stop lists p devices x) devices (λ e. stopping x e) (λ e. nothing))
      (λ inner. quiet (network_step lists p net (StopsBidding x)) (event_goes_on lists law one p by net s agree.agrees (StopsBidding x)) (λ d leaf.
      either (IsSameAt net d) (is_leaf lists x && ltb (net.counts x) (lists_changes lists x)) (device_stopped net x) (cond (can_send lists net x)
      (relay_stopped net x) net)
      (λ e. absurd (both_ways (is_leaf lists x) inner (and_parts (is_leaf lists x) (ltb (net.counts x) (lists_changes lists x)) e).0))
      (λ e. either (IsSameAt net d) (can_send lists net x) (relay_stopped net x) net (λ may. (refl, refl)) (λ none. (refl, refl)))))
  step_goes_on (Resends x) = quiet (network_step lists p net (Resends x)) (event_goes_on lists law one p by net s agree.agrees (Resends x)) (λ d leaf.
      either (IsSameAt net d) (can_resend lists net x) (after_resending lists p net x) net (λ e. (refl, refl)) (λ e. (refl, refl)))
  step_goes_on (PassesToOne z k) = quiet (network_step lists p net (PassesToOne z k)) (event_goes_on lists law one p by net s agree.agrees (PassesToOne z k))
      (λ d leaf.
      either (IsSameAt net d) (can_pass_to_one lists net z (sent_price net (parent lists z) k)) (after_passing_to_one lists p net z (sent_price net
      (parent lists z) k)) net
      (λ e. (refl, refl)) (λ e. (refl, refl)))
  step_goes_on StopsClearing = quiet (network_step lists p net StopsClearing) (event_goes_on lists law one p by net s agree.agrees StopsClearing) (λ d leaf.
      either (IsSameAt net d) (can_clear lists net) (auctioneer_stopped net) net (λ e. (refl, refl)) (λ e. (refl, refl)))
  step_goes_on (TellsOne z) = quiet (network_step lists p net (TellsOne z)) (event_goes_on lists law one p by net s agree.agrees (TellsOne z)) (λ d leaf.
      either (IsSameAt net d) (can_tell_one lists net z) (after_telling_one p net z) net (λ e. (refl, refl)) (λ e. (refl, refl)))

-- so does a run
pub run_goes_on : (lists : Lists) → Lawful lists → phases lists ≡ 1 → (p : Pricing) → GoesByNodes lists p →
    (events : List Event) (devices : Devices) (s : State) →
    DevicesAgree lists p devices s → DevicesGoOn lists p s (devices_after lists p devices events)
run_goes_on lists law one p by [] devices s agree = record { moves = []; legal = tt; agree = agree }
run_goes_on lists law one p by (e ∷ es) devices s agree =
    let first = step_goes_on lists law one p by devices s agree e in
    let rest = run_goes_on lists law one p by es (devices_step lists p devices e) (after_from lists s first.moves) first.agree in
    record {
      moves = first.moves ++ rest.moves;
      legal = legal_append lists first.moves rest.moves s first.legal rest.legal;
      agree = subst (DevicesAgree lists p (devices_after lists p (devices_step lists p devices e) es)) (sym
          (after_append lists first.moves rest.moves s)) rest.agree;
    }

-- at the start the devices stand for the start of the market
pub agree_at_start : (lists : Lists) → Lawful lists → (p : Pricing) → GoesByNodes lists p → DevicesAgree lists p (start_devices p) start
agree_at_start lists law p by = record {
  agrees = starting lists law p by;
  agents = λ d leaf. starts lists p d;
  setpoints = λ d leaf k o lt. absurd (omega arith);
}

-- a run of devices from the start is a legal journal, and all setpoints are right
pub run_from_start : (lists : Lists) → Lawful lists → phases lists ≡ 1 → (p : Pricing) → GoesByNodes lists p → (events : List Event) →
    DevicesGoOn lists p start (devices_after lists p (start_devices p) events)
run_from_start lists law one p by events = run_goes_on lists law one p by events (start_devices p) start (agree_at_start lists law p by)

-- of two setpoints the one of the greater index has the later cut
pub cuts_rise : (lists : Lists) (p : Pricing) (s : State) (d : ℕ) (a b : Setpoint) → Lawful lists → (devices : Devices) →
    DevicesAgree lists p devices s →
    IsRight lists p s d b → a.index ≤ b.index → (e : ℕ) → IsLeaf lists e → cleared_cut s a.index e ≤ cleared_cut s b.index e
cuts_rise lists p s d a b law devices agree right le e leaf = cleared_within lists law s agree.agrees.sound a.index b.index le right.cleared_by_now e leaf

answered_index : (agent : DeviceAgent) (price : PriceMessage) (o : Option Offer) → (answered_by agent price o).index ≡ price.index
answered_index a q None = refl
answered_index a q (Some offer) = refl

within_changed : (lists : Lists) (p : Pricing) (devices : Devices) (d x : ℕ) →
    All (λ (a : Setpoint). a.index ≤ (devices.agents d).index) (devices.setpoints d) →
    All (λ (a : Setpoint). a.index ≤ (update devices.agents x (agent_after_change lists p x (devices.net.counts x + 1) (devices.agents x)) d).index)
    (devices.setpoints d)
within_changed lists p devices d x within k o lt =
    let n : ℕ = devices.net.counts x + 1 in
    let new : DeviceAgent = agent_after_change lists p x n (devices.agents x) in
    let index_same : new.index ≡ (devices.agents x).index = either (λ (a : DeviceAgent). a.index ≡ (devices.agents x).index)
    (eqb n ((devices.agents x).number + 1)) (devices.agents x) (agent_after_own lists p x n (devices.agents x)) (λ e. refl)
    (λ e. either (λ (a : DeviceAgent). a.index ≡ (devices.agents x).index) (is_member lists x n)
    (after_offer (devices.agents x) (p.demand x n)) (after_leaving (devices.agents x)) (λ e. refl) (λ e. refl)) in
    elim (updated_at devices.agents x new d) [
      | inl w ↦ omega (arith, within k o lt, ap (λ (a : DeviceAgent). a.index) w.1, index_same, ap (λ (z : ℕ). (devices.agents z).index) w.0)
      | inr w ↦ omega (arith, within k o lt, ap (λ (a : DeviceAgent). a.index) w.1)
    ]

-- while a device does not restart its setpoints rise
rising_step : (lists : Lists) (p : Pricing) (devices : Devices) (d : ℕ) → SetpointsRise devices d → (e : Event) → KeepsRunning d e →
    SetpointsRise (devices_step lists p devices e) d
rising_step lists p devices d are (Bids x) runs =
    let Rises : Devices → Type 0 = λ t. SetpointsRise t d in
    either Rises (may_change lists devices x) (after_change lists p devices x) devices
    (λ e. record { rising = are.rising; within = within_changed lists p devices d x are.within }) (λ e. are)
rising_step lists p devices d are (TakesBid x k) runs = record { rising = are.rising; within = are.within }
rising_step lists p devices d are (Sends c) runs = record { rising = are.rising; within = are.within }
rising_step lists p devices d are Clears runs = record { rising = are.rising; within = are.within }
rising_step lists p devices d are (TakesPrice x k) runs =
    let Rises : Devices → Type 0 = λ t. SetpointsRise t d in
    either Rises (is_leaf lists x) (after_given devices x k (network_step lists p devices.net (TakesPrice x k))) (record devices {
      net =
          network_step lists p devices.net (TakesPrice x k);
    })
    (λ leaf. elim (cases_eq d x) [
      | inl e ↦
          let new : DeviceAgent = after_price (devices.agents x) (sent_price devices.net x k) in
          let more : List Setpoint = devices.setpoints x ++ setpoints_for (devices.agents x) (sent_price devices.net x k) in
          let Both : List Setpoint → DeviceAgent → Type 0 =
          λ l a. AllPairs (λ (b c : Setpoint). b.index < c.index) l × All (λ (b : Setpoint). b.index ≤ a.index) l in
          let here : Both more new = grown (devices.agents x) (sent_price devices.net x k) (devices.setpoints x)
          (subst (λ (z : ℕ). AllPairs (λ (b c : Setpoint). b.index < c.index) (devices.setpoints z)) e are.rising)
          (subst (λ (z : ℕ). All (λ (b : Setpoint). b.index ≤ (devices.agents z).index) (devices.setpoints z)) e are.within) in
          let at : Both (update devices.setpoints x more d) (update devices.agents x new d) =
          subst (λ (z : ℕ). Both (update devices.setpoints x more z) (update devices.agents x new z)) (sym e)
          (subst (λ (l : List Setpoint). Both l (update devices.agents x new x)) (sym (updated_same devices.setpoints x more))
          (subst (λ (a : DeviceAgent). Both more a) (sym (updated_same devices.agents x new)) here)) in
          record { rising = at.0; within = at.1 }
      | inr ne ↦
          let new : DeviceAgent = after_price (devices.agents x) (sent_price devices.net x k) in
          let more : List Setpoint = devices.setpoints x ++ setpoints_for (devices.agents x) (sent_price devices.net x k) in
          record {
            rising = subst (AllPairs (λ (b c : Setpoint). b.index < c.index)) (sym (updated_other devices.setpoints x more d ne)) are.rising;
            within = subst (λ (l : List Setpoint). All (λ (b : Setpoint). b.index ≤ (update devices.agents x new d).index) l) (sym
                (updated_other devices.setpoints x more d ne))
                (subst (λ (a : DeviceAgent). All (λ (b : Setpoint). b.index ≤ a.index) (devices.setpoints d)) (sym
                (updated_other devices.agents x new d ne)) are.within);
          }
    ])
    (λ inner. record { rising = are.rising; within = are.within })
  where
    grown : (agent : DeviceAgent) (price : PriceMessage) (xs : List Setpoint) → AllPairs (λ (b c : Setpoint). b.index < c.index) xs →
        All (λ (b : Setpoint). b.index ≤ agent.index) xs →
        AllPairs (λ (b c : Setpoint). b.index < c.index) (xs ++ setpoints_for agent price)
        × All (λ (b : Setpoint). b.index ≤ (after_price agent price).index) (xs ++ setpoints_for agent price)
    grown agent price xs rising within = elim (cases_Bool (ltb agent.index price.index)) [
      | inl e ↦
          let both = rising_more price (kept_offer agent price.number) xs agent.index (ltb-true agent.index price.index e) rising within in
          let Is : List Setpoint → Type 0 =
          λ l. AllPairs (λ (b c : Setpoint). b.index < c.index) (xs ++ l) × All (λ (b : Setpoint). b.index ≤ (after_price agent price).index) (xs ++ l) in
          subst Is (sym (cond-true (ltb agent.index price.index) (setpoints_of price (kept_offer agent price.number)) [] e)) (
            both.0,
            λ k o lt. omega (
              arith,
              both.1 k o lt,
              ap (λ (a : DeviceAgent). a.index) (cond-true (ltb agent.index price.index) (answered_by agent price (kept_offer agent price.number)) agent e),
              answered_index agent price (kept_offer agent price.number),
            ),
          )
      | inr e ↦
          let Is : List Setpoint → Type 0 =
          λ l. AllPairs (λ (b c : Setpoint). b.index < c.index) l × All (λ (b : Setpoint). b.index ≤ (after_price agent price).index) l in
          subst Is (sym (ap (λ (l : List Setpoint). xs ++ l) (cond-false (ltb agent.index price.index) (setpoints_of price
          (kept_offer agent price.number)) [] e) ∙ append-nil xs)) (
            rising,
            subst (λ (a : DeviceAgent). All (λ (b : Setpoint). b.index ≤ a.index) xs)
                (sym (cond-false (ltb agent.index price.index) (answered_by agent price (kept_offer agent price.number)) agent e)) within,
          )
    ]
rising_step lists p devices d are (Restarts y k) runs =
    let new : DeviceAgent = after_coming_back (devices.agents y) (stored_price devices.net y k).index in
    record {
      rising = are.rising;
      within = subst (λ (a : DeviceAgent). All (λ (b : Setpoint). b.index ≤ a.index) (devices.setpoints d)) (sym (updated_other devices.agents y new d
          (λ e. runs (sym e)))) are.within;
    }
rising_step lists p devices d are (Rebuilds c) runs = record { rising = are.rising; within = are.within }
rising_step lists p devices d are (StopsBidding x) runs =
    let Rises : Devices → Type 0 = λ t. SetpointsRise t d in
    either Rises (is_leaf lists x) (cond (may_change lists devices x) (after_stop lists p devices x) devices) (record devices {
      net =
          network_step lists p devices.net (StopsBidding x);
    })
    (λ leaf. either Rises (may_change lists devices x) (after_stop lists p devices x) devices
    (λ e. record { rising = are.rising; within = within_changed lists p devices d x are.within }) (λ e. are))
    (λ inner. record { rising = are.rising; within = are.within })
rising_step lists p devices d are (Resends x) runs = record { rising = are.rising; within = are.within }
rising_step lists p devices d are (PassesToOne z k) runs = record { rising = are.rising; within = are.within }
rising_step lists p devices d are StopsClearing runs = record { rising = are.rising; within = are.within }
rising_step lists p devices d are (TellsOne z) runs = record { rising = are.rising; within = are.within }

rising_run : (lists : Lists) (p : Pricing) (events : List Event) (devices : Devices) (d : ℕ) → SetpointsRise devices d → RunsOn d events →
    SetpointsRise (devices_after lists p devices events) d
rising_run lists p [] devices d are runs = are
rising_run lists p (e ∷ es) devices d are runs =
    rising_run lists p es (devices_step lists p devices e) d (rising_step lists p devices d are e runs.0) runs.1

-- while a device does not restart its setpoints rise
pub rising_from_start : (lists : Lists) (p : Pricing) (events : List Event) (d : ℕ) → RunsOn d events →
    SetpointsRise (devices_after lists p (start_devices p) events) d
rising_from_start lists p events d runs =
    rising_run lists p events (start_devices p) d (record { rising = λ i j o lt le. absurd (omega arith); within = λ k o lt. absurd (omega arith) }) runs
