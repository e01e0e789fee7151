-- While a device does not restart, its control is told the price of its newest bid; so in a settled network it was.
use Rattle.std.proofs.Common.{◌≡◌, ◌∙◌, sym, ap, subst, ℕ, ◌+◌, ◌-◌, ◌<◌, ◌≤◌, true, cond, ltb, eqb, ◌&&◌, inl}
use Rattle.std.proofs.Common.{inr, List, []}
use Rattle.std.proofs.Common.{◌∷◌, ◌++◌, length, get_or, Option, Some, None, refl, arith, pos}
use Rattle.std.proofs.lemmas.Bool.{cases_eq, cases_Bool, cond-true, cond-false, both_ways}
use Rattle.std.proofs.lemmas.List.{append-nil, get_or_default}
use Rattle.pm_market.specs.Lists.{changes as lists_changes}
use Rattle.pm_market.specs.Lists.{Lists, parent, phases, is_leaf, is_member, IsNode, IsLeaf, Lawful}
use Rattle.pm_market.specs.State.{State, start, update, newest_number_of, clearings, cleared_cut}
use Rattle.pm_market.specs.Moves.{after_from}
use Rattle.pm_market.proofs.Tree.{leaf_node}
use Rattle.pm_market.proofs.Cuts.{updated_same, updated_other, newest_leaf}
use Rattle.pm_laws.proofs.Numbers.{cleared_is_part}
use Rattle.pm_laws.proofs.Published.{due_within}
use Rattle.pm_laws.proofs.Quiet.{in_zero}
use Rattle.pm_net.specs.Pricing.{Pricing, GoesByNodes}
use Rattle.pm_net.specs.Messages.{PriceMessage, price_message}
use Rattle.pm_net.specs.Network.{Network, sent_bid, sent_price}
use Rattle.pm_net.specs.Running.{is_new_bid, can_send, can_clear}
use Rattle.pm_net.specs.Restarts.{can_rebuild, can_resend, can_pass_to_one, can_tell_one}
use Rattle.pm_net.specs.Running.{after_bidding, after_taking_bid, after_sending, after_clearing}
use Rattle.pm_net.specs.Restarts.{after_rebuilding, device_stopped, relay_stopped, after_resending, after_passing_to_one}
use Rattle.pm_net.specs.Restarts.{auctioneer_stopped, after_telling_one, stored_price}
use Rattle.pm_net.specs.Events.{Event, network_step, Bids, TakesBid, Sends, Clears, TakesPrice, Restarts, Rebuilds, StopsBidding, Resends, PassesToOne}
use Rattle.pm_net.specs.Events.{StopsClearing, TellsOne, KeepsRunning, RunsOn}
use Rattle.pm_net.specs.Settled.{IsSettledNetwork}
use Rattle.pm_net.proofs.Messages.{either, new_push}
use Rattle.pm_net.proofs.Settled.{all_counted, all_held}
use Rattle.pm_net.specs.Agents.{Setpoint, Offer, DeviceAgent, after_offer, after_leaving, kept_offer, setpoint_of, setpoints_of, setpoints_for}
use Rattle.pm_net.specs.Agents.{after_price, after_coming_back, answered_by}
use Rattle.pm_net.specs.Devices.{Devices, start_devices, may_change, agent_after_own, agent_after_change, after_change, after_stop, after_given, devices_step}
use Rattle.pm_net.specs.Devices.{devices_after, IsRight}
use Rattle.pm_net.specs.Devices.{DevicesAgree, IsTold, IsToldNow, no_setpoint}
use Rattle.pm_net.proofs.Offers.{IsThere, there}
use Rattle.pm_net.proofs.Steps.{hears_each, after_newer, after_older, step_goes_on, agree_at_start, run_from_start}

-- a price gives a setpoint of its index
told_by : (price : PriceMessage) (xs : List Setpoint) (o : Option Offer) → IsThere o →
    (k : ℕ) × (k < length (xs ++ setpoints_of price o)) × ((get_or (xs ++ setpoints_of price o) k no_setpoint).index ≡ price.index)
told_by price xs None is = absurd is
told_by price xs (Some offer) is =
    new_push (λ (q : Setpoint). q.index ≡ price.index) xs (setpoint_of price offer) no_setpoint refl

module _ (lists : Lists) (law : Lawful lists) (one : phases lists ≡ 1) (p : Pricing) (by : GoesByNodes lists p) (devices : Devices) (s : State)
    (agree : DevicesAgree lists p devices s) (d : ℕ) (leaf : IsLeaf lists d)
    (told : IsTold lists devices d) where
  abbrev net : Network
  net = devices.net

  -- a price that d holds is for a number that it has made
  old_number : 0 < (net.taken d).index → (net.taken d).number ≤ net.counts d
  old_number some =
      let node : IsNode lists d = leaf_node lists law d leaf in
      elim (agree.agrees.taken d node) [
        | inl none ↦ absurd (omega (arith, some, ap (λ (q : PriceMessage). q.index) none))
        | inr its ↦ omega (
          arith,
          ap (λ (q : PriceMessage). q.number) its.1,
          (cleared_is_part lists law s agree.agrees.sound d (net.taken d).index node (due_within lists s agree.agrees.sound d (net.taken d).index its.0).1).1,
          agree.agrees.sound.learnt_within d node,
          newest_lists,
          agree.agrees.counts d leaf,
        )
      ]
    where
      newest_lists : newest_number_of lists s d ≡ s.counts d
      newest_lists = newest_leaf lists s.counts s.published d leaf

  -- nothing changes at d
  quiet : (after : Network) → after.taken d ≡ net.taken d → IsTold lists (record devices { net = after }) d
  quiet after same =
      let Is : PriceMessage → Type 0 = λ q. q.number ≡ (devices.agents d).number → is_member lists d (devices.agents d).number ≡ true →
      0 < q.index →
      (k : ℕ) × (k < length (devices.setpoints d)) × ((get_or (devices.setpoints d) k no_setpoint).index ≡ q.index) in
      subst Is (sym same) told

  abbrev Keeps : DeviceAgent → PriceMessage → Type 0
  Keeps a q = q.number ≡ a.number → is_member lists d a.number ≡ true → 0 < q.index →
      (k : ℕ) × (k < length (devices.setpoints d)) × ((get_or (devices.setpoints d) k no_setpoint).index ≡ q.index)

  -- x makes a change
  changing : (x : ℕ) (after : Network) → after.taken d ≡ net.taken d →
      IsTold lists (record devices { net = after; agents = update devices.agents x (agent_after_change lists p x (net.counts x + 1) (devices.agents x)) }) d
  changing x after same =
      let new : DeviceAgent = agent_after_change lists p x (net.counts x + 1) (devices.agents x) in
      elim (cases_eq d x) [
        | inl e ↦
            let mine : update devices.agents x new d ≡ new = ap (λ (z : ℕ). update devices.agents x new z) e ∙ updated_same devices.agents x new in
            elim (cases_Bool (eqb (net.counts x + 1) ((devices.agents x).number + 1))) [
              | inl parents ↦
                  let kept : update devices.agents x new d ≡ devices.agents d = mine
                  ∙ cond-true (eqb (net.counts x + 1) ((devices.agents x).number + 1)) (devices.agents x) (agent_after_own lists p x (net.counts x + 1)
                  (devices.agents x)) parents
                  ∙ ap devices.agents (sym e) in
                  subst (λ (a : DeviceAgent). Keeps a (after.taken d)) (sym kept) (quiet after same)
              | inr own ↦ λ is member some.
                  let up : new.number ≡ (devices.agents x).number + 2 =
                  ap (λ (a : DeviceAgent). a.number) (cond-false (eqb (net.counts x + 1) ((devices.agents x).number + 1)) (devices.agents x)
                  (agent_after_own lists p x (net.counts x + 1) (devices.agents x)) own)
                  ∙ either (λ (a : DeviceAgent). a.number ≡ (devices.agents x).number + 2) (is_member lists x (net.counts x + 1))
                  (after_offer (devices.agents x) (p.demand x (net.counts x + 1)))
                  (after_leaving (devices.agents x)) (λ e. refl) (λ e. refl) in
                  let within : net.counts d ≤ (devices.agents d).number + 1 = elim (agree.agents d leaf).number [
                    | inl w ↦ omega (arith, w)
                    | inr w ↦ omega (arith, w)
                  ] in
                  absurd (omega (
                    arith,
                    is,
                    ap (λ (q : PriceMessage). q.number) same,
                    ap (λ (a : DeviceAgent). a.number) mine,
                    up,
                    ap (λ (z : ℕ). (devices.agents z).number) e,
                    within,
                    old_number (omega (arith, some, ap (λ (q : PriceMessage). q.index) same)),
                  ))
            ]
        | inr ne ↦
            let Is : DeviceAgent → Type 0 = λ a. (after.taken d).number ≡ a.number → is_member lists d a.number ≡ true →
            0 < (after.taken d).index →
            (k : ℕ) × (k < length (devices.setpoints d)) × ((get_or (devices.setpoints d) k no_setpoint).index ≡ (after.taken d).index) in
            subst Is (sym (updated_other devices.agents x new d ne)) (quiet after same)
      ]

  -- x is given a price
  others : (x k : ℕ) → (d ≡ x → ⊥) → (network_step lists p net (TakesPrice x k)).taken d ≡ net.taken d
  others x k ne =
      let other : update net.taken x (sent_price net x k) d ≡ net.taken d = updated_other net.taken x (sent_price net x k) d ne in
      hears_each lists p net x k (λ (n : Network). n.taken d ≡ net.taken d) refl other other other

  abbrev Holds : List Setpoint → DeviceAgent → PriceMessage → Type 0
  Holds l a q = q.number ≡ a.number → is_member lists d a.number ≡ true → 0 < q.index →
      (k : ℕ) × (k < length l) × ((get_or l k no_setpoint).index ≡ q.index)

  answered_number : (agent : DeviceAgent) (price : PriceMessage) (o : Option Offer) → (answered_by agent price o).number ≡ agent.number
  answered_number agent price None = refl
  answered_number agent price (Some offer) = refl

  module _ (k : ℕ) where
    abbrev price : PriceMessage
    price = sent_price net d k

    abbrev agent : DeviceAgent
    agent = devices.agents d

    abbrev after : Network
    after = network_step lists p net (TakesPrice d k)

    mine : Holds (devices.setpoints d ++ setpoints_for agent price) (after_price agent price) (after.taken d)
    mine = elim (cases_Bool (ltb agent.index price.index)) [
      | inl e ↦
          let taken_is : after.taken d ≡ price =
          ap (λ (n : Network). n.taken d) (after_newer lists law one p by devices s agree d k leaf e) ∙ updated_same net.taken d price in
          let agent_is : after_price agent price ≡ answered_by agent price (kept_offer agent price.number) =
          cond-true (ltb agent.index price.index) (answered_by agent price (kept_offer agent price.number)) agent e in
          let given_is : setpoints_for agent price ≡ setpoints_of price (kept_offer agent price.number) =
          cond-true (ltb agent.index price.index) (setpoints_of price (kept_offer agent price.number)) [] e in
          λ is member some.
          let number_same : (after_price agent price).number ≡ agent.number = ap (λ (a : DeviceAgent). a.number) agent_is
          ∙ answered_number agent price (kept_offer agent price.number) in
          let at : price.number ≡ agent.number = ap (λ (q : PriceMessage). q.number) (sym taken_is) ∙ is ∙ number_same in
          let own = agree.agents d leaf in
          let from : own.window.first ≤ agent.number = own.newest (ap (is_member lists d) (sym number_same) ∙ member) in
          let kept : IsThere (kept_offer agent price.number) = there price.number agent.offers own.window.first
          (length agent.offers - 1) own.window.are_from (omega (arith, at, from, own.window.to_last)) (omega (arith, at, own.window.to_last)) in
          let got = told_by price (devices.setpoints d) (kept_offer agent price.number) kept in
          let Got : List Setpoint → Type 0 = λ l. (i : ℕ) × (i < length (devices.setpoints d ++ l)) × ((get_or
          (devices.setpoints d ++ l) i no_setpoint).index ≡ (after.taken d).index) in
          subst Got (sym given_is) (got.0, got.1, got.2 ∙ ap (λ (q : PriceMessage). q.index) (sym taken_is))
      | inr e ↦
          let taken_is : after.taken d ≡ net.taken d = ap (λ (n : Network). n.taken d) (after_older lists law one p by devices s agree d k leaf e) in
          let agent_is : after_price agent price ≡ agent =
          cond-false (ltb agent.index price.index) (answered_by agent price (kept_offer agent price.number)) agent e in
          let given_is : devices.setpoints d ++ setpoints_for agent price ≡ devices.setpoints d =
          ap (λ (l : List Setpoint). devices.setpoints d ++ l) (cond-false (ltb agent.index price.index) (setpoints_of price
          (kept_offer agent price.number)) [] e)
          ∙ append-nil (devices.setpoints d) in
          subst (λ (l : List Setpoint). Holds l (after_price agent price) (after.taken d)) (sym given_is)
          (subst (λ (a : DeviceAgent). Holds (devices.setpoints d) a (after.taken d)) (sym agent_is)
          (subst (λ (q : PriceMessage). Holds (devices.setpoints d) agent q) (sym taken_is) told))
    ]

  giving : (x k : ℕ) → IsTold lists (after_given devices x k (network_step lists p net (TakesPrice x k))) d
  giving x k =
      let new : DeviceAgent = after_price (devices.agents x) (sent_price net x k) in
      let more : List Setpoint = devices.setpoints x ++ setpoints_for (devices.agents x) (sent_price net x k) in
      let Is : List Setpoint → DeviceAgent → Type 0 = λ l a. Holds l a ((network_step lists p net (TakesPrice x k)).taken d) in
      elim (cases_eq d x) [
        | inl e ↦
            let here : (z : ℕ) → d ≡ z → Holds (update devices.setpoints z (devices.setpoints z ++ setpoints_for (devices.agents z)
            (sent_price net z k)) d)
            (update devices.agents z (after_price (devices.agents z) (sent_price net z k)) d) ((network_step lists p net (TakesPrice z k)).taken d) =
            λ z same.
            subst (λ (y : ℕ). Holds (update devices.setpoints y (devices.setpoints y ++ setpoints_for (devices.agents y) (sent_price net y k)) d)
            (update devices.agents y (after_price (devices.agents y) (sent_price net y k)) d) ((network_step lists p net (TakesPrice y k)).taken d)) same
            (subst (λ (l : List Setpoint). Holds l (update devices.agents d (after_price (devices.agents d) (sent_price net d k)) d)
            ((network_step lists p net (TakesPrice d k)).taken d))
            (sym (updated_same devices.setpoints d (devices.setpoints d ++ setpoints_for (devices.agents d) (sent_price net d k))))
            (subst (λ (a : DeviceAgent). Holds (devices.setpoints d ++ setpoints_for (devices.agents d) (sent_price net d k)) a ((network_step lists p net
            (TakesPrice d k)).taken d))
            (sym (updated_same devices.agents d (after_price (devices.agents d) (sent_price net d k)))) (mine k))) in
            here x e
        | inr ne ↦ subst (λ (l : List Setpoint). Is l (update devices.agents x new d)) (sym (updated_other devices.setpoints x more d ne))
            (subst (λ (a : DeviceAgent). Is (devices.setpoints d) a) (sym (updated_other devices.agents x new d ne)) (quiet (network_step lists p net
            (TakesPrice x k)) (others x k ne)))
      ]

  -- while d does not restart, each event leaves its control told
  pub told_step : (e : Event) → KeepsRunning d e → IsTold lists (devices_step lists p devices e) d
  told_step (Bids x) runs =
      let Told : Devices → Type 0 = λ t. IsTold lists t d in
      either Told (may_change lists devices x) (after_change lists p devices x) devices (λ e. changing x (after_bidding lists p net x) refl) (λ e. told)
  told_step (TakesBid x k) runs = quiet (network_step lists p net (TakesBid x k))
      (either (λ (n : Network). n.taken d ≡ net.taken d) (is_new_bid lists net x (sent_bid p net x k)) (after_taking_bid net x (sent_bid p net x k)) net
      (λ e. refl) (λ e. refl))
  told_step (Sends c) runs = quiet (network_step lists p net (Sends c))
      (either (λ (n : Network). n.taken d ≡ net.taken d) (can_send lists net c) (after_sending p net c) net (λ e. refl) (λ e. refl))
  told_step Clears runs = quiet (network_step lists p net Clears)
      (either (λ (n : Network). n.taken d ≡ net.taken d) (can_clear lists net) (after_clearing lists p net) net (λ e. refl) (λ e. refl))
  told_step (TakesPrice x k) runs =
      let Told : Devices → Type 0 = λ t. IsTold lists t d in
      either Told (is_leaf lists x) (after_given devices x k (network_step lists p net (TakesPrice x k))) (record devices {
        net =
            network_step lists p net (TakesPrice x k);
      })
      (λ e. giving x k)
      (λ inner. quiet (network_step lists p net (TakesPrice x k)) (others x k (λ e. both_ways (is_leaf lists x) inner (ap (is_leaf lists) (sym e) ∙ leaf))))
  told_step (Restarts y k) runs =
      let new : DeviceAgent = after_coming_back (devices.agents y) (stored_price net y k).index in
      let after' : Network = network_step lists p net (Restarts y k) in
      let ne : d ≡ y → ⊥ = λ e. runs (sym e) in
      subst (λ (a : DeviceAgent). Holds (devices.setpoints d) a (after'.taken d)) (sym (updated_other devices.agents y new d ne))
      (quiet after' (updated_other net.taken y (stored_price net y k) d ne))
  told_step (Rebuilds c) runs = quiet (network_step lists p net (Rebuilds c))
      (either (λ (n : Network). n.taken d ≡ net.taken d) (can_rebuild lists net c) (after_rebuilding net c) net (λ e. refl) (λ e. refl))
  told_step (StopsBidding x) runs =
      let Told : Devices → Type 0 = λ t. IsTold lists t d in
      either Told (is_leaf lists x) (cond (may_change lists devices x) (after_stop lists p devices x) devices) (record devices {
        net =
            network_step lists p net (StopsBidding x);
      })
      (λ e. either Told (may_change lists devices x) (after_stop lists p devices x) devices (λ may. changing x (device_stopped net x) refl) (λ none. told))
      (λ inner. quiet (network_step lists p net (StopsBidding x)) (either (λ (n : Network). n.taken d ≡ net.taken d) (is_leaf lists x && ltb
      (net.counts x) (lists_changes lists x))
      (device_stopped net x) (cond (can_send lists net x) (relay_stopped net x) net) (λ e. refl)
      (λ e. either (λ (n : Network). n.taken d ≡ net.taken d) (can_send lists net x) (relay_stopped net x) net (λ may. refl) (λ none. refl))))
  told_step (Resends x) runs = quiet (network_step lists p net (Resends x))
      (either (λ (n : Network). n.taken d ≡ net.taken d) (can_resend lists net x) (after_resending lists p net x) net (λ e. refl) (λ e. refl))
  told_step (PassesToOne z k) runs = quiet (network_step lists p net (PassesToOne z k))
      (either (λ (n : Network). n.taken d ≡ net.taken d) (can_pass_to_one lists net z (sent_price net (parent lists z) k))
      (after_passing_to_one lists p net z (sent_price net (parent lists z) k)) net
      (λ e. refl) (λ e. refl))
  told_step StopsClearing runs = quiet (network_step lists p net StopsClearing)
      (either (λ (n : Network). n.taken d ≡ net.taken d) (can_clear lists net) (auctioneer_stopped net) net (λ e. refl) (λ e. refl))
  told_step (TellsOne z) runs = quiet (network_step lists p net (TellsOne z))
      (either (λ (n : Network). n.taken d ≡ net.taken d) (can_tell_one lists net z) (after_telling_one p net z) net (λ e. refl) (λ e. refl))

told_run : (lists : Lists) → Lawful lists → phases lists ≡ 1 → (p : Pricing) → GoesByNodes lists p →
    (events : List Event) (devices : Devices) (s : State) →
    DevicesAgree lists p devices s → (d : ℕ) → IsLeaf lists d → IsTold lists devices d → RunsOn d events →
    IsTold lists (devices_after lists p devices events) d
told_run lists law one p by [] devices s agree d leaf told runs = told
told_run lists law one p by (e ∷ es) devices s agree d leaf told runs =
    let first = step_goes_on lists law one p by devices s agree e in
    told_run lists law one p by es (devices_step lists p devices e) (after_from lists s first.moves) first.agree d leaf
    (told_step lists law one p by devices s agree d leaf told e runs.0) runs.1

-- where d holds the price of the newest clearing, and that is over all numbers, its control was told what is current
pub told_where_held : (lists : Lists) (law : Lawful lists) (one : phases lists ≡ 1) (p : Pricing) (by : GoesByNodes lists p) (events : List Event)
    (d : ℕ) →
    IsLeaf lists d → RunsOn d events →
    (devices_after lists p (start_devices p) events).net.taken d
    ≡ price_message ((devices_after lists p (start_devices p) events).net.counts d)
    (clearings (after_from lists start (run_from_start lists law one p by events).moves))
    (p.local (devices_after lists p (start_devices p) events).net.counts d) →
    ((e : ℕ) → IsLeaf lists e →
    cleared_cut (after_from lists start (run_from_start lists law one p by events).moves)
    (clearings (after_from lists start (run_from_start lists law one p by events).moves)) e
    ≡ (devices_after lists p (start_devices p) events).net.counts e) →
    is_member lists d ((devices_after lists p (start_devices p) events).net.counts d) ≡ true →
    ((devices_after lists p (start_devices p) events).agents d).number ≡ (devices_after lists p (start_devices p) events).net.counts d →
    IsToldNow p (devices_after lists p (start_devices p) events) d
told_where_held lists law one p by events d leaf runs held counted member own =
    let devices : Devices = devices_after lists p (start_devices p) events in
    let goes = run_from_start lists law one p by events in
    let s : State = after_from lists start goes.moves in
    let agree = goes.agree in
    let node : IsNode lists d = leaf_node lists law d leaf in
    let told : IsTold lists devices d = told_run lists law one p by events (start_devices p) start
    (agree_at_start lists law p by) d leaf (λ is mem some. absurd (omega (arith, some))) runs in
    let number_is : (devices.net.taken d).number ≡ (devices.agents d).number = ap (λ (q : PriceMessage). q.number) held
    ∙ sym own in
    let some : 0 < (devices.net.taken d).index = elim (agree.agrees.taken d node) [
      | inl none ↦ absurd (both_ways (is_member lists d 0) (in_zero lists d)
          (ap (is_member lists d) (ap (λ (q : PriceMessage). q.number) (sym none) ∙ ap (λ (q : PriceMessage). q.number) held) ∙ member))
      | inr its ↦ omega (arith, (due_within lists s agree.agrees.sound d (devices.net.taken d).index its.0).0)
    ] in
    let got = told number_is (ap (is_member lists d) own ∙ member) some in
    let setpoint : Setpoint = get_or (devices.setpoints d) got.0 no_setpoint in
    let right : IsRight lists p s d setpoint = agree.setpoints d leaf got.0 no_setpoint got.1 in
    let index_is : setpoint.index ≡ clearings s = got.2 ∙ ap (λ (q : PriceMessage). q.index) held in
    let is_number : setpoint.number ≡ devices.net.counts d = right.number ∙ ap (λ (j : ℕ). cleared_cut s j d) index_is ∙ counted d leaf in
    let is_step : setpoint.step ≡ p.local devices.net.counts d =
    right.step ∙ ap (λ (j : ℕ). p.local (cleared_cut s j) d) index_is
    ∙ by.steps_alike d (cleared_cut s (clearings s)) devices.net.counts node counted in (
      setpoint,
      (got.0, got.1, get_or_default (devices.setpoints d) got.0 setpoint no_setpoint got.1),
      is_number,
      is_step,
      right.power ∙ ap (λ (n : ℕ). get_or (p.demand d n) setpoint.step (pos 0)) is_number
          ∙ ap (λ (n : ℕ). get_or (p.demand d (devices.net.counts d)) n (pos 0)) is_step,
    )

-- in a settled network the control of each member was told what is current
pub told_now : (lists : Lists) → Lawful lists → phases lists ≡ 1 → (p : Pricing) → GoesByNodes lists p → (events : List Event) (d : ℕ) →
    IsLeaf lists d →
    RunsOn d events → IsSettledNetwork lists (devices_after lists p (start_devices p) events).net →
    is_member lists d ((devices_after lists p (start_devices p) events).net.counts d) ≡ true →
    ((devices_after lists p (start_devices p) events).agents d).number ≡ (devices_after lists p (start_devices p) events).net.counts d →
    IsToldNow p (devices_after lists p (start_devices p) events) d
told_now lists law one p by events d leaf runs settled member own =
    let devices : Devices = devices_after lists p (start_devices p) events in
    let goes = run_from_start lists law one p by events in
    let s : State = after_from lists start goes.moves in
    told_where_held lists law one p by events d leaf runs
    (all_held lists law p by devices.net s goes.agree.agrees settled d leaf member)
    (λ e e_leaf. all_counted lists law p by devices.net s goes.agree.agrees settled e e_leaf) member own
