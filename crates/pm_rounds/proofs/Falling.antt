-- Once all bids are there, prices go down, level by level.
use Rattle.std.proofs.Common.{◌≡◌, ◌∙◌, sym, ap, subst, ℕ, zero, suc, ◌+◌, ◌<◌, ◌≤◌, Bool, true, false, cond, not, eqb, ltb}
use Rattle.std.proofs.Common.{leb, ◌&&◌, ◌⊎◌, inl}
use Rattle.std.proofs.Common.{inr, List, [], ◌∷◌, ◌++◌, length, get_or, refl, arith}
use Rattle.std.proofs.lemmas.Bool.{cases_eq, cases_lt, cases_Bool, and_parts, and_from, cond-true, cond-false, lt-ltb, ltb-true, le-leb, leb-true, eqb-true}
use Rattle.std.proofs.lemmas.Bool.{ne_eqb, not-true, not_from_false, both_ways}
use Rattle.std.specs.List.{All}
use Rattle.pm_bid.specs.Clearing.{clearing_step}
use Rattle.pm_market.specs.Lists.{Lists, nodes, phases, parent, is_leaf, path_depth, IsNode, IsInner, IsConcentrator, Lawful}
use Rattle.pm_market.specs.State.{State}
use Rattle.pm_market.specs.Legality.{is_node}
use Rattle.pm_market.specs.Moves.{after_from}
use Rattle.pm_market.proofs.Tree.{parent_smaller, leaf_zero}
use Rattle.pm_market.proofs.Cuts.{updated_same}
use Rattle.pm_market.proofs.Legality.{is_node_at, is_node_from}
use Rattle.pm_laws.specs.Gone.{is_gone}
use Rattle.pm_laws.proofs.Depth.{concentrators_step}
use Rattle.pm_net.specs.Pricing.{Pricing, GoesByNodes}
use Rattle.pm_net.specs.Messages.{BidMessage, PriceMessage, price_message, no_price}
use Rattle.pm_net.specs.Network.{Network, sent_bid, sent_price, WasSent}
use Rattle.pm_net.specs.Running.{is_new_bid, is_caught_up, has_news, can_send, can_clear, is_new_price, relay_step, sent_down}
use Rattle.pm_net.specs.Running.{after_taking_bid, after_sending, after_clearing, after_taking_price, after_relay_price, after_passing, after_answer}
use Rattle.pm_net.specs.Restarts.{can_rebuild, after_rebuilding, can_resend, after_resending, can_tell_one, after_telling_one}
use Rattle.pm_net.specs.Events.{Event, network_step, network_after, Bids, TakesBid, Sends, Clears, TakesPrice, Restarts, Rebuilds, StopsBidding}
use Rattle.pm_net.specs.Events.{Resends, PassesToOne, StopsClearing, TellsOne}
use Rattle.pm_net.specs.Agrees.{NetworkAgrees, GoesOn}
use Rattle.pm_net.specs.Settled.{made_number}
use Rattle.pm_rounds.specs.Rounds.{IsCarried, IsRound}
use Rattle.pm_rounds.specs.Sent.{AllSent}
use Rattle.pm_rounds.specs.Bounds.{HaveRoom}
use Rattle.pm_net.proofs.Messages.{either, each_sent, past}
use Rattle.pm_net.proofs.Runs.{event_goes_on}
use Rattle.pm_net.proofs.Steps.{hears_each}
use Rattle.pm_net.proofs.Resting.{caught}
use Rattle.pm_net.proofs.Unstuck.{takes_newer}
use Rattle.pm_rounds.proofs.Sent.{sent_step, carried_on}
use Rattle.pm_rounds.proofs.Counting.{Rises, has_record, step_up, step_keeps_prices}
use Rattle.pm_rounds.proofs.Rising.{Stage, All_inner, fits_all, has_all, stage_step, stage_after}
use Rattle.pm_rounds.proofs.Rising.{last_level, Level, fits_level, clear_round}
use Rattle.pm_rounds.proofs.Arriving.{NoNews, without_news, after_up}

-- ---- what is sent down

-- each price that is sent to x by then is of no newer index than one that was sent before
abbrev pub NoNewer : Network → Network → ℕ → Type 0
NoNewer net after x = (k : ℕ) → k < length (after.prices_sent x) →
    (j : ℕ) × (j < length (net.prices_sent x)) × ((sent_price after x k).index ≤ (sent_price net x j).index)

-- x took each price that was sent to it
abbrev pub TookAll : Network → ℕ → Type 0
TookAll net x = (k : ℕ) → k < length (net.prices_sent x) → (sent_price net x k).index ≤ (net.taken x).index

same_prices : (net after : Network) (x : ℕ) → after.prices_sent x ≡ net.prices_sent x → NoNewer net after x
same_prices net after x same k lt = (
  k,
  omega (arith, lt, ap (λ (l : List PriceMessage). length l) same),
  omega (arith, ap (λ (l : List PriceMessage). (get_or l k no_price).index) same),
)

-- what goes down to the children of another node
not_down : (lists : Lists) (prices : ℕ → List PriceMessage) (y : ℕ) (basis : ℕ → BidMessage) (index step x : ℕ) →
    (parent lists x ≡ y → ⊥) →
    sent_down lists prices y basis index step x ≡ prices x
unfolding sent_down
not_down lists prices y basis index step x ne =
    cond-false (eqb (parent lists x) y && not (basis x).gone) (prices x ++ price_message (basis x).number index step ∷ []) (prices x)
    (ap (λ (b : Bool). b && not (basis x).gone) (ne_eqb (parent lists x) y ne))

module _ (lists : Lists) (law : Lawful lists) (one : phases lists ≡ 1) (p : Pricing) (by : GoesByNodes lists p) (depth : ℕ)
    (deep : (c : ℕ) → IsConcentrator lists c → path_depth lists c ≤ depth) where
  -- all bids are held, and no node has news
  abbrev pub AllUp : Network → Type 0
  AllUp net = Stage lists law one p by depth deep depth (All_inner lists law one p by depth deep) net

  up_step : (net : Network) (s : State) → NetworkAgrees lists p net s → AllUp net → (e : Event) → IsCarried lists e →
      AllUp (network_step lists p net e)
  up_step net s agrees up e carried =
      (stage_step lists law one p by depth deep depth (All_inner lists law one p by depth deep) (fits_all lists law one p by depth deep)
      (has_all lists law one p by depth deep) net s agrees up e carried).stage

  -- so over a round
  pub up_after : (events : List Event) (net : Network) (s : State) → NetworkAgrees lists p net s → AllUp net → All (IsCarried lists) events →
      AllUp (network_after lists p net events)
  up_after events net s agrees up all =
      (stage_after lists law one p by depth deep depth (All_inner lists law one p by depth deep) (fits_all lists law one p by depth deep)
      (has_all lists law one p by depth deep) events net s agrees up all).stage

  -- no node has news then
  pub no_news : (net : Network) → AllUp net → (y : ℕ) → IsInner lists y → y ≤ nodes lists → has_news lists net y ≡ false
  no_news net up y inner le = without_news lists net y (up.quiet y (inner, le))

  -- each newest bid is held
  pub all_heard : (net : Network) → AllUp net → (x : ℕ) → IsNode lists x → made_number lists net x ≤ (net.heard x).number
  all_heard net up x node = elim (cases_Bool (is_leaf lists x)) [
    | inl leaf ↦ omega (arith, cond-true (is_leaf lists x) (net.counts x) (net.last_number x) leaf, up.leaves x node leaf)
    | inr inner ↦
        let level = last_level lists law one p by depth deep x (node.0, node.1, inner) in
        omega (arith, cond-false (is_leaf lists x) (net.counts x) (net.last_number x) inner, up.heard x level.0 level.1)
  ]

  -- a child that may be told the newest clearing was told
  was_told : (net : Network) (s : State) → NetworkAgrees lists p net s → AllSent lists p net → (z : ℕ) → can_tell_one lists net z ≡ true →
      IsNode lists z × WasSent net z (net.last_number 0)
  unfolding can_tell_one
  was_told net s agrees sent z may =
      let a = and_parts (is_node lists z && eqb (parent lists z) 0 && leb (net.whole_from 0) (net.last_number 0) && leb 1 (net.last_number 0)) (not
      (net.records 0 (net.last_number 0) z).gone) may in
      let b = and_parts (is_node lists z && eqb (parent lists z) 0 && leb (net.whole_from 0) (net.last_number 0)) (leb 1 (net.last_number 0)) a.0 in
      let c = and_parts (is_node lists z && eqb (parent lists z) 0) (leb (net.whole_from 0) (net.last_number 0)) b.0 in
      let d = and_parts (is_node lists z) (eqb (parent lists z) 0) c.0 in
      let node : IsNode lists z = is_node_from lists z d.0 in
      let up : parent lists z ≡ 0 = eqb-true (parent lists z) 0 d.1 in
      let j : ℕ = net.last_number 0 in
      let there = ap (λ (y : ℕ). net.records y j z) (sym up)
      ∙ agrees.records z j node (omega (arith, leb-true (net.whole_from 0) (net.last_number 0) c.1, ap net.whole_from up))
      (omega (arith, agrees.last_number 0 (leaf_zero lists), ap (λ (y : ℕ). length (s.published y)) up)) in (
        node,
        sent.prices z node up (ap (λ (b : BidMessage). is_gone lists z b.number) there ∙ sym (ap (λ (b : BidMessage). b.gone) there)
            ∙ not-true (net.records 0 j z).gone a.1),
      )

  -- while its parent takes nothing, nothing newer is sent to a node
  no_newer_step : (net : Network) (s : State) → NetworkAgrees lists p net s → AllSent lists p net → AllUp net → (x : ℕ) → IsNode lists x →
      (parent lists x ≡ 0) ⊎ TookAll net (parent lists x) → (e : Event) → IsCarried lists e → NoNewer net (network_step lists p net e) x
  unfolding can_clear is_new_price
  no_newer_step net s agrees sent up x node still (Bids d) carried = absurd carried
  no_newer_step net s agrees sent up x node still (TakesBid y k) carried =
      either (λ (n : Network). NoNewer net n x) (is_new_bid lists net y (sent_bid p net y k)) (after_taking_bid net y (sent_bid p net y k)) net
      (λ e. same_prices net net x refl) (λ e. same_prices net net x refl)
  no_newer_step net s agrees sent up x node still (Sends c) carried =
      either (λ (n : Network). NoNewer net n x) (can_send lists net c) (after_sending p net c) net
      (λ e. same_prices net net x refl) (λ e. same_prices net net x refl)
  no_newer_step net s agrees sent up x node still Clears carried =
      either (λ (n : Network). NoNewer net n x) (can_clear lists net) (after_clearing lists p net) net
      (λ e. absurd (both_ways (has_news lists net 0) (no_news net up 0 (leaf_zero lists) (omega arith))
      (and_parts (is_caught_up lists net 0) (has_news lists net 0) e).1))
      (λ e. same_prices net net x refl)
  no_newer_step net s agrees sent up x node still (TakesPrice y k) carried =
      let On : Network → Type 0 = λ (n : Network). NoNewer net n x in
      let price : PriceMessage = sent_price net y k in
      elim (cases_Bool (is_new_price lists net y price)) [
        | inr e ↦ subst On (sym (cond-false (is_new_price lists net y price)
            (cond (is_leaf lists y) (after_taking_price net y price) (after_relay_price lists p net y price)) net e)) (same_prices net net x refl)
        | inl e ↦
            let parts = and_parts (is_node lists y) (ltb (net.taken y).index price.index) e in
            let y_node : IsNode lists y = is_node_from lists y parts.0 in
            let lt : (net.taken y).index < price.index = ltb-true (net.taken y).index price.index parts.1 in
            let other : parent lists x ≡ y → ⊥ = λ is. elim still [
              | inl root ↦ omega (arith, root, is, y_node.0)
              | inr took ↦ elim (cases_lt k (length (net.prices_sent y))) [
                | inl inside ↦ omega (arith, lt, subst (TookAll net) is took k inside)
                | inr ge ↦ omega (arith, lt, ap (λ (q : PriceMessage). q.index) (past (net.prices_sent y) k no_price ge))
              ]
            ] in
            hears_each lists p net y k On (same_prices net net x refl) (same_prices net (after_taking_price net y price) x refl)
            (same_prices net (after_passing lists p net y price) x
            (not_down lists net.prices_sent y (net.records y price.number) price.index (relay_step p net y price) x other))
            (same_prices net (after_answer net y price) x refl)
      ]
  no_newer_step net s agrees sent up x node still (Restarts y k) carried = absurd carried
  no_newer_step net s agrees sent up x node still (Rebuilds y) carried =
      either (λ (n : Network). NoNewer net n x) (can_rebuild lists net y) (after_rebuilding net y) net
      (λ e. same_prices net net x refl) (λ e. same_prices net net x refl)
  no_newer_step net s agrees sent up x node still (StopsBidding z) carried = absurd carried
  no_newer_step net s agrees sent up x node still (Resends z) carried =
      either (λ (n : Network). NoNewer net n x) (can_resend lists net z) (after_resending lists p net z) net
      (λ e. same_prices net net x refl) (λ e. same_prices net net x refl)
  no_newer_step net s agrees sent up x node still (PassesToOne z k) carried = absurd carried
  no_newer_step net s agrees sent up x node still StopsClearing carried = absurd carried
  no_newer_step net s agrees sent up x node still (TellsOne z) carried =
      let price : PriceMessage = price_message (net.records 0 (net.last_number 0) z).number (net.last_number 0)
      (clearing_step (p.add 0 (λ x. (net.records 0 (net.last_number 0) x).demand))) in
      either (λ (n : Network). NoNewer net n x) (can_tell_one lists net z) (after_telling_one p net z) net
      (λ e.
      let told = was_told net s agrees sent z e in
      each_sent (λ (y : ℕ) (q : PriceMessage). (j : ℕ) × (j < length (net.prices_sent y)) × (q.index ≤ (sent_price net y j).index)) net.prices_sent z
      price no_price (told.1.0, told.1.1, omega (arith, told.1.2)) x (λ i inside. (i, inside, omega arith)))
      (λ e. same_prices net net x refl)

  -- ---- levels

  -- all bids are held, each relay has its record, and the nodes down to level m took each price
  pub record Falls (m : ℕ) (net : Network) : Type 0 where
    -- all bids are there
    pub up : AllUp net
    pub whole : (c : ℕ) → IsConcentrator lists c → 1 ≤ has_record net c
    -- each price to the levels above is taken
    pub down : (x : ℕ) → IsNode lists x → path_depth lists (parent lists x) < m → TookAll net x

  -- the parent of a node of the next level takes nothing
  still_above : (m : ℕ) (net : Network) → Falls m net → (x : ℕ) → IsNode lists x → path_depth lists (parent lists x) < m + 1 →
      (parent lists x ≡ 0) ⊎ TookAll net (parent lists x)
  still_above m net falls x node lt = elim (cases_eq (parent lists x) 0) [
    | inl root ↦ inl root
    | inr ne ↦
        let y : ℕ = parent lists x in
        let y_node : IsNode lists y = (omega (arith, ne), omega (arith, law.earlier x node, node.1)) in
        inr (falls.down y y_node (omega (
          arith,
          lt,
          concentrators_step lists (parent_smaller lists law) y y_node.0,
          cond-false {A = ℕ} (is_leaf lists y) 0 1 (law.inner x node),
        )))
  ]

  falls_step : (m : ℕ) (net : Network) (s : State) → NetworkAgrees lists p net s → AllSent lists p net → Falls m net → (e : Event) →
      IsCarried lists e →
      Falls m (network_step lists p net e)
  falls_step m net s agrees sent falls e carried =
      let rises : Rises net (network_step lists p net e) = step_up lists p net e carried in
      record {
        up = up_step net s agrees falls.up e carried;
        whole = λ c conc. omega (arith, falls.whole c conc, rises.whole c);
        down = λ x node lt k inside.
            let at = no_newer_step net s agrees sent falls.up x node (still_above m net falls x node (omega (arith, lt))) e carried k inside in
            omega (arith, at.2, falls.down x node lt at.0 at.1, rises.taken x);
      }

  -- a price that was given is taken, or a newer one
  price_given : (m : ℕ) (net : Network) (s : State) → NetworkAgrees lists p net s → Falls m net → (x k : ℕ) → IsNode lists x →
      k < length (net.prices_sent x) → (sent_price net x k).index ≤ ((network_step lists p net (TakesPrice x k)).taken x).index
  unfolding is_new_price can_rebuild
  price_given m net s agrees falls x k node inside =
      let price : PriceMessage = sent_price net x k in
      elim (cases_lt (net.taken x).index price.index) [
        | inr ge ↦ omega (arith, ge, (step_up lists p net (TakesPrice x k) tt).taken x)
        | inl newer ↦ elim (cases_Bool (is_leaf lists x)) [
          | inl leaf ↦ omega (
            arith,
            ap (λ (n : Network). (n.taken x).index) (
                cond-true (is_new_price lists net x price) (cond (is_leaf lists x) (after_taking_price net x price) (after_relay_price lists p net x price)) net
                (and_from _ _ (is_node_at lists x node) (lt-ltb (net.taken x).index price.index newer))
                ∙ cond-true (is_leaf lists x) (after_taking_price net x price) (after_relay_price lists p net x price) leaf)
                ∙ ap (λ (q : PriceMessage). q.index) (updated_same net.taken x price),
          )
          | inr inner ↦
              let none : can_rebuild lists net x ≡ false = elim (cases_Bool (can_rebuild lists net x)) [
                | inr e ↦ e
                | inl e ↦ elim (cases_Bool (leb (net.whole_from x) (net.last_number x))) [
                  | inl w ↦ absurd (omega (
                    arith,
                    leb-true (net.whole_from x) (net.last_number x) w,
                    ltb-true (net.last_number x) (net.whole_from x)
                        (and_parts (ltb (net.last_number x) (net.whole_from x)) (not (has_news lists net x)) e).0,
                  ))
                  | inr w ↦ absurd (omega (
                    arith,
                    falls.whole x (node.0, node.1, inner),
                    cond-false {A = ℕ} (leb (net.whole_from x) (net.last_number x)) 1 0 w,
                  ))
                ]
              ] in
              omega (
                arith,
                ap (λ (q : PriceMessage). q.index) (takes_newer lists law p net s agrees x k (node.0, node.1, inner) inside newer
                    (caught lists law p net s agrees (all_heard net falls.up) x) none),
              )
        ]
      ]

  -- what comes of a round
  pub record Fallen (m : ℕ) (net after : Network) : Type 0 where
    -- the level is kept, and nothing newer is sent to the next one
    pub falls : Falls m after
    pub none : (x : ℕ) → IsNode lists x → path_depth lists (parent lists x) < m + 1 → NoNewer net after x

  -- over a round
  pub fallen : (m : ℕ) (events : List Event) (net : Network) (s : State) → NetworkAgrees lists p net s → AllSent lists p net → Falls m net →
      All (IsCarried lists) events → Fallen m net (network_after lists p net events)
  fallen m [] net s agrees sent falls all = record { falls = falls; none = λ x node lt k inside. (k, inside, omega arith) }
  fallen m (e ∷ es) net s agrees sent falls all =
      let carried : IsCarried lists e = all 0 e (omega arith) in
      let next : Network = network_step lists p net e in
      let goes : GoesOn lists p s next = event_goes_on lists law one p by net s agrees e in
      let rest = fallen m es next (after_from lists s goes.moves) goes.agrees (sent_step lists p net sent law s agrees e (carried_on lists e carried))
      (falls_step m net s agrees sent falls e carried) (λ k o lt. all (suc k) o (omega (arith, lt))) in
      record {
        falls = rest.falls;
        none = λ x node lt k inside.
            let then = rest.none x node lt k inside in
            let first = no_newer_step net s agrees sent falls.up x node (still_above m net falls x node lt) e carried then.0 then.1 in
            (first.0, first.1, omega (arith, then.2, first.2));
      }

  price_arrives : (m : ℕ) (events : List Event) (net : Network) (s : State) → NetworkAgrees lists p net s → AllSent lists p net → Falls m net →
      All (IsCarried lists) events → (x k : ℕ) → IsNode lists x → k < length (net.prices_sent x) → (i : ℕ) → i < length events →
      get_or events i (TakesPrice x k) ≡ TakesPrice x k → (sent_price net x k).index ≤ ((network_after lists p net events).taken x).index
  price_arrives m [] net s agrees sent falls all x k node inside i lt is = absurd (omega (arith, lt))
  price_arrives m (e ∷ es) net s agrees sent falls all x k node inside zero lt is =
      let next : Network = network_step lists p net e in
      let given : (sent_price net x k).index ≤ (next.taken x).index =
      subst (λ (f : Event). (sent_price net x k).index ≤ ((network_step lists p net f).taken x).index) (sym is)
      (price_given m net s agrees falls x k node inside) in
      omega (arith, given, (after_up lists p es next (λ k o lt. all (suc k) o (omega (arith, lt)))).taken x)
  price_arrives m (e ∷ es) net s agrees sent falls all x k node inside (suc i) lt is =
      let carried : IsCarried lists e = all 0 e (omega arith) in
      let next : Network = network_step lists p net e in
      let goes : GoesOn lists p s next = event_goes_on lists law one p by net s agrees e in
      let kept = step_keeps_prices lists p net e carried x k inside in
      omega (
        arith,
        ap (λ (q : PriceMessage). q.index) kept.1,
        price_arrives m es next (after_from lists s goes.moves) goes.agrees (sent_step lists p net sent law s agrees e (carried_on lists e carried))
            (falls_step m net s agrees sent falls e carried) (λ k o lt. all (suc k) o (omega (arith, lt))) x k node kept.0 i (omega (arith, lt)) is,
      )

  -- prices come down by one level
  pub fall_round : (m : ℕ) (events : List Event) (net : Network) (s : State) → NetworkAgrees lists p net s → AllSent lists p net → Falls m net →
      IsRound lists p net events → Falls (m + 1) (network_after lists p net events)
  fall_round m events net s agrees sent falls round =
      let after = fallen m events net s agrees sent falls round.carried in
      record {
        up = after.falls.up;
        whole = after.falls.whole;
        down = λ x node lt k inside.
            let old = after.none x node lt k inside in
            let given = round.prices x old.0 node old.1 in
            omega (
              arith,
              old.2,
              given.newer,
              price_arrives m events net s agrees sent falls round.carried x given.place node given.inside given.given.0 given.given.1 given.given.2,
            );
      }

  -- ---- each relay has its record again, in the round in which the auctioneer clears

  -- the bids of all devices and relays are held, and no relay has news
  abbrev pub AtLastLevel : Network → Type 0
  AtLastLevel net = Stage lists law one p by depth deep depth (Level lists law one p by depth deep depth) net

  looks_now : (net : Network) (c : ℕ) → IsConcentrator lists c → NoNews lists net c → 1 ≤ has_record (network_step lists p net (Rebuilds c)) c
  unfolding can_rebuild
  looks_now net c conc none =
      let after : Network = after_rebuilding net c in
      elim (cases_Bool (leb (net.whole_from c) (net.last_number c))) [
        | inl w ↦ omega (
          arith,
          cond-true {A = ℕ} (leb (net.whole_from c) (net.last_number c)) 1 0 w,
          (step_up lists p net (Rebuilds c) (conc.2, conc.1)).whole c,
        )
        | inr w ↦
            let lost : net.last_number c < net.whole_from c = elim (cases_lt (net.last_number c) (net.whole_from c)) [
              | inl lt ↦ lt
              | inr ge ↦ absurd (both_ways (leb (net.whole_from c) (net.last_number c)) w (le-leb (net.whole_from c) (net.last_number c) ge))
            ] in
            omega (
              arith,
              ap (λ (n : Network). has_record n c) (cond-true (can_rebuild lists net c) after net (and_from _ _
                  (lt-ltb (net.last_number c) (net.whole_from c) lost) (not_from_false (has_news lists net c) (without_news lists net c none)))),
              cond-true {A = ℕ} (leb (after.whole_from c) (net.last_number c)) 1 0 (le-leb (after.whole_from c) (net.last_number c)
                  (omega (arith, updated_same net.whole_from c (net.last_number c)))),
            )
      ]

  last_step : (net : Network) (s : State) → NetworkAgrees lists p net s → AtLastLevel net → (e : Event) → IsCarried lists e →
      AtLastLevel (network_step lists p net e)
  last_step net s agrees stage e carried =
      (stage_step lists law one p by depth deep depth (Level lists law one p by depth deep depth) (fits_level lists law one p by depth deep depth)
      (λ c level. level) net s agrees stage e carried).stage

  looks : (events : List Event) (net : Network) (s : State) → NetworkAgrees lists p net s → AtLastLevel net → All (IsCarried lists) events →
      (c : ℕ) → IsConcentrator lists c → (i : ℕ) → i < length events → get_or events i (Rebuilds c) ≡ Rebuilds c →
      1 ≤ has_record (network_after lists p net events) c
  looks [] net s agrees stage all c conc i lt is = absurd (omega (arith, lt))
  looks (e ∷ es) net s agrees stage all c conc zero lt is =
      let next : Network = network_step lists p net e in
      omega (
        arith,
        subst (λ (f : Event). 1 ≤ has_record (network_step lists p net f) c) (sym is)
            (looks_now net c conc (stage.quiet c (last_level lists law one p by depth deep c conc))),
        (after_up lists p es next (λ k o lt. all (suc k) o (omega (arith, lt)))).whole c,
      )
  looks (e ∷ es) net s agrees stage all c conc (suc i) lt is =
      let next : Network = network_step lists p net e in
      let goes : GoesOn lists p s next = event_goes_on lists law one p by net s agrees e in
      looks es next (after_from lists s goes.moves) goes.agrees (last_step net s agrees stage e (all 0 e (omega arith)))
      (λ k o lt. all (suc k) o (omega (arith, lt))) c conc i (omega (arith, lt)) is

  -- a round in which the auctioneer clears and each relay looks
  pub look_round : (events : List Event) (net : Network) (s : State) → NetworkAgrees lists p net s → AtLastLevel net →
      IsRound lists p net events → HaveRoom lists p net events → Falls 0 (network_after lists p net events)
  look_round events net s agrees stage round room = record {
    up = clear_round lists law one p by depth deep events net s agrees stage round room;
    whole = λ c conc.
        let at = round.looks c conc.2 conc.1 in
        looks events net s agrees stage round.carried c conc at.0 at.1 at.2;
    down = λ x node lt. absurd (omega (arith, lt));
  }
