-- Bids go up, level by level, if no window is full.
use Rattle.std.proofs.Common.{◌≡◌, ◌∙◌, sym, ap, subst, ℕ, zero, suc, ◌+◌, ◌-◌, ◌<◌, ◌≤◌, true, not, ltb, ◌&&◌}
use Rattle.std.proofs.Common.{◌⊎◌, inl}
use Rattle.std.proofs.Common.{inr, List, [], ◌∷◌, length, get_or, refl, arith}
use Rattle.std.proofs.lemmas.Bool.{cases_eq, cases_lt, cases_Bool, and_parts, and_from, cond-true, cond-false, lt-ltb, ltb-true}
use Rattle.std.proofs.lemmas.Bool.{not_from_false, both_ways}
use Rattle.std.specs.List.{All}
use Rattle.pm_base.specs.Limits.{window_size}
use Rattle.pm_market.specs.Lists.{Lists, nodes, phases, parent, is_leaf, path_depth, IsNode, IsLeaf, IsInner, IsConcentrator, Lawful}
use Rattle.pm_market.specs.State.{State, update, newest_number_of}
use Rattle.pm_market.specs.Legality.{is_node}
use Rattle.pm_market.specs.Moves.{after_from}
use Rattle.pm_market.proofs.Tree.{parent_smaller}
use Rattle.pm_market.proofs.Cuts.{updated_same, updated_other}
use Rattle.pm_market.proofs.Legality.{is_node_at, is_node_from}
use Rattle.pm_laws.proofs.Depth.{concentrators_step}
use Rattle.pm_laws.proofs.Facts.{updated_at}
use Rattle.pm_net.specs.Pricing.{Pricing, GoesByNodes}
use Rattle.pm_net.specs.Messages.{BidMessage, PriceMessage, nothing_heard}
use Rattle.pm_net.specs.Network.{Network, sent_bid, sent_price}
use Rattle.pm_net.specs.Running.{is_new_bid, is_caught_up, has_news, can_send, can_clear, after_taking_bid, after_sending, after_clearing}
use Rattle.pm_net.specs.Running.{after_taking_price, after_passing, after_answer}
use Rattle.pm_net.specs.Restarts.{can_rebuild, after_rebuilding, can_resend, after_resending, can_tell_one, after_telling_one}
use Rattle.pm_net.specs.Events.{Event, network_step, network_after, Bids, TakesBid, Sends, Clears, TakesPrice, Restarts, Rebuilds, StopsBidding}
use Rattle.pm_net.specs.Events.{Resends, PassesToOne, StopsClearing, TellsOne}
use Rattle.pm_net.specs.Agrees.{NetworkAgrees, GoesOn}
use Rattle.pm_net.specs.Settled.{made_number}
use Rattle.pm_rounds.specs.Rounds.{IsCarried, IsRound}
use Rattle.pm_rounds.specs.Sent.{AllSent}
use Rattle.pm_rounds.specs.Bounds.{HasRoomFor, HaveRoom}
use Rattle.pm_net.proofs.Messages.{either, two_same, two_other, past}
use Rattle.pm_net.proofs.News.{caught_at}
use Rattle.pm_net.proofs.Resting.{own_is}
use Rattle.pm_net.proofs.Runs.{event_goes_on}
use Rattle.pm_net.proofs.Steps.{hears_each}
use Rattle.pm_rounds.proofs.Counting.{bid_up}
use Rattle.pm_rounds.proofs.Rounds.{round_counts}
use Rattle.pm_rounds.proofs.Arriving.{bid_arrives, NoNews, without_news, no_news_at}

-- ---- levels

module _ (lists : Lists) (law : Lawful lists) (one : phases lists ≡ 1) (p : Pricing) (by : GoesByNodes lists p) (depth : ℕ)
    (deep : (c : ℕ) → IsConcentrator lists c → path_depth lists c ≤ depth) where
  -- relays so deep that at most `b` levels are below
  abbrev pub Level : ℕ → ℕ → Type 0
  Level b c = IsConcentrator lists c × (depth < path_depth lists c + b)

  -- the newest bids of devices are held, and of relays of level b; and the nodes of Q have no news
  pub record Stage (b : ℕ) (Q : ℕ → Type 0) (net : Network) : Type 0 where
    -- devices, relays of the level, and who has no news
    pub leaves : (d : ℕ) → IsNode lists d → IsLeaf lists d → net.counts d ≤ (net.heard d).number
    pub heard : (c : ℕ) → IsConcentrator lists c → depth < path_depth lists c + b → net.last_number c ≤ (net.heard c).number
    -- the nodes of Q have no news
    pub quiet : (c : ℕ) → Q c → NoNews lists net c

  abbrev pub HeardAt : ℕ → ℕ → Type 0
  HeardAt b x = IsLeaf lists x ⊎ Level b x

  abbrev pub Fits : ℕ → (ℕ → Type 0) → Type 0
  Fits b Q = (c x : ℕ) → Q c → IsNode lists x → parent lists x ≡ c → HeardAt b x

  abbrev pub Has : ℕ → (ℕ → Type 0) → Type 0
  Has b Q = (c : ℕ) → Level b c → Q c

  -- a child of a level is of the level below, or a device
  pub below_level : (b c x : ℕ) → depth < path_depth lists c + b + 1 → IsNode lists x → parent lists x ≡ c → HeardAt b x
  below_level b c x lt node up = elim (cases_Bool (is_leaf lists x)) [
    | inl leaf ↦ inl leaf
    | inr inner ↦ inr (
      (node.0, node.1, inner),
      omega (
        arith,
        lt,
        concentrators_step lists (parent_smaller lists law) x node.0,
        cond-false {A = ℕ} (is_leaf lists x) 0 1 inner,
        ap (path_depth lists) up,
      ),
    )
  ]

  module _ (b : ℕ) (Q : ℕ → Type 0) (fits : Fits b Q) (has : Has b Q) where
    -- the newest number of what is heard
    pub newest_held : (net : Network) (s : State) → NetworkAgrees lists p net s → Stage b Q net → (x : ℕ) → IsNode lists x → HeardAt b x →
        newest_number_of lists s x ≤ (net.heard x).number
    newest_held net s agrees stage x node at = elim at [
      | inl leaf ↦ omega (
        arith,
        own_is lists p net s agrees x,
        cond-true (is_leaf lists x) (net.counts x) (net.last_number x) leaf,
        stage.leaves x node leaf,
      )
      | inr level ↦ omega (
        arith,
        own_is lists p net s agrees x,
        cond-false (is_leaf lists x) (net.counts x) (net.last_number x) level.0.2,
        stage.heard x level.0 level.1,
      )
    ]

    pub record Kept (net after : Network) : Type 0 where
      -- the stage is kept, and the numbers of Q
      pub stage : Stage b Q after
      pub last : (c : ℕ) → Q c → after.last_number c ≡ net.last_number c

    kept_same : (net after : Network) → Stage b Q net → after.counts ≡ net.counts → after.heard ≡ net.heard →
        after.last_number ≡ net.last_number → after.records ≡ net.records → Kept net after
    kept_same net after stage counts heard last records = record {
      stage = record {
        leaves = λ d node leaf. omega (
          arith,
          stage.leaves d node leaf,
          ap (λ (f : ℕ → ℕ). f d) counts,
          ap (λ (f : ℕ → BidMessage). (f d).number) heard,
        );
        heard = λ c conc lt. omega (
          arith,
          stage.heard c conc lt,
          ap (λ (f : ℕ → ℕ). f c) last,
          ap (λ (f : ℕ → BidMessage). (f c).number) heard,
        );
        quiet = λ c q x node up.
            ap (λ (f : ℕ → BidMessage). (f x).number) heard ∙ stage.quiet c q x node up
            ∙ sym (ap (λ (f : ℕ → ℕ). (after.records c (f c) x).number) last
            ∙ ap (λ (r : ℕ → ℕ → ℕ → BidMessage). (r c (net.last_number c) x).number) records);
      };
      last = λ c q. ap (λ (f : ℕ → ℕ). f c) last;
    }

    -- another node makes its next bid or clearing
    kept_making : (net after : Network) (y l : ℕ) (r : ℕ → ℕ → BidMessage) → Stage b Q net → (Q y → ⊥) → after.counts ≡ net.counts →
        after.heard ≡ net.heard → after.last_number ≡ update net.last_number y l → after.records ≡ update net.records y r → Kept net after
    kept_making net after y l r stage other counts heard last records =
        let same : (c : ℕ) → (c ≡ y → ⊥) → after.last_number c ≡ net.last_number c =
        λ c ne. ap (λ (f : ℕ → ℕ). f c) last ∙ updated_other net.last_number y l c ne in
        let not_it : (c : ℕ) → Q c → c ≡ y → ⊥ = λ c q e. other (subst Q e q) in
        record {
          stage = record {
            leaves = λ d node leaf. omega (
              arith,
              stage.leaves d node leaf,
              ap (λ (f : ℕ → ℕ). f d) counts,
              ap (λ (f : ℕ → BidMessage). (f d).number) heard,
            );
            heard = λ c conc lt. omega (
              arith,
              stage.heard c conc lt,
              same c (not_it c (has c (conc, lt))),
              ap (λ (f : ℕ → BidMessage). (f c).number) heard,
            );
            quiet = λ c q x node up.
                ap (λ (f : ℕ → BidMessage). (f x).number) heard ∙ stage.quiet c q x node up
                ∙ sym (ap (λ (n : ℕ). (after.records c n x).number) (same c (not_it c q))
                ∙ ap (λ (f : ℕ → ℕ → ℕ → BidMessage). (f c (net.last_number c) x).number) records
                ∙ ap (λ (f : ℕ → ℕ → BidMessage). (f (net.last_number c) x).number) (updated_other net.records y r c (not_it c q)));
          };
          last = λ c q. same c (not_it c q);
        }

    -- a carried event keeps the stage, and makes no number of a node of Q
    pub stage_step : (net : Network) (s : State) → NetworkAgrees lists p net s → Stage b Q net → (e : Event) → IsCarried lists e →
        Kept net (network_step lists p net e)
    unfolding is_new_bid can_send can_clear
    stage_step net s agrees stage (Bids d) carried = absurd carried
    stage_step net s agrees stage (TakesBid y k) carried =
        let bid : BidMessage = sent_bid p net y k in
        either (Kept net) (is_new_bid lists net y bid) (after_taking_bid net y bid) net
        (λ e.
        let parts = and_parts (is_node lists y) (ltb (net.heard y).number bid.number) e in
        let y_node : IsNode lists y = is_node_from lists y parts.0 in
        let lt : (net.heard y).number < bid.number = ltb-true (net.heard y).number bid.number parts.1 in
        let up : (x : ℕ) → (net.heard x).number ≤ (update net.heard y bid x).number = bid_up net.heard y bid (omega (arith, lt)) in
        let within : bid.number ≤ newest_number_of lists s y = elim (cases_lt k (length (net.bids_sent y))) [
          | inl inside ↦ (agrees.bids_sent y k y_node inside).0
          | inr ge ↦ absurd (omega (arith, lt, ap (λ (b : BidMessage). b.number) (past (net.bids_sent y) k (nothing_heard p) ge)))
        ] in
        record {
          stage = record {
            leaves = λ d node leaf. omega (arith, stage.leaves d node leaf, up d);
            heard = λ c conc lt. omega (arith, stage.heard c conc lt, up c);
            quiet = λ c q x node x_up. elim (updated_at net.heard y bid x) [
              | inl w ↦ absurd (omega (
                arith,
                lt,
                within,
                newest_held net s agrees stage x node (fits c x q node x_up),
                ap (newest_number_of lists s) w.0,
                ap (λ (z : ℕ). (net.heard z).number) w.0,
              ))
              | inr w ↦ ap (λ (b : BidMessage). b.number) w.1 ∙ stage.quiet c q x node x_up
            ];
          };
          last = λ c q. refl;
        })
        (λ e. kept_same net net stage refl refl refl refl)
    stage_step net s agrees stage (Sends c) carried =
        either (Kept net) (can_send lists net c) (after_sending p net c) net
        (λ e.
        let a = and_parts (is_node lists c && not (is_leaf lists c) && is_caught_up lists net c && has_news lists net c) _ e in
        let news = (and_parts (is_node lists c && not (is_leaf lists c) && is_caught_up lists net c) (has_news lists net c) a.0).1 in
        kept_making net (after_sending p net c) c (net.last_number c + 1) (update (net.records c) (net.last_number c + 1) net.heard) stage
        (λ q. both_ways (has_news lists net c) (without_news lists net c (stage.quiet c q)) news) refl refl refl refl)
        (λ e. kept_same net net stage refl refl refl refl)
    stage_step net s agrees stage Clears carried =
        either (Kept net) (can_clear lists net) (after_clearing lists p net) net
        (λ e.
        let news = (and_parts (is_caught_up lists net 0) (has_news lists net 0) e).1 in
        kept_making net (after_clearing lists p net) 0 (net.last_number 0 + 1) (update (net.records 0) (net.last_number 0 + 1) net.heard) stage
        (λ q. both_ways (has_news lists net 0) (without_news lists net 0 (stage.quiet 0 q)) news) refl refl refl refl)
        (λ e. kept_same net net stage refl refl refl refl)
    stage_step net s agrees stage (TakesPrice x k) carried =
        let price : PriceMessage = sent_price net x k in
        hears_each lists p net x k (Kept net) (kept_same net net stage refl refl refl refl)
        (kept_same net (after_taking_price net x price) stage refl refl refl refl)
        (kept_same net (after_passing lists p net x price) stage refl refl refl refl)
        (kept_same net (after_answer net x price) stage refl refl refl refl)
    stage_step net s agrees stage (Restarts y k) carried = absurd carried
    stage_step net s agrees stage (Rebuilds y) carried =
        either (Kept net) (can_rebuild lists net y) (after_rebuilding net y) net
        (λ e. record {
          stage = record {
            leaves = stage.leaves;
            heard = stage.heard;
            quiet = λ c q x node up. elim (cases_eq c y) [
              | inl is ↦ sym (ap (λ (b : ℕ → BidMessage). (b x).number)
                  (two_same net.records y (net.last_number y) net.heard c (net.last_number c) is (ap net.last_number is)))
              | inr ne ↦ stage.quiet c q x node up ∙ sym (ap (λ (b : ℕ → BidMessage). (b x).number)
                  (two_other net.records y (net.last_number y) net.heard c (net.last_number c) (λ z n. ne z)))
            ];
          };
          last = λ c q. refl;
        })
        (λ e. kept_same net net stage refl refl refl refl)
    stage_step net s agrees stage (StopsBidding x) carried = absurd carried
    stage_step net s agrees stage (Resends x) carried =
        either (Kept net) (can_resend lists net x) (after_resending lists p net x) net
        (λ e. kept_same net (after_resending lists p net x) stage refl refl refl refl)
        (λ e. kept_same net net stage refl refl refl refl)
    stage_step net s agrees stage (PassesToOne z k) carried = absurd carried
    stage_step net s agrees stage StopsClearing carried = absurd carried
    stage_step net s agrees stage (TellsOne z) carried =
        either (Kept net) (can_tell_one lists net z) (after_telling_one p net z) net
        (λ e. kept_same net (after_telling_one p net z) stage refl refl refl refl)
        (λ e. kept_same net net stage refl refl refl refl)

    -- so over a list of events
    pub stage_after : (events : List Event) (net : Network) (s : State) → NetworkAgrees lists p net s → Stage b Q net → All (IsCarried lists) events →
        Kept net (network_after lists p net events)
    stage_after [] net s agrees stage all = record { stage = stage; last = λ c q. refl }
    stage_after (e ∷ es) net s agrees stage all =
        let next : Network = network_step lists p net e in
        let kept = stage_step net s agrees stage e (all 0 e (omega arith)) in
        let goes : GoesOn lists p s next = event_goes_on lists law one p by net s agrees e in
        let rest = stage_after es next (after_from lists s goes.moves) goes.agrees kept.stage (λ k o lt. all (suc k) o (omega (arith, lt))) in
        record { stage = rest.stage; last = λ c q. rest.last c q ∙ kept.last c q }

    -- a node of which all children are heard is caught up
    caught_there : (net : Network) (s : State) → NetworkAgrees lists p net s → Stage b Q net → (c : ℕ) →
        ((x : ℕ) → IsNode lists x → parent lists x ≡ c → HeardAt b x) → is_caught_up lists net c ≡ true
    caught_there net s agrees stage c under = caught_at lists law p net s agrees c (λ x node up.
        omega (arith, newest_held net s agrees stage x node (under x node up), agrees.sound.learnt_within x node))

    -- it has no news once it was asked
    sends_now : (net : Network) (s : State) → NetworkAgrees lists p net s → Stage b Q net → (c : ℕ) → IsConcentrator lists c →
        ((x : ℕ) → IsNode lists x → parent lists x ≡ c → HeardAt b x) → HasRoomFor net (Sends c) →
        NoNews lists (network_step lists p net (Sends c)) c
    unfolding can_send
    sends_now net s agrees stage c conc under room =
        let l : ℕ = net.last_number c + 1 in
        let after : Network = after_sending p net c in
        elim (cases_Bool (can_send lists net c)) [
          | inl e ↦ subst (λ (n : Network). NoNews lists n c) (sym (cond-true (can_send lists net c) after net e))
              (λ x node up. sym (ap (λ (r : ℕ → BidMessage). (r x).number)
              (two_same net.records c l net.heard c (after.last_number c) refl (updated_same net.last_number c l))))
          | inr e ↦ subst (λ (n : Network). NoNews lists n c) (sym (cond-false (can_send lists net c) after net e))
              (no_news_at lists net c (elim (cases_Bool (has_news lists net c)) [
                | inr none ↦ none
                | inl news ↦ absurd (both_ways (can_send lists net c) e (and_from _ _ (and_from _ _ (and_from _ _ (and_from _ _
                    (is_node_at lists c (conc.0, conc.1)) (not_from_false (is_leaf lists c) conc.2)) (caught_there net s agrees stage c under)) news)
                    (lt-ltb (net.last_number c - net.answered c) window_size room)))
              ]))
        ]

    clears_now : (net : Network) (s : State) → NetworkAgrees lists p net s → Stage b Q net →
        ((x : ℕ) → IsNode lists x → parent lists x ≡ 0 → HeardAt b x) → NoNews lists (network_step lists p net Clears) 0
    unfolding can_clear
    clears_now net s agrees stage under =
        let l : ℕ = net.last_number 0 + 1 in
        let after : Network = after_clearing lists p net in
        elim (cases_Bool (can_clear lists net)) [
          | inl e ↦ subst (λ (n : Network). NoNews lists n 0) (sym (cond-true (can_clear lists net) after net e))
              (λ x node up. sym (ap (λ (r : ℕ → BidMessage). (r x).number)
              (two_same net.records 0 l net.heard 0 (after.last_number 0) refl (updated_same net.last_number 0 l))))
          | inr e ↦ subst (λ (n : Network). NoNews lists n 0) (sym (cond-false (can_clear lists net) after net e))
              (no_news_at lists net 0 (elim (cases_Bool (has_news lists net 0)) [
                | inr none ↦ none
                | inl news ↦ absurd (both_ways (can_clear lists net) e (and_from _ _ (caught_there net s agrees stage 0 under) news))
              ]))
        ]

  -- a node that is asked in a round, by which it has no news, has none to the round's end
  module _ (b : ℕ) (Q : ℕ → Type 0) (fits : Fits b Q) (has : Has b Q) (c : ℕ)
      (under : (x : ℕ) → IsNode lists x → parent lists x ≡ c → HeardAt b x)
      (ask : Event) (now : (net : Network) (s : State) → NetworkAgrees lists p net s → Stage b Q net → HasRoomFor net ask →
      NoNews lists (network_step lists p net ask) c) where
    abbrev More : ℕ → Type 0
    More z = Q z ⊎ (z ≡ c)

    more_fits : Fits b More
    more_fits z x q node up = elim q [
      | inl q ↦ fits z x q node up
      | inr e ↦ under x node (up ∙ e)
    ]

    -- so has a node that is asked in a round
    pub asked : (events : List Event) (net : Network) (s : State) → NetworkAgrees lists p net s → Stage b Q net → All (IsCarried lists) events →
        HaveRoom lists p net events → (i : ℕ) → i < length events → get_or events i ask ≡ ask → NoNews lists (network_after lists p net events) c
    asked [] net s agrees stage all room i lt is = absurd (omega (arith, lt))
    asked (e ∷ es) net s agrees stage all room zero lt is =
        let next : Network = network_step lists p net e in
        let goes : GoesOn lists p s next = event_goes_on lists law one p by net s agrees e in
        let kept = stage_step b Q fits has net s agrees stage e (all 0 e (omega arith)) in
        let none : NoNews lists next c = subst (λ (f : Event). NoNews lists (network_step lists p net f) c) (sym is)
        (now net s agrees stage (subst (HasRoomFor net) is room.0)) in
        let more : Stage b More next = record {
          leaves = kept.stage.leaves;
          heard = kept.stage.heard;
          quiet = λ z q. elim q [
            | inl q ↦ kept.stage.quiet z q
            | inr is ↦ subst (NoNews lists next) (sym is) none
          ];
        } in
        (stage_after b More more_fits (λ z level. inl (has z level)) es next (after_from lists s goes.moves) goes.agrees more
        (λ k o lt. all (suc k) o (omega (arith, lt)))).stage.quiet c (inr refl)
    asked (e ∷ es) net s agrees stage all room (suc i) lt is =
        let next : Network = network_step lists p net e in
        let goes : GoesOn lists p s next = event_goes_on lists law one p by net s agrees e in
        let kept = stage_step b Q fits has net s agrees stage e (all 0 e (omega arith)) in
        asked es next (after_from lists s goes.moves) goes.agrees kept.stage (λ k o lt. all (suc k) o (omega (arith, lt))) room.1 i (omega (arith, lt)) is

  -- ---- rounds

  -- each child of a level is heard
  pub fits_level : (b : ℕ) → Fits b (Level b)
  fits_level b c x level node up = below_level b c x (omega (arith, level.1)) node up

  fits_more : (b : ℕ) → Fits b (Level (b + 1))
  fits_more b c x level node up = below_level b c x (omega (arith, level.1)) node up

  -- the bids of devices arrive
  pub first_round : (events : List Event) (net : Network) → AllSent lists p net → IsRound lists p net events →
      Stage 0 (Level 0) (network_after lists p net events)
  first_round events net sent round = record {
    leaves = λ d node leaf.
        let same : (network_after lists p net events).counts ≡ net.counts = round_counts lists p events net round.carried in
        let made : made_number lists net d ≡ net.counts d = cond-true (is_leaf lists d) (net.counts d) (net.last_number d) leaf in
        elim (cases_eq (net.counts d) 0) [
          | inl none ↦ omega (arith, none, ap (λ (f : ℕ → ℕ). f d) same)
          | inr ne ↦
              let at = sent.bids d node (omega (arith, ne, made)) in
              let given = round.bids d at.0 node at.1 in
              omega (
                arith,
                ap (λ (f : ℕ → ℕ). f d) same,
                made,
                at.2,
                given.newer,
                bid_arrives lists p events net round.carried d given.place node given.inside given.given.0 given.given.1 given.given.2,
              )
        ];
    heard = λ c conc lt. absurd (omega (arith, lt, deep c conc));
    quiet = λ c level. absurd (omega (arith, level.1, deep c level.0));
  }

  -- the relays of the next level send
  pub send_round : (b : ℕ) (events : List Event) (net : Network) (s : State) → NetworkAgrees lists p net s → Stage b (Level b) net →
      IsRound lists p net events → HaveRoom lists p net events → Stage b (Level (b + 1)) (network_after lists p net events)
  send_round b events net s agrees stage round room =
      let has : Has b (Level b) = λ c level. level in
      let kept = stage_after b (Level b) (fits_level b) has events net s agrees stage round.carried in
      record {
        leaves = kept.stage.leaves;
        heard = kept.stage.heard;
        quiet = λ c level.
            let under : (x : ℕ) → IsNode lists x → parent lists x ≡ c → HeardAt b x = λ x node up. fits_more b c x level node up in
            let at = round.sends c level.0 in
            asked b (Level b) (fits_level b) has c under (Sends c)
            (λ net s agrees stage room. sends_now b (Level b) (fits_level b) has net s agrees stage c level.0 under room)
            events net s agrees stage round.carried room at.0 at.1 at.2;
      }

  -- and their parents take these bids
  pub take_round : (b : ℕ) (events : List Event) (net : Network) (s : State) → NetworkAgrees lists p net s → AllSent lists p net →
      Stage b (Level (b + 1)) net → IsRound lists p net events → Stage (b + 1) (Level (b + 1)) (network_after lists p net events)
  take_round b events net s agrees sent stage round =
      let has : Has b (Level (b + 1)) = λ c level. (level.0, omega (arith, level.1)) in
      let kept = stage_after b (Level (b + 1)) (fits_more b) has events net s agrees stage round.carried in
      record {
        leaves = kept.stage.leaves;
        heard = λ c conc lt.
            let node : IsNode lists c = (conc.0, conc.1) in
            let made : made_number lists net c ≡ net.last_number c = cond-false (is_leaf lists c) (net.counts c) (net.last_number c) conc.2 in
            elim (cases_eq (net.last_number c) 0) [
              | inl none ↦ omega (arith, none, kept.last c (conc, lt))
              | inr ne ↦
                  let at = sent.bids c node (omega (arith, ne, made)) in
                  let given = round.bids c at.0 node at.1 in
                  omega (
                    arith,
                    kept.last c (conc, lt),
                    made,
                    at.2,
                    given.newer,
                    bid_arrives lists p events net round.carried c given.place node given.inside given.given.0 given.given.1 given.given.2,
                  )
            ];
        quiet = kept.stage.quiet;
      }

  -- ---- all bids are there

  abbrev pub All_inner : ℕ → Type 0
  All_inner c = IsInner lists c × (c ≤ nodes lists)

  -- at the last level are all relays
  pub last_level : (c : ℕ) → IsConcentrator lists c → Level depth c
  last_level c conc = (
    conc,
    omega (
      arith,
      concentrators_step lists (parent_smaller lists law) c conc.0,
      cond-false {A = ℕ} (is_leaf lists c) 0 1 conc.2,
    ),
  )

  -- so all children are heard
  pub fits_all : Fits depth All_inner
  fits_all c x q node up = elim (cases_Bool (is_leaf lists x)) [
    | inl leaf ↦ inl leaf
    | inr inner ↦ inr (last_level x (node.0, node.1, inner))
  ]

  -- the relays of the last level are among them
  pub has_all : Has depth All_inner
  has_all c level = (level.0.2, level.0.1)

  -- the auctioneer clears
  pub clear_round : (events : List Event) (net : Network) (s : State) → NetworkAgrees lists p net s → Stage depth (Level depth) net →
      IsRound lists p net events → HaveRoom lists p net events → Stage depth All_inner (network_after lists p net events)
  clear_round events net s agrees stage round room =
      let has : Has depth (Level depth) = λ c level. level in
      let kept = stage_after depth (Level depth) (fits_level depth) has events net s agrees stage round.carried in
      let under : (x : ℕ) → IsNode lists x → parent lists x ≡ 0 → HeardAt depth x =
      λ x node up. elim (cases_Bool (is_leaf lists x)) [
        | inl leaf ↦ inl leaf
        | inr inner ↦ inr (last_level x (node.0, node.1, inner))
      ] in
      record {
        leaves = kept.stage.leaves;
        heard = kept.stage.heard;
        quiet = λ c q. elim (cases_eq c 0) [
          | inl root ↦ subst (NoNews lists (network_after lists p net events)) (sym root)
              (asked depth (Level depth) (fits_level depth) has 0 under Clears
              (λ net s agrees stage room. clears_now depth (Level depth) (fits_level depth) has net s agrees stage under)
              events net s agrees stage round.carried room round.clears.0 round.clears.1 round.clears.2)
          | inr ne ↦ kept.stage.quiet c (last_level c (omega (arith, ne), q.1, q.0))
        ];
      }
