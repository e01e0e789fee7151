-- A root clears, refuses to, or tells a child its newest price again.
use Rattle.std.proofs.Common.{◌≡◌, ◌∙◌, sym, ap, subst, ℕ, ◌+◌, ◌<◌, Bool, true, false, eqb, leb, not, ◌&&◌, List}
use Rattle.std.proofs.Common.{[], ◌∷◌, ◌++◌, arith, inl, inr, refl}
use Rattle.std.proofs.Common.{◌⊎◌}
use Rattle.std.proofs.lemmas.Bool.{cases_Bool, cases_lt, cond-true, cond-false, eqb-true, le-leb, eq-eqb, and_from, and_parts}
use Rattle.std.proofs.lemmas.Bool.{not_from_false, not-false, not-true}
use Rattle.std.proofs.lemmas.Bool.{false_from_ne_true, true≢false, both_ways}
use Rattle.std.proofs.lemmas.List.{append-nil, get_or-replicate, length-replicate}
use Rattle.pm_base.specs.Limits.{most_nodes}
use Rattle.pm_bid.specs.Clearing.{clearing_step}
use Rattle.pm_bid.specs.Heads.{nothing_sent}
use Rattle.pm_bid.specs.declared.head.BidHead.{BidHead}
use Rattle.pm_cache.specs.Cache.{Cache}
use Rattle.pm_market.specs.Lists.{Lists, parent, IsNode}
use Rattle.pm_market.specs.Legality.{is_node}
use Rattle.pm_market.proofs.Legality.{is_node_at}
use Rattle.pm_market.proofs.Cuts.{updated_same}
use Rattle.pm_net.specs.Pricing.{Pricing}
use Rattle.pm_net.specs.Messages.{BidMessage, price_message}
use Rattle.pm_net.specs.Network.{Network}
use Rattle.pm_net.specs.Running.{all_children, is_caught_up, has_news, can_clear, heard_sum, after_clearing, recorded_number}
use Rattle.pm_net.specs.Restarts.{can_tell_one, after_telling_one, auctioneer_stopped}
use Rattle.pm_net.specs.Events.{network_step, Clears, StopsClearing, TellsOne}
use Rattle.pm_net.proofs.Messages.{two_same}
use Rattle.pm_net.proofs.News.{level, child_from}
use Rattle.pm_net_plan.specs.Places.{Numbering, IsNumbering}
use Rattle.pm_relay.specs.Numbers.{head_number, IsCaughtUp, HearsNothingNewer}
use Rattle.pm_relay.specs.Roots.{RootValue, newest_index, RootCleared, NotCleared}
use Rattle.pm_relay.specs.declared.fault.RootFault.{RootFault}
use Rattle.pm_relay.specs.declared.fault.RootFault.TheVariants.{NotCaughtUp, NotChanged, OutOfNumbers}
use Rattle.pm_relay_net.specs.Heads.{heads_of, AddsByPlaces}
use Rattle.pm_relay_net.specs.RootIs.{MatchesRoot, RootIs, root_prices}
use Rattle.pm_relay_net.proofs.Children as children
use Rattle.pm_relay_net.proofs.Children.{KnowsChildren}
use Rattle.pm_relay_net.proofs.Entering.{sum_heard}
use Rattle.pm_relay_net.proofs.LeftAlone.{root_stays}
use Rattle.pm_relay_net.proofs.PricesDown.{price_for_bid, price_by_heads, sent_to_child}
use Rattle.pm_relay_net.proofs.RootLearning.{knows}

module _ (lists : Lists) (p : Pricing) (numbering : Numbering) (is : IsNumbering lists numbering) (net : Network) (r : RootValue)
    (was : RootIs p numbering net r) where
  m : MatchesRoot p numbering net r
  m = was.matches

  known : KnowsChildren numbering net 0 r.auction.cache.heads r.recorded
  known = knows p numbering net r m

  -- a root that learnt something, and heard no less of any child than went into its newest clearing, heard more of one
  more : IsCaughtUp r.recorded r.auction.cache.heads → r.auction.changed ≡ true → HearsNothingNewer r.recorded r.auction.cache.heads → ⊥
  more all changed no_more =
      elim (cases_lt 0 r.auction.index) [
        | inl some ↦ m.news (inr some) changed no_more
        | inr none ↦ elim (cases_lt 0 r.base) [
          | inl back ↦ was.rebuilt (record { came_back = back; lost = omega (arith, none); caught_up = all; nothing_newer = no_more; changed = changed })
          | inr zero ↦ m.news (inl (omega (arith, zero))) changed no_more
        ]
      ]

  news : IsCaughtUp r.recorded r.auction.cache.heads → r.auction.changed ≡ true → has_news lists net 0 ≡ true
  unfolding has_news
  news all changed = elim (cases_Bool (has_news lists net 0)) [
    | inl e ↦ e
    | inr e ↦ absurd (more all changed (children.enough_from lists numbering is net 0 r.auction.cache.heads r.recorded known (λ x node up.
        let level : (net.heard x).number ≡ recorded_number net 0 x = eqb-true (net.heard x).number (recorded_number net 0 x)
        (child_from lists 0 (λ x. eqb (net.heard x).number (recorded_number net 0 x))
        (not-false (all_children lists 0 (λ x. eqb (net.heard x).number (recorded_number net 0 x))) e) x node up) in
        omega (arith, level))))
  ]

  -- one that learnt nothing heard no more of any child
  nothing_more : r.auction.changed ≡ false → HearsNothingNewer r.recorded r.auction.cache.heads
  nothing_more same = λ k inside.
      let k_in : k < most_nodes = omega (arith, inside, m.children) in
      elim (cases_lt 0 r.auction.index) [
        | inl some ↦ omega (arith, ap (λ (l : List BidHead). head_number l k) (m.heads ∙ m.unchanged same some), m.recorded k k_in)
        | inr none ↦ omega (
          arith,
          ap (λ (l : List BidHead). head_number l k) (m.opening same (omega (arith, none))),
          ap (λ (h : BidHead). h.number) (get_or-replicate most_nodes k nothing_sent nothing_sent
              (omega (arith, k_in, length-replicate {A = BidHead} most_nodes nothing_sent))),
        )
      ]

  -- an auctioneer that heard of each child what is in its clearing, and learnt nothing since, has no news
  pub no_news : IsCaughtUp r.recorded r.auction.cache.heads → r.auction.changed ≡ false → has_news lists net 0 ≡ false
  no_news all same = level lists net 0
      (children.caught_to lists numbering is net 0 r.auction.cache.heads r.recorded known all)
      (children.over_to lists numbering is net 0 r.auction.cache.heads r.recorded known (nothing_more same))

  stays : (can_clear lists net ≡ true → ⊥) → network_step lists p net Clears ≡ net
  stays cannot = cond-false (can_clear lists net) (after_clearing lists p net) net (false_from_ne_true (can_clear lists net) cannot)

  parts : can_clear lists net ≡ true → (is_caught_up lists net 0 ≡ true) × (has_news lists net 0 ≡ true)
  unfolding can_clear
  parts e = let a = and_parts (is_caught_up lists net 0) (has_news lists net 0) e in (a.0, a.1)

  -- where a root refuses, the auctioneer may not clear either, or numbers are at their end
  pub refuses : (fault : RootFault) → NotCleared r fault → (fault ≡ OutOfNumbers) ⊎ (network_step lists p net Clears ≡ net)
  refuses NotCaughtUp why = inr (stays (λ e.
      why (children.caught_from lists numbering is net 0 r.auction.cache.heads r.recorded known (parts e).0)))
  refuses NotChanged why = inr (stays (λ e. both_ways (has_news lists net 0) (no_news why.0 why.1) (parts e).1))
  refuses OutOfNumbers why = inl refl

  -- a root that clears does what the auctioneer does
  module _ (adds : AddsByPlaces p numbering) (new : RootValue) (index' step' : ℕ) (did : RootCleared r new index' step') where
    can : can_clear lists net ≡ true
    unfolding can_clear
    can = and_from (is_caught_up lists net 0) (has_news lists net 0)
        (children.caught_to lists numbering is net 0 r.auction.cache.heads r.recorded known did.caught_up) (news did.caught_up did.cleared.changed)

    abbrev n : ℕ
    n = net.last_number 0 + 1

    abbrev net' : Network
    net' = after_clearing lists p net

    last_is : net'.last_number 0 ≡ n
    last_is = updated_same net.last_number 0 n

    heard_is : net'.records 0 (net'.last_number 0) ≡ net.heard
    heard_is = two_same net.records 0 n net.heard 0 (net'.last_number 0) refl last_is

    own_index : new.auction.index ≡ r.auction.index + 1
    own_index = did.cleared.new_index

    newest_is : newest_index new ≡ n
    newest_is = omega (arith, did.base, own_index, m.newest)

    step_is : new.auction.step ≡ clearing_step (heard_sum p net 0)
    step_is = did.cleared.new_step ∙ did.cleared.step ∙ ap clearing_step (sum_heard p numbering adds net 0 r.auction.cache
        (record { steps = m.steps; heads = m.heads; demands = m.demands }))

    heads_are : new.auction.cache.heads ≡ heads_of numbering 0 net.heard
    heads_are = ap (λ (w : Cache). w.heads) did.cleared.cache ∙ m.heads

    -- after its clearing the root is what the network has of its auctioneer
    cleared_is : RootIs p numbering net' new
    cleared_is = record {
      matches = record {
        steps = ap (λ (w : Cache). w.steps) did.cleared.cache ∙ m.steps;
        heads = heads_are;
        demands = ap (λ (w : Cache). w.demands) did.cleared.cache ∙ m.demands;
        newest = newest_is ∙ sym last_is;
        children = did.children ∙ m.children;
        recorded = λ k inside. did.numbers k inside ∙ ap (λ (l : List BidHead). head_number l k) (m.heads ∙ ap (heads_of numbering 0) (sym heard_is));
        none_recorded = λ zero. absurd (omega (arith, zero, newest_is));
        base = did.base ∙ m.base;
        caught_up = λ some k inside. omega (
          arith,
          did.numbers k (omega (arith, inside, did.children, m.children)),
          ap (λ (w : Cache). head_number w.heads k) did.cleared.cache,
        );
        step = λ some. step_is ∙ ap (λ (f : ℕ → BidMessage). clearing_step (p.add 0 (λ z. (f z).demand))) (sym heard_is);
        unchanged = λ same some. ap (heads_of numbering 0) (sym heard_is);
        opening = λ same zero. absurd (omega (arith, zero, own_index));
        news = λ has changed no_more. true≢false (sym changed ∙ did.cleared.not_changed);
      };
      rebuilt = λ again. omega (arith, again.lost, own_index);
    }

    -- what each child is sent
    sent_to : (x : ℕ) → IsNode lists x → parent lists x ≡ 0 → net'.prices_sent x ≡ net.prices_sent x ++ root_prices new (numbering.place x)
    sent_to x node up =
        sent_to_child lists net.prices_sent 0 net.heard n (clearing_step (heard_sum p net 0)) x up
        ∙ ap (λ (k : ℕ). net.prices_sent x ++ price_for_bid (net.heard x) n k) (sym step_is)
        ∙ ap (λ (k : ℕ). net.prices_sent x ++ price_for_bid (net.heard x) k new.auction.step) (sym newest_is)
        ∙ sym (ap (λ l. net.prices_sent x ++ l)
        (price_by_heads lists numbering is net.heard new.auction.cache.heads (newest_index new) new.auction.step 0 x node up heads_are))

    step_clears : network_step lists p net Clears ≡ net'
    step_clears = cond-true (can_clear lists net) net' net can

    -- the root and the prices are the network's
    pub clears : RootIs p numbering (network_step lists p net Clears) new
        × (index' ≡ (network_step lists p net Clears).last_number 0)
        × ((x : ℕ) → IsNode lists x → parent lists x ≡ 0 →
        (network_step lists p net Clears).prices_sent x ≡ net.prices_sent x ++ root_prices new (numbering.place x))
    clears = (
      subst (λ (w : Network). RootIs p numbering w new) (sym step_clears) cleared_is,
      omega (arith, did.index, m.newest, ap (λ (w : Network). w.last_number 0) step_clears, last_is),
      λ x node up. ap (λ (w : Network). w.prices_sent x) step_clears ∙ sent_to x node up,
    )

    -- so is the root if it stops before it sends a price
    pub stops : RootIs p numbering (network_step lists p net StopsClearing) new
    stops = subst (λ (w : Network). RootIs p numbering w new) (sym (cond-true (can_clear lists net) (auctioneer_stopped net) net can))
        (root_stays lists p numbering is net' (auctioneer_stopped net) new
        (record { heard = λ x node up. refl; last_number = refl; records = refl; whole_from = refl; answered = refl; taken = refl }) cleared_is)

  -- a root that has its newest clearing tells its price as the auctioneer does
  module _ (x : ℕ) (node : IsNode lists x) (up : parent lists x ≡ 0) (some : 0 < r.auction.index) (same : r.auction.changed ≡ false) where
    abbrev basis : ℕ → BidMessage
    basis = net.records 0 (net.last_number 0)

    abbrev told_step : ℕ
    told_step = clearing_step (p.add 0 (λ z. (basis z).demand))

    abbrev others : Bool
    others = is_node lists x && eqb (parent lists x) 0 && leb (net.whole_from 0) (net.last_number 0) && leb 1 (net.last_number 0)

    others_hold : others ≡ true
    others_hold = and_from (is_node lists x && eqb (parent lists x) 0 && leb (net.whole_from 0) (net.last_number 0)) (leb 1 (net.last_number 0))
        (and_from (is_node lists x && eqb (parent lists x) 0) (leb (net.whole_from 0) (net.last_number 0))
        (and_from (is_node lists x) (eqb (parent lists x) 0) (is_node_at lists x node) (eq-eqb (parent lists x) 0 up))
        (le-leb (net.whole_from 0) (net.last_number 0) (omega (arith, m.newest, m.base, some))))
        (le-leb 1 (net.last_number 0) (omega (arith, m.newest, some)))

    prices_are : root_prices r (numbering.place x) ≡ price_for_bid (basis x) (net.last_number 0) told_step
    prices_are =
        price_by_heads lists numbering is basis r.auction.cache.heads (newest_index r) r.auction.step 0 x node up (m.heads ∙ m.unchanged same some)
        ∙ ap (λ (k : ℕ). price_for_bid (basis x) (newest_index r) k) (m.step some)
        ∙ ap (λ (k : ℕ). price_for_bid (basis x) k told_step) m.newest

    choice : (g : Bool) → (basis x).gone ≡ g →
        (network_step lists p net (TellsOne x)).prices_sent x ≡ net.prices_sent x ++ price_for_bid (basis x) (net.last_number 0) told_step
    unfolding can_tell_one
    choice true e =
        ap (λ (w : Network). w.prices_sent x) (cond-false (can_tell_one lists net x) (after_telling_one p net x) net
        (false_from_ne_true (can_tell_one lists net x) (λ h.
        both_ways (basis x).gone (not-true (basis x).gone (and_parts others (not (basis x).gone) h).1) e)))
        ∙ sym (ap (λ l. net.prices_sent x ++ l) (cond-true (basis x).gone [] (price_message (basis x).number (net.last_number 0) told_step ∷ []) e)
        ∙ append-nil (net.prices_sent x))
    choice false e =
        ap (λ (w : Network). w.prices_sent x) (cond-true (can_tell_one lists net x) (after_telling_one p net x) net
        (and_from others (not (basis x).gone) others_hold (not_from_false (basis x).gone e)))
        ∙ updated_same net.prices_sent x (net.prices_sent x ++ price_message (basis x).number (net.last_number 0) told_step ∷ [])
        ∙ sym (ap (λ l. net.prices_sent x ++ l) (cond-false (basis x).gone [] (price_message (basis x).number (net.last_number 0) told_step ∷ []) e))

    -- what is sent to the child is the root's price
    pub tells : (network_step lists p net (TellsOne x)).prices_sent x ≡ net.prices_sent x ++ root_prices r (numbering.place x)
    tells = choice (basis x).gone refl ∙ sym (ap (λ l. net.prices_sent x ++ l) prices_are)
