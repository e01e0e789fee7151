-- A root learns a child's bid, and may have its newest clearing again.
use Rattle.std.proofs.Common.{◌≡◌, ◌∙◌, sym, ap, subst, ℕ, ◌<◌, ◌≤◌, Bool, true, false, leb, ltb, ◌||◌, not}
use Rattle.std.proofs.Common.{List, length, arith, inl, inr, refl}
use Rattle.std.proofs.Common.{◌⊎◌, [], ◌∷◌}
use Rattle.std.proofs.lemmas.Bool.{cases_eq, cases_lt, cond-true, lt-ltb, le-leb, leb-true, and_from, not_from_false, false_from_ne_true}
use Rattle.std.proofs.lemmas.Bool.{true≢false}
use Rattle.pm_base.specs.Limits.{most_nodes}
use Rattle.pm_bid.specs.Bids.{zeros}
use Rattle.pm_bid.specs.Clearing.{clearing_step}
use Rattle.pm_bid.specs.declared.head.BidHead.{BidHead}
use Rattle.pm_cache.specs.Cache.{Cache, kept_number}
use Rattle.pm_market.specs.Lists.{Lists, parent, IsNode}
use Rattle.pm_market.proofs.Cuts.{updated_same, updated_other}
use Rattle.pm_net.specs.Pricing.{Pricing}
use Rattle.pm_net.specs.Messages.{BidMessage}
use Rattle.pm_net.specs.Network.{Network, sent_bid}
use Rattle.pm_net.specs.Running.{after_taking_bid, has_news, recorded_number}
use Rattle.pm_net.specs.Restarts.{can_rebuild, after_rebuilding}
use Rattle.pm_net.specs.Events.{network_step, network_after, TakesBid, Rebuilds}
use Rattle.pm_net.proofs.Messages.{two_same}
use Rattle.pm_net.proofs.News.{level}
use Rattle.pm_net_plan.specs.Places.{Numbering, IsNumbering, demands_of}
use Rattle.pm_relay.specs.Numbers.{child_number, head_number, IsCaughtUp}
use Rattle.pm_relay.specs.Roots.{RootValue, with_root_bid, HearsItsClearing, ClearingRebuilt, LooksForClearing}
use Rattle.pm_relay_net.specs.Heads.{heads_of, AddsByPlaces}
use Rattle.pm_relay_net.specs.RelayIs.{told_demand}
use Rattle.pm_relay_net.specs.RootIs.{HasClearing, MatchesRoot, RootIs}
use Rattle.pm_relay_net.proofs.Children as children
use Rattle.pm_relay_net.proofs.Children.{KnowsChildren}
use Rattle.pm_relay_net.proofs.Entering.{HearsChildren, kept_is, newer_taken, newer_heard, older_left, same_cache, sum_heard}

-- what a root keeps of its children
pub knows : (p : Pricing) (numbering : Numbering) (net : Network) (r : RootValue) → MatchesRoot p numbering net r →
    KnowsChildren numbering net 0 r.auction.cache.heads r.recorded
knows p numbering net r m = record { heads_are = m.heads; children = m.children; numbers_are = m.recorded }

-- a root that lost no clearing heard of each child as much as went into the newest one
pub has_heard : (p : Pricing) (numbering : Numbering) (net : Network) (r : RootValue) → MatchesRoot p numbering net r → HasClearing r →
    IsCaughtUp r.recorded r.auction.cache.heads
has_heard p numbering net r m (inr some) = m.caught_up some
has_heard p numbering net r m (inl none) = elim (cases_lt 0 r.auction.index) [
  | inl some ↦ m.caught_up some
  | inr ge ↦ λ k inside. omega (arith, m.none_recorded (omega (arith, none, ge)) k (omega (arith, inside, m.children)))
]

-- of two, if the second is true, one is
pub or_true : (a b : Bool) → b ≡ true → (a || b) ≡ true
or_true true b e = refl
or_true false b e = e

or_false : (a b : Bool) → b ≡ false → (a || b) ≡ a
or_false true b e = refl
or_false false b e = e

module _ (lists : Lists) (p : Pricing) (numbering : Numbering) (is : IsNumbering lists numbering) (net : Network) (x k : ℕ) (node : IsNode lists x)
    (up : parent lists x ≡ 0) (r : RootValue) (m : MatchesRoot p numbering net r)
    (none : (sent_bid p net x k).gone ≡ true → (sent_bid p net x k).demand ≡ zeros p.steps) where
  abbrev bid : BidMessage
  bid = sent_bid p net x k

  abbrev entered : RootValue
  entered = with_root_bid r (numbering.place x) bid.number (told_demand bid)

  abbrev with_news : Cache → Bool → RootValue
  with_news cache' changed' = record r { auction = record r.auction { cache = cache'; changed = changed' } }

  has : HearsChildren p numbering net (parent lists x) r.auction.cache
  has = record {
    steps = m.steps;
    heads = m.heads ∙ ap (λ (y : ℕ). heads_of numbering y net.heard) (sym up);
    demands = m.demands ∙ ap (λ (y : ℕ). demands_of p.steps numbering y (λ z. (net.heard z).demand)) (sym up);
  }

  abbrev is_old : Bool
  is_old = leb bid.number (kept_number r.auction.cache (numbering.place x))

  kept : kept_number r.auction.cache (numbering.place x) ≡ (net.heard x).number
  kept = kept_is lists p numbering is net x k node r.auction.cache has none

  -- a newer bid
  module _ (lt : (net.heard x).number < bid.number) where
    abbrev net' : Network
    net' = after_taking_bid net x bid

    changed_is : entered.auction.changed ≡ true
    changed_is = or_true r.auction.changed (not is_old) (not_from_false is_old (false_from_ne_true is_old (λ e.
        omega (arith, leb-true bid.number (kept_number r.auction.cache (numbering.place x)) e, kept, lt))))

    hears : HearsChildren p numbering net' (parent lists x) entered.auction.cache
    hears = newer_heard lists p numbering is net x k node r.auction.cache has none lt

    knows_more : KnowsChildren numbering net' 0 entered.auction.cache.heads r.recorded
    knows_more = record {
      heads_are = hears.heads ∙ ap (λ (y : ℕ). heads_of numbering y net'.heard) up;
      children = m.children;
      numbers_are = m.recorded;
    }

    -- it still heard no less of any child
    still : IsCaughtUp r.recorded r.auction.cache.heads → (z : ℕ) → IsNode lists z → parent lists z ≡ 0 →
        recorded_number net 0 z ≤ (net'.heard z).number
    still all z z_node z_up =
        let before : recorded_number net 0 z ≤ (net.heard z).number =
        children.reached_at lists numbering is net 0 r.auction.cache.heads r.recorded (knows p numbering net r m) all z z_node z_up in
        elim (cases_eq z x) [
          | inl e ↦ omega (
            arith,
            before,
            ap (λ (i : ℕ). (net.heard i).number) e,
            lt,
            ap (λ (i : ℕ). (net'.heard i).number) e,
            ap (λ (b : BidMessage). b.number) (updated_same net.heard x bid),
          )
          | inr ne ↦ omega (arith, before, ap (λ (b : BidMessage). b.number) (updated_other net.heard x bid z ne))
        ]

    with_newer : MatchesRoot p numbering net' entered
    with_newer = record {
      steps = hears.steps;
      heads = knows_more.heads_are;
      demands = hears.demands ∙ ap (λ (y : ℕ). demands_of p.steps numbering y (λ z. (net'.heard z).demand)) up;
      newest = m.newest;
      children = m.children;
      recorded = m.recorded;
      none_recorded = m.none_recorded;
      base = m.base;
      caught_up = λ some. children.reached_from lists numbering is net' 0 entered.auction.cache.heads r.recorded knows_more (still (m.caught_up some));
      step = m.step;
      unchanged = λ same some. absurd (true≢false (sym changed_is ∙ same));
      opening = λ same zero. absurd (true≢false (sym changed_is ∙ same));
      news = λ has_clearing changed no_more. omega (
        arith,
        children.enough_at lists numbering is net' 0 entered.auction.cache.heads r.recorded knows_more no_more x node up,
        ap (λ (b : BidMessage). b.number) (updated_same net.heard x bid),
        lt,
        children.reached_at lists numbering is net 0 r.auction.cache.heads r.recorded (knows p numbering net r m)
            (has_heard p numbering net r m has_clearing) x node up,
      );
    }

  -- any other one
  with_older : bid.number ≤ (net.heard x).number → MatchesRoot p numbering net entered
  with_older le =
      let cache' : Cache = entered.auction.cache in
      subst (λ (b : Bool). MatchesRoot p numbering net (with_news cache' b))
      (sym (or_false r.auction.changed (not is_old) (ap not (le-leb bid.number (kept_number r.auction.cache (numbering.place x)) (omega (arith, kept, le))))))
      (subst (λ (w : Cache). MatchesRoot p numbering net (with_news w r.auction.changed))
      (sym (same_cache lists p numbering is net x k node r.auction.cache has none le)) m)

  -- the root with the bid matches the auctioneer after it was given the bid
  pub enters : MatchesRoot p numbering (network_step lists p net (TakesBid x k)) entered
  enters =
      let Match : Network → Type 0 = λ n. MatchesRoot p numbering n entered in
      elim (cases_lt (net.heard x).number bid.number) [
        | inl lt ↦ subst Match (sym (newer_taken lists p numbering is net x k node r.auction.cache has none lt)) (with_newer lt)
        | inr ge ↦ subst Match (sym (older_left lists p numbering is net x k node r.auction.cache has none ge)) (with_older ge)
      ]

-- a root that hears its newest clearing has it again, as the auctioneer does
module _ (lists : Lists) (p : Pricing) (numbering : Numbering) (is : IsNumbering lists numbering) (adds : AddsByPlaces p numbering) (net : Network)
    (old new : RootValue) (m : MatchesRoot p numbering net old) (hears : HearsItsClearing old) (did : ClearingRebuilt old new) where
  can : can_rebuild lists net 0 ≡ true
  unfolding can_rebuild
  can = and_from (ltb (net.last_number 0) (net.whole_from 0)) (not (has_news lists net 0))
      (lt-ltb (net.last_number 0) (net.whole_from 0) (omega (arith, m.newest, m.base, hears.lost, hears.came_back)))
      (not_from_false (has_news lists net 0) (level lists net 0
      (children.caught_to lists numbering is net 0 old.auction.cache.heads old.recorded (knows p numbering net old m) hears.caught_up)
      (children.over_to lists numbering is net 0 old.auction.cache.heads old.recorded (knows p numbering net old m) hears.nothing_newer)))

  abbrev after : Network
  after = after_rebuilding net 0

  last_is : old.base ≡ net.last_number 0
  last_is = omega (arith, m.newest, hears.lost)

  index_is : new.auction.index ≡ 1
  index_is = did.cleared.new_index

  heard_is : after.records 0 (net.last_number 0) ≡ net.heard
  heard_is = two_same net.records 0 (net.last_number 0) net.heard 0 (net.last_number 0) refl refl

  equal : (k : ℕ) → k < most_nodes → child_number old.recorded k ≡ head_number old.auction.cache.heads k
  equal k inside = omega (arith, hears.caught_up k (omega (arith, inside, m.children)), hears.nothing_newer k (omega (arith, inside, m.children)))

  heads_same : new.auction.cache.heads ≡ old.auction.cache.heads
  heads_same = ap (λ (w : Cache). w.heads) did.cleared.cache

  rebuilds : RootIs p numbering (network_step lists p net (Rebuilds 0)) new
  rebuilds =
      let Is : Network → Type 0 = λ n. RootIs p numbering n new in
      subst Is (sym (cond-true (can_rebuild lists net 0) after net can)) (record {
        matches = record {
          steps = ap (λ (w : Cache). w.steps) did.cleared.cache ∙ m.steps;
          heads = heads_same ∙ m.heads;
          demands = ap (λ (w : Cache). w.demands) did.cleared.cache ∙ m.demands;
          newest = omega (arith, did.base, index_is, last_is);
          children = ap (λ (l : List ℕ). length l) did.recorded ∙ m.children;
          recorded = λ k inside. ap (λ (l : List ℕ). child_number l k) did.recorded ∙ equal k inside
              ∙ ap (λ (l : List BidHead). head_number l k) (m.heads ∙ ap (heads_of numbering 0) (sym heard_is));
          none_recorded = λ zero. absurd (omega (arith, zero, index_is));
          base = omega (arith, did.base, last_is, updated_same net.whole_from 0 (net.last_number 0));
          caught_up = λ some k inside.
              let k_in : k < most_nodes = omega (arith, inside, ap (λ (l : List ℕ). length l) did.recorded, m.children) in
              omega (
                arith,
                ap (λ (l : List ℕ). child_number l k) did.recorded,
                equal k k_in,
                ap (λ (l : List BidHead). head_number l k) heads_same,
              );
          step = λ some. did.cleared.new_step ∙ ap clearing_step (sum_heard p numbering adds net 0 old.auction.cache
              (record { steps = m.steps; heads = m.heads; demands = m.demands })
              ∙ ap (λ (f : ℕ → BidMessage). p.add 0 (λ z. (f z).demand)) (sym heard_is));
          unchanged = λ same some. ap (heads_of numbering 0) (sym heard_is);
          opening = λ same zero. absurd (omega (arith, zero, index_is));
          news = λ has changed no_more. true≢false (sym changed ∙ did.cleared.not_changed);
        };
        rebuilt = λ again. omega (arith, again.lost, index_is);
      })

-- a root that learns a child's bid is what the network has of its auctioneer once it was given the bid, or has its clearing
-- again
pub learns : (lists : Lists) (p : Pricing) (numbering : Numbering) (net : Network) (x k : ℕ) (old new : RootValue) →
    IsNumbering lists numbering → AddsByPlaces p numbering → IsNode lists x → parent lists x ≡ 0 → RootIs p numbering net old →
    ((sent_bid p net x k).gone ≡ true → (sent_bid p net x k).demand ≡ zeros p.steps) →
    LooksForClearing (with_root_bid old (numbering.place x) (sent_bid p net x k).number (told_demand (sent_bid p net x k))) new →
    RootIs p numbering (network_step lists p net (TakesBid x k)) new
    ⊎ RootIs p numbering (network_after lists p net (TakesBid x k ∷ Rebuilds 0 ∷ [])) new
learns lists p numbering net x k old new is adds node up was none looks =
    let step : Network = network_step lists p net (TakesBid x k) in
    let entered : RootValue = with_root_bid old (numbering.place x) (sent_bid p net x k).number (told_demand (sent_bid p net x k)) in
    let m : MatchesRoot p numbering step entered = enters lists p numbering is net x k node up old was.matches none in
    elim looks [
      | inl did ↦ inr (rebuilds lists p numbering is adds step entered new m did.0 did.1)
      | inr stays ↦ inl (subst (λ (r : RootValue). RootIs p numbering step r) (sym stays.1) (record { matches = m; rebuilt = stays.0 }))
    ]
