-- A relay learns a child's bid, and may have its record again.
use Rattle.std.proofs.Common.{◌≡◌, ◌∙◌, sym, ap, subst, ℕ, ◌+◌, ◌-◌, ◌<◌, true}
use Rattle.std.proofs.Common.{ltb, List, length, arith}
use Rattle.std.proofs.Common.{inl, inr, refl, Some, ◌⊎◌, not, [], ◌∷◌}
use Rattle.std.proofs.lemmas.Bool.{cases_lt, cond-true, cond-false, lt-ltb, ltb-true, and_from, not_from_false, false_from_ne_true}
use Rattle.std.proofs.Common.{ℤ, None, Option}
use Rattle.pm_base.specs.declared.limits.Limits.{Limits}
use Rattle.pm_base.specs.Limits.{most_nodes}
use Rattle.pm_bid.specs.Bids.{zeros}
use Rattle.pm_bid.specs.Taken.{announced}
use Rattle.pm_bid.specs.declared.head.BidHead.{BidHead}
use Rattle.pm_cache.specs.Cache.{Cache, aggregate_of, kept_number}
use Rattle.pm_cache.specs.Learning.{after_learning}
use Rattle.pm_market.specs.Lists.{Lists, parent, IsNode}
use Rattle.pm_market.proofs.Cuts.{updated_same, updated_other}
use Rattle.pm_session.specs.Windows.{Keeps, record_of}
use Rattle.pm_net.specs.Pricing.{Pricing}
use Rattle.pm_net.specs.Messages.{BidMessage, numbers_of}
use Rattle.pm_net.specs.Network.{Network, sent_bid}
use Rattle.pm_net.specs.Running.{after_taking_bid, has_news}
use Rattle.pm_net.specs.Restarts.{can_rebuild, after_rebuilding}
use Rattle.pm_net.specs.Events.{network_step, network_after, TakesBid, Rebuilds}
use Rattle.pm_net.proofs.Messages.{two_same}
use Rattle.pm_net.proofs.News.{level}
use Rattle.pm_net_plan.specs.Places.{Numbering, IsNumbering}
use Rattle.pm_relay.specs.Numbers.{child_number, head_number}
use Rattle.pm_relay.specs.Relays.{RelayValue, with_child_bid, with_new_limits, limits_of_number, HearsItsRecord, RecordRebuilt, LooksForRecord}
use Rattle.pm_relay_net.specs.Heads.{heads_of, AddsByPlaces}
use Rattle.pm_relay_net.specs.RelayIs.{MatchesNode, RelayIs, LimitsPassBy, GivesLimits, told_demand}
use Rattle.pm_relay_net.proofs.Entering.{HearsChildren, kept_is, newer_taken, newer_heard, older_left, same_cache}
use Rattle.pm_relay_net.proofs.Matching.{caught_to, over_to, sum_is}

module _ (lists : Lists) (p : Pricing) (numbering : Numbering) (is : IsNumbering lists numbering) (net : Network) (x k : ℕ) (node : IsNode lists x)
    (r : RelayValue) (m : MatchesNode p numbering net (parent lists x) r)
    (none : (sent_bid p net x k).gone ≡ true → (sent_bid p net x k).demand ≡ zeros p.steps) where
  abbrev bid : BidMessage
  bid = sent_bid p net x k

  abbrev c : ℕ
  c = parent lists x

  abbrev entered : RelayValue
  entered = with_child_bid r (numbering.place x) bid.number (told_demand bid)

  has : HearsChildren p numbering net (parent lists x) r.gathered.cache
  has = record { steps = m.steps; heads = m.heads; demands = m.demands }

  with_cache : (cache : Cache) (some : Option Limits) (limits' : Limits) → some ≡ p.limits c (numbers_of (after_taking_bid net x bid).heard) →
      p.limits c (numbers_of (after_taking_bid net x bid).heard) ≡ Some limits' →
      HearsChildren p numbering (after_taking_bid net x bid) c cache →
      MatchesNode p numbering (after_taking_bid net x bid) c (record r { gathered = record r.gathered { cache = cache; limits = some } })
  with_cache cache some limits' limits_are limited_by hears = record {
    steps = hears.steps;
    limits = limits_are;
    limited = (limits', limited_by);
    made_under = m.made_under;
    newest_under = m.newest_under;
    heads = hears.heads;
    demands = hears.demands;
    newest = m.newest;
    children = m.children;
    recorded = m.recorded;
    answered = m.answered;
    index = m.index;
    base = m.base;
    record_heads = m.record_heads;
    record_sum = m.record_sum;
    opening = m.opening;
    window = m.window;
    order = m.order;
    demand = m.demand;
  }

  same_relay : (cache : Cache) → cache ≡ r.gathered.cache → MatchesNode p numbering net c (record r { gathered = record r.gathered { cache = cache } })
  same_relay cache made = subst (λ (w : Cache). MatchesNode p numbering net c (record r { gathered = record r.gathered { cache = w } })) (sym made) m

  -- the relay with the bid matches the node after it was given the bid
  pub enters : LimitsPassBy p c x → MatchesNode p numbering (network_step lists p net (TakesBid x k)) c entered
  enters pass =
      let same : p.limits c (numbers_of net.heard) ≡ p.limits c (numbers_of (after_taking_bid net x bid).heard) =
      pass (numbers_of net.heard) (numbers_of (after_taking_bid net x bid).heard)
      (λ y ne. ap (λ (b : BidMessage). b.number) (sym (updated_other net.heard x bid y ne))) in
      let cache : Cache = after_learning r.gathered.cache (numbering.place x) bid.number (told_demand bid) in
      let Match : Network → Type 0 = λ n. MatchesNode p numbering n c entered in
      elim (cases_lt (net.heard x).number bid.number) [
        | inl lt ↦ subst Match (sym (newer_taken lists p numbering is net x k node r.gathered.cache has none lt))
            (with_cache cache r.gathered.limits m.limited.0 (m.limits ∙ same) (sym same ∙ m.limited.1)
            (newer_heard lists p numbering is net x k node r.gathered.cache has none lt))
        | inr ge ↦ subst Match (sym (older_left lists p numbering is net x k node r.gathered.cache has none ge))
            (same_relay cache (same_cache lists p numbering is net x k node r.gathered.cache has none ge))
      ]

  -- the relay with limits that the bid gives matches the node also
  pub enters_limits : (limits : Limits) → bid.gone ≡ true → GivesLimits p c x bid.number limits →
      MatchesNode p numbering (network_step lists p net (TakesBid x k)) c (with_new_limits r (numbering.place x) bid.number limits)
  enters_limits limits gone gives =
      let cache : Cache = after_learning r.gathered.cache (numbering.place x) bid.number (told_demand bid) in
      let alone : Cache = after_learning r.gathered.cache (numbering.place x) bid.number None in
      let kept : kept_number r.gathered.cache (numbering.place x) ≡ (net.heard x).number =
      kept_is lists p numbering is net x k node r.gathered.cache has none in
      let told : told_demand bid ≡ None = cond-true bid.gone None (Some bid.demand) gone in
      let newer : RelayValue = record r { gathered = record r.gathered { cache = alone; limits = Some limits } } in
      elim (cases_lt (net.heard x).number bid.number) [
        | inl lt ↦
            let by : p.limits c (numbers_of (after_taking_bid net x bid).heard) ≡ Some limits =
            gives (numbers_of (after_taking_bid net x bid).heard) (ap (λ (b : BidMessage). b.number) (updated_same net.heard x bid)) in
            let Match : Network → RelayValue → Type 0 = λ n q. MatchesNode p numbering n c q in
            subst (λ (q : RelayValue). Match (network_step lists p net (TakesBid x k)) q)
            (sym (cond-true (ltb (kept_number r.gathered.cache (numbering.place x)) bid.number) newer r
            (lt-ltb (kept_number r.gathered.cache (numbering.place x)) bid.number (omega (arith, kept, lt)))))
            (subst (λ (n : Network). Match n newer) (sym (newer_taken lists p numbering is net x k node r.gathered.cache has none lt))
            (with_cache alone (Some limits) limits (sym by) by
            (subst (λ (d : Option (List ℤ)). HearsChildren p numbering (after_taking_bid net x bid) c
            (after_learning r.gathered.cache (numbering.place x) bid.number d))
            told (newer_heard lists p numbering is net x k node r.gathered.cache has none lt))))
        | inr ge ↦
            let Match : Network → RelayValue → Type 0 = λ n q. MatchesNode p numbering n c q in
            subst (λ (q : RelayValue). Match (network_step lists p net (TakesBid x k)) q)
            (sym (cond-false (ltb (kept_number r.gathered.cache (numbering.place x)) bid.number) newer r
            (false_from_ne_true (ltb (kept_number r.gathered.cache (numbering.place x)) bid.number) (λ e.
            omega (arith, ltb-true (kept_number r.gathered.cache (numbering.place x)) bid.number e, kept, ge)))))
            (subst (λ (n : Network). Match n r) (sym (older_left lists p numbering is net x k node r.gathered.cache has none ge)) m)
      ]

-- a relay that hears its record has it again, as the node does
module _ (lists : Lists) (p : Pricing) (numbering : Numbering) (is : IsNumbering lists numbering) (adds : AddsByPlaces p numbering) (net : Network)
    (c : ℕ) (old new : RelayValue) (m : MatchesNode p numbering net c old) (hears : HearsItsRecord old) (did : RecordRebuilt old new) where
  can : can_rebuild lists net c ≡ true
  unfolding can_rebuild
  can = and_from (ltb (net.last_number c) (net.whole_from c)) (not (has_news lists net c))
      (lt-ltb (net.last_number c) (net.whole_from c) (omega (arith, m.newest, m.base, hears.lost, hears.came_back)))
      (not_from_false (has_news lists net c) (level lists net c (caught_to lists p numbering is net c old m hears.caught_up)
      (over_to lists p numbering is net c old m hears.nothing_newer)))

  abbrev net' : Network
  net' = after_rebuilding net c

  last_is : old.base ≡ net.last_number c
  last_is = omega (arith, m.newest, hears.lost)

  heard_is : (n : ℕ) → n ≡ net.last_number c → net'.records c n ≡ net.heard
  heard_is n at = two_same net.records c (net.last_number c) net.heard c n refl at

  equal : (k : ℕ) → k < most_nodes → child_number old.recorded k ≡ head_number old.gathered.cache.heads k
  equal k inside = omega (
    arith,
    hears.caught_up k (omega (arith, inside, m.children)),
    hears.nothing_newer k (omega (arith, inside, m.children)),
  )

  one : (n : ℕ) → Keeps new.gathered.window n → n ≡ old.base - new.base
  one n keeps = omega (arith, keeps.one, keeps.to, did.last, did.base)

  at_last : (n : ℕ) → Keeps new.gathered.window n → new.base + n ≡ net.last_number c
  at_last n keeps = omega (arith, keeps.one, keeps.to, did.last, did.base, last_is)

  limits_at : (n : ℕ) → n ≡ net.last_number c → old.gathered.limits ≡ p.limits c (numbers_of (net'.records c n))
  limits_at n at = m.limits ∙ ap (λ (f : ℕ → BidMessage). p.limits c (numbers_of f)) (sym (heard_is n at))

  under_at : (n : ℕ) → n ≡ net.last_number c → limits_of_number new n ≡ p.limits c (numbers_of (net'.records c n))
  under_at n at = ap (limits_of_number new) (at ∙ sym last_is) ∙ did.made_under ∙ limits_at n at

  -- the relay is what the network has of the node that rebuilt its record
  pub rebuilds : RelayIs p numbering (network_step lists p net (Rebuilds c)) c new
  rebuilds =
      let Is : Network → Type 0 = λ n. RelayIs p numbering n c new in
      subst Is (sym (cond-true (can_rebuild lists net c) net' net can)) (record {
        matches = record {
          steps = ap (λ (w : Cache). w.steps) did.cache ∙ m.steps;
          limits = did.limits ∙ m.limits;
          limited = m.limited;
          made_under = λ n keeps. under_at (new.base + n) (at_last n keeps);
          newest_under = under_at (net.last_number c) refl;
          heads = ap (λ (w : Cache). w.heads) did.cache ∙ m.heads;
          demands = ap (λ (w : Cache). w.demands) did.cache ∙ m.demands;
          newest = omega (arith, did.base, did.last, last_is);
          children = ap (λ (l : List ℕ). length l) did.recorded ∙ m.children;
          recorded = λ k inside. ap (λ (l : List ℕ). child_number l k) did.recorded ∙ equal k inside
              ∙ ap (λ (l : List BidHead). head_number l k) (m.heads ∙ ap (heads_of numbering c) (sym (heard_is (net.last_number c) refl)));
          answered = did.answered ∙ m.answered;
          index = did.index ∙ m.index;
          base = omega (arith, did.base, last_is, updated_same net.whole_from c (net.last_number c));
          record_heads = λ n keeps. ap (λ (i : ℕ). (record_of new.gathered.window i).heads) (one n keeps) ∙ did.heads ∙ m.heads
              ∙ ap (heads_of numbering c) (sym (heard_is (new.base + n) (at_last n keeps)));
          record_sum = λ n keeps. ap (λ (i : ℕ). (record_of new.gathered.window i).sum) (one n keeps) ∙ did.sum
              ∙ ap Some (sum_is lists p numbering is net c old m adds
              ∙ ap (λ (f : ℕ → BidMessage). p.add c (λ z. (f z).demand)) (sym (heard_is (new.base + n) (at_last n keeps))));
          opening = λ e. absurd (omega (arith, e, did.last));
          window = omega (arith, did.window, did.answered);
          order = omega (arith, m.order, did.answered, did.base, did.last, hears.lost);
          demand = λ some. did.announced ∙ ap Some (ap (λ l. announced l (aggregate_of old.gathered.cache)) (limits_at (net.last_number c) refl)
              ∙ ap (announced (p.limits c (numbers_of (net'.records c (net.last_number c))))) (sum_is lists p numbering is net c old m adds
              ∙ ap (λ (f : ℕ → BidMessage). p.add c (λ z. (f z).demand)) (sym (heard_is (net.last_number c) refl))));
        };
        rebuilt = λ again. omega (arith, again.lost, did.last);
      })

-- a relay that learns a child's bid is what the network has of the node once it was given the bid, or has its record again
pub learns : (lists : Lists) (p : Pricing) (numbering : Numbering) (net : Network) (x k : ℕ) (old new : RelayValue) →
    IsNumbering lists numbering → AddsByPlaces p numbering → IsNode lists x → LimitsPassBy p (parent lists x) x →
    RelayIs p numbering net (parent lists x) old →
    ((sent_bid p net x k).gone ≡ true → (sent_bid p net x k).demand ≡ zeros p.steps) →
    LooksForRecord (with_child_bid old (numbering.place x) (sent_bid p net x k).number (told_demand (sent_bid p net x k))) new →
    RelayIs p numbering (network_step lists p net (TakesBid x k)) (parent lists x) new
    ⊎ RelayIs p numbering (network_after lists p net (TakesBid x k ∷ Rebuilds (parent lists x) ∷ [])) (parent lists x) new
learns lists p numbering net x k old new is adds node pass was none looks =
    let step : Network = network_step lists p net (TakesBid x k) in
    let entered : RelayValue = with_child_bid old (numbering.place x) (sent_bid p net x k).number (told_demand (sent_bid p net x k)) in
    let m : MatchesNode p numbering step (parent lists x) entered = enters lists p numbering is net x k node old was.matches none pass in
    elim looks [
      | inl did ↦ inr (rebuilds lists p numbering is adds step (parent lists x) entered new m did.0 did.1)
      | inr stays ↦ inl (subst (λ (r : RelayValue). RelayIs p numbering step (parent lists x) r) (sym stays.1) (record { matches = m; rebuilt = stays.0 }))
    ]

-- so it is once it learns limits as the bid of the device that gives them
pub learns_limits : (lists : Lists) (p : Pricing) (numbering : Numbering) (net : Network) (x k : ℕ) (limits : Limits) (old new : RelayValue) →
    IsNumbering lists numbering → AddsByPlaces p numbering → IsNode lists x → RelayIs p numbering net (parent lists x) old →
    (sent_bid p net x k).gone ≡ true → (sent_bid p net x k).demand ≡ zeros p.steps →
    GivesLimits p (parent lists x) x (sent_bid p net x k).number limits →
    LooksForRecord (with_new_limits old (numbering.place x) (sent_bid p net x k).number limits) new →
    RelayIs p numbering (network_step lists p net (TakesBid x k)) (parent lists x) new
    ⊎ RelayIs p numbering (network_after lists p net (TakesBid x k ∷ Rebuilds (parent lists x) ∷ [])) (parent lists x) new
learns_limits lists p numbering net x k limits old new is adds node was gone none gives looks =
    let step : Network = network_step lists p net (TakesBid x k) in
    let entered : RelayValue = with_new_limits old (numbering.place x) (sent_bid p net x k).number limits in
    let m : MatchesNode p numbering step (parent lists x) entered =
    enters_limits lists p numbering is net x k node old was.matches (λ e. none) limits gone gives in
    elim looks [
      | inl did ↦ inr (rebuilds lists p numbering is adds step (parent lists x) entered new m did.0 did.1)
      | inr stays ↦ inl (subst (λ (r : RelayValue). RelayIs p numbering step (parent lists x) r) (sym stays.1) (record { matches = m; rebuilt = stays.0 }))
    ]
