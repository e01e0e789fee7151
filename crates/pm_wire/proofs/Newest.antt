-- Behind frames the market has of each child the Bid or Gone with the greatest number.
use Rattle.std.proofs.Common.{◌≡◌, ◌≢◌, ◌∙◌, sym, ap, refl, subst, ℕ, ◌+◌}
use Rattle.std.proofs.Common.{◌-◌, ◌<◌, ◌≤◌, ℤ, Bool, true, false, List, [], ◌∷◌}
use Rattle.std.proofs.Common.{◌++◌, length, Option, None, Some, arith}
use Rattle.std.specs.Prelude.{◌==◌, nat_le, if◌then◌else◌}
use Rattle.std.specs.List.{AllByRecursion}
use Rattle.std.proofs.lemmas.Bool.Decides.{nat_tests}
use Rattle.std.proofs.lemmas.List.{get_or-set_same, get_or-set_other, get_or-replicate, length-set, length-replicate}
use Rattle.pm_base.specs.Limits.{most_nodes}
use Rattle.pm_base.proofs.Lists.{get_or-replicate_same}
use Rattle.pm_basis.specs.Prices.{BasisValue}
use Rattle.pm_bid.specs.Bids.{zeros}
use Rattle.pm_bid.specs.Heads.{nothing_sent}
use Rattle.pm_bid.specs.declared.head.BidHead.{BidHead}
use Rattle.pm_cache.specs.Cache.{Cache, empty_cache, child_head, child_demand, kept_number}
use Rattle.pm_cache.specs.Learning.{after_learning, with_newer_bid}
use Rattle.pm_wire.specs.declared.frame.Frame.{Frame}
use Rattle.pm_wire.specs.declared.frame.Frame.TheVariants.{Hello, Bid, Gone, Clear}
use Rattle.pm_wire.specs.Framing.{AllStand}
use Rattle.pm_wire.specs.Frames.{bid_framing, MayStand}
use Rattle.pm_wire.specs.Answers.{OpenMarket, open_market, market_behind}
use Rattle.pm_wire.specs.Newest.{number_from, frame_from, HasGreatestNumber, HasNone, DemandCounts, NothingCounts}

-- ---- the entries behind frames

abbrev cache_after : Cache → Frame → Cache
cache_after cache (Hello basis) = cache
cache_after cache (Bid child number demand) = after_learning cache (child - 1) number (Some demand)
cache_after cache (Gone child number) = after_learning cache (child - 1) number None
cache_after cache Clear = cache

abbrev cache_behind : Cache → List Frame → Cache
cache_behind cache [] = cache
cache_behind cache (frame ∷ frames) = cache_behind (cache_after cache frame) frames

-- an entry for each child, and the steps
record Shape (cache : Cache) (steps : ℕ) : Type 0 where
  heads : length cache.heads ≡ most_nodes
  demands : length cache.demands ≡ most_nodes
  same : cache.steps ≡ steps

shape_learnt : (cache : Cache) (c number steps : ℕ) (demand : Option (List ℤ)) (test : Bool) → Shape cache steps →
    Shape (if test then cache else with_newer_bid cache c number demand) steps
shape_learnt cache c number steps demand true shape = shape
shape_learnt cache c number steps None false shape = record {
  heads = length-set cache.heads c _ ∙ shape.heads;
  demands = length-set cache.demands c _ ∙ shape.demands;
  same = shape.same;
}
shape_learnt cache c number steps (Some bid) false shape = record {
  heads = length-set cache.heads c _ ∙ shape.heads;
  demands = length-set cache.demands c _ ∙ shape.demands;
  same = shape.same;
}

shape_after : (cache : Cache) (f : Frame) (steps : ℕ) → Shape cache steps → Shape (cache_after cache f) steps
shape_after cache (Hello basis) steps shape = shape
shape_after cache (Bid child number demand) steps shape = shape_learnt cache _ number steps (Some demand) _ shape
shape_after cache (Gone child number) steps shape = shape_learnt cache _ number steps None _ shape
shape_after cache Clear steps shape = shape

shape_behind : (fs : List Frame) (cache : Cache) (steps : ℕ) → Shape cache steps → Shape (cache_behind cache fs) steps
shape_behind [] cache steps shape = shape
shape_behind (f ∷ fs) cache steps shape = shape_behind fs (cache_after cache f) steps (shape_after cache f steps shape)

cache_behind-append : (fs gs : List Frame) (cache : Cache) → cache_behind cache (fs ++ gs) ≡ cache_behind (cache_behind cache fs) gs
cache_behind-append [] gs cache = refl
cache_behind-append (f ∷ fs) gs cache = cache_behind-append fs gs (cache_after cache f)

-- ---- the entry of one child

-- the entry of the child in place i is the same in both
record SameEntry (old new : Cache) (i : ℕ) : Type 0 where
  head : child_head new i ≡ child_head old i
  demand : child_demand new i ≡ child_demand old i

same_learnt : (cache : Cache) (i c number : ℕ) (demand : Option (List ℤ)) (test : Bool) → i ≢ c →
    SameEntry cache (if test then cache else with_newer_bid cache c number demand) i
same_learnt cache i c number demand true other = record { head = refl; demand = refl }
same_learnt cache i c number None false other = record {
  head = get_or-set_other cache.heads c i _ nothing_sent other;
  demand = get_or-set_other cache.demands c i _ [] other;
}
same_learnt cache i c number (Some bid) false other = record {
  head = get_or-set_other cache.heads c i _ nothing_sent other;
  demand = get_or-set_other cache.demands c i _ [] other;
}

-- a number that is not above the kept one changes nothing
old_learnt : (cache : Cache) (i c number : ℕ) (demand : Option (List ℤ)) (test : Bool) → test ≡ nat_le number (kept_number cache c) →
    number ≤ kept_number cache c → SameEntry cache (if test then cache else with_newer_bid cache c number demand) i
old_learnt cache i c number demand true is low = record { head = refl; demand = refl }
old_learnt cache i c number demand false is low = absurd (grind (arith, nat_tests, is, low))

-- a number that is above it counts
new_learnt : (cache : Cache) (c number steps : ℕ) (demand : Option (List ℤ)) (test : Bool) → test ≡ nat_le number (kept_number cache c) →
    kept_number cache c < number → Shape cache steps → c < most_nodes →
    DemandCounts (if test then cache else with_newer_bid cache c number demand) (c + 1) number demand
new_learnt cache c number steps demand true is high shape inside = absurd (grind (arith, nat_tests, is, high))
new_learnt cache c number steps None false is high shape inside =
    let place : c + 1 - 1 ≡ c = omega arith in
    rw place (
      get_or-set_same cache.heads c _ nothing_sent (omega (arith, inside, shape.heads)),
      get_or-set_same cache.demands c _ []
          (omega (arith, inside, shape.demands)),
    )
new_learnt cache c number steps (Some bid) false is high shape inside =
    let place : c + 1 - 1 ≡ c = omega arith in
    rw place (
      get_or-set_same cache.heads c _ nothing_sent (omega (arith, inside, shape.heads)),
      get_or-set_same cache.demands c _ []
          (omega (arith, inside, shape.demands)),
    )

-- a kept number stays below a number that is above all
below_learnt : (cache : Cache) (c number n steps : ℕ) (demand : Option (List ℤ)) (test : Bool) → kept_number cache c < n → number < n →
    Shape cache steps → c < most_nodes → kept_number (if test then cache else with_newer_bid cache c number demand) c < n
below_learnt cache c number n steps demand true low small shape inside = low
below_learnt cache c number n steps None false low small shape inside =
    let is = ap (λ (h : BidHead). h.number) (get_or-set_same cache.heads c (record { number = number; gone = true }) nothing_sent
    (omega (arith, inside, shape.heads))) in
    omega (arith, is, small)
below_learnt cache c number n steps (Some bid) false low small shape inside =
    let is = ap (λ (h : BidHead). h.number) (get_or-set_same cache.heads c (record { number = number; gone = false }) nothing_sent
    (omega (arith, inside, shape.heads))) in
    omega (arith, is, small)

-- ---- a frame and a child

-- a frame of this sender, taken by the child's entry: the test whether the sender is the child decides
sent_same : (cache : Cache) (child sender number : ℕ) (demand : Option (List ℤ)) (test : Bool) → test ≡ (sender == child) → 1 ≤ child →
    1 ≤ sender →
    (if test then number else 0) ≤ kept_number cache (child - 1) → SameEntry cache (after_learning cache (sender - 1) number demand) (child - 1)
sent_same cache child sender number demand true is some first low =
    let e : sender ≡ child = grind (arith, nat_tests, is) in
    let Q : ℕ → Type 0 = λ s. SameEntry cache (after_learning cache (s - 1) number demand) (child - 1) in
    subst Q (sym e) (old_learnt cache (child - 1) (child - 1) number demand _ refl low)
sent_same cache child sender number demand false is some first low =
    let other : sender ≢ child = λ e. grind (arith, nat_tests, is, e) in
    same_learnt cache (child - 1) (sender - 1) number demand _ (λ e. other (omega (arith, e, some, first)))

low_same : (cache : Cache) (child : ℕ) (f : Frame) (place : Option ℕ) → 1 ≤ child → MayStand place f →
    number_from child f ≤ kept_number cache (child - 1) → SameEntry cache (cache_after cache f) (child - 1)
low_same cache child (Hello basis) place some stands low = record { head = refl; demand = refl }
low_same cache child (Bid sender number demand) place some stands low =
    sent_same cache child sender number (Some demand) _ refl some stands.accepted.0.0 low
low_same cache child (Gone sender number) place some stands low = sent_same cache child sender number None _ refl some stands.accepted.0 low
low_same cache child Clear place some stands low = record { head = refl; demand = refl }

sent_below : (cache : Cache) (child sender number n steps : ℕ) (demand : Option (List ℤ)) (test : Bool) → test ≡ (sender == child) → 1 ≤ child →
    child ≤ most_nodes → 1 ≤ sender → Shape cache steps → (if test then number else 0) < n → kept_number cache (child - 1) < n →
    kept_number (after_learning cache (sender - 1) number demand) (child - 1) < n
sent_below cache child sender number n steps demand true is some last first shape small low =
    let e : sender ≡ child = grind (arith, nat_tests, is) in
    let Q : ℕ → Type 0 = λ s. kept_number (after_learning cache (s - 1) number demand) (child - 1) < n in
    subst Q (sym e) (below_learnt cache (child - 1) number n steps demand _ low small shape (omega (arith, some, last)))
sent_below cache child sender number n steps demand false is some last first shape small low =
    let other : sender ≢ child = λ e. grind (arith, nat_tests, is, e) in
    let same = same_learnt cache (child - 1) (sender - 1) number demand (nat_le number (kept_number cache (sender - 1)))
    (λ e. other (omega (arith, e, some, first))) in
    omega (arith, ap (λ (h : BidHead). h.number) same.head, low)

low_below : (cache : Cache) (child n steps : ℕ) (f : Frame) (place : Option ℕ) → 1 ≤ child → child ≤ most_nodes → MayStand place f →
    Shape cache steps →
    number_from child f < n → kept_number cache (child - 1) < n → kept_number (cache_after cache f) (child - 1) < n
low_below cache child n steps (Hello basis) place some last stands shape small low = low
low_below cache child n steps (Bid sender number demand) place some last stands shape small low =
    sent_below cache child sender number n steps (Some demand) _ refl some last stands.accepted.0.0 shape small low
low_below cache child n steps (Gone sender number) place some last stands shape small low =
    sent_below cache child sender number n steps None _ refl some last stands.accepted.0 shape small low
low_below cache child n steps Clear place some last stands shape small low = low

-- ---- a child over frames

same_trans : (a b c : Cache) (i : ℕ) → SameEntry a b i → SameEntry b c i → SameEntry a c i
same_trans a b c i first second = record { head = second.head ∙ first.head; demand = second.demand ∙ first.demand }

-- frames whose numbers are not above the kept one leave the child's entry
all_low : (fs : List Frame) (cache : Cache) (child n : ℕ) (place : Option ℕ) → 1 ≤ child → AllStand bid_framing place fs →
    AllByRecursion (λ f. number_from child f ≤ n) fs → kept_number cache (child - 1) ≡ n → SameEntry cache (cache_behind cache fs) (child - 1)
all_low [] cache child n place some stand low kept = record { head = refl; demand = refl }
all_low (f ∷ fs) cache child n place some stand low kept =
    let first = low_same cache child f place some stand.0 (omega (arith, low.0, kept)) in
    let still = ap (λ (h : BidHead). h.number) first.head ∙ kept in
    same_trans cache (cache_after cache f) (cache_behind cache (f ∷ fs)) (child - 1) first
    (all_low fs (cache_after cache f) child n (bid_framing.place_after place f) some stand.1 low.1 still)

-- frames whose numbers are below one leave the kept number below it
all_below : (fs : List Frame) (cache : Cache) (child n steps : ℕ) (place : Option ℕ) → 1 ≤ child → child ≤ most_nodes →
    AllStand bid_framing place fs →
    Shape cache steps → AllByRecursion (λ f. number_from child f < n) fs → kept_number cache (child - 1) < n →
    kept_number (cache_behind cache fs) (child - 1) < n
all_below [] cache child n steps place some last stand shape small low = low
all_below (f ∷ fs) cache child n steps place some last stand shape small low =
    all_below fs (cache_after cache f) child n steps (bid_framing.place_after place f) some last stand.1 (shape_after cache f steps shape) small.1
    (low_below cache child n steps f place some last stand.0 shape small.0 low)

-- the places of frames in a longer list
stand_front : (fs gs : List Frame) (place : Option ℕ) → AllStand bid_framing place (fs ++ gs) → AllStand bid_framing place fs
stand_front [] gs place stand = tt
stand_front (f ∷ fs) gs place stand = (stand.0, stand_front fs gs (bid_framing.place_after place f) stand.1)

stand_back : (fs gs : List Frame) (place : Option ℕ) → AllStand bid_framing place (fs ++ gs) →
    (behind : Option ℕ) × AllStand bid_framing behind gs
stand_back [] gs place stand = (place, stand)
stand_back (f ∷ fs) gs place stand = stand_back fs gs (bid_framing.place_after place f) stand.1

numbered : (child number : ℕ) (demand : Option (List ℤ)) (place : Option ℕ) → MayStand place (frame_from child number demand) → 1 ≤ number
numbered child number None place stands = stands.accepted.2
numbered child number (Some bid) place stands = stands.accepted.0.2

-- what the entry is, with the child's own frame taken
taken_counts : (cache : Cache) (child number steps : ℕ) (demand : Option (List ℤ)) → 1 ≤ child → child ≤ most_nodes → Shape cache steps →
    kept_number cache (child - 1) < number → DemandCounts (cache_after cache (frame_from child number demand)) child number demand
taken_counts cache child number steps None some last shape high =
    let place : child - 1 + 1 ≡ child = omega (arith, some) in
    let Q : ℕ → Type 0 = λ n. DemandCounts (after_learning cache (child - 1) number None) n number None in
    subst Q place (new_learnt cache (child - 1) number steps None _ refl high shape (omega (arith, some, last)))
taken_counts cache child number steps (Some bid) some last shape high =
    let place : child - 1 + 1 ≡ child = omega (arith, some) in
    let Q : ℕ → Type 0 = λ n. DemandCounts (after_learning cache (child - 1) number (Some bid)) n number (Some bid) in
    subst Q place (new_learnt cache (child - 1) number steps (Some bid) _ refl high shape (omega (arith, some, last)))

-- the number of an entry that counts
counted_number : (cache : Cache) (child number : ℕ) (demand : Option (List ℤ)) → DemandCounts cache child number demand →
    kept_number cache (child - 1) ≡ number
counted_number cache child number None counts = ap (λ (h : BidHead). h.number) counts.0
counted_number cache child number (Some bid) counts = ap (λ (h : BidHead). h.number) counts.0

still_counts : (old new : Cache) (child number steps : ℕ) (demand : Option (List ℤ)) → Shape old steps → Shape new steps →
    SameEntry old new (child - 1) → DemandCounts old child number demand → DemandCounts new child number demand
still_counts old new child number steps None a b same counts =
    (same.head ∙ counts.0, same.demand ∙ counts.1 ∙ ap (λ n. zeros n) (a.same ∙ sym b.same))
still_counts old new child number steps (Some bid) a b same counts = (same.head ∙ counts.0, same.demand ∙ counts.1)

-- the greatest number counts
greatest_counts : (cache : Cache) (frames : List Frame) (child number steps : ℕ) (demand : Option (List ℤ)) (place : Option ℕ) → 1 ≤ child →
    child ≤ most_nodes → AllStand bid_framing place frames → Shape cache steps → kept_number cache (child - 1) ≡ 0 →
    HasGreatestNumber child frames number demand → DemandCounts (cache_behind cache frames) child number demand
greatest_counts cache frames child number steps demand place some last stand shape none has =
    let own = frame_from child number demand in
    let A : List Frame → Type 0 = λ l. AllStand bid_framing place l in
    let all = subst A has.stands stand in
    let front = stand_front has.before (own ∷ has.behind) place all in
    let back = stand_back has.before (own ∷ has.behind) place all in
    let positive = numbered child number demand back.0 back.1.0 in
    let before = cache_behind cache has.before in
    let shape_before = shape_behind has.before cache steps shape in
    let low = all_below has.before cache child number steps place some last front shape has.above (omega (arith, none, positive)) in
    let mid = cache_after before own in
    let shape_mid = shape_after before own steps shape_before in
    let counts = taken_counts before child number steps demand some last shape_before low in
    let same = all_low has.behind mid child number (bid_framing.place_after back.0 own) some back.1.1 has.not_below
    (counted_number mid child number demand counts) in
    let end = still_counts mid (cache_behind mid has.behind) child number steps demand shape_mid (shape_behind has.behind mid steps shape_mid) same counts in
    let B : Cache → Type 0 = λ k. DemandCounts k child number demand in
    let whole = ap (λ l. cache_behind cache l) has.stands ∙ cache_behind-append has.before (own ∷ has.behind) cache in
    subst B (sym whole) end

zero_low : (fs : List Frame) (child : ℕ) → HasNone child fs → AllByRecursion (λ f. number_from child f ≤ 0) fs
zero_low [] child none = tt
zero_low (f ∷ fs) child none = (omega (arith, none.0), zero_low fs child none.1)

-- ---- the market

cleared_cache : (market : OpenMarket) (test : Bool) →
    (if test then record { cache = market.cache; index = market.index + 1; changed = false } else market).cache ≡ market.cache
cleared_cache market true = refl
cleared_cache market false = refl

-- behind a Hello frames lead to a market whose entries are those behind the frames
market_cache : (fs : List Frame) (market last : OpenMarket) (steps : ℕ) → AllStand bid_framing (Some steps) fs →
    market_behind (Some market) fs ≡ Some last → last.cache ≡ cache_behind market.cache fs
market_cache [] market last steps stand is = let same : market ≡ last = cc in ap (λ (m : OpenMarket). m.cache) (sym same)
market_cache (Hello basis ∷ fs) market last steps stand is = absurd stand.0.formed
market_cache (Bid child number demand ∷ fs) market last steps stand is = market_cache fs _ last steps stand.1 is
market_cache (Gone child number ∷ fs) market last steps stand is = market_cache fs _ last steps stand.1 is
market_cache (Clear ∷ fs) market last steps stand is =
    market_cache fs _ last steps stand.1 is ∙ ap (λ k. cache_behind k fs) (cleared_cache market market.changed)

empty_shape : (steps : ℕ) → Shape (empty_cache most_nodes steps) steps
empty_shape steps = record {
  heads = length-replicate most_nodes nothing_sent;
  demands = length-replicate most_nodes (zeros steps);
  same = refl;
}

opened_cache : (frames : List Frame) (basis : BasisValue) (market : OpenMarket) → AllStand bid_framing (Some basis.steps) frames →
    market_behind None (Hello basis ∷ frames) ≡ Some market → market.cache ≡ cache_behind (empty_cache most_nodes basis.steps) frames
unfolding open_market
opened_cache frames basis market stand is = market_cache frames (open_market basis.steps) market basis.steps stand is

-- of each child the Bid or Gone with the greatest number counts
pub greatest_number_counts : (basis : BasisValue) (frames : List Frame) (market : OpenMarket) (child number : ℕ) (demand : Option (List ℤ)) →
    AllStand bid_framing (Some basis.steps) frames → market_behind None (Hello basis ∷ frames) ≡ Some market → 1 ≤ child → child ≤ most_nodes →
    HasGreatestNumber child frames number demand → DemandCounts market.cache child number demand
greatest_number_counts basis frames market child number demand stand is some last has =
    let start = empty_cache most_nodes basis.steps in
    let none = ap (λ (h : BidHead). h.number) (get_or-replicate_same most_nodes (child - 1) nothing_sent) in
    let Q : Cache → Type 0 = λ k. DemandCounts k child number demand in
    subst Q (sym (opened_cache frames basis market stand is))
    (greatest_counts start frames child number basis.steps demand (Some basis.steps) some last stand (empty_shape basis.steps) none has)

-- of a child from which none came nothing counts
pub none_counts : (basis : BasisValue) (frames : List Frame) (market : OpenMarket) (child : ℕ) → AllStand bid_framing (Some basis.steps) frames →
    market_behind None (Hello basis ∷ frames) ≡ Some market → 1 ≤ child → child ≤ most_nodes → HasNone child frames →
    NothingCounts market.cache child
none_counts basis frames market child stand is some last none =
    let start = empty_cache most_nodes basis.steps in
    let head = get_or-replicate_same most_nodes (child - 1) nothing_sent in
    let demand = get_or-replicate most_nodes (child - 1) (zeros basis.steps) [] (omega (arith, some, last)) in
    let same = all_low frames start child 0 (Some basis.steps) some stand (zero_low frames child none) (ap (λ (h : BidHead). h.number) head) in
    let shape = shape_behind frames start basis.steps (empty_shape basis.steps) in
    let Q : Cache → Type 0 = λ k. NothingCounts k child in
    subst Q (sym (opened_cache frames basis market stand is)) (same.head ∙ head, same.demand ∙ demand ∙ ap (λ n. zeros n) (sym shape.same))
