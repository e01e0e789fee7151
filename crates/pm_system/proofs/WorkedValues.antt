-- The values of the nodes of worked systems, and what a call makes of each. A test that computes says when it does.
use Rattle.std.proofs.Common.{◌≡◌, ◌∙◌, sym, ap, eqb, ltb, leb, not, ℕ, zero, suc, ◌+◌, ◌-◌, ◌%◌, ◌<◌, ◌≤◌, Bool}
use Rattle.std.proofs.Common.{true, false, ◌&&◌, List, []}
use Rattle.std.proofs.Common.{◌∷◌, ◌++◌, length, map, replicate, Option, Some, None}
use Rattle.std.proofs.Common.{refl, inl, inr, arith}
use Rattle.std.proofs.lemmas.Bool.{leb-true, ltb-true, eqb-true, eq-eqb, not-true, and_parts, both_ways}
use Rattle.std.proofs.lemmas.List.{get_or_append_left, get_or_push}
use Rattle.std.proofs.Math.ListN.{get_or-map}
use Rattle.std.specs.Prelude.{slice_index_or}
use Rattle.pm_base.specs.Limits.{most_nodes, window_size}
use Rattle.pm_base.specs.declared.limits.Limits.{Limits}
use Rattle.pm_bid.specs.Bids.{zeros}
use Rattle.pm_bid.specs.Clearing.{clearing_step}
use Rattle.pm_bid.specs.Taken.{announced}
use Rattle.pm_bid.specs.Heads.{nothing_sent}
use Rattle.pm_bid.specs.declared.head.BidHead.{BidHead}
use Rattle.pm_cache.specs.Cache.{aggregate_of, empty_cache}
use Rattle.pm_session.specs.Windows.{Sent, RecordAnswered, WindowValue, no_record, record_of, unanswered_count}
use Rattle.pm_session.specs.declared.price.PriceUpdate.{PriceUpdate}
use Rattle.pm_concentrator.specs.Limited.{sum_kept}
use Rattle.pm_concentrator.specs.Concentrators.{published_heads}
use Rattle.pm_auctioneer.specs.Auctions.{new_auction}
use Rattle.pm_relay.specs.Numbers.{child_number, head_number, IsCaughtUp, HearsNothingNewer}
use Rattle.pm_relay.specs.Relays.{RelayValue, RelayComesBack, LooksForRecord, BidSent, TakesPrice, limits_places, limits_of_number, newest_bid_number}
use Rattle.pm_relay.specs.Relays.{unanswered_numbers, record_at, no_limits}
use Rattle.pm_relay.specs.Roots.{RootValue, RootCleared, LooksForClearing, newest_index}
use Rattle.pm_relay.specs.declared.outcome.PriceOutcome.TheVariants.{PassedOn}

-- ---- tests over all places

unfoldable pub reaches : List ℕ → List BidHead → Bool
reaches [] heads = true
reaches (n ∷ ns) [] = false
reaches (n ∷ ns) (h ∷ hs) = leb n h.number && reaches ns hs

-- by the test each child was heard up to its number
pub reached : (numbers : List ℕ) (heads : List BidHead) → reaches numbers heads ≡ true → IsCaughtUp numbers heads
unfolding reaches
reached [] heads e child inside = absurd (omega (arith, inside))
reached (n ∷ ns) [] e child inside = absurd cc
reached (n ∷ ns) (h ∷ hs) e zero inside = leb-true n h.number (and_parts (leb n h.number) (reaches ns hs) e).0
reached (n ∷ ns) (h ∷ hs) e (suc child) inside =
    reached ns hs (and_parts (leb n h.number) (reaches ns hs) e).1 child (omega (arith, inside))

unfoldable pub suffices : List ℕ → List BidHead → Bool
suffices [] heads = true
suffices (n ∷ ns) [] = false
suffices (n ∷ ns) (h ∷ hs) = leb h.number n && suffices ns hs

-- by the test no child was heard beyond its number
pub enough : (numbers : List ℕ) (heads : List BidHead) → suffices numbers heads ≡ true → HearsNothingNewer numbers heads
unfolding suffices
enough [] heads e child inside = absurd (omega (arith, inside))
enough (n ∷ ns) [] e child inside = absurd cc
enough (n ∷ ns) (h ∷ hs) e zero inside = leb-true h.number n (and_parts (leb h.number n) (suffices ns hs) e).0
enough (n ∷ ns) (h ∷ hs) e (suc child) inside =
    enough ns hs (and_parts (leb h.number n) (suffices ns hs) e).1 child (omega (arith, inside))

abbrev pub numbers_of : List BidHead → List ℕ
numbers_of heads = map (λ (h : BidHead). h.number) heads

-- the numbers of heads are the numbers noted
pub noted : (heads : List BidHead) (child : ℕ) → child_number (numbers_of heads) child ≡ head_number heads child
noted heads child = get_or-map (λ (h : BidHead). h.number) heads child nothing_sent

-- six tests that all hold
six_parts : (a b c d e f : Bool) → (a && b && c && d && e && f) ≡ true →
    (a ≡ true) × (b ≡ true) × (c ≡ true) × (d ≡ true) × (e ≡ true) × (f ≡ true)
six_parts a b c d e f all =
    let five = and_parts (a && b && c && d && e) f all in
    let four = and_parts (a && b && c && d) e five.0 in
    let three = and_parts (a && b && c) d four.0 in
    let two = and_parts (a && b) c three.0 in
    let one = and_parts a b two.0 in
    (one.0, one.1, two.1, three.1, four.1, five.1)

-- ---- a relay comes up

abbrev pub new_window : WindowValue
new_window = record {
  children = most_nodes;
  steps = Some 3;
  records = record { number = 0; heads = replicate most_nodes nothing_sent; sum = None } ∷ [];
  answered = 0;
  last = 0;
}

-- with these limits, and the limits that its numbers were made under
abbrev pub relay_up : Limits → List Limits → ℕ → ℕ → ℕ → List ℕ → RelayValue
relay_up limits' made last number index' numbers = record {
  gathered = record { cache = empty_cache most_nodes 3; window = new_window; limits = Some limits'; announced = Some (zeros 3) };
  base = last;
  answered = number;
  index = index';
  recorded = numbers;
  made_under = made;
}

-- that is how it comes back
pub comes_back : (limits : Limits) (made : List Limits) (last number index' : ℕ) (numbers : List ℕ) (under : Limits) →
    slice_index_or made (last % limits_places) no_limits ≡ under →
    RelayComesBack 3 limits last number index' numbers under (relay_up limits made last number index' numbers)
comes_back limits made last number index' numbers under is = record {
  gathered = record {
    cache = refl;
    window = record { children = refl; steps = refl; answered = refl; last = refl; opening = refl };
    limits = refl;
    announced = refl;
  };
  base = refl;
  answered = refl;
  index = refl;
  recorded = refl;
  made_under = ap (λ (l : Limits). Some l) is;
}

abbrev pub new_root : RootValue
new_root = record { auction = new_auction most_nodes 3; base = 0; recorded = replicate most_nodes 0 }

-- ---- it heard a child's bid

-- one that never restarted looks for no record
pub looks_on : (r : RelayValue) → r.base ≡ 0 → LooksForRecord r r
looks_on r first = inr ((λ h. omega (arith, h.came_back, first)), refl)

-- and a root that never did for no clearing
pub root_looks_on : (r : RootValue) → r.base ≡ 0 → LooksForClearing r r
root_looks_on r first = inr ((λ h. omega (arith, h.came_back, first)), refl)

-- what it heard of child 0 is not what went into its newest record
abbrev heard_same : RelayValue → Bool
heard_same r = eqb (head_number r.gathered.cache.heads 0) (head_number (published_heads r.gathered) 0)

unfoldable pub has_changed : RelayValue → Bool
has_changed r = not (heard_same r)

changed : (r : RelayValue) → has_changed r ≡ true → r.gathered.cache.heads ≡ published_heads r.gathered → ⊥
unfolding has_changed
changed r differs same = both_ways (heard_same r) (not-true (heard_same r) differs)
    (eq-eqb (head_number r.gathered.cache.heads 0) (head_number (published_heads r.gathered) 0) (ap (λ (l : List BidHead). head_number l 0) same))

-- ---- it sends its bid

-- what it heard, as the record of its next number
abbrev next_record : RelayValue → Sent
next_record r = record { number = r.gathered.window.last + 1; heads = r.gathered.cache.heads; sum = Some (aggregate_of r.gathered.cache) }

abbrev pub sent_under : List Limits → RelayValue → RelayValue
sent_under made r = record r {
  gathered = record r.gathered {
    window = record r.gathered.window { records = r.gathered.window.records ++ next_record r ∷ []; last = r.gathered.window.last + 1 };
    announced = Some (announced r.gathered.limits (aggregate_of r.gathered.cache));
  };
  recorded = numbers_of r.gathered.cache.heads;
  made_under = made;
}

abbrev pub sent_relay : RelayValue → RelayValue
sent_relay r = sent_under r.made_under r

unfoldable pub may_send : RelayValue → Bool
may_send r = reaches r.recorded r.gathered.cache.heads && ltb (unanswered_numbers r) window_size && has_changed r
    && ltb (unanswered_count r.gathered.window) window_size
    && eqb (length r.gathered.window.records) (r.gathered.window.last + 1 - r.gathered.window.answered)
    && eqb (length (numbers_of r.gathered.cache.heads)) (length r.recorded)

-- by the test it sends what it heard
pub sends_under : (r : RelayValue) (made : List Limits) (l : Limits) → may_send r ≡ true → r.gathered.limits ≡ Some l →
    limits_of_number (sent_under made r) (newest_bid_number r + 1) ≡ Some l →
    ((n : ℕ) → r.answered ≤ n → n ≤ newest_bid_number r → limits_of_number (sent_under made r) n ≡ limits_of_number r n) →
    BidSent r (sent_under made r) (newest_bid_number r + 1)
unfolding may_send
sends_under r made l may limits under kept =
    let w : WindowValue = r.gathered.window in
    let all = six_parts _ _ _ _ _ _ may in
    let many : length w.records ≡ w.last + 1 - w.answered = eqb-true (length w.records) (w.last + 1 - w.answered) all.4 in
    record {
      caught_up = reached r.recorded r.gathered.cache.heads all.0;
      room = ltb-true (unanswered_numbers r) window_size all.1;
      number = refl;
      made = record {
        changed = changed r all.2;
        room = ltb-true (unanswered_count w) window_size all.3;
        number = refl;
        demand = refl;
        sent = record {
          at = get_or_push w.records (next_record r) no_record (w.last + 1 - w.answered) many
              ∙ ap (λ (o : Option Limits). record (next_record r) { sum = sum_kept o (aggregate_of r.gathered.cache) }) (sym limits);
          others = λ number keeps.
              get_or_append_left w.records (next_record r ∷ []) no_record (number - w.answered) (omega (arith, many, keeps.from, keeps.to));
          last = refl;
          answered = refl;
          children = refl;
          steps = refl;
        };
        cache = refl;
        limits = refl;
      };
      announced = refl;
      numbers = λ child inside. noted r.gathered.cache.heads child;
      children = eqb-true (length (numbers_of r.gathered.cache.heads)) (length r.recorded) all.5;
      base = refl;
      answered = refl;
      index = refl;
      made_under = under ∙ sym limits;
      kept_under = kept;
    }

-- under the limits that it came up with
pub sends : (r : RelayValue) (l : Limits) → may_send r ≡ true → r.gathered.limits ≡ Some l →
    limits_of_number (sent_relay r) (newest_bid_number r + 1) ≡ Some l → BidSent r (sent_relay r) (newest_bid_number r + 1)
sends r l may limits under = sends_under r r.made_under l may limits under (λ n from to. refl)

-- ---- it has its record again

-- under the number before the first of its own
abbrev pub rebuilt_relay : RelayValue → RelayValue
rebuilt_relay r = record (sent_relay r) { base = r.base - 1; recorded = r.recorded }

unfoldable pub hears_again : RelayValue → Bool
hears_again r = ltb 0 r.base && eqb r.gathered.window.last 0 && reaches r.recorded r.gathered.cache.heads
    && suffices r.recorded r.gathered.cache.heads && has_changed r && eqb r.gathered.window.answered (r.answered - (r.base - 1))

-- by the test it has it
pub has_again : (r : RelayValue) → hears_again r ≡ true → record_at (rebuilt_relay r) r.base ≡ next_record r →
    limits_of_number r r.base ≡ r.gathered.limits → LooksForRecord r (rebuilt_relay r)
unfolding hears_again
has_again r hears at under =
    let all = six_parts _ _ _ _ _ _ hears in
    let back : 0 < r.base = ltb-true 0 r.base all.0 in
    let none : r.gathered.window.last ≡ 0 = eqb-true r.gathered.window.last 0 all.1 in
    inl (
      record {
        came_back = back;
        lost = none;
        caught_up = reached r.recorded r.gathered.cache.heads all.2;
        nothing_newer = enough r.recorded r.gathered.cache.heads all.3;
        changed = changed r all.4;
      },
      record {
        base = omega (arith, back);
        last = omega (arith, none);
        window = eqb-true r.gathered.window.answered (r.answered - (r.base - 1)) all.5;
        heads = ap (λ (s : Sent). s.heads) at;
        sum = ap (λ (s : Sent). s.sum) at;
        announced = refl;
        cache = refl;
        limits = refl;
        answered = refl;
        index = refl;
        recorded = refl;
        made_under = under;
      },
    )

-- ---- it passes a price on

-- one that answers the only number of its own
abbrev pub passed_relay : RelayValue → PriceUpdate → RelayValue
passed_relay r price = record r {
  gathered = record r.gathered {
    window = record r.gathered.window {
      records = record { number = 1; heads = r.gathered.cache.heads; sum = Some (aggregate_of r.gathered.cache) } ∷ [];
      answered = 1;
    };
  };
  answered = price.number;
  index = price.index;
}

unfoldable pub may_pass : RelayValue → PriceUpdate → Bool
may_pass r price = ltb r.index price.index && leb 1 price.number && leb r.answered price.number && leb price.number (newest_bid_number r)
    && eqb (price.number - r.base) 1 && eqb r.gathered.window.last 1

-- by the test it does, where its record is of what it heard
pub passes_on : (r : RelayValue) (price : PriceUpdate) → may_pass r price ≡ true →
    record_of r.gathered.window 1 ≡ record { number = 1; heads = r.gathered.cache.heads; sum = Some (aggregate_of r.gathered.cache) } →
    TakesPrice r (passed_relay r price) price PassedOn
unfolding may_pass
passes_on r price may has =
    let all = six_parts _ _ _ _ _ _ may in
    let own : price.number - r.base ≡ 1 = eqb-true (price.number - r.base) 1 all.4 in
    let last : r.gathered.window.last ≡ 1 = eqb-true r.gathered.window.last 1 all.5 in
    let kept : RecordAnswered r.gathered.window (passed_relay r price).gathered.window (price.number - r.base) = record {
      answered = sym own;
      records = λ other keeps.
          let only : other ≡ 1 = omega (arith, keeps.one, keeps.to, last) in
          ap (λ (n : ℕ). record_of (passed_relay r price).gathered.window n) only ∙ sym has
          ∙ sym (ap (λ (n : ℕ). record_of r.gathered.window n) only);
      last = refl;
      children = refl;
      steps = refl;
    } in (
      record {
        newer = ltb-true r.index price.index all.0;
        one = leb-true 1 price.number all.1;
        from = leb-true r.answered price.number all.2;
        to = leb-true price.number (newest_bid_number r) all.3;
      },
      omega (arith, own),
      record {
        passed = record { window = kept; cache = refl; limits = refl; announced = refl };
        base = refl;
        answered = refl;
        index = refl;
        recorded = refl;
        made_under = refl;
      },
    )

-- ---- a root clears

abbrev pub cleared_root : RootValue → RootValue
cleared_root r = record r {
  auction = record r.auction { step = clearing_step (aggregate_of r.auction.cache); index = r.auction.index + 1; changed = false };
  recorded = numbers_of r.auction.cache.heads;
}

unfoldable pub may_clear : RootValue → Bool
may_clear r = reaches r.recorded r.auction.cache.heads && r.auction.changed && eqb (length (numbers_of r.auction.cache.heads)) (length r.recorded)

-- by the test it does
pub clears : (r : RootValue) → may_clear r ≡ true →
    RootCleared r (cleared_root r) (newest_index r + 1) (clearing_step (aggregate_of r.auction.cache))
unfolding may_clear
clears r may =
    let a = and_parts _ _ may in
    let b = and_parts _ _ a.0 in
    record {
      caught_up = reached r.recorded r.auction.cache.heads b.0;
      index = refl;
      cleared = record { changed = b.1; index = refl; step = refl; cache = refl; new_index = refl; new_step = refl; not_changed = refl };
      numbers = λ child inside. noted r.auction.cache.heads child;
      children = eqb-true (length (numbers_of r.auction.cache.heads)) (length r.recorded) a.1;
      base = refl;
    }

-- ---- a run

-- one step of a run, to this state, and the steps behind it
abbrev pub via : {S : Type 0} → {P Q : S → Type 0} → (s : S) → P s → Q s → (mid : S) × P mid × Q mid
via s step rest = (s, step, rest)
