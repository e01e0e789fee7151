-- Each call of a node with children keeps what such a node keeps.
use Rattle.std.proofs.Common.{◌≡◌, ◌∙◌, sym, ap, subst, ℕ, ◌<◌, ℤ, Bool, true, false, cond}
use Rattle.std.proofs.Common.{List, [], ◌∷◌, ◌++◌, length, Option, Some, None, leb, refl, arith, inl, inr, Contains}
use Rattle.std.proofs.Common.{get_or-set_same, get_or-set_other}
use Rattle.std.proofs.lemmas.Bool.{cases_eq, cond-false, lt-leb}
use Rattle.std.proofs.lemmas.List.Elements.{Contains-append_left, Contains-push}
use Rattle.pm_auctioneer.specs.Auctions.{Auction, MarketCleared}
use Rattle.pm_bid.specs.Bids.{zeros}
use Rattle.pm_bid.specs.Clearing.{clearing_step}
use Rattle.pm_bid.specs.Heads.{nothing_sent}
use Rattle.pm_bid.specs.Limited.{within_limits}
use Rattle.pm_bid.specs.declared.head.BidHead.{BidHead}
use Rattle.pm_cache.specs.Cache.{Cache, aggregate_of, child_head, child_demand, kept_number}
use Rattle.pm_cache.specs.Learning.{demand_of_offer, after_learning, with_newer_bid}
use Rattle.pm_cells.specs.declared.message.UpMessage.{UpMessage}
use Rattle.pm_concentrator.specs.Concentrators.{Gathered, published_heads, BidMade, Passed, own_demand}
use Rattle.pm_concentrator.specs.Limited.{sum_kept, local_step_of_record}
use Rattle.pm_session.specs.Prices.{head_at, price_to}
use Rattle.pm_session.specs.Windows.{Sent, newest_record, record_of}
use Rattle.pm_session.specs.declared.price.PriceUpdate.{PriceUpdate}
use Rattle.pm_carried.specs.Kept.{IsPassedDown, TellsAuction}
use Rattle.pm_phase.specs.Matchers.{MayLearnBid, MayPassOn}
use Rattle.pm_phase.specs.TellingParents.{EntryCame, HasSent, TellsSum, KeepsRecord, FollowsAbove, FollowsClearing}

-- ---- a bid is learnt

module _ (cache : Cache) (k : ℕ) (bid : UpMessage) (may : MayLearnBid cache k bid) where
  abbrev pub after : Cache
  after = after_learning cache k bid.number bid.demand

  learns : after ≡ with_newer_bid cache k bid.number bid.demand
  learns = cond-false (leb bid.number (kept_number cache k)) cache (with_newer_bid cache k bid.number bid.demand)
      (lt-leb bid.number (kept_number cache k) may.newer)

  number_here : (child_head after k).number ≡ bid.number
  number_here = ap (λ (c : Cache). (child_head c k).number) learns ∙ by bid.demand
    where
      by : (demand : Option (List ℤ)) → (child_head (with_newer_bid cache k bid.number demand) k).number ≡ bid.number
      by None = ap (λ (h : BidHead). h.number) (get_or-set_same cache.heads k (record { number = bid.number; gone = true }) nothing_sent may.fits.is_child)
      by (Some d) =
          ap (λ (h : BidHead). h.number) (get_or-set_same cache.heads k (record { number = bid.number; gone = false }) nothing_sent may.fits.is_child)

  demand_here : length cache.demands ≡ length cache.heads → child_demand after k ≡ demand_of_offer after bid.demand
  demand_here same = ap (λ (c : Cache). child_demand c k) learns ∙ by bid.demand ∙ ap (λ (c : Cache). demand_of_offer c bid.demand) (sym learns)
    where
      inside : k < length cache.demands
      inside = omega (arith, same, may.fits.is_child)

      by : (demand : Option (List ℤ)) → child_demand (with_newer_bid cache k bid.number demand) k
          ≡ demand_of_offer (with_newer_bid cache k bid.number demand) demand
      by None = get_or-set_same cache.demands k (zeros cache.steps) [] inside
      by (Some d) = get_or-set_same cache.demands k d [] inside

  head_other : (i : ℕ) → (i ≡ k → ⊥) → child_head after i ≡ child_head cache i
  head_other i ne = ap (λ (c : Cache). child_head c i) learns ∙ by bid.demand
    where
      by : (demand : Option (List ℤ)) → child_head (with_newer_bid cache k bid.number demand) i ≡ child_head cache i
      by None = get_or-set_other cache.heads k i (record { number = bid.number; gone = true }) nothing_sent ne
      by (Some d) = get_or-set_other cache.heads k i (record { number = bid.number; gone = false }) nothing_sent ne

  demand_other : (i : ℕ) → (i ≡ k → ⊥) → child_demand after i ≡ child_demand cache i
  demand_other i ne = ap (λ (c : Cache). child_demand c i) learns ∙ by bid.demand
    where
      by : (demand : Option (List ℤ)) → child_demand (with_newer_bid cache k bid.number demand) i ≡ child_demand cache i
      by None = get_or-set_other cache.demands k i (zeros cache.steps) [] ne
      by (Some d) = get_or-set_other cache.demands k i d [] ne

  steps_after : after.steps ≡ cache.steps
  steps_after = ap (λ (c : Cache). c.steps) learns ∙ by bid.demand
    where
      by : (demand : Option (List ℤ)) → (with_newer_bid cache k bid.number demand).steps ≡ cache.steps
      by None = refl
      by (Some d) = refl

  -- the child's entry is the bid that came
  pub entry_here : (before : Cache) (came : List UpMessage) → length cache.demands ≡ length cache.heads →
      EntryCame before after k (came ++ bid ∷ [])
  entry_here before came same = inr (record {
    bid = bid;
    came = Contains-push came bid;
    entry = record { number = number_here; demand = demand_here same };
  })

  -- the entries of the others are as they were
  pub entry_other : (before : Cache) (i : ℕ) (came : List UpMessage) → (i ≡ k → ⊥) → EntryCame before cache i came → EntryCame before after i came
  entry_other before i came ne (inl was) = inl (record { head = head_other i ne ∙ was.head; demand = demand_other i ne ∙ was.demand })
  entry_other before i came ne (inr has) = inr (record {
    bid = has.bid;
    came = has.came;
    entry = record {
      number = ap (λ (h : BidHead). h.number) (head_other i ne) ∙ has.entry.number;
      demand = demand_other i ne ∙ has.entry.demand ∙ offered has.bid.demand;
    };
  })
    where
      offered : (demand : Option (List ℤ)) → demand_of_offer cache demand ≡ demand_of_offer after demand
      offered None = ap zeros (sym steps_after)
      offered (Some d) = refl

-- a bid that may not be learnt leaves the entry, and what came is one more
pub entry_more : (before now : Cache) (i : ℕ) (came : List UpMessage) (bid : UpMessage) → EntryCame before now i came →
    EntryCame before now i (came ++ bid ∷ [])
entry_more before now i came bid (inl was) = inl was
entry_more before now i came bid (inr has) = inr (record { bid = has.bid; came = Contains-append_left came (bid ∷ []) has.bid has.came; entry = has.entry })

module _ (g : Gathered) (k : ℕ) (bid : UpMessage) (may : MayLearnBid g.cache k bid) (kept : KeepsRecord g) where
  abbrev pub learnt : Gathered
  learnt = record g { cache = after_learning g.cache k bid.number bid.demand }

  -- what was published is not what is kept now
  something_to_send : HasSent learnt → ⊥
  something_to_send sent =
      omega (arith, number_here g.cache k bid may, ap (λ (hs : List BidHead). (head_at hs k).number) sent, kept.published k, may.newer)

  -- the records tell what they told, also after a bid was learnt
  pub learn_keeps_record : KeepsRecord learnt
  learn_keeps_record = record {
    published = λ i. elim (cases_eq i k) [
      | inl e ↦ omega (
        arith,
        kept.published k,
        may.newer,
        number_here g.cache k bid may,
        ap (λ (j : ℕ). (head_at (published_heads g) j).number) e,
        ap (λ (j : ℕ). (child_head (after_learning g.cache k bid.number bid.demand) j).number) e,
      )
      | inr ne ↦ omega (arith, kept.published i, ap (λ (h : BidHead). h.number) (head_other g.cache k bid may i ne))
    ];
    sum = λ sent some. absurd (something_to_send sent);
  }

  -- and so does a bid
  pub learn_keeps_bid : (number : ℕ) (demand : List ℤ) → TellsSum g number demand → TellsSum learnt number demand
  learn_keeps_bid number demand tells = record { within = tells.within; is = λ sent newest. absurd (something_to_send sent) }

  -- and so does a price
  pub learn_keeps_price : (came : List PriceUpdate) (place : ℕ) (price : PriceUpdate) → FollowsAbove g came place price →
      FollowsAbove learnt came place price
  learn_keeps_price came place price follows = record {
    above = follows.above;
    came = follows.came;
    within = follows.within;
    passed = record { index = follows.passed.index; named = follows.passed.named; number = follows.passed.number; step = follows.passed.step };
  }

-- ---- a bid is made

module _ (old new : Gathered) (n : ℕ) (made : BidMade old new n) where
  newest_is : newest_record new.window ≡ record { number = n; heads = old.cache.heads; sum = sum_kept old.limits (aggregate_of old.cache) }
  newest_is = ap (record_of new.window) made.sent.last ∙ made.sent.at

  -- the records tell what they are to after a bid was made
  pub make_keeps_record : KeepsRecord new
  make_keeps_record = record {
    published = λ i. omega (arith, ap (λ (s : Sent). (head_at s.heads i).number) newest_is, ap (λ (c : Cache). (child_head c i).number) made.cache);
    sum = λ sent some.
        ap (λ (s : Sent). s.sum) newest_is ∙ ap (λ l. sum_kept l (aggregate_of old.cache)) (sym made.limits)
        ∙ ap (λ (c : Cache). sum_kept new.limits (aggregate_of c)) (sym made.cache);
  }

  -- an older bid tells what it told
  pub make_keeps_bid : (number : ℕ) (demand : List ℤ) → TellsSum old number demand → TellsSum new number demand
  make_keeps_bid number demand tells = record {
    within = omega (arith, tells.within, made.sent.last, made.number);
    is = λ sent newest. absurd (omega (arith, tells.within, newest, made.sent.last, made.number));
  }

  -- the bid that was made
  pub made_tells : TellsSum new n (own_demand new)
  made_tells = record {
    within = omega (arith, made.sent.last);
    is = λ sent newest.
        made.demand ∙ ap (λ l. within_limits l (aggregate_of old.cache)) (sym made.limits)
        ∙ ap (λ (c : Cache). within_limits new.limits (aggregate_of c)) (sym made.cache);
  }

  -- and so does a price
  pub make_keeps_price : (came : List PriceUpdate) (place : ℕ) (price : PriceUpdate) → FollowsAbove old came place price →
      FollowsAbove new came place price
  make_keeps_price came place price follows = record {
    above = follows.above;
    came = follows.came;
    within = omega (arith, follows.within, made.sent.last, made.number);
    passed = record {
      index = follows.passed.index;
      named = follows.passed.named;
      number = λ newest. absurd (omega (arith, follows.within, newest, made.sent.last, made.number));
      step = λ newest. absurd (omega (arith, follows.within, newest, made.sent.last, made.number));
    };
  }

-- ---- a price is passed on

module _ (old new : Gathered) (price : PriceUpdate) (may : MayPassOn old price) (passed : Passed old new price.number) where
  same_newest : newest_record new.window ≡ newest_record old.window
  same_newest =
      passed.window.records new.window.last (record {
        one = omega (arith, may.kept.one, may.kept.to, passed.window.last);
        from = omega (arith, may.kept.to, passed.window.answered, passed.window.last);
        to = omega arith;
      })
      ∙ ap (record_of old.window) passed.window.last

  same_heads : published_heads new ≡ published_heads old
  same_heads = ap (λ (s : Sent). s.heads) same_newest

  was_sent : HasSent new → HasSent old
  was_sent sent = ap (λ (c : Cache). c.heads) (sym passed.cache) ∙ sent ∙ same_heads

  -- the records tell what they told, also after a price was passed on
  pub pass_keeps_record : KeepsRecord old → KeepsRecord new
  pass_keeps_record kept = record {
    published = λ i. omega (
      arith,
      kept.published i,
      ap (λ (hs : List BidHead). (head_at hs i).number) same_heads,
      ap (λ (c : Cache). (child_head c i).number) passed.cache,
    );
    sum = λ sent some.
        ap (λ (s : Sent). s.sum) same_newest ∙ kept.sum (was_sent sent) (omega (arith, some, passed.window.last))
        ∙ ap (λ l. sum_kept l (aggregate_of old.cache)) (sym passed.limits)
        ∙ ap (λ (c : Cache). sum_kept new.limits (aggregate_of c)) (sym passed.cache);
  }

  -- and so does a bid
  pub pass_keeps_bid : (number : ℕ) (demand : List ℤ) → TellsSum old number demand → TellsSum new number demand
  pass_keeps_bid number demand tells = record {
    within = omega (arith, tells.within, passed.window.last);
    is = λ sent newest.
        tells.is (was_sent sent) (newest ∙ passed.window.last) ∙ ap (λ l. within_limits l (aggregate_of old.cache)) (sym passed.limits)
        ∙ ap (λ (c : Cache). within_limits new.limits (aggregate_of c)) (sym passed.cache);
  }

  follows_on : (place : ℕ) (above down : PriceUpdate) → IsPassedDown old place above down → IsPassedDown new place above down
  follows_on place above down is = record {
    index = is.index;
    named = is.named;
    number = λ newest. is.number (newest ∙ passed.window.last) ∙ ap (λ (hs : List BidHead). (head_at hs place).number) (sym same_heads);
    step = λ newest.
        is.step (newest ∙ passed.window.last) ∙ ap (λ l. local_step_of_record l above.step (newest_record old.window).sum) (sym passed.limits)
        ∙ ap (λ (s : Sent). local_step_of_record new.limits above.step s.sum) (sym same_newest);
  }

  -- and so does a price
  pub pass_keeps_price : (came : List PriceUpdate) (place : ℕ) (down : PriceUpdate) → FollowsAbove old came place down →
      FollowsAbove new came place down
  pass_keeps_price came place down follows = record {
    above = follows.above;
    came = follows.came;
    within = omega (arith, follows.within, passed.window.last);
    passed = follows_on place follows.above down follows.passed;
  }

  -- the price that waits for a child then
  pub passed_follows : (came : List PriceUpdate) (place : ℕ) (down : PriceUpdate) → Contains came price →
      (let sent = record_of old.window price.number in
      price_to sent.heads (local_step_of_record old.limits price.step sent.sum) price.index place) ≡ Some down → FollowsAbove new came place down
  passed_follows came place down has is =
      let sent = record_of old.window price.number in
      let k = local_step_of_record old.limits price.step sent.sum in
      let made : PriceUpdate = record { step = k; number = (head_at sent.heads place).number; index = price.index } in
      let same : made ≡ down = offered (head_at sent.heads place).gone made down is in
      record {
        above = price;
        came = has;
        within = omega (arith, may.kept.to, passed.window.last);
        passed = follows_on place price down (subst (IsPassedDown old place price) same (record {
          index = refl;
          named = may.kept.one;
          number = λ newest. ap (λ (m : ℕ). (head_at (record_of old.window m).heads place).number) newest;
          step = λ newest. ap (λ (m : ℕ). local_step_of_record old.limits price.step (record_of old.window m).sum) newest;
        }));
      }
    where
      offered : (gone : Bool) (a b : PriceUpdate) → cond gone None (Some a) ≡ Some b → a ≡ b
      offered true a b h = absurd (cc h)
      offered false a b h = cc h

-- ---- the market is cleared

-- what the auctioneer learns makes no price untrue
pub learn_keeps_clearing : (a : Auction) (cache : Cache) (place : ℕ) (price : PriceUpdate) → FollowsClearing a place price →
    FollowsClearing (record a { cache = cache; changed = true }) place price
learn_keeps_clearing a cache place price follows = record {
  within = follows.within;
  step = λ newest changed. absurd (cc changed);
  number = λ newest changed. absurd (cc changed);
}

module _ (old new : Auction) (index step : ℕ) (cleared : MarketCleared old new index step) where
  -- after a clearing the step is that of the sum
  pub clear_tells : TellsAuction new
  clear_tells still = cleared.new_step ∙ cleared.step ∙ ap (λ (c : Cache). clearing_step (aggregate_of c)) (sym cleared.cache)

  -- a price of a clearing before tells what it told
  pub clear_keeps_price : (place : ℕ) (price : PriceUpdate) → FollowsClearing old place price → FollowsClearing new place price
  clear_keeps_price place price follows = record {
    within = omega (arith, follows.within, cleared.new_index, cleared.index);
    step = λ newest still. absurd (omega (arith, newest, follows.within, cleared.new_index, cleared.index));
    number = λ newest still. absurd (omega (arith, newest, follows.within, cleared.new_index, cleared.index));
  }

  -- the price that waits for a child then
  pub cleared_follows : (place : ℕ) (price : PriceUpdate) → price_to new.cache.heads new.step new.index place ≡ Some price →
      FollowsClearing new place price
  cleared_follows place price is =
      let made : PriceUpdate = record { step = new.step; number = (head_at new.cache.heads place).number; index = new.index } in
      subst (FollowsClearing new place) (offered (head_at new.cache.heads place).gone made price is) (record {
        within = omega arith;
        step = λ newest still. refl;
        number = λ newest still. refl;
      })
    where
      offered : (gone : Bool) (a b : PriceUpdate) → cond gone None (Some a) ≡ Some b → a ≡ b
      offered true a b h = absurd (cc h)
      offered false a b h = cc h
