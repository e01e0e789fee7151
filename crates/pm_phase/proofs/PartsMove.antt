-- The calls of a node with children that touch no end of a link keep what such a node keeps.
use Rattle.std.proofs.Common.{◌≡◌, ◌∙◌, sym, ap, subst, ℕ, Bool, true, false, List}
use Rattle.std.proofs.Common.{length, Option, Some, None, refl, arith, inl, inr, Contains}
use Rattle.std.specs.Prelude.{All, IfSome, OnErr, Result, Ok, Err}
use Rattle.std.specs.declared.alloc.AllocError.{AllocError}
use Rattle.std.proofs.lemmas.Bool.{cases_lt}
use Rattle.std.proofs.lemmas.List.{get_or_past}
use Rattle.std.proofs.lemmas.List.Elements.{All-weaker}
use Rattle.pm_bid.specs.declared.head.BidHead.{BidHead}
use Rattle.pm_cache.specs.Cache.{Cache}
use Rattle.pm_cells.specs.declared.message.UpMessage.{UpMessage}
use Rattle.pm_cells.specs.declared.message.Message.{Message}
use Rattle.pm_cells.specs.declared.message.Message.TheVariants.{Bid, Price}
use Rattle.pm_concentrator.specs.Concentrators.{own_demand}
use Rattle.pm_concentrator.specs.Limited.{local_step_of_record}
use Rattle.pm_plan.specs.Plans.{PlanData}
use Rattle.pm_session.specs.Prices.{price_to}
use Rattle.pm_session.specs.Windows.{record_of}
use Rattle.pm_session.specs.declared.price.PriceUpdate.{PriceUpdate}
use Rattle.pm_phase.specs.Matchers.{cache_of_matcher, waiting_at, newer_price, PricesWait}
use Rattle.pm_phase.specs.Parents.{ClearsMarket, MakesBid, PassesOn, DropsPending}
use Rattle.pm_phase.specs.TellingParents.{EntryCame, bids_among}
use Rattle.pm_phase.specs.KeepingParents.{TellsOwn, TellsBid, TellsBidMessage, TellsPrice, MovesOn, learnt_at, KeepsChild, PartMovesOn}
use Rattle.pm_phase.specs.declared.ends.DownEnd.{DownEnd}
use Rattle.pm_phase.specs.declared.matcher.Matcher.{Matcher}
use Rattle.pm_phase.specs.declared.parent.ParentPart.{ParentPart}
use Rattle.pm_phase.proofs.ParentKeeps.{made_tells, passed_follows, cleared_follows}
use Rattle.pm_phase.proofs.MatchersMove.{make_moves, pass_moves, clear_moves}

-- a part that did nothing moved on
pub part_refl : (part : ParentPart) → PartMovesOn part part
part_refl part = record {
  own = λ own. own;
  kept = λ plan y came kept. kept;
  sent = λ messages own all. all;
  child = λ plan y was had came place down own kept. kept;
}

-- what waits tells, for one that moved on
pub bid_moves : (m m' : Matcher) → MovesOn m m' → TellsOwn m → (waiting : Option UpMessage) → IfSome waiting (TellsBid m) →
    IfSome waiting (TellsBid m')
bid_moves m m' moves own None tells = tt
bid_moves m m' moves own (Some bid) tells = moves.bids bid own tells

-- a message of a matcher that moved on still tells what it is to
pub message_moves : (m m' : Matcher) → MovesOn m m' → TellsOwn m → (message : Message) → TellsBidMessage m message → TellsBidMessage m' message
message_moves m m' moves own (Bid bid) tells = moves.bids bid own tells
message_moves m m' moves own (Price price) tells = tt

-- and so do all messages
pub messages_move : (m m' : Matcher) → MovesOn m m' → (messages : List Message) → TellsOwn m → All (TellsBidMessage m) messages →
    All (TellsBidMessage m') messages
messages_move m m' moves messages own all = All-weaker (TellsBidMessage m) (TellsBidMessage m') (message_moves m m' moves own) messages all

-- the child is kept where the matcher moved on over the same cache
pub child_moves : (part part' : ParentPart) → MovesOn part.matcher part'.matcher → cache_of_matcher part'.matcher ≡ cache_of_matcher part.matcher →
    part'.learnt ≡ part.learnt →
    (plan : PlanData) (y : ℕ) (was : Cache) (had : List (Option UpMessage)) (came : List PriceUpdate) (place : ℕ) (down : DownEnd) →
    TellsOwn part.matcher → KeepsChild plan y was had came part place down → KeepsChild plan y was had came part' place down
child_moves part part' moves cache learnt plan y was had came place down own kept = record {
  link = kept.link;
  entry = subst (λ (c : Cache). EntryCame was c place (bids_among down.end.known.up.received)) (sym cache) kept.entry;
  learnt = λ bid is. kept.learnt bid (sym (ap (λ ls. learnt_at ls.items place) learnt) ∙ is);
  put = All-weaker (TellsPrice part.matcher came place) (TellsPrice part'.matcher came place) (λ price. moves.prices came place price own) _ kept.put;
}

-- the prices that wait after a clearing, or after a price was passed on
pub prices_wait : (heads : List BidHead) (step index : ℕ) (old new : List (Option PriceUpdate)) (P Q : ℕ → PriceUpdate → Type 0) →
    PricesWait heads step index old new →
    ((place : ℕ) (price : PriceUpdate) → price_to heads step index place ≡ Some price → Q place price) →
    ((place : ℕ) (price : PriceUpdate) → P place price → Q place price) →
    ((place : ℕ) (price : PriceUpdate) → waiting_at old place ≡ Some price → P place price) →
    (place : ℕ) (price : PriceUpdate) → waiting_at new place ≡ Some price → Q place price
prices_wait heads step index old new P Q wait made moves before place price is = elim (cases_lt place (length old)) [
  | inl inside ↦ by (price_to heads step index place) refl (sym (wait.each place inside) ∙ is)
  | inr past ↦ absurd (let none : waiting_at new place ≡ None = get_or_past new place None (omega (arith, past, wait.same_length)) in cc (sym none ∙ is))
]
  where
    by : (newer : Option PriceUpdate) → price_to heads step index place ≡ newer → newer_price newer (waiting_at old place) ≡ Some price →
        Q place price
    by None e h = moves place price (before place price h)
    by (Some p) e h = made place price (e ∙ h)

-- ---- the auctioneer clears

pub cleared_moves : (old new : ParentPart) → ClearsMarket old new → PartMovesOn old new
cleared_moves old new clears = record {
  own = moves.own;
  kept = λ plan y came kept. record {
    shaped = moves.shaped plan y kept.shaped;
    own = moves.own kept.own;
    waits = subst (λ w. IfSome w (TellsBid new.matcher)) (sym clears.waiting) (bid_moves old.matcher new.matcher moves kept.own old.waiting kept.waits);
    pending = subst (λ w. IfSome w (Contains came)) (sym clears.pending) kept.pending;
    prices = prices_wait clears.after.cache.heads clears.after.step clears.after.index old.prices.items new.prices.items
        (TellsPrice old.matcher came) (TellsPrice new.matcher came) clears.prices
        (λ place price is. subst (λ (m : Matcher). TellsPrice m came place price) (sym clears.is)
        (cleared_follows clears.before clears.after clears.after.index clears.after.step clears.cleared place price is))
        (λ place price. moves.prices came place price kept.own) kept.prices;
  };
  sent = messages_move old.matcher new.matcher moves;
  child = child_moves old new moves
      (ap cache_of_matcher clears.is ∙ clears.cleared.cache ∙ sym (ap cache_of_matcher clears.was)) clears.learnt;
}
  where
    moves : MovesOn old.matcher new.matcher
    moves = subst (λ (m : Matcher × Matcher). MovesOn m.0 m.1) (λ i. (sym clears.was i, sym clears.is i))
        (clear_moves clears.before clears.after clears.after.index clears.after.step clears.cleared)

-- ---- a concentrator makes its bid

pub made_moves : (old new : ParentPart) → MakesBid old new → PartMovesOn old new
made_moves old new makes = record {
  own = moves.own;
  kept = λ plan y came kept. record {
    shaped = moves.shaped plan y kept.shaped;
    own = moves.own kept.own;
    waits = subst (λ w. IfSome w (TellsBid new.matcher)) (sym makes.waits)
        (subst (λ (m : Matcher). TellsBid m makes.bid) (sym makes.is)
        (own_demand makes.after, makes.demand, made_tells makes.before makes.after makes.bid.number makes.made));
    pending = subst (λ w. IfSome w (Contains came)) (sym makes.pending) kept.pending;
    prices = λ place price is. moves.prices came place price kept.own
        (kept.prices place price (sym (ap (λ ps. waiting_at ps.items place) makes.prices) ∙ is));
  };
  sent = messages_move old.matcher new.matcher moves;
  child = child_moves old new moves (ap cache_of_matcher makes.is ∙ makes.made.cache ∙ sym (ap cache_of_matcher makes.was)) makes.learnt;
}
  where
    moves : MovesOn old.matcher new.matcher
    moves = subst (λ (m : Matcher × Matcher). MovesOn m.0 m.1) (λ i. (sym makes.was i, sym makes.is i))
        (make_moves makes.before makes.after makes.bid.number makes.made)

-- ---- a concentrator passes a price on

pub passed_moves : (old new : ParentPart) → PassesOn old new → PartMovesOn old new
passed_moves old new passes = record {
  own = moves.own;
  kept = λ plan y came kept. record {
    shaped = moves.shaped plan y kept.shaped;
    own = moves.own kept.own;
    waits = subst (λ w. IfSome w (TellsBid new.matcher)) (sym passes.waiting) (bid_moves old.matcher new.matcher moves kept.own old.waiting kept.waits);
    pending = subst (λ w. IfSome w (Contains came)) (sym passes.none) tt;
    prices = prices_wait (record_of passes.before.window passes.price.number).heads
        (local_step_of_record passes.before.limits passes.price.step (record_of passes.before.window passes.price.number).sum) passes.price.index
        old.prices.items new.prices.items (TellsPrice old.matcher came) (TellsPrice new.matcher came) passes.prices
        (λ place price is. subst (λ (m : Matcher). TellsPrice m came place price) (sym passes.is)
        (passed_follows passes.before passes.after passes.price passes.may passes.passed came place price
        (subst (λ w. IfSome w (Contains came)) passes.came kept.pending) is))
        (λ place price. moves.prices came place price kept.own) kept.prices;
  };
  sent = messages_move old.matcher new.matcher moves;
  child = child_moves old new moves (ap cache_of_matcher passes.is ∙ passes.passed.cache ∙ sym (ap cache_of_matcher passes.was)) passes.learnt;
}
  where
    moves : MovesOn old.matcher new.matcher
    moves = subst (λ (m : Matcher × Matcher). MovesOn m.0 m.1) (λ i. (sym passes.was i, sym passes.is i))
        (pass_moves passes.before passes.after passes.price passes.may passes.passed)

-- a part whose pending price was dropped moved on
pub dropped_moves : (old new : ParentPart) → DropsPending old new → PartMovesOn old new
dropped_moves old new drops = subst (PartMovesOn old) (sym drops.rest) (record {
  own = λ own. own;
  kept = λ plan y came kept. record {
    shaped = kept.shaped;
    own = kept.own;
    waits = kept.waits;
    pending = tt;
    prices = kept.prices;
  };
  sent = λ messages own all. all;
  child = λ plan y was had came place down own kept. record { link = kept.link; entry = kept.entry; learnt = kept.learnt; put = kept.put };
})

-- ---- the three of them

pub cleared_or_not : (b : Bool) (old new : ParentPart) → (b ≡ true → ClearsMarket old new) → (b ≡ false → new ≡ old) → PartMovesOn old new
cleared_or_not true old new clears same = cleared_moves old new (clears refl)
cleared_or_not false old new clears same = subst (PartMovesOn old) (sym (same refl)) (part_refl old)

-- a part that made a bid, or none, moved on
pub made_or_not : (result : Result Bool AllocError) (old new : ParentPart) → (result ≡ Ok true → MakesBid old new) →
    (result ≡ Ok false → new ≡ old) → OnErr result (new ≡ old) → PartMovesOn old new
made_or_not (Ok true) old new makes same failed = made_moves old new (makes refl)
made_or_not (Ok false) old new makes same failed = subst (PartMovesOn old) (sym (same refl)) (part_refl old)
made_or_not (Err fault) old new makes same failed = subst (PartMovesOn old) (sym failed) (part_refl old)

-- a part that passed a price on, or dropped it, moved on
pub passed_or_not : (b : Bool) (old new : ParentPart) → (b ≡ true → PassesOn old new) → (b ≡ false → DropsPending old new) → PartMovesOn old new
passed_or_not true old new passes drops = passed_moves old new (passes refl)
passed_or_not false old new passes drops = dropped_moves old new (drops refl)

-- one call after another
pub part_trans : (a b c : ParentPart) → PartMovesOn a b → PartMovesOn b c → PartMovesOn a c
part_trans a b c first then = record {
  own = λ own. then.own (first.own own);
  kept = λ plan y came kept. then.kept plan y came (first.kept plan y came kept);
  sent = λ messages own all. then.sent messages (first.own own) (first.sent messages own all);
  child = λ plan y was had came place down own kept.
      then.child plan y was had came place down (first.own own) (first.child plan y was had came place down own kept);
}

-- a part moved on that cleared, made a bid and passed a price on, or did some of these
pub send_moves : (a b c d : ParentPart) → PartMovesOn a b → PartMovesOn b c → PartMovesOn c d → PartMovesOn a d
send_moves a b c d first second third = part_trans a b d first (part_trans b c d second third)
