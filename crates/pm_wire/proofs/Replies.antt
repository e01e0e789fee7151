-- How many bytes the answers to frames have at most.
use Rattle.std.proofs.Common.{◌≡◌, ap, ℕ, ◌+◌, ◌*◌, ◌≤◌, Bool, true, false, List, [], ◌∷◌, ◌++◌, length}
use Rattle.std.proofs.Common.{Some, arith, length-append, Result, Ok, Err, OnOk}
use Rattle.std.specs.Prelude.{if◌then◌else◌}
use Rattle.std.proofs.lemmas.Grind.{flat_map-append}
use Rattle.pm_base.specs.Limits.{most_nodes}
use Rattle.pm_bid.specs.Clearing.{clearing_step}
use Rattle.pm_bid.specs.declared.head.BidHead.{BidHead}
use Rattle.pm_cache.specs.Cache.{aggregate_of}
use Rattle.pm_wire.specs.declared.answer.Reply.{Reply}
use Rattle.pm_wire.specs.declared.answer.Reply.TheVariants.{Price, NotChanged}
use Rattle.pm_wire.specs.declared.frame.Frame.TheVariants.{Clear}
use Rattle.pm_wire.specs.Answers.{OpenMarket}
use Rattle.pm_wire.specs.Answers.{answer_bytes, reply_bytes, price_for, prices, clearing_prices, answers_to}
use Rattle.pm_wire.specs.Memory.{reply_limit}

-- of two lists of answers each has at most so many bytes
few_either : (most : ℕ) (b : Bool) (xs ys : List Reply) → length (reply_bytes xs) ≤ most → length (reply_bytes ys) ≤ most
    → length (reply_bytes (if b then xs else ys)) ≤ most
few_either most true xs ys few also = few
few_either most false xs ys few also = also

-- the price for a child has at most 13 bytes
pub price_for_few : (index step child : ℕ) (head : BidHead) → length (reply_bytes (price_for index step child head)) ≤ 13
price_for_few index step child head = few_either 13 head.gone [] (Price child head.number index step ∷ []) (omega arith) (omega arith)

-- and those for some children as many times 13
pub prices_few : (index step child : ℕ) (heads : List BidHead) → length (reply_bytes (prices index step child heads)) ≤ 13 * length heads
prices_few index step child [] = omega arith
prices_few index step child (head ∷ heads) =
    let one = price_for_few index step child head in
    let more = prices_few index step (child + 1) heads in
    let xs = price_for index step child head in
    let ys = prices index step (child + 1) heads in
    omega (arith, one, more, ap length (flat_map-append answer_bytes xs ys), length-append (reply_bytes xs) (reply_bytes ys))

-- the answers to a Clear are at most a price for each child
pub clear_few : (market : OpenMarket) → length market.cache.heads ≡ most_nodes → length (reply_bytes (answers_to (Some market) Clear)) ≤ reply_limit
clear_few market all =
    let few = prices_few (market.index + 1) (clearing_step (aggregate_of market.cache)) 1 market.cache.heads in
    few_either reply_limit market.changed (clearing_prices market) (NotChanged ∷ []) (omega (arith, few, all)) (omega arith)

-- with so few bytes appended a list is longer by no more than that
pub longer_by_few : {T E : Type 0} (r : Result T E) (old new more : List ℕ) → OnOk r (new ≡ old ++ more) → length more ≤ reply_limit
    → OnOk r (length new ≤ length old + reply_limit)
longer_by_few (Ok x) old new more is few = omega (arith, ap length is, length-append old more, few)
longer_by_few (Err e) old new more is few = is
