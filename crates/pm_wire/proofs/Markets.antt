-- A market behind its frames: its entries are single bids, and its prices one behind the other.
use Rattle.std.proofs.Common.{◌≡◌, ◌∙◌, sym, ap, refl, subst, ℕ, ◌+◌, ◌<◌, ℤ, pos, Bool, true, false, List, ◌∷◌}
use Rattle.std.proofs.Common.{◌++◌, length, drop}
use Rattle.std.proofs.Common.{get_or, Result, Ok, Err, arith, append_assoc}
use Rattle.std.specs.Prelude.{◌==◌, nat_lt, if◌then◌else◌}
use Rattle.std.proofs.lemmas.Bool.Decides.{nat_tests}
use Rattle.std.proofs.lemmas.Grind.{flat_map-append}
use Rattle.std.proofs.lemmas.List.{drop_more, length-replicate}
use Rattle.std.proofs.lemmas.List.Elements.{All-replicate}
use Rattle.pm_base.specs.Limits.{AreSteps, most_nodes, demand_limit, IsWithin}
use Rattle.pm_base.proofs.Lists.{get_or-replicate_same}
use Rattle.std.proofs.lemmas.Int.{ints}
use Rattle.pm_bid.specs.Bids.{AllWithinLimit, NeverRises, zeros}
use Rattle.pm_bid.specs.Checks.{checked_bid, first_rising, first_too_large}
use Rattle.pm_bid.specs.declared.head.BidHead.{BidHead}
use Rattle.pm_bid.proofs.EachStep.{all_small}
use Rattle.pm_bid.proofs.FoundStep.{never_rises}
use Rattle.pm_cache.specs.Cache.{Cache, IsCache, empty_cache}
use Rattle.pm_cache.specs.Learning.{HasSingleBids}
use Rattle.pm_cache.proofs.Entries.{empty_sound}
use Rattle.pm_auctioneer.specs.Auctions.{Auction, new_auction}
use Rattle.pm_wire.specs.Answers.{open_market, price_for, prices, reply_bytes, answer_bytes}
use Rattle.pm_wire.specs.MarketFields.{market_of}
use Rattle.pm_wire.specs.ServerFields.{IsMarket}

-- the prices for one child more
pub prices_more : (index step child i : ℕ) (heads : List BidHead) (d : BidHead) (out out' total : List ℕ) → i < length heads →
    out ++ reply_bytes (prices index step child (drop i heads)) ≡ total → out' ≡ out ++ reply_bytes (price_for index step child (get_or heads i d)) →
    out' ++ reply_bytes (prices index step (child + 1) (drop (i + 1) heads)) ≡ total
prices_more index step child i heads d out out' total inside before is =
    let head = get_or heads i d in
    let rest = prices index step (child + 1) (drop (i + 1) heads) in
    let first : drop i heads ≡ head ∷ drop (i + 1) heads = drop_more heads i d inside in
    ap (λ l. l ++ reply_bytes rest) is ∙ append_assoc out (reply_bytes (price_for index step child head)) (reply_bytes rest)
    ∙ ap (λ l. out ++ l) (sym (flat_map-append answer_bytes (price_for index step child head) rest))
    ∙ ap (λ l. out ++ reply_bytes (prices index step child l)) (sym first) ∙ before

-- a market in which nothing was sent
pub open_market_is : (steps : ℕ) (auction : Auction) → auction ≡ new_auction most_nodes steps → market_of auction ≡ open_market steps
unfolding open_market
open_market_is steps auction is = ap market_of is

no_power_small : (steps : ℕ) → AllWithinLimit demand_limit (zeros steps)
no_power_small steps = λ step h.
    let P : ℤ → Type 0 = λ demand. IsWithin demand_limit demand in
    subst P (sym (get_or-replicate_same steps step (pos 0))) (record { low = omega (arith, ints); high = omega (arith, ints) })

empty_single : (children steps : ℕ) → HasSingleBids (empty_cache children steps)
empty_single children steps = All-replicate (λ bid. AllWithinLimit demand_limit bid) children (zeros steps) (no_power_small steps)

-- with the empty cache of a basis and an entry for each child a market is sound, whatever its other parts
pub opened_sound : (children steps index : ℕ) (changed : Bool) (cache : Cache) → children ≡ most_nodes → AreSteps steps →
    cache ≡ empty_cache children steps →
    IsMarket (record { cache = cache; index = index; changed = changed })
opened_sound children steps index changed cache all basis is =
    let P : Cache → Type 0 = λ c. IsCache c in
    let Q : Cache → Type 0 = λ c. HasSingleBids c in
    record {
      sound = subst P (sym is) (empty_sound children steps (omega (arith, all)) basis);
      children = ap (λ c. length c.heads) is ∙ length-replicate children _ ∙ all;
      single = subst Q (sym is) (empty_single children steps);
    }

else_ok : {A E : Type 0} (test : Bool) (fault : E) (rest : Result A E) (value : A) → (if test then Err fault else rest) ≡ Ok value →
    (test ≡ false) × (rest ≡ Ok value)
else_ok true fault rest value h = absurd (cc h)
else_ok false fault rest value h = (refl, h)

then_ok : {A E : Type 0} (test : Bool) (fault : E) (rest : Result A E) (value : A) → (if test then rest else Err fault) ≡ Ok value → rest ≡ Ok value
then_ok true fault rest value h = h
then_ok false fault rest value h = absurd (cc h)

-- an accepted bid never rises
pub accepted_falls : (steps : ℕ) (demand : List ℤ) → checked_bid steps demand ≡ Ok demand → NeverRises demand
accepted_falls steps demand h =
    let falls = then_ok (length demand == steps) _ _ demand h in
    let large = else_ok (nat_lt (first_rising demand) (length demand)) _ _ demand falls in
    never_rises demand (grind (arith, nat_tests, large.0))

-- an accepted bid has small demands
pub accepted_small : (steps : ℕ) (demand : List ℤ) → checked_bid steps demand ≡ Ok demand → AllWithinLimit demand_limit demand
accepted_small steps demand h =
    let falls = then_ok (length demand == steps) _ _ demand h in
    let large = else_ok (nat_lt (first_rising demand) (length demand)) _ _ demand falls in
    let small = else_ok (nat_lt (first_too_large demand) (length demand)) _ _ demand large.1 in
    all_small demand (grind (arith, nat_tests, small.0))
