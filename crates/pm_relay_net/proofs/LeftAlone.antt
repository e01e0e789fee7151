-- Over what happens elsewhere a relay and a root stay what they are.
use Rattle.std.proofs.Common.{◌≡◌, ◌∙◌, sym, ap, ℕ, ◌-◌, Some, refl}
use Rattle.pm_bid.specs.Clearing.{clearing_step}
use Rattle.pm_bid.specs.Taken.{announced}
use Rattle.pm_market.specs.Lists.{Lists}
use Rattle.pm_net.specs.Pricing.{Pricing, LimitsGoByDevices}
use Rattle.pm_net.specs.Messages.{BidMessage, PriceMessage, numbers_of}
use Rattle.pm_net.specs.Network.{Network}
use Rattle.pm_net_plan.specs.Places.{Numbering, IsNumbering}
use Rattle.pm_relay.specs.Numbers.{head_number}
use Rattle.pm_relay.specs.Relays.{RelayValue, limits_of_number}
use Rattle.pm_relay.specs.Roots.{RootValue}
use Rattle.pm_relay_net.specs.Heads.{heads_of}
use Rattle.pm_relay_net.specs.RelayIs.{MatchesNode, RelayIs}
use Rattle.pm_relay_net.specs.RootIs.{MatchesRoot, RootIs}
use Rattle.pm_relay_net.proofs.Places.{heads_of-same, demands_of-same}
use Rattle.pm_relay_net.proofs.Elsewhere.{SameNode}

-- a relay that is what one of two networks has of it is what the other has
pub relay_stays : (lists : Lists) (p : Pricing) (numbering : Numbering) → IsNumbering lists numbering → LimitsGoByDevices lists p.limits →
    (net net' : Network) (c : ℕ) (r : RelayValue) →
    SameNode lists c net net' → RelayIs p numbering net c r → RelayIs p numbering net' c r
relay_stays lists p numbering is alike net net' c r same was =
    let limits : p.limits c (numbers_of net.heard) ≡ p.limits c (numbers_of net'.heard) =
    alike c (numbers_of net.heard) (numbers_of net'.heard) (λ d node leaf up. ap (λ (b : BidMessage). b.number) (same.heard d node up)) in
    let m : MatchesNode p numbering net c r = was.matches in
    let record_of : (n n' : ℕ) → n ≡ n' → net.records c n ≡ net'.records c n' =
    λ n n' e. ap (λ (f : ℕ → ℕ → BidMessage). f n) same.records ∙ ap (net'.records c) e in
    record {
      matches = record {
        steps = m.steps;
        limits = m.limits ∙ limits;
        limited = (m.limited.0, sym limits ∙ m.limited.1);
        made_under = λ n keeps. m.made_under n keeps ∙ ap (λ (f : ℕ → BidMessage). p.limits c (numbers_of f)) (record_of _ _ refl);
        newest_under = ap (limits_of_number r) (sym same.last_number) ∙ m.newest_under
            ∙ ap (λ (f : ℕ → BidMessage). p.limits c (numbers_of f)) (record_of (net.last_number c) (net'.last_number c) same.last_number);
        heads = m.heads ∙ heads_of-same lists numbering is c net.heard net'.heard same.heard;
        demands = m.demands ∙ demands_of-same lists numbering is p.steps c net.heard net'.heard same.heard;
        newest = m.newest ∙ same.last_number;
        children = m.children;
        recorded = λ k inside. m.recorded k inside
            ∙ ap (λ (f : ℕ → BidMessage). head_number (heads_of numbering c f) k) (record_of (net.last_number c) (net'.last_number c) same.last_number);
        answered = m.answered ∙ same.answered;
        index = m.index ∙ ap (λ (q : PriceMessage). q.index) same.taken;
        base = m.base ∙ ap (λ (n : ℕ). n - 1) same.whole_from;
        record_heads = λ n keeps. m.record_heads n keeps ∙ ap (heads_of numbering c) (record_of _ _ refl);
        record_sum = λ n keeps. m.record_sum n keeps ∙ ap (λ (f : ℕ → BidMessage). Some (p.add c (λ z. (f z).demand))) (record_of _ _ refl);
        opening = m.opening;
        window = m.window;
        order = m.order;
        demand = λ some. m.demand some ∙ ap (λ (f : ℕ → BidMessage). Some (announced (p.limits c (numbers_of f)) (p.add c (λ z. (f z).demand))))
            (record_of (net.last_number c) (net'.last_number c) same.last_number);
      };
      rebuilt = was.rebuilt;
    }

-- a root that is what one of two networks has of it is what the other has
pub root_stays : (lists : Lists) (p : Pricing) (numbering : Numbering) → IsNumbering lists numbering → (net net' : Network) (r : RootValue) →
    SameNode lists 0 net net' → RootIs p numbering net r → RootIs p numbering net' r
root_stays lists p numbering is net net' r same was =
    let m : MatchesRoot p numbering net r = was.matches in
    let heard : heads_of numbering 0 net.heard ≡ heads_of numbering 0 net'.heard = heads_of-same lists numbering is 0 net.heard net'.heard same.heard in
    let newest : net.records 0 (net.last_number 0) ≡ net'.records 0 (net'.last_number 0) =
    ap (λ (f : ℕ → ℕ → BidMessage). f (net.last_number 0)) same.records ∙ ap (net'.records 0) same.last_number in
    record {
      matches = record {
        steps = m.steps;
        heads = m.heads ∙ heard;
        demands = m.demands ∙ demands_of-same lists numbering is p.steps 0 net.heard net'.heard same.heard;
        newest = m.newest ∙ same.last_number;
        children = m.children;
        recorded = λ k inside. m.recorded k inside ∙ ap (λ (f : ℕ → BidMessage). head_number (heads_of numbering 0 f) k) newest;
        none_recorded = m.none_recorded;
        base = m.base ∙ ap (λ (n : ℕ). n - 1) same.whole_from;
        caught_up = m.caught_up;
        step = λ some. m.step some ∙ ap (λ (f : ℕ → BidMessage). clearing_step (p.add 0 (λ z. (f z).demand))) newest;
        unchanged = λ e some. sym heard ∙ m.unchanged e some ∙ ap (heads_of numbering 0) newest;
        opening = m.opening;
        news = m.news;
      };
      rebuilt = was.rebuilt;
    }
