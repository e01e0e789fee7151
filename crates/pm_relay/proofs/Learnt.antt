-- A relay that learnt a bid, or that a child is gone.
use Rattle.std.proofs.Common.{◌≡◌, ◌∙◌, sym, ap, subst, ℕ, ℤ, Bool, true, false, List, length, Option, Some, None, refl}
use Rattle.std.specs.Prelude.{nat_le, if◌then◌else◌, unwrap_or}
use Rattle.std.proofs.Math.ListN.{length-set}
use Rattle.std.proofs.lemmas.List.Elements.{All-set}
use Rattle.pm_base.specs.Limits.{demand_limit}
use Rattle.pm_bid.specs.Bids.{AllWithinLimit}
use Rattle.pm_bid.specs.declared.head.BidHead.{BidHead}
use Rattle.pm_cache.specs.Cache.{Cache, kept_number, with_entry}
use Rattle.pm_cache.specs.Learning.{HasSingleBids, after_learning, with_newer_bid, demand_of_offer}
use Rattle.pm_concentrator.specs.Concentrators.{Gathered}
use Rattle.pm_relay.specs.Relays.{RelayValue}
use Rattle.pm_relay.specs.RelayFields.{IsRelay}

-- what a cache keeps with another entry
pub record KeepsSingle (old new : Cache) : Type 0 where
  -- as many children
  pub children : length new.heads ≡ length old.heads
  -- single bids
  pub single : HasSingleBids new

with_one : (cache : Cache) (child : ℕ) (head : BidHead) (demand : List ℤ) → HasSingleBids cache →
    AllWithinLimit demand_limit demand → KeepsSingle cache (with_entry cache child head demand)
with_one cache child head demand single small = record {
  children = length-set cache.heads child head;
  single = All-set (λ (bid : List ℤ). AllWithinLimit demand_limit bid) cache.demands child demand small single;
}

entered_keeps : (cache : Cache) (child number : ℕ) (demand : Option (List ℤ)) → HasSingleBids cache →
    AllWithinLimit demand_limit (demand_of_offer cache demand) → KeepsSingle cache (with_newer_bid cache child number demand)
entered_keeps cache child number None single small = with_one cache child (record { number = number; gone = true }) _ single small
entered_keeps cache child number (Some bid) single small = with_one cache child (record { number = number; gone = false }) bid single small

either : (b : Bool) (old x y : Cache) → KeepsSingle old x → KeepsSingle old y → KeepsSingle old (if b then x else y)
either true old x y on_true on_false = on_true
either false old x y on_true on_false = on_false

-- a cache of single bids that learns one more keeps its children, and has single bids
pub learnt_keeps : (cache : Cache) (child number : ℕ) (demand : Option (List ℤ)) → HasSingleBids cache →
    AllWithinLimit demand_limit (demand_of_offer cache demand) → KeepsSingle cache (after_learning cache child number demand)
learnt_keeps cache child number demand single small =
    either (nat_le number (kept_number cache child)) cache cache (with_newer_bid cache child number demand)
    (record { children = refl; single = single }) (entered_keeps cache child number demand single small)

-- an announced demand is what a concentrator has for its own, whatever the sum is
pub same_demand : (announced : Option (List ℤ)) (sum demand : List ℤ) → announced ≡ Some demand → unwrap_or announced sum ≡ demand
same_demand announced sum demand is = ap (λ (o : Option (List ℤ)). unwrap_or o sum) is

-- a relay that learns a child's single bid stays one
pub relay_learnt : (r : RelayValue) (child number : ℕ) (demand : Option (List ℤ)) (new : Gathered) → IsRelay r →
    AllWithinLimit demand_limit (demand_of_offer r.gathered.cache demand) →
    new ≡ record r.gathered { cache = after_learning r.gathered.cache child number demand } → IsRelay (record r { gathered = new })
relay_learnt r child number demand new is small made =
    let keeps = learnt_keeps r.gathered.cache child number demand is.single small in
    let P : Gathered → Type 0 = λ g. IsRelay (record r { gathered = g }) in
    subst P (sym made) (record {
      children = keeps.children ∙ is.children;
      same_children = is.same_children;
      limits_kept = is.limits_kept;
      limits_small = is.limits_small;
      limits = is.limits;
      single = keeps.single;
      announced = is.announced ∙ ap Some (sym (same_demand _ _ _ is.announced));
      small = subst (AllWithinLimit demand_limit) (sym (same_demand _ _ _ is.announced)) is.small;
      numbers = is.numbers;
      answered = is.answered;
      window = is.window;
    })
