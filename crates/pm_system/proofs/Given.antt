-- A tree with demands and limits is a market.
use Rattle.std.proofs.Common.{◌≡◌, ◌∙◌, ap, subst, ℕ, ℤ, eqb, List, Some, refl, inl, inr, true}
use Rattle.std.proofs.lemmas.Bool.{cases_eq, cond-true, cond-false, eq-eqb, ne_eqb}
use Rattle.pm_base.specs.Limits.{AreLimits, most_nodes}
use Rattle.pm_base.specs.declared.limits.Limits.{Limits}
use Rattle.pm_bid.specs.Bids.{zeros, sum_of}
use Rattle.pm_bid.proofs.Sums.{sum_of-replicate_zeros}
use Rattle.pm_market.specs.Lists.{Lists, parent, IsNode}
use Rattle.pm_laws.proofs.Quiet.{in_zero}
use Rattle.pm_net.specs.Messages.{bid_message}
use Rattle.pm_net.specs.TreeAuction.{TreeDemand, IsTreeDemand}
use Rattle.pm_net.specs.Pricing.{given_limits}
use Rattle.pm_net.proofs.TreeAuctions.{goes_by_nodes}
use Rattle.pm_net.proofs.Limits.{given_alike}
use Rattle.pm_net_plan.specs.Places.{IsNumbering, places_in, demands_of}
use Rattle.pm_net_plan.proofs.Children.{is_numbering}
use Rattle.pm_relay_net.proofs.Places.{demands_of-same, demands_of-none}
use Rattle.pm_system.specs.Given.{IsTreeMarket, IsGiven, placed_pricing}

-- limits that are given alike are the same
pub some_same : (l k : Limits) → Some l ≡ Some k → l ≡ k
some_same l k e = cc

module _ (lists : Lists) (steps : ℕ) (demand : ℕ → ℕ → List ℤ) (limits : ℕ → ℕ → Limits) (giver : ℕ → ℕ)
    (given : IsGiven lists steps demand limits giver) where
  is : IsNumbering lists (places_in lists)
  is = is_numbering lists given.few

  abbrev add : ℕ → (ℕ → List ℤ) → List ℤ
  add y f = sum_of steps (demands_of steps (places_in lists) y f)

  abbrev asked : TreeDemand
  asked = record { steps = steps; demand = demand; limits = given_limits (λ c n. Some (limits c n)) giver; add = add }

  -- a sum by places sees the children alone
  sums : (y : ℕ) (f g : ℕ → List ℤ) → ((x : ℕ) → IsNode lists x → parent lists x ≡ y → f x ≡ g x) → add y f ≡ add y g
  sums y f g each = ap (sum_of steps) (demands_of-same lists (places_in lists) is steps y (λ z. bid_message 0 true (f z)) (λ z. bid_message 0 true (g z))
      (λ x node up. ap (bid_message 0 true) (each x node up)))

  -- and is zeros where they have zeros
  sums_of_none : (y : ℕ) (f : ℕ → List ℤ) → ((x : ℕ) → IsNode lists x → parent lists x ≡ y → f x ≡ zeros steps) →
      add y f ≡ zeros steps
  sums_of_none y f each = ap (sum_of steps) (demands_of-none (places_in lists) y steps f (λ k inside.
      elim (cases_eq ((places_in lists).child y k) 0) [
        | inl e ↦ cond-true (eqb ((places_in lists).child y k) 0) (zeros steps) (f ((places_in lists).child y k)) (eq-eqb ((places_in lists).child y k) 0 e)
        | inr ne ↦
            let at = is.child_is y k inside ne in
            cond-false (eqb ((places_in lists).child y k) 0) (zeros steps) (f ((places_in lists).child y k)) (ne_eqb ((places_in lists).child y k) 0 ne)
            ∙ each ((places_in lists).child y k) at.0 at.1
      ])) ∙ sum_of-replicate_zeros steps most_nodes

  is_asked : IsTreeDemand lists asked
  is_asked = record {
    none = λ d. given.absent d 0 (in_zero lists d);
    sums = sums;
    sums_of_none = sums_of_none;
    around = λ x cut l e. let Are : Limits → Type 0 = λ k. AreLimits k in
        subst Are (some_same (limits x (cut (giver x))) l e) (given.are_limits x (cut (giver x))).around;
    limits_alike = given_alike lists (λ c n. Some (limits c n)) giver given.givers;
  }

  -- they are a market
  pub is_market : IsTreeMarket lists (placed_pricing lists steps demand limits giver) (places_in lists)
  is_market = record {
    law = given.law;
    one_phase = given.one_phase;
    by_nodes = goes_by_nodes lists given.law asked is_asked;
    places = is;
    by_places = λ y f. refl;
    steps = given.are_steps;
    demands = λ d n leaf. given.demands d n;
    absent = λ d n leaf out. given.absent d n out;
    limited = λ c cut conc. (limits c (cut (giver c)), refl, given.are_limits c (cut (giver c)));
  }
