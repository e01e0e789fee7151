-- A root comes up, for the first time or after a restart.
use Rattle.std.proofs.Common.{◌≡◌, ◌∙◌, sym, ap, ℕ, ◌+◌, ◌-◌, ◌<◌, eqb, List, length, arith, replicate, refl, false}
use Rattle.std.proofs.lemmas.Bool.{cond-true, eq-eqb, true≢false}
use Rattle.std.proofs.lemmas.List.{get_or-replicate, length-replicate}
use Rattle.pm_base.specs.Limits.{most_nodes}
use Rattle.pm_bid.specs.Heads.{nothing_sent}
use Rattle.pm_auctioneer.specs.Auctions.{Auction}
use Rattle.pm_market.specs.Lists.{Lists, parent, IsNode}
use Rattle.pm_market.proofs.Cuts.{updated_same}
use Rattle.pm_net.specs.Pricing.{Pricing}
use Rattle.pm_net.specs.Messages.{nothing_heard}
use Rattle.pm_net.specs.Network.{Network, start_network}
use Rattle.pm_net.specs.Restarts.{after_restart}
use Rattle.pm_net_plan.specs.Places.{Numbering, IsNumbering}
use Rattle.pm_relay.specs.Numbers.{child_number, head_number}
use Rattle.pm_relay.specs.Roots.{RootValue, newest_index, RootComesBack}
use Rattle.pm_relay_net.specs.Heads.{heads_of}
use Rattle.pm_relay_net.specs.RootIs.{MatchesRoot, RootIs}
use Rattle.pm_relay_net.proofs.ComingUp.{HearsNone, hears_none, zero_in, numbers_left}
use Rattle.pm_relay_net.proofs.Children.{same_numbers}

-- a root that comes up, over a network in which nothing was heard of its children
module _ (lists : Lists) (p : Pricing) (numbering : Numbering) (is : IsNumbering lists numbering) (net : Network) (last : ℕ) (numbers : List ℕ)
    (r : RootValue) (back : RootComesBack p.steps last numbers r)
    (none : (x : ℕ) → IsNode lists x → parent lists x ≡ 0 → net.heard x ≡ nothing_heard p)
    (last_is : last ≡ net.last_number 0) (few : length numbers ≡ most_nodes)
    (numbers_are : (k : ℕ) → k < most_nodes → child_number numbers k ≡ head_number (heads_of numbering 0 (net.records 0 (net.last_number 0))) k)
    (zeros_are : last ≡ 0 → (k : ℕ) → k < most_nodes → child_number numbers k ≡ 0) (base_is : last ≡ net.whole_from 0 - 1) where
  hears : HearsNone p numbering 0 net.heard
  hears = hears_none lists p numbering is 0 net.heard none

  heads_are : r.auction.cache.heads ≡ replicate most_nodes nothing_sent
  heads_are = ap (λ (a : Auction). a.cache.heads) back.auction

  index_is : r.auction.index ≡ 0
  index_is = ap (λ (a : Auction). a.index) back.auction

  -- nothing was learnt yet
  not_changed : r.auction.changed ≡ false
  not_changed = ap (λ (a : Auction). a.changed) back.auction

  -- it is what the network has of its auctioneer
  pub comes_up : RootIs p numbering net r
  comes_up = record {
    matches = record {
      steps = ap (λ (a : Auction). a.cache.steps) back.auction;
      heads = heads_are ∙ sym hears.heads;
      demands = ap (λ (a : Auction). a.cache.demands) back.auction ∙ sym hears.demands;
      newest = omega (arith, back.base, index_is, last_is);
      children = ap (λ (l : List ℕ). length l) back.recorded ∙ few;
      recorded = λ k inside. ap (λ (l : List ℕ). child_number l k) back.recorded ∙ numbers_are k inside;
      none_recorded = λ none k inside. ap (λ (l : List ℕ). child_number l k) back.recorded ∙ zeros_are (omega (arith, none, back.base)) k inside;
      base = back.base ∙ base_is;
      caught_up = λ some. absurd (omega (arith, some, index_is));
      step = λ some. absurd (omega (arith, some, index_is));
      unchanged = λ same some. absurd (omega (arith, some, index_is));
      opening = λ same none. heads_are;
      news = λ has changed no_more. true≢false (sym changed ∙ not_changed);
    };
    rebuilt = λ hears. true≢false (sym hears.changed ∙ not_changed);
  }

-- for the first time
pub first_up : (lists : Lists) (p : Pricing) (numbering : Numbering) → IsNumbering lists numbering → (r : RootValue) →
    RootComesBack p.steps 0 (replicate most_nodes 0) r → RootIs p numbering (start_network p) r
first_up lists p numbering is r back =
    comes_up lists p numbering is (start_network p) 0 (replicate most_nodes 0) r back (λ x node up. refl) refl
    (length-replicate {A = ℕ} most_nodes 0) (λ k inside. zero_at k inside ∙ sym (zero_in lists p numbering is 0 k inside)) (λ e. zero_at) refl
  where
    zero_at : (k : ℕ) → k < most_nodes → child_number (replicate most_nodes 0) k ≡ 0
    zero_at k inside = get_or-replicate most_nodes k 0 0 (omega (arith, inside, length-replicate {A = ℕ} most_nodes 0))

-- and after a restart
pub back_up : (lists : Lists) (p : Pricing) (numbering : Numbering) → IsNumbering lists numbering → (net : Network) (k : ℕ) (old new : RootValue) →
    MatchesRoot p numbering net old → RootComesBack p.steps (newest_index old) old.recorded new →
    RootIs p numbering (after_restart lists p net 0 k) new
back_up lists p numbering is net k old new m back =
    comes_up lists p numbering is (after_restart lists p net 0 k) (newest_index old) old.recorded new back
    (λ x node up. cond-true (eqb (parent lists x) 0) (nothing_heard p) (net.heard x) (eq-eqb (parent lists x) 0 up))
    m.newest m.children
    (λ i inside. m.recorded i inside ∙ same_numbers numbering 0 i (net.records 0 (net.last_number 0))
    ((after_restart lists p net 0 k).records 0 (net.last_number 0)) inside (λ x. sym (numbers_left lists p net 0 k x)))
    m.none_recorded
    (omega (arith, m.newest, updated_same net.whole_from 0 (net.last_number 0 + 1)))
