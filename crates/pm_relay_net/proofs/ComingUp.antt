-- A relay comes up, for the first time or after a restart.
use Rattle.std.proofs.Common.{◌≡◌, ◌∙◌, sym, ap, ℕ, ◌+◌, ◌-◌, ◌<◌, ◌≤◌, cond}
use Rattle.std.proofs.Common.{eqb, List, length, arith}
use Rattle.std.proofs.Common.{inl, inr, replicate, refl, Some}
use Rattle.std.proofs.lemmas.Bool.{cases_eq, cond-true, cond-false, eq-eqb, ne_eqb}
use Rattle.std.proofs.lemmas.List.{get_or-replicate, length-replicate}
use Rattle.pm_base.specs.Limits.{most_nodes}
use Rattle.pm_base.specs.declared.limits.Limits.{Limits}
use Rattle.pm_bid.specs.Bids.{zeros}
use Rattle.pm_bid.specs.Heads.{nothing_sent}
use Rattle.pm_bid.specs.declared.head.BidHead.{BidHead}
use Rattle.pm_cache.specs.Cache.{Cache}
use Rattle.pm_market.specs.Lists.{Lists, parent, IsNode}
use Rattle.pm_market.specs.State.{no_changes}
use Rattle.pm_market.proofs.Cuts.{updated_same}
use Rattle.pm_net.specs.Pricing.{Pricing, LimitsGoByDevices}
use Rattle.pm_net.specs.Messages.{BidMessage, PriceMessage, nothing_heard, numbers_of}
use Rattle.pm_net.specs.Network.{Network, start_network}
use Rattle.pm_net.specs.Restarts.{stored_price, records_left, number_alone, nothing_left, after_restart}
use Rattle.pm_net_plan.specs.Places.{Numbering, IsNumbering, demands_of}
use Rattle.pm_relay.specs.Numbers.{child_number, head_number}
use Rattle.pm_relay.specs.Relays.{RelayValue, newest_bid_number, limits_of_number, RelayComesBack}
use Rattle.pm_relay_net.specs.Heads.{bid_head, heads_of}
use Rattle.pm_relay_net.specs.RelayIs.{MatchesNode, RelayIs}
use Rattle.pm_relay_net.proofs.Places.{heads_of-none, demands_of-none}
use Rattle.pm_relay_net.proofs.Children.{same_numbers}

-- the heads of y and its demands where nothing was heard of its children
pub record HearsNone (p : Pricing) (numbering : Numbering) (y : ℕ) (heard : ℕ → BidMessage) : Type 0 where
  -- the heads
  pub heads : heads_of numbering y heard ≡ replicate most_nodes nothing_sent
  -- the demands
  pub demands : demands_of p.steps numbering y (λ z. (heard z).demand) ≡ replicate most_nodes (zeros p.steps)

-- there is nothing of anyone then
pub hears_none : (lists : Lists) (p : Pricing) (numbering : Numbering) → IsNumbering lists numbering → (y : ℕ) (heard : ℕ → BidMessage) →
    ((x : ℕ) → IsNode lists x → parent lists x ≡ y → heard x ≡ nothing_heard p) → HearsNone p numbering y heard
hears_none lists p numbering is y heard none = record {
  heads = heads_of-none numbering y heard (λ k inside. each k inside (λ (b : BidMessage). bid_head b) nothing_sent refl);
  demands = demands_of-none numbering y p.steps (λ z. (heard z).demand) (λ k inside. each k inside (λ (b : BidMessage). b.demand) (zeros p.steps) refl);
}
  where
    each : {A : Type 0} → (k : ℕ) → k < most_nodes → (f : BidMessage → A) (v : A) → f (nothing_heard p) ≡ v →
        cond (eqb (numbering.child y k) 0) v (f (heard (numbering.child y k))) ≡ v
    each k inside f v at =
        elim (cases_eq (numbering.child y k) 0) [
          | inl e ↦ cond-true (eqb (numbering.child y k) 0) v (f (heard (numbering.child y k))) (eq-eqb (numbering.child y k) 0 e)
          | inr ne ↦
              let child = is.child_is y k inside ne in
              cond-false (eqb (numbering.child y k) 0) v (f (heard (numbering.child y k))) (ne_eqb (numbering.child y k) 0 ne)
              ∙ ap f (none (numbering.child y k) child.0 child.1) ∙ at
        ]

-- a relay that comes up, over a network in which nothing was heard of its children
module _ (lists : Lists) (p : Pricing) (numbering : Numbering) (is : IsNumbering lists numbering)
    (alike : LimitsGoByDevices lists p.limits) (net : Network) (limits under : Limits)
    (c last answered index : ℕ) (numbers : List ℕ) (r : RelayValue) (limited : p.limits c no_changes ≡ Some limits)
    (back : RelayComesBack p.steps limits last answered index numbers under r)
    (none : (x : ℕ) → IsNode lists x → parent lists x ≡ c → net.heard x ≡ nothing_heard p)
    (last_is : last ≡ net.last_number c) (few : length numbers ≡ most_nodes)
    (numbers_are : (k : ℕ) → k < most_nodes → child_number numbers k ≡ head_number (heads_of numbering c (net.records c (net.last_number c))) k)
    (answered_is : answered ≡ net.answered c) (index_is : index ≡ (net.taken c).index) (base_is : last ≡ net.whole_from c - 1)
    (order : answered ≤ last) (under_is : Some under ≡ p.limits c (numbers_of (net.records c (net.last_number c)))) where
  hears : HearsNone p numbering c net.heard
  hears = hears_none lists p numbering is c net.heard none

  heads_are : r.gathered.cache.heads ≡ replicate most_nodes nothing_sent
  heads_are = ap (λ (k : Cache). k.heads) back.gathered.cache

  limits_are : p.limits c (numbers_of net.heard) ≡ Some limits
  limits_are = alike c (numbers_of net.heard) no_changes (λ d node leaf up. ap (λ (b : BidMessage). b.number) (none d node up)) ∙ limited

  -- it is what the network has of its node
  pub comes_up : RelayIs p numbering net c r
  comes_up = record {
    matches = record {
      steps = ap (λ (k : Cache). k.steps) back.gathered.cache;
      limits = back.gathered.limits ∙ sym limits_are;
      limited = (limits, limits_are);
      made_under = λ n keeps. absurd (omega (arith, keeps.one, keeps.to, back.gathered.window.last));
      newest_under = ap (limits_of_number r) (sym last_is) ∙ back.made_under ∙ under_is;
      heads = heads_are ∙ sym hears.heads;
      demands = ap (λ (k : Cache). k.demands) back.gathered.cache ∙ sym hears.demands;
      newest = omega (arith, back.base, back.gathered.window.last, last_is);
      children = ap (λ (l : List ℕ). length l) back.recorded ∙ few;
      recorded = λ k inside. ap (λ (l : List ℕ). child_number l k) back.recorded ∙ numbers_are k inside;
      answered = back.answered ∙ answered_is;
      index = back.index ∙ index_is;
      base = back.base ∙ base_is;
      record_heads = λ n keeps. absurd (omega (arith, keeps.one, keeps.to, back.gathered.window.last));
      record_sum = λ n keeps. absurd (omega (arith, keeps.one, keeps.to, back.gathered.window.last));
      opening = λ e. back.gathered.window.opening;
      window = omega (arith, back.gathered.window.answered, back.answered, back.base, order);
      order = omega (arith, back.answered, back.base, order);
      demand = λ one. absurd (omega (arith, one, back.gathered.window.last));
    };
    rebuilt = λ hears. hears.changed (heads_are ∙ sym back.gathered.window.opening);
  }

-- the number in each place is 0 where nothing was heard
pub zero_in : (lists : Lists) (p : Pricing) (numbering : Numbering) → IsNumbering lists numbering → (c k : ℕ) → k < most_nodes →
    head_number (heads_of numbering c (λ x. nothing_heard p)) k ≡ 0
zero_in lists p numbering is c k inside =
    ap (λ (l : List BidHead). head_number l k) (hears_none lists p numbering is c (λ x. nothing_heard p) (λ x node up. refl)).heads
    ∙ ap (λ (h : BidHead). h.number) (get_or-replicate most_nodes k nothing_sent nothing_sent
    (omega (arith, inside, length-replicate {A = BidHead} most_nodes nothing_sent)))

-- a restart leaves of the newest record its numbers
pub numbers_left : (lists : Lists) (p : Pricing) (net : Network) (c k x : ℕ) →
    ((after_restart lists p net c k).records c (net.last_number c) x).number ≡ (net.records c (net.last_number c) x).number
numbers_left lists p net c k x =
    ap (λ (f : ℕ → ℕ → BidMessage). (f (net.last_number c) x).number) (updated_same net.records c (records_left net c))
    ∙ ap (λ (b : BidMessage). b.number) (cond-true (eqb (net.last_number c) (net.last_number c))
    (number_alone (net.records c (net.last_number c) x)) nothing_left (eq-eqb (net.last_number c) (net.last_number c) refl))

-- for the first time
pub first_up : (lists : Lists) (p : Pricing) (numbering : Numbering) → IsNumbering lists numbering → LimitsGoByDevices lists p.limits →
    (limits : Limits) (c : ℕ) (r : RelayValue) →
    p.limits c no_changes ≡ Some limits → RelayComesBack p.steps limits 0 0 0 (replicate most_nodes 0) limits r →
    RelayIs p numbering (start_network p) c r
first_up lists p numbering is alike limits c r limited back =
    comes_up lists p numbering is alike (start_network p) limits limits c 0 0 0 (replicate most_nodes 0) r limited back (λ x node up. refl) refl
    (length-replicate {A = ℕ} most_nodes 0)
    (λ k inside. get_or-replicate most_nodes k 0 0 (omega (arith, inside, length-replicate {A = ℕ} most_nodes 0))
    ∙ sym (zero_in lists p numbering is c k inside))
    refl refl refl (omega arith) (sym limited)

-- and after a restart
pub back_up : (lists : Lists) (p : Pricing) (numbering : Numbering) → IsNumbering lists numbering → LimitsGoByDevices lists p.limits →
    (net : Network) (limits under : Limits) (c k : ℕ)
    (old new : RelayValue) → p.limits c no_changes ≡ Some limits → MatchesNode p numbering net c old →
    Some under ≡ limits_of_number old (newest_bid_number old) → (stored_price net c k).number ≤ net.last_number c →
    RelayComesBack p.steps limits (newest_bid_number old) (stored_price net c k).number (stored_price net c k).index old.recorded under new →
    RelayIs p numbering (after_restart lists p net c k) c new
back_up lists p numbering is alike net limits under c k old new limited m under_is within back =
    comes_up lists p numbering is alike (after_restart lists p net c k) limits under c (newest_bid_number old) (stored_price net c k).number
    (stored_price net c k).index
    old.recorded new limited back
    (λ x node up. cond-true (eqb (parent lists x) c) (nothing_heard p) (net.heard x) (eq-eqb (parent lists x) c up))
    m.newest m.children
    (λ i inside. m.recorded i inside ∙ same_numbers numbering c i (net.records c (net.last_number c))
    ((after_restart lists p net c k).records c (net.last_number c)) inside (λ x. sym (numbers_left lists p net c k x)))
    (sym (updated_same net.answered c (stored_price net c k).number))
    (sym (ap (λ (q : PriceMessage). q.index) (updated_same net.taken c (stored_price net c k))))
    (omega (arith, m.newest, updated_same net.whole_from c (net.last_number c + 1)))
    (omega (arith, within, m.newest))
    (under_is ∙ ap (limits_of_number old) m.newest ∙ m.newest_under
    ∙ alike c (numbers_of (net.records c (net.last_number c))) (numbers_of ((after_restart lists p net c k).records c (net.last_number c)))
    (λ x node leaf up. sym (numbers_left lists p net c k x)))
