-- The bill of a plan adds up: what all devices and the grid pay comes to 0, and so does what they take less what they give.
use Rattle.std.proofs.Common.{◌≡◌, ◌∙◌, sym, ap, refl, ℕ, ◌+◌, ℤ, pos, neg_ℤ, ◌+ℤ◌, ◌*ℤ◌, Bool, true, false}
use Rattle.std.proofs.Common.{cond, List, [], ◌∷◌, length, map, arith, inl, inr}
use Rattle.std.specs.Prelude.{filter}
use Rattle.std.proofs.Math.IntN.{zero-*ℤ}
use Rattle.std.proofs.Math.ListN.{get_or-eq_default}
use Rattle.std.proofs.lemmas.Bool.{cond-true, cond-false, cases_lt}
use Rattle.std.proofs.lemmas.Int.{ints}
use Rattle.std.proofs.lemmas.List.{length-map}
use Rattle.std.proofs.lemmas.List.FromFn.{length-range_with_len}
use Rattle.pm_base.specs.Cuts.{Cut}
use Rattle.pm_tree.specs.Entries.{leaves_of}
use Rattle.pm_tree.proofs.Named.{length-leaves_of}
use Rattle.pm_plan.specs.Plans.{PlanData, is_leaf, node_numbers}
use Rattle.pm_plan.specs.Kept.{IsPlan}
use Rattle.pm_bill.specs.declared.account.Account.{Account}
use Rattle.pm_bill.specs.declared.share.Share.{Share}
use Rattle.pm_bill.specs.Accounts.{no_account, account_at, account_sum, account_total, net_taken}
use Rattle.pm_bill.specs.Shares.{sum_each, share_cost, group_cost, account_of_share, account_of_grid}
use Rattle.pm_bill.specs.Bills.{AddsUp}
use Rattle.pm_bill.specs.Runs.{tick_minutes, cut_before, device_share, device_shares, group_sums, device_gain, grid_gain, node_account, bill_over}
use Rattle.pm_bill.specs.Runs.{plan_bill, tick_phases}
use Rattle.pm_bill.proofs.Products.{sum-times}
use Rattle.pm_bill.proofs.AccountSums.{net_taken-account_sum, net_taken-account_of}
use Rattle.pm_bill.proofs.NodeSums.{sum_each-map, sum_each-same}
use Rattle.pm_bill.proofs.GroupShares.{groups_cost, shares_cost}
use Rattle.pm_bill.proofs.Charged.{other_is_no_member}
use Rattle.pm_bill.proofs.RunBills.{account_of_number}
use Rattle.pm_bill.proofs.Ticks.{neg-times, leaf_has_account}

-- a sum of sums
sum_each-add : {X : Type 0} (f g : X → ℤ) (xs : List X) → sum_each (λ x. f x +ℤ g x) xs ≡ sum_each f xs +ℤ sum_each g xs
sum_each-add f g [] = omega (arith, ints)
sum_each-add f g (x ∷ xs) = let rest = sum_each-add f g xs in omega (arith, ints, rest)

-- what passes a test, each times a number
sum_each-times : (f : ℕ → ℤ) (p : ℕ → Bool) (m : ℤ) (xs : List ℕ) →
    sum_each (λ x. cond (p x) (f x *ℤ m) (pos 0)) xs ≡ sum_each f (filter p xs) *ℤ m
sum_each-times f p m [] = sym (zero-*ℤ m)
sum_each-times f p m (x ∷ xs) =
    ap (λ z. cond (p x) (f x *ℤ m) (pos 0) +ℤ z) (sum_each-times f p m xs) ∙ where_it_is (p x)
  where
    where_it_is : (b : Bool) → cond b (f x *ℤ m) (pos 0) +ℤ (sum_each f (filter p xs) *ℤ m)
        ≡ sum_each f (cond b (x ∷ filter p xs) (filter p xs)) *ℤ m
    where_it_is true = sym (sum-times (f x) (sum_each f (filter p xs)) m)
    where_it_is false = omega (arith, ints)

module _ (plan : PlanData) (is : IsPlan plan) where
  -- the account of a device is the sum of its gains
  pub account-device : (ticks : List ℕ) (d : ℕ) → is_leaf plan d ≡ true →
      account_at (bill_over plan ticks).accounts d ≡ account_total (map (device_gain plan d) ticks)
  unfolding bill_over node_account
  account-device ticks d leaf =
      let inside = leaf_has_account (leaves_of plan.entries) d leaf in
      account_of_number (node_account plan ticks) (length plan.nodes) d (omega (arith, inside, length-leaves_of plan.entries, is.nodes.one_each))
      ∙ cond-true (is_leaf plan d) (account_total (map (device_gain plan d) ticks)) no_account leaf

  -- no other node has anything on its account
  others : (ticks : List ℕ) (x : ℕ) → is_leaf plan x ≡ false → account_at (bill_over plan ticks).accounts x ≡ no_account
  unfolding bill_over node_account
  others ticks x other = elim (cases_lt x (length plan.nodes + 1)) [
    | inl inside ↦
        account_of_number (node_account plan ticks) (length plan.nodes) x inside
        ∙ cond-false (is_leaf plan x) (account_total (map (device_gain plan x) ticks)) no_account other
    | inr outside ↦
        get_or-eq_default (map (node_account plan ticks) (0 ∷ node_numbers plan)) no_account
        (omega (arith, length-map (0 ∷ node_numbers plan) (node_account plan ticks), length-range_with_len 1 (length plan.nodes), outside))
  ]

  -- a part of an account that is added where accounts are, as the amount, and what was taken less what was given
  module _ (part : Account → ℤ) (none : part no_account ≡ pos 0)
      (adds : (one other : Account) → part (account_sum one other) ≡ part one +ℤ part other) where
    more : (leaf : Bool) (gain total : Account) →
        part (cond leaf (account_sum gain total) no_account) ≡ cond leaf (part gain) (pos 0) +ℤ part (cond leaf total no_account)
    more true gain total = adds gain total
    more false gain total = omega (arith, ints, none)

    nobody : (leaf : Bool) → part (cond leaf no_account no_account) ≡ pos 0
    nobody true = none
    nobody false = none

    none_each : (xs : List ℕ) → sum_each (λ x. part (node_account plan [] x)) xs ≡ pos 0
    unfolding node_account
    none_each [] = refl
    none_each (x ∷ xs) = let rest = none_each xs in let here = nobody (is_leaf plan x) in omega (arith, ints, rest, here)

    more_each : (p : ℕ) (ticks xs : List ℕ) → sum_each (λ x. part (node_account plan (p ∷ ticks) x)) xs
        ≡ sum_each (λ x. cond (is_leaf plan x) (part (device_gain plan x p)) (pos 0)) xs +ℤ sum_each (λ x. part (node_account plan ticks x)) xs
    unfolding node_account
    more_each p ticks [] = omega (arith, ints)
    more_each p ticks (x ∷ xs) =
        let rest = more_each p ticks xs in
        let here = more (is_leaf plan x) (device_gain plan x p) (account_total (map (device_gain plan x) ticks)) in
        omega (arith, ints, rest, here)

    -- where each tick phase comes to 0 over all nodes and the grid, so do all together
    comes_to_nothing : (xs : List ℕ) → ((p : ℕ) → sum_each (λ x. cond (is_leaf plan x) (part (device_gain plan x p)) (pos 0)) xs
        +ℤ part (grid_gain plan p) ≡ pos 0) → (ticks : List ℕ) →
        sum_each (λ x. part (node_account plan ticks x)) xs +ℤ part (account_total (map (grid_gain plan) ticks)) ≡ pos 0
    comes_to_nothing xs each [] = let rest = none_each xs in omega (arith, ints, rest, none)
    comes_to_nothing xs each (p ∷ ticks) =
        let rest = comes_to_nothing xs each ticks in
        let here = each p in
        let nodes = more_each p ticks xs in
        let grid = adds (grid_gain plan p) (account_total (map (grid_gain plan) ticks)) in
        omega (arith, ints, rest, here, nodes, grid)

  -- ---- one tick phase

  -- the auctioneer and all nodes, and the devices
  abbrev nodes : List ℕ
  nodes = 0 ∷ node_numbers plan

  abbrev devices : List ℕ
  devices = filter (is_leaf plan) (node_numbers plan)

  tick_amounts : (p : ℕ) → sum_each (λ x. cond (is_leaf plan x) (device_gain plan x p).amount (pos 0)) nodes +ℤ (grid_gain plan p).amount ≡ pos 0
  unfolding device_gain grid_gain account_of_grid
  tick_amounts p =
      let cut : Cut = cut_before plan p in
      let minutes : ℤ = tick_minutes plan p in
      let cost : ℕ → ℤ = λ x. share_cost (device_share plan cut x) in
      let groups : ℤ = sum_each group_cost (group_sums plan cut) in
      let each = sum_each-times cost (is_leaf plan) minutes nodes in
      let same : sum_each cost devices ≡ groups =
      sym (sum_each-map share_cost (device_share plan cut) devices)
      ∙ shares_cost plan cut (is_leaf plan) (λ d other. other_is_no_member plan cut is d other)
      ∙ sym (groups_cost plan cut is) in
      omega (arith, ints, each, ap (λ z. z *ℤ minutes) same, neg-times groups minutes)

  tick_powers : (p : ℕ) →
      sum_each (λ x. cond (is_leaf plan x) (net_taken (device_gain plan x p)) (pos 0)) nodes +ℤ net_taken (grid_gain plan p) ≡ pos 0
  unfolding device_gain grid_gain account_of_grid
  tick_powers p =
      let cut : Cut = cut_before plan p in
      let minutes : ℤ = tick_minutes plan p in
      let watts : ℕ → ℤ = λ x. (device_share plan cut x).power in
      let all : ℤ = sum_each (λ (share : Share). share.power) (device_shares plan cut) in
      let own = sum_each-same (λ x. cond (is_leaf plan x) (net_taken (account_of_share minutes (device_share plan cut x))) (pos 0))
      (λ x. cond (is_leaf plan x) (watts x *ℤ minutes) (pos 0)) nodes
      (λ x. ap (λ z. cond (is_leaf plan x) z (pos 0)) (net_taken-account_of minutes (share_cost (device_share plan cut x)) (watts x))) in
      let each = sum_each-times watts (is_leaf plan) minutes nodes in
      let same : sum_each watts devices ≡ all = sym (sum_each-map (λ (share : Share). share.power) (device_share plan cut) devices) in
      let grid = net_taken-account_of minutes (neg_ℤ (sum_each group_cost (group_sums plan cut))) (neg_ℤ all) in
      omega (arith, ints, own, each, ap (λ z. z *ℤ minutes) same, grid, neg-times all minutes)

  -- the bill of tick phases adds up
  adds_up_over : (ticks : List ℕ) → AddsUp (bill_over plan ticks)
  unfolding bill_over
  adds_up_over ticks = record {
    amounts =
        ap (λ z. z +ℤ (account_total (map (grid_gain plan) ticks)).amount)
        (sum_each-map (λ (account : Account). account.amount) (node_account plan ticks) nodes)
        ∙ comes_to_nothing (λ (account : Account). account.amount) refl (λ one other. refl) nodes tick_amounts ticks;
    powers =
        ap (λ z. z +ℤ net_taken (account_total (map (grid_gain plan) ticks))) (sum_each-map net_taken (node_account plan ticks) nodes)
        ∙ comes_to_nothing net_taken refl net_taken-account_sum nodes tick_powers ticks;
    others = λ x other. others ticks x other;
  }

  -- the bill of a plan adds up
  pub bills_add_up : AddsUp (plan_bill plan)
  bills_add_up = adds_up_over (tick_phases plan)
