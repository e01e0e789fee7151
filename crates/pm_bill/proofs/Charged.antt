-- The shares of the members of a cut, and the sums of its groups, charge all devices and the grid as the cut does.
use Rattle.std.proofs.Common.{◌≡◌, ◌≢◌, ◌∙◌, sym, ap, ℕ, zero, suc, ◌+◌, ◌*◌, ◌≤◌, ◌<◌, ℤ, pos, ◌-ℤ◌, ◌*ℤ◌}
use Rattle.std.proofs.Common.{Bool, true, false, cond, eqb, List}
use Rattle.std.proofs.Common.{[], ◌∷◌, ◌++◌, length, map, get_or, refl, arith, inl, inr}
use Rattle.std.specs.Prelude.{All, filter, ◌==◌, ◌&&◌, not}
use Rattle.std.specs.List.{AllPairs, range_with_len}
use Rattle.std.proofs.Math.IntN.{*ℤ_comm, zero-*ℤ}
use Rattle.std.proofs.lemmas.Bool.{cases_Bool, cases_eq, cases_lt, cond-true, cond-false, eq-eqb, ne_eqb, both_ways}
use Rattle.std.proofs.lemmas.Int.{ints}
use Rattle.std.proofs.lemmas.List.{length-map, get_or-map}
use Rattle.std.proofs.lemmas.List.Elements.{All-map, All-head, All-tail, All-nil, All-weaker, filter_passes, filter-append}
use Rattle.std.proofs.lemmas.List.Filters.{length-filter_both}
use Rattle.std.proofs.lemmas.List.FromFn.{get_or-range_with_len, length-range_with_len}
use Rattle.std.proofs.lemmas.List.Kept.{AllPairs-filter}
use Rattle.pm_base.specs.Cuts.{Cut}
use Rattle.pm_base.specs.Limits.{IsWithin, price_limit, demand_limit, sum_limit}
use Rattle.pm_base.proofs.Lists.{range_with_len-more}
use Rattle.pm_base.proofs.Ints.{none-within}
use Rattle.pm_basis.specs.Prices.{BasisValue, IsBasis, price_at}
use Rattle.pm_basis.proofs.Rises.{rise_from, rise_to}
use Rattle.pm_market.specs.Offers.{int_sum_to}
use Rattle.pm_tree.specs.Entries.{leaves_of}
use Rattle.pm_plan.specs.Plans.{PlanData, is_leaf, is_member, is_limited, group, node_numbers, change_count, end_cut}
use Rattle.pm_plan.specs.Kept.{IsPlan}
use Rattle.pm_plan.specs.Auction.{limited_nodes, local_step_in, power}
use Rattle.pm_plan.specs.States.{state}
use Rattle.pm_plan.proofs.Ends.{end-none}
use Rattle.pm_plan.proofs.Fits.{power-within}
use Rattle.pm_plan.proofs.Leaves.{first_of, last_of}
use Rattle.pm_plan.proofs.PublicLaws.{leaves}
use Rattle.pm_offer.proofs.Sums.{sum_zeros}
use Rattle.pm_offer.proofs.Steps.{no_member}
use Rattle.pm_offer.proofs.GroupPowers.{step_of}
use Rattle.pm_offer.proofs.LocalSteps.{group_step_inside}
use Rattle.pm_bill.specs.declared.account.Account.{Account}
use Rattle.pm_bill.specs.declared.share.Share.{Share}
use Rattle.pm_bill.specs.declared.share.GroupSum.{GroupSum}
use Rattle.pm_bill.specs.Accounts.{no_account, account_of}
use Rattle.pm_bill.specs.Shares.{shares_of, account_of_share, account_of_shares, AreShares, AreGroups}
use Rattle.pm_bill.specs.Runs.{device_share, group_sum, group_sums}
use Rattle.pm_bill.specs.Charges.{AreCharges}
use Rattle.pm_bill.proofs.AccountSums.{same_account, account_sum-none}
use Rattle.pm_bill.proofs.GroupShares.{no_power, group_price, power_in_group, groups_power, groups_cost, no_cost, shares_power, shares_cost}
use Rattle.pm_base.proofs.Filters.{filter-map, filter_twice}
use Rattle.pm_bill.proofs.EndCharges.{members}

-- ---- the share of one node

filter_none : {X : Type 0} (p : X → Bool) (xs : List X) → All (λ x. p x ≡ false) xs → filter p xs ≡ []
filter_none p [] none = refl
filter_none p (x ∷ xs) none =
    cond-false (p x) (x ∷ filter p xs) (filter p xs) (All-head (λ y. p y ≡ false) x xs none)
    ∙ filter_none p xs (All-tail (λ y. p y ≡ false) x xs none)

no_other : (p : ℕ → Bool) (x d : ℕ) → (d ≡ x → ⊥) → (d == x && p d) ≡ false
no_other p x d other = ap (λ b. b && p d) (ne_eqb d x other)

-- of the nodes that pass a test none is one that does not pass it
none_of_it : (p : ℕ → Bool) (x : ℕ) (xs : List ℕ) → p x ≡ false → filter (λ d. d == x) (filter p xs) ≡ []
none_of_it p x xs out =
    filter_twice (λ d. d == x) p xs
    ∙ filter_none (λ d. d == x && p d) xs (λ i e inside. elim (cases_eq (get_or xs i e) x) [
      | inl same ↦ ap (λ b. (get_or xs i e == x) && b) (ap p same ∙ out) ∙ and_false (get_or xs i e == x)
      | inr other ↦ no_other p x (get_or xs i e) other
    ])
  where
    and_false : (b : Bool) → (b && false) ≡ false
    and_false true = refl
    and_false false = refl

earlier_nodes : (p : ℕ → Bool) (n x : ℕ) → n < x → All (λ d. (d == x && p d) ≡ false) (range_with_len 1 n)
earlier_nodes p n x later i e inside =
    let long = length-range_with_len 1 n in
    let here = get_or-range_with_len 1 n i e (omega arith) in
    no_other p x (get_or (range_with_len 1 n) i e) (λ same. omega arith)

-- one that passes it stands among them once
once : (p : ℕ → Bool) (n x : ℕ) → p x ≡ true → 1 ≤ x → x ≤ n → filter (λ d. d == x && p d) (range_with_len 1 n) ≡ x ∷ []
once p zero x kept one inside = absurd (omega arith)
once p (suc n) x kept one inside =
    let test : ℕ → Bool = λ d. d == x && p d in
    let m : suc n ≡ n + 1 = omega arith in
    let parts : filter test (range_with_len 1 (suc n)) ≡ filter test (range_with_len 1 n) ++ filter test ((1 + n) ∷ []) =
    ap (λ k. filter test (range_with_len 1 k)) m
    ∙ ap (filter test) (range_with_len-more 1 n)
    ∙ filter-append test (range_with_len 1 n) ((1 + n) ∷ []) in
    elim (cases_lt n x) [
      | inl later ↦
          let here : 1 + n ≡ x = omega arith in
          let passes : test x ≡ true = ap (λ b. b && p x) (eq-eqb x x refl) ∙ kept in
          parts
          ∙ ap (λ xs. xs ++ filter test ((1 + n) ∷ [])) (filter_none test (range_with_len 1 n) (earlier_nodes p n x later))
          ∙ ap (λ k. filter test (k ∷ [])) here
          ∙ cond-true (test x) (x ∷ []) [] passes
      | inr earlier ↦
          let fails : test (1 + n) ≡ false = no_other p x (1 + n) (λ same. omega arith) in
          parts
          ∙ ap (λ xs. xs ++ filter test ((1 + n) ∷ [])) (once p n x kept one earlier)
          ∙ ap (λ xs. x ∷ xs) (cond-false (test (1 + n)) ((1 + n) ∷ []) [] fails)
    ]

-- only a device is a member
pub other_is_no_member : (plan : PlanData) (cut : Cut) → IsPlan plan → (x : ℕ) → is_leaf plan x ≡ false → is_member plan x (cut x) ≡ false
other_is_no_member plan cut is x other = no_member plan is x (cut x) (leaves plan x ∙ other)

member_is_leaf : (plan : PlanData) (cut : Cut) → IsPlan plan → (x : ℕ) → is_member plan x (cut x) ≡ true → is_leaf plan x ≡ true
member_is_leaf plan cut is x member = elim (cases_Bool (is_leaf plan x)) [
  | inl leaf ↦ leaf
  | inr other ↦ absurd (both_ways (is_member plan x (cut x)) (other_is_no_member plan cut is x other) member)
]

-- a share without power is nothing on the account
no_gain : (minutes : ℤ) (share : Share) → share.power ≡ pos 0 → account_of_share minutes share ≡ no_account
no_gain minutes share none =
    ap (λ z. account_of minutes (share.price *ℤ z) z) none
    ∙ same_account _ _
    (ap (λ z. z *ℤ minutes) (*ℤ_comm share.price (pos 0) ∙ zero-*ℤ share.price) ∙ zero-*ℤ minutes)
    (zero-*ℤ minutes) (zero-*ℤ minutes)

either_way : (b : Bool) (one other : Account) → one ≡ other → other ≡ cond b one other
either_way true one other same = sym same
either_way false one other same = refl

absent_account : (plan : PlanData) (cut : Cut) (minutes : ℤ) (x : ℕ) → is_member plan x (cut x) ≡ false →
    no_account ≡ cond (is_leaf plan x) (account_of_share minutes (device_share plan cut x)) no_account
absent_account plan cut minutes x absent =
    either_way (is_leaf plan x) (account_of_share minutes (device_share plan cut x)) no_account
    (no_gain minutes (device_share plan cut x) (no_power plan cut x absent))

own_account : (plan : PlanData) (cut : Cut) → IsPlan plan → (minutes : ℤ) (x : ℕ) →
    account_of_shares minutes (shares_of x (map (device_share plan cut) (members plan cut)))
    ≡ cond (is_leaf plan x) (account_of_share minutes (device_share plan cut x)) no_account
unfolding account_of_shares
own_account plan cut is minutes x =
    let share : ℕ → Share = device_share plan cut in
    let member : ℕ → Bool = λ d. is_member plan d (cut d) in
    let own = filter-map (λ (s : Share). s.node == x) share (members plan cut) in
    elim (cases_Bool (member x)) [
      | inl present ↦
          let leaf = member_is_leaf plan cut is x present in
          let one = filter_twice (λ d. d == x) member (node_numbers plan)
          ∙ once member (length plan.nodes) x present (first_of plan x is leaf) (last_of plan x is leaf) in
          ap (account_of_shares minutes) (own ∙ ap (map share) one)
          ∙ account_sum-none (account_of_share minutes (share x))
          ∙ sym (cond-true (is_leaf plan x) (account_of_share minutes (share x)) no_account leaf)
      | inr absent ↦
          ap (account_of_shares minutes) (own ∙ ap (map share) (none_of_it member x (node_numbers plan) absent))
          ∙ absent_account plan cut minutes x absent
    ]

-- ---- bounds

price_within : (basis : BasisValue) (k : ℕ) → IsBasis basis → k < basis.steps → IsWithin price_limit (price_at basis k)
price_within basis k is inside =
    let least = is.steps.least in
    let range = basis.max -ℤ basis.min in
    let last = pos basis.steps -ℤ pos 1 in
    let low = rise_from (pos k) last range (omega (arith, ints)) (omega (arith, ints)) (omega (arith, ints, is.order)) in
    let high = rise_to (pos k) last range (omega (arith, ints)) (omega (arith, ints)) (omega (arith, ints)) (omega (arith, ints, is.order)) in
    record { low = omega (arith, ints, low, is.low); high = omega (arith, ints, high, is.high) }

group_price_within : (plan : PlanData) (cut : Cut) → IsPlan plan → (g : ℕ) → IsWithin price_limit (group_price plan cut g)
group_price_within plan cut is g = price_within plan.basis (step_of plan cut g) is.basis (group_step_inside plan cut g is)

device_price_within : (plan : PlanData) (cut : Cut) → IsPlan plan → (d : ℕ) → IsWithin price_limit (device_share plan cut d).price
unfolding local_step_in
device_price_within plan cut is d = group_price_within plan cut is (group plan d)

where_within : (limit : ℕ) (b : Bool) (z : ℤ) → IsWithin limit z → IsWithin limit (cond b z (pos 0))
where_within limit true z within = within
where_within limit false z within = none-within limit

sum_to_within : (n limit : ℕ) (f : ℕ → ℤ) → ((x : ℕ) → IsWithin limit (f x)) → IsWithin (n * limit) (int_sum_to n f)
unfolding int_sum_to
sum_to_within zero limit f within = none-within (zero * limit)
sum_to_within (suc n) limit f within =
    let rest = sum_to_within n limit f within in
    let here = within (suc n) in
    let more : suc n * limit ≡ n * limit + limit = omega arith in
    record { low = omega (arith, ints, rest, here, more); high = omega (arith, ints, rest, here, more) }

-- a cut in which no device has made more changes than are planned for it
abbrev pub IsPlanned : PlanData → Cut → Type 0
IsPlanned plan cut = (d : ℕ) → cut d ≤ change_count plan d

group_power_within : (plan : PlanData) (cut : Cut) → IsPlan plan → IsPlanned plan cut → (g : ℕ) → IsWithin sum_limit (group_sum plan cut g).power
group_power_within plan cut is planned g =
    let n = length plan.nodes in
    let within = sum_to_within n demand_limit _ (λ d. where_within demand_limit (eqb (group plan d) g) (power plan (state plan) cut d)
    (power-within plan cut d is (planned d))) in
    let same = power_in_group plan cut g is in
    record { low = omega (arith, ints, within, same, is.nodes.few); high = omega (arith, ints, within, same, is.nodes.few) }

-- ---- charges

pairs-map : {X Y : Type 0} (R : Y → Y → Type 0) (f : X → Y) (xs : List X) (d : X) → AllPairs (λ one other. R (f one) (f other)) xs →
    AllPairs R (map f xs)
pairs-map R f xs d pairs = λ i j e before inside.
    let long = length-map xs f in
    let one = get_or-map f xs i d e (omega arith) in
    let other = get_or-map f xs j d e (omega arith) in
    rw (one, other) (pairs i j d before (omega arith))

different_numbers : (n : ℕ) → AllPairs (λ one other. one ≢ other) (range_with_len 1 n)
different_numbers n = λ i j d before inside.
    let long = length-range_with_len 1 n in
    let one = get_or-range_with_len 1 n i d (omega arith) in
    let other = get_or-range_with_len 1 n j d (omega arith) in
    λ same. omega arith

different_nodes : (plan : PlanData) (cut : Cut) (p : ℕ → Bool) (n : ℕ) →
    AllPairs (λ one other. one.node ≢ other.node) (map (device_share plan cut) (filter p (range_with_len 1 n)))
different_nodes plan cut p n =
    pairs-map (λ (one other : Share). one.node ≢ other.node) (device_share plan cut) (filter p (range_with_len 1 n)) 0
    (AllPairs-filter (λ one other. one ≢ other) p (range_with_len 1 n) (different_numbers n))

shares_are : (plan : PlanData) (cut : Cut) → IsPlan plan → IsPlanned plan cut →
    AreShares (leaves_of plan.entries) (map (device_share plan cut) (members plan cut))
shares_are plan cut is planned =
    let member : ℕ → Bool = λ d. is_member plan d (cut d) in
    record {
      devices =
          All-map (λ (share : Share). is_leaf plan share.node ≡ true) (device_share plan cut) (members plan cut)
          (All-weaker (λ d. member d ≡ true) (λ d. is_leaf plan d ≡ true) (member_is_leaf plan cut is) (members plan cut)
          (filter_passes member (node_numbers plan)));
      different = different_nodes plan cut member (length plan.nodes);
      prices =
          All-map (λ (share : Share). IsWithin price_limit share.price) (device_share plan cut) (members plan cut)
          (λ i d inside. device_price_within plan cut is (get_or (members plan cut) i d));
      powers =
          All-map (λ (share : Share). IsWithin demand_limit share.power) (device_share plan cut) (members plan cut)
          (λ i d inside. power-within plan cut (get_or (members plan cut) i d) is (planned (get_or (members plan cut) i d)));
    }

groups_are : (plan : PlanData) (cut : Cut) → IsPlan plan → IsPlanned plan cut → AreGroups (group_sums plan cut)
groups_are plan cut is planned =
    let gs = 0 ∷ limited_nodes plan in
    record {
      few =
          let lines = length-map gs (group_sum plan cut) in
          let both = length-filter_both (is_limited plan) (λ g. not (is_limited plan g)) (λ g. refl) (node_numbers plan) in
          let long = length-range_with_len 1 (length plan.nodes) in
          omega (arith, lines, both, long, is.nodes.few);
      prices =
          All-map (λ (sum : GroupSum). IsWithin price_limit sum.price) (group_sum plan cut) gs
          (λ i d inside. group_price_within plan cut is (get_or gs i d));
      powers =
          All-map (λ (sum : GroupSum). IsWithin sum_limit sum.power) (group_sum plan cut) gs
          (λ i d inside. group_power_within plan cut is planned (get_or gs i d));
    }

-- the charges of the members and the groups of a cut
pub charges_of : (plan : PlanData) (cut : Cut) → IsPlan plan → IsPlanned plan cut →
    AreCharges plan cut (map (device_share plan cut) (members plan cut)) (group_sums plan cut)
charges_of plan cut is planned =
    let member : ℕ → Bool = λ d. is_member plan d (cut d) in
    let power = shares_power plan cut member (λ d absent. absent) in
    record {
      are_shares = shares_are plan cut is planned;
      are_groups = groups_are plan cut is planned;
      same = record {
        powers = power ∙ sym (groups_power plan cut is);
        costs = shares_cost plan cut member (λ d absent. absent) ∙ sym (groups_cost plan cut is);
      };
      own = own_account plan cut is;
      power = power ∙ sym (shares_power plan cut (is_leaf plan) (other_is_no_member plan cut is));
      cost = refl;
    }

-- no charges, where no device is a member
pub charges_of_none : (plan : PlanData) (cut : Cut) → IsPlan plan → ((d : ℕ) → is_member plan d (cut d) ≡ false) → AreCharges plan cut [] []
unfolding account_of_shares
charges_of_none plan cut is none =
    let n = length plan.nodes in
    record {
      are_shares = record {
        devices = All-nil _;
        different = λ i j d before inside. absurd (omega arith);
        prices = All-nil _;
        powers = All-nil _;
      };
      are_groups = record { few = omega arith; prices = All-nil _; powers = All-nil _ };
      same = record { powers = refl; costs = refl };
      own = λ minutes x. absent_account plan cut minutes x (none x);
      power = sym (shares_power plan cut (is_leaf plan) (other_is_no_member plan cut is)
          ∙ sum_zeros n (power plan (state plan) cut) (λ d one le. no_power plan cut d (none d)));
      cost = sym (groups_cost plan cut is ∙ sum_zeros n _ (λ d one le. no_cost plan cut d (none d)));
    }

-- before the first phase no device is a member
pub none_at_start : (plan : PlanData) → IsPlan plan → (d : ℕ) → is_member plan d (end_cut plan 0 d) ≡ false
unfolding is_member
none_at_start plan is d = ap (is_member plan d) (end-none plan d is.in_phases)
