-- The bill of tick phases, to which one more is added.
use Rattle.std.proofs.Common.{◌≡◌, ◌∙◌, sym, ap, subst, ℕ, zero, suc, ◌+◌, ◌-◌, ◌≤◌, ◌<◌, ℤ, ◌+ℤ◌, Bool, true, false}
use Rattle.std.proofs.Common.{cond, List, [], ◌∷◌, ◌++◌}
use Rattle.std.proofs.Common.{length, map, get_or, refl, arith, length-append, neg_ℤ}
use Rattle.std.specs.Prelude.{filter, is_some, unwrap_or, not, Some, pos}
use Rattle.std.specs.List.{range_with_len}
use Rattle.std.proofs.lemmas.Bool.{cond-true, cond-false}
use Rattle.std.proofs.lemmas.List.{ext_get_or, map-append, length-map, length-replicate, get_or-map, append-nil}
use Rattle.std.proofs.lemmas.List.Elements.{filter-append}
use Rattle.std.proofs.lemmas.List.Filters.{length-filter_both}
use Rattle.std.proofs.lemmas.List.FromFn.{get_or-range_with_len, length-range_with_len}
use Rattle.pm_base.proofs.Lists.{range_with_len-more, get_or-replicate_same}
use Rattle.pm_tree.specs.Entries.{leaves_of}
use Rattle.pm_tree.proofs.Named.{length-leaves_of}
use Rattle.pm_plan.specs.Kept.{IsPlan}
use Rattle.pm_plan.specs.Plans.{PlanData, is_leaf, node_numbers, minutes_of}
use Rattle.pm_bill.specs.declared.account.Account.{Account}
use Rattle.pm_bill.specs.declared.share.Share.{Share}
use Rattle.pm_bill.specs.declared.share.GroupSum.{GroupSum}
use Rattle.pm_bill.specs.Accounts.{no_account, account_at, account_sum, account_total, account_of}
use Rattle.pm_bill.specs.Shares.{sum_each, group_cost, shares_of, account_of_share, account_of_shares, account_of_grid}
use Rattle.pm_bill.specs.Bills.{BillData, new_bill}
use Rattle.pm_bill.specs.Ticks.{TickData, IsTicked}
use Rattle.pm_bill.specs.Runs.{tick_minutes, cut_before, device_share, group_sums, device_gain, grid_gain, node_account, bill_over}
use Rattle.pm_bill.specs.Charges.{AreCharges}
use Rattle.pm_bill.proofs.AccountSums.{account_sum_assoc, account_sum-none, none-account_sum}
use Rattle.pm_bill.proofs.ShareSums.{sum_each-push}

-- ---- tick phases

-- whether a phase is a tick
abbrev pub is_tick : PlanData → ℕ → Bool
is_tick plan p = is_some (minutes_of plan p)

-- the tick phases among the first k phases
abbrev pub ticks_to : PlanData → ℕ → List ℕ
ticks_to plan k = filter (is_tick plan) (range_with_len 1 k)

next_phase : (plan : PlanData) (p : ℕ) → 1 ≤ p → ticks_to plan p ≡ ticks_to plan (p - 1) ++ filter (is_tick plan) (p ∷ [])
next_phase plan p first =
    let before : p ≡ (p - 1) + 1 = omega arith in
    let here : 1 + (p - 1) ≡ p = omega arith in
    ap (ticks_to plan) before
    ∙ ap (filter (is_tick plan)) (range_with_len-more 1 (p - 1))
    ∙ filter-append (is_tick plan) (range_with_len 1 (p - 1)) ((1 + (p - 1)) ∷ [])
    ∙ ap (λ k. ticks_to plan (p - 1) ++ filter (is_tick plan) (k ∷ [])) here

-- one more phase is a tick, or none
pub one_more_tick : (plan : PlanData) (p : ℕ) → 1 ≤ p → is_tick plan p ≡ true → ticks_to plan p ≡ ticks_to plan (p - 1) ++ p ∷ []
one_more_tick plan p first tick =
    next_phase plan p first ∙ ap (λ more. ticks_to plan (p - 1) ++ more) (cond-true (is_tick plan p) (p ∷ []) [] tick)

-- a phase of events adds none
pub no_more_tick : (plan : PlanData) (p : ℕ) → 1 ≤ p → is_tick plan p ≡ false → ticks_to plan p ≡ ticks_to plan (p - 1)
no_more_tick plan p first events =
    next_phase plan p first
    ∙ ap (λ more. ticks_to plan (p - 1) ++ more) (cond-false (is_tick plan p) (p ∷ []) [] events)
    ∙ append-nil (ticks_to plan (p - 1))

-- there are no more tick phases than phases
pub few_ticks : (plan : PlanData) (k : ℕ) → length (ticks_to plan k) ≤ k
few_ticks plan k =
    let both = length-filter_both (is_tick plan) (λ p. not (is_tick plan p)) (λ p. refl) (range_with_len 1 k) in
    let long = length-range_with_len 1 k in
    omega (arith, both, long)

-- ---- one more tick phase

-- the sum of accounts and one account more
pub account_total-push : (accounts : List Account) (account : Account) →
    account_total (accounts ++ account ∷ []) ≡ account_sum (account_total accounts) account
account_total-push [] account = account_sum-none account ∙ sym (none-account_sum account)
account_total-push (first ∷ accounts) account =
    ap (account_sum first) (account_total-push accounts account) ∙ sym (account_sum_assoc first (account_total accounts) account)

-- the sum of what each phase gives, and what one phase more gives
total_more : (gain : ℕ → Account) (ticks : List ℕ) (p : ℕ) → account_total (map gain (ticks ++ p ∷ []))
    ≡ account_sum (account_total (map gain ticks)) (gain p)
total_more gain ticks p = ap account_total (map-append gain ticks (p ∷ [])) ∙ account_total-push (map gain ticks) (gain p)

minutes_are : (plan : PlanData) (p : ℕ) (minutes : ℤ) → minutes_of plan p ≡ Some minutes → tick_minutes plan p ≡ minutes
minutes_are plan p minutes some = ap (λ given. unwrap_or given (pos 0)) some

gained : (leaf : Bool) (before gain : Account) →
    account_sum (cond leaf before no_account) (cond leaf gain no_account) ≡ cond leaf (account_sum before gain) no_account
gained true before gain = refl
gained false before gain = none-account_sum no_account

node_gains : (plan : PlanData) (ticks : List ℕ) (p x : ℕ) (minutes : ℤ) → minutes_of plan p ≡ Some minutes →
    account_sum (node_account plan ticks x) (cond (is_leaf plan x) (account_of_share minutes (device_share plan (cut_before plan p) x)) no_account)
    ≡ node_account plan (ticks ++ p ∷ []) x
unfolding node_account device_gain
node_gains plan ticks p x minutes some =
    let total = account_total (map (device_gain plan x) ticks) in
    let gain : ℤ → Account = λ m. account_of_share m (device_share plan (cut_before plan p) x) in
    gained (is_leaf plan x) total (gain minutes)
    ∙ ap (λ m. cond (is_leaf plan x) (account_sum total (gain m)) no_account) (sym (minutes_are plan p minutes some))
    ∙ ap (λ account. cond (is_leaf plan x) account no_account) (sym (total_more (device_gain plan x) ticks p))

grid_gains : (plan : PlanData) (ticks : List ℕ) (p : ℕ) (minutes : ℤ) (shares : List Share) (groups : List GroupSum) →
    minutes_of plan p ≡ Some minutes →
    AreCharges plan (cut_before plan p) shares groups →
    account_sum (account_total (map (grid_gain plan) ticks)) (account_of_grid minutes shares groups)
    ≡ account_total (map (grid_gain plan) (ticks ++ p ∷ []))
unfolding grid_gain account_of_grid
grid_gains plan ticks p minutes shares groups some are =
    let total = account_total (map (grid_gain plan) ticks) in
    let power = sum_each (λ (share : Share). share.power) in
    ap (λ m. account_sum total (account_of m (neg_ℤ (sum_each group_cost groups)) (neg_ℤ (power shares)))) (sym (minutes_are plan p minutes some))
    ∙ ap (λ z. account_sum total (account_of (tick_minutes plan p) (neg_ℤ z) (neg_ℤ (power shares)))) are.cost
    ∙ ap (λ z. account_sum total (account_of (tick_minutes plan p) (neg_ℤ (sum_each group_cost (group_sums plan (cut_before plan p))))
    (neg_ℤ z))) are.power
    ∙ sym (total_more (grid_gain plan) ticks p)

-- the number of a node stands at its place
number_at : (n i d : ℕ) → i < n + 1 → get_or (0 ∷ range_with_len 1 n) i d ≡ i
number_at n zero d inside = refl
number_at n (suc i) d inside = get_or-range_with_len 1 n i d (omega arith) ∙ (let next : 1 + i ≡ suc i = omega arith in next)

-- the account of a node, where a function gives each
pub account_of_number : (f : ℕ → Account) (n i : ℕ) → i < n + 1 → account_at (map f (0 ∷ range_with_len 1 n)) i ≡ f i
account_of_number f n i inside =
    let long = length-range_with_len 1 n in
    get_or-map f (0 ∷ range_with_len 1 n) i 0 no_account (omega arith) ∙ ap f (number_at n i 0 inside)

-- a tick of these parts
abbrev pub tick_of : List Share → List GroupSum → ℤ → TickData
tick_of shares groups minutes = record { shares = shares; groups = groups; minutes = minutes }

abbrev made : List Bool → List Account → Account → ℕ → ℤ → BillData
made leaves accounts grid ticks minutes = record { leaves = leaves; accounts = accounts; grid = grid; ticks = ticks; minutes = minutes }

-- bills of the same parts are one
same_bill : (one other : BillData) → one.leaves ≡ other.leaves → one.accounts ≡ other.accounts → one.grid ≡ other.grid →
    one.ticks ≡ other.ticks → one.minutes ≡ other.minutes → one ≡ other
same_bill one other leaves accounts grid ticks minutes =
    ap (λ it. made it one.accounts one.grid one.ticks one.minutes) leaves
    ∙ ap (λ it. made other.leaves it one.grid one.ticks one.minutes) accounts
    ∙ ap (λ it. made other.leaves other.accounts it one.ticks one.minutes) grid
    ∙ ap (λ it. made other.leaves other.accounts other.grid it one.minutes) ticks
    ∙ ap (λ it. made other.leaves other.accounts other.grid other.ticks it) minutes

accounts_after : (plan : PlanData) (ticks : List ℕ) (p : ℕ) (minutes : ℤ) (shares : List Share) (groups : List GroupSum) (new : BillData) →
    minutes_of plan p ≡ Some minutes → AreCharges plan (cut_before plan p) shares groups →
    IsTicked (tick_of shares groups minutes) (bill_over plan ticks) new →
    new.accounts ≡ map (node_account plan (ticks ++ p ∷ [])) (0 ∷ node_numbers plan)
unfolding bill_over
accounts_after plan ticks p minutes shares groups new some are ticked =
    let n = length plan.nodes in
    let nodes = 0 ∷ node_numbers plan in
    let before = length-map nodes (node_account plan ticks) in
    let after = length-map nodes (node_account plan (ticks ++ p ∷ [])) in
    let long = length-range_with_len 1 n in
    ext_get_or no_account _ _ (ticked.one_each ∙ before ∙ sym after) (λ i inside.
    let within : i < n + 1 = omega (arith, ticked.one_each, before, long) in
    ticked.accounts i
    ∙ ap (λ account. account_sum account (account_of_shares minutes (shares_of i shares))) (account_of_number (node_account plan ticks) n i within)
    ∙ ap (account_sum (node_account plan ticks i)) (are.own minutes i)
    ∙ node_gains plan ticks p i minutes some
    ∙ sym (account_of_number (node_account plan (ticks ++ p ∷ [])) n i within))

-- the bill of tick phases after one more tick is that of one phase more
pub next_bill : (plan : PlanData) (ticks : List ℕ) (p : ℕ) (minutes : ℤ) (shares : List Share) (groups : List GroupSum) (old new : BillData) →
    old ≡ bill_over plan ticks → minutes_of plan p ≡ Some minutes → AreCharges plan (cut_before plan p) shares groups →
    IsTicked (tick_of shares groups minutes) old new → new ≡ bill_over plan (ticks ++ p ∷ [])
unfolding bill_over
next_bill plan ticks p minutes shares groups old new so_far some are ticked =
    let from : IsTicked (tick_of shares groups minutes) (bill_over plan ticks) new =
    subst (λ bill. IsTicked (tick_of shares groups minutes) bill new) so_far ticked in
    same_bill new (bill_over plan (ticks ++ p ∷ []))
    from.leaves
    (accounts_after plan ticks p minutes shares groups new some are from)
    (from.grid ∙ grid_gains plan ticks p minutes shares groups some are)
    (from.ticks ∙ sym (length-append ticks (p ∷ [])))
    (from.minutes
    ∙ ap (λ m. sum_each (tick_minutes plan) ticks +ℤ m) (sym (minutes_are plan p minutes some))
    ∙ sym (sum_each-push (tick_minutes plan) ticks p))

-- ---- no tick phase yet

nothing : (b : Bool) → cond b no_account no_account ≡ no_account
nothing true = refl
nothing false = refl

none_on_account : (plan : PlanData) (x : ℕ) → node_account plan [] x ≡ no_account
unfolding node_account
none_on_account plan x = nothing (is_leaf plan x)

-- a bill before its first tick is that of no tick phase
pub first_bill : (plan : PlanData) → IsPlan plan → new_bill (leaves_of plan.entries) ≡ bill_over plan []
unfolding bill_over
first_bill plan is =
    let n = length plan.nodes in
    let nodes = 0 ∷ node_numbers plan in
    let leaves = length-leaves_of plan.entries in
    let made = length-replicate (length (leaves_of plan.entries) + 1) no_account in
    let after = length-map nodes (node_account plan []) in
    let long = length-range_with_len 1 n in
    same_bill (new_bill (leaves_of plan.entries)) (bill_over plan []) refl
    (ext_get_or no_account _ _ (omega (arith, leaves, made, after, long, is.nodes.one_each)) (λ i inside.
    get_or-replicate_same (length (leaves_of plan.entries) + 1) i no_account
    ∙ sym (account_of_number (node_account plan []) n i (omega (arith, leaves, made, is.nodes.one_each)) ∙ none_on_account plan i)))
    refl refl refl

-- ---- parts of the bill of tick phases

-- the devices of such a bill
pub bill_over-leaves : (plan : PlanData) (ticks : List ℕ) → (bill_over plan ticks).leaves ≡ leaves_of plan.entries
unfolding bill_over
bill_over-leaves plan ticks = refl

-- the number of its ticks
pub bill_over-ticks : (plan : PlanData) (ticks : List ℕ) → (bill_over plan ticks).ticks ≡ length ticks
unfolding bill_over
bill_over-ticks plan ticks = refl
