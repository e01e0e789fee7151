-- The lines of accounts, device by device.
use Rattle.std.proofs.Common.{◌≡◌, ◌∙◌, ap, ℕ, ◌+◌, true, false, List, [], ◌∷◌, ◌++◌, get_or, refl, arith, append_assoc, add-one}
use Rattle.std.proofs.Common.{Bool}
use Rattle.std.specs.Prelude.{filter, flat_map}
use Rattle.std.specs.List.{range_with_len}
use Rattle.std.proofs.lemmas.List.{append-nil}
use Rattle.std.proofs.lemmas.List.Elements.{filter-append}
use Rattle.std.proofs.lemmas.Grind.{flat_map-append}
use Rattle.pm_base.proofs.Lists.{range_with_len-more}
use Rattle.pm_tree.specs.Entries.{leaves_of}
use Rattle.pm_plan.specs.Plans.{PlanData, is_leaf}
use Rattle.pm_bill.specs.declared.account.Account.{Account}
use Rattle.pm_bill.specs.Accounts.{account_at}
use Rattle.pm_bill.specs.Text.{account_line, account_lines, grid_line, ticks_line, devices, bill_text}
use Rattle.pm_bill.specs.Bills.{BillData}

-- the lines of the devices among the first so many nodes
abbrev pub lines_before : PlanData → List Account → ℕ → List ℕ
lines_before plan accounts count = account_lines plan accounts (filter (is_leaf plan) (range_with_len 1 count))

-- no node has no line
pub no_lines : (plan : PlanData) (accounts : List Account) → lines_before plan accounts 0 ≡ []
unfolding account_lines
no_lines plan accounts = refl

-- whether a node is a device, by its place among the nodes
pub is_leaf-at_place : (plan : PlanData) (leaves : List Bool) (place : ℕ) → leaves ≡ leaves_of plan.entries →
    is_leaf plan (place + 1) ≡ get_or leaves place false
is_leaf-at_place plan leaves place are = rw (are, add-one) refl

-- one node more
more_nodes : (plan : PlanData) (count : ℕ) →
    filter (is_leaf plan) (range_with_len 1 (count + 1)) ≡ filter (is_leaf plan) (range_with_len 1 count) ++ filter (is_leaf plan) ((count + 1) ∷ [])
more_nodes plan count =
    let next : 1 + count ≡ count + 1 = omega arith in
    ap (filter (is_leaf plan)) (range_with_len-more 1 count ∙ ap (λ n. range_with_len 1 count ++ n ∷ []) next)
    ∙ filter-append (is_leaf plan) (range_with_len 1 count) ((count + 1) ∷ [])

-- one node more that is a device has a line
pub one_more_line : (plan : PlanData) (accounts : List Account) (count : ℕ) → is_leaf plan (count + 1) ≡ true →
    lines_before plan accounts (count + 1) ≡ lines_before plan accounts count ++ account_line plan (count + 1) (account_at accounts (count + 1))
unfolding account_lines
one_more_line plan accounts count leaf =
    let line = λ (node : ℕ). account_line plan node (account_at accounts node) in
    let one : filter (is_leaf plan) ((count + 1) ∷ []) ≡ (count + 1) ∷ [] = rw leaf refl in
    ap (flat_map line) (more_nodes plan count ∙ ap (λ more. filter (is_leaf plan) (range_with_len 1 count) ++ more) one)
    ∙ flat_map-append line (filter (is_leaf plan) (range_with_len 1 count)) ((count + 1) ∷ [])
    ∙ ap (λ more. flat_map line (filter (is_leaf plan) (range_with_len 1 count)) ++ more) (append-nil (line (count + 1)))

-- one node more that is no device has none
pub no_more_line : (plan : PlanData) (accounts : List Account) (count : ℕ) → is_leaf plan (count + 1) ≡ false →
    lines_before plan accounts (count + 1) ≡ lines_before plan accounts count
no_more_line plan accounts count leaf =
    let none : filter (is_leaf plan) ((count + 1) ∷ []) ≡ [] = rw leaf refl in
    let before = filter (is_leaf plan) (range_with_len 1 count) in
    ap (account_lines plan accounts) (more_nodes plan count ∙ ap (λ more. before ++ more) none ∙ append-nil before)

-- a text to which the lines of the devices, of the grid and of the ticks are added one after the other
pub bill_text_is : (plan : PlanData) (bill : BillData) (none some more all : List ℕ) → none ≡ [] →
    some ≡ none ++ account_lines plan bill.accounts (devices plan) → more ≡ some ++ grid_line bill.grid →
    all ≡ more ++ ticks_line bill.ticks bill.minutes → all ≡ bill_text plan bill
unfolding bill_text
bill_text_is plan bill none some more all empty accounts grid ticks =
    let lines = account_lines plan bill.accounts (devices plan) in
    let first : some ≡ lines = accounts ∙ ap (λ text. text ++ lines) empty in
    ticks
    ∙ ap (λ text. text ++ ticks_line bill.ticks bill.minutes) (grid ∙ ap (λ text. text ++ grid_line bill.grid) first)
    ∙ append_assoc lines (grid_line bill.grid) (ticks_line bill.ticks bill.minutes)
