-- The text of a bill.
use Rattle.std.specs.Prelude.{ℕ, ℤ, List, [], ◌∷◌, ◌++◌, codes, decimal, filter, flat_map}
use Rattle.std.specs.Fmt.{signed_decimal}
use Rattle.pm_plan.specs.Plans.{PlanData, is_leaf, node_numbers}
use Rattle.pm_report.specs.Words.{name, text_line}
use Rattle.pm_bill.specs.declared.account.Account.{Account}
use Rattle.pm_bill.specs.Accounts.{account_at}
use Rattle.pm_bill.specs.Bills.{BillData}

-- the devices of a plan in file order
abbrev pub devices : PlanData → List ℕ
devices plan = filter (is_leaf plan) (node_numbers plan)

-- amount A taken T given G
abbrev pub account_words : Account → List (List ℕ)
account_words account =
    codes "amount" ∷ signed_decimal account.amount ∷ codes "taken" ∷ signed_decimal account.taken
    ∷ codes "given" ∷ signed_decimal account.given ∷ []

-- account NAME amount A taken T given G
abbrev pub account_line : PlanData → ℕ → Account → List ℕ
account_line plan node account = text_line (codes "account" ∷ name plan node ∷ account_words account)

-- grid amount A taken T given G
abbrev pub grid_line : Account → List ℕ
grid_line account = text_line (codes "grid" ∷ account_words account)

-- ticks N minutes M
abbrev pub ticks_line : ℕ → ℤ → List ℕ
ticks_line ticks minutes = text_line (codes "ticks" ∷ decimal ticks ∷ codes "minutes" ∷ signed_decimal minutes ∷ [])

-- the lines of the accounts of these nodes
unfoldable pub account_lines : PlanData → List Account → List ℕ → List ℕ
account_lines plan accounts nodes = flat_map (λ node. account_line plan node (account_at accounts node)) nodes

-- the line of each device, then that of the grid, then how many ticks there were and their minutes
unfoldable pub bill_text : PlanData → BillData → List ℕ
bill_text plan bill = account_lines plan bill.accounts (devices plan) ++ (grid_line bill.grid ++ ticks_line bill.ticks bill.minutes)
