-- The trace: the report, then the moves.
use Rattle.std.specs.Prelude.{◌≡◌, ℕ, ◌<◌, ◌≤◌, ◌^◌, Bool, true, false, List, [], ◌∷◌, ◌++◌, codes, decimal, length, flat_map}
use Rattle.std.specs.Prelude.{Option, Some, None, IfSome}
use Rattle.std.specs.Fmt.{signed_decimal}
use Rattle.pm_basis.specs.Prices.{BasisValue, price_at}
use Rattle.pm_market.specs.declared.moves.Move.{Move}
use Rattle.pm_market.specs.declared.moves.Move.TheVariants.{Change, Learn, Publish, Clear, Pass, Close}
use Rattle.pm_market.specs.declared.journal.Line.{Line}
use Rattle.pm_plan.specs.Plans.{PlanData, parent, is_leaf}
use Rattle.pm_plan.specs.Auction.{EndData}
use Rattle.pm_report.specs.Words.{name, text_line}
use Rattle.pm_report.specs.Report.{report_text}

-- the node that a move names is one of the plan's, and the child that is learnt of has a parent
abbrev pub NamesNodes : PlanData → Move → Type 0
NamesNodes plan (Change device number) = device ≤ length plan.nodes
NamesNodes plan (Learn child number) = (1 ≤ child) × (child ≤ length plan.nodes)
NamesNodes plan (Publish node number) = node ≤ length plan.nodes
NamesNodes plan (Clear index) = Unit {0}
NamesNodes plan (Pass node index) = (1 ≤ node) × (node ≤ length plan.nodes)
NamesNodes plan (Close phase) = Unit {0}

-- the nodes and the step that a line of a journal names are those of the plan
pub record IsLineOf (plan : PlanData) (line : Line) : Type 0 where
  pub nodes : NamesNodes plan line.what
  pub step : IfSome line.held (λ held. held.0 < plan.basis.steps)

-- price X bid N, where X is the price of the step that is held; none if nothing is held
abbrev pub held_words : BasisValue → Option (ℕ × ℕ) → List (List ℕ)
held_words basis None = codes "none" ∷ []
held_words basis (Some held) = codes "price" ∷ signed_decimal (price_at basis held.0) ∷ codes "bid" ∷ decimal held.1 ∷ []

-- what a device then holds; of a concentrator nothing is said
abbrev pub device_words : Bool → BasisValue → Option (ℕ × ℕ) → List (List ℕ)
device_words false basis held = []
device_words true basis held = held_words basis held

-- change NAME N, learn PARENT CHILD N, publish NAME N, clear J, pass NAME J with what a device then holds, close P
abbrev pub move_words : PlanData → Move → Option (ℕ × ℕ) → List (List ℕ)
move_words plan (Change device number) held = codes "change" ∷ name plan device ∷ decimal number ∷ []
move_words plan (Learn child number) held = codes "learn" ∷ name plan (parent plan child) ∷ name plan child ∷ decimal number ∷ []
move_words plan (Publish node number) held = codes "publish" ∷ name plan node ∷ decimal number ∷ []
move_words plan (Clear index) held = codes "clear" ∷ decimal index ∷ []
move_words plan (Pass node index) held = codes "pass" ∷ name plan node ∷ decimal index ∷ device_words (is_leaf plan node) plan.basis held
move_words plan (Close phase) held = codes "close" ∷ decimal phase ∷ []

-- the line of a move
abbrev pub move_line : PlanData → Line → List ℕ
move_line plan line = text_line (move_words plan line.what line.held)

-- moves M
abbrev pub moves_line : List Line → List ℕ
moves_line lines = text_line (codes "moves" ∷ decimal (length lines) ∷ [])

-- the report, then the line of each move, then how many they are
unfoldable pub trace_text : PlanData → List EndData → List Line → List ℕ
trace_text plan ends lines = report_text plan ends ++ (flat_map (move_line plan) lines ++ moves_line lines)

-- whether something may be held after a move: only a device that a price is passed to holds one
abbrev pub may_hold : PlanData → Move → Bool
may_hold plan (Change device number) = false
may_hold plan (Learn child number) = false
may_hold plan (Publish node number) = false
may_hold plan (Clear index) = false
may_hold plan (Pass node index) = is_leaf plan node
may_hold plan (Close phase) = false

-- the number that a move has beside its node
abbrev pub number_in : Move → ℕ
number_in (Change device number) = number
number_in (Learn child number) = number
number_in (Publish node number) = number
number_in (Clear index) = index
number_in (Pass node index) = index
number_in (Close phase) = phase

-- what each line of a run keeps: it is of the plan, only a device that a price is passed to holds something, and the
-- numbers have 32 bits
pub record IsLineOfRun (plan : PlanData) (line : Line) : Type 0 where
  pub of_plan : IsLineOf plan line
  pub holder : may_hold plan line.what ≡ false → line.held ≡ None
  pub number_fits : number_in line.what < 2 ^ 32
  pub held_fits : IfSome line.held (λ held. held.1 < 2 ^ 32)
