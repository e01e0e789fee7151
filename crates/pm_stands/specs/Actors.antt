-- Whose a move is, and the line of a move that was made.
use Rattle.std.specs.Prelude.{◌≡◌, ℕ}
use Rattle.pm_market.specs.Lists.{Lists, parent}
use Rattle.pm_market.specs.State.{State}
use Rattle.pm_market.specs.Moves.{Legal}
use Rattle.pm_market.specs.Held.{line_of}
use Rattle.pm_market.specs.declared.moves.Move.{Move}
use Rattle.pm_market.specs.declared.moves.Move.TheVariants.{Learn, Publish, Clear, Pass}
use Rattle.pm_market.specs.declared.journal.Line.{Line}
use Rattle.pm_plan.specs.Plans.{PlanData}
use Rattle.pm_plan.specs.Market.{plan_lists}
use Rattle.pm_offer.specs.Offers.{local_step_at}
use Rattle.pm_stands.specs.Core.{Core}
use Rattle.pm_stands.specs.Stands.{MakesMove}

-- the node moves of a node: it learns from its children, publishes, clears if it is the auctioneer, and takes the
-- price that is passed to it
abbrev pub IsMoveOf : Lists → ℕ → Move → Type 0
IsMoveOf lists x (Learn child number) = parent lists child ≡ x
IsMoveOf lists x (Publish node number) = node ≡ x
IsMoveOf lists x (Clear index) = x ≡ 0
IsMoveOf lists x (Pass node index) = node ≡ x
IsMoveOf lists x m = ⊥

-- no node move of the node is legal
abbrev pub NoMoveOf : Lists → State → ℕ → Type 0
NoMoveOf lists s x = (m : Move) → IsMoveOf lists x m → Legal lists s m → ⊥

-- the line is that of a move which was legal in s, and the cluster stands for the state after it
pub record IsMadeLine (plan : PlanData) (new : Core) (s : State) (line' : Line) : Type 0 where
  pub makes : MakesMove plan new s line'.what
  pub line : line' ≡ line_of (plan_lists plan) (local_step_at plan) s line'.what
