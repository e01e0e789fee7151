-- A state in which nothing new can be learnt, published or cleared, and the last clearing went as far down as it can.
use Rattle.std.specs.Prelude.{◌≡◌, ℕ, ◌-◌}
use Rattle.pm_market.specs.Lists.{Lists, parent}
use Rattle.pm_market.specs.State.{State, newest_number_of, number, last_index, clearings, cleared_cut}
use Rattle.pm_market.specs.Moves.{NodeLegal}
use Rattle.pm_market.specs.declared.moves.Move.TheVariants.{Learn, Publish, Clear, Pass}

-- nothing of y is unanswered: the price passed to it last names its newest number; of the auctioneer nothing ever is
abbrev pub NothingUnanswered : Lists → State → ℕ → Type 0
NothingUnanswered lists s y = (y ≡ 0 → ⊥) → newest_number_of lists s y - number lists s y (cleared_cut s (last_index s y)) ≡ 0

-- Less than idle: clearings before the last may be legal to pass, and the last one to a node whose parent has numbers that
-- are not answered.
pub record Rests (lists : Lists) (s : State) : Type 0 where
  -- no number is legal to learn, none to publish, and no clearing to make
  pub learn : (x n : ℕ) → NodeLegal lists s (Learn x n) → ⊥
  pub publish : (c n : ℕ) → NodeLegal lists s (Publish c n) → ⊥
  pub clear : (j : ℕ) → NodeLegal lists s (Clear j) → ⊥
  -- the last clearing is legal to pass to nobody whose parent has nothing unanswered
  pub pass : (x : ℕ) → NothingUnanswered lists s (parent lists x) → NodeLegal lists s (Pass x (clearings s)) → ⊥
