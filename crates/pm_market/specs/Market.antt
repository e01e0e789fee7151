-- The lists and the state that a market's tables stand for.
use Rattle.std.specs.Prelude.{◌≡◌, ℕ, [], ◌∷◌, ◌++◌, map, slice_index_or}
use Rattle.pm_market.specs.Lists.{Lists}
use Rattle.pm_market.specs.State.{State, update, knowledge}
use Rattle.pm_base.specs.Cuts.{cut_of}
use Rattle.pm_base.specs.Rows.{rows_of}
use Rattle.pm_market.specs.declared.market.Market.{Market}

-- the four lists of a market
abbrev pub market_lists : Market → Lists
market_lists m = record {
  parents = m.parents.items;
  leaves = m.leaves.items;
  members = rows_of m.members.items;
  ends = rows_of m.ends.items;
}

-- the state of a market; each table has a place for each node, the auctioneer's first
abbrev pub market_state : Market → State
market_state m = record {
  counts = cut_of m.counts.items;
  closed = m.closed;
  published = λ c. map cut_of (rows_of (slice_index_or (map (λ rows. rows.items) m.published.items) c []));
  learnt = λ x. slice_index_or m.learnt.items x 0;
  passed = λ x. slice_index_or (rows_of m.passed.items) x [];
}

-- the greatest index of a clearing that is due to a node
abbrev pub market_due : Market → ℕ → ℕ
market_due m x = slice_index_or m.due.items x 0

-- what a node knows joins the cuts that it published or cleared
abbrev pub Publishes : Lists → State → State → ℕ → Type 0
Publishes lists old new node = new ≡ record old { published = update old.published node (old.published node ++ knowledge lists old node ∷ []) }

-- a clearing joins those passed to a node
abbrev pub Passes : State → State → ℕ → ℕ → Type 0
Passes old new node index = new ≡ record old { passed = update old.passed node (old.passed node ++ index ∷ []) }
