-- Lines of words.
use Rattle.std.specs.Prelude.{ℕ, List, [], ◌∷◌, ◌++◌}
use Rattle.pm_tree.specs.Entries.{name_of}
use Rattle.pm_plan.specs.Plans.{PlanData}

-- the words, one blank between two, and a line feed at the end
abbrev pub text_line : List (List ℕ) → List ℕ
text_line [] = 10 ∷ []
text_line (word ∷ []) = word ++ (10 ∷ [])
text_line (word ∷ next ∷ more) = word ++ (32 ∷ text_line (next ∷ more))

-- the name of a node, and of node 0 `auctioneer`
abbrev pub name : PlanData → ℕ → List ℕ
name plan node = name_of plan.entries node
