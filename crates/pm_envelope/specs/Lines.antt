-- The first line of a text.
use Rattle.std.specs.Prelude.{◌≡◌, ◌≢◌, ℕ, List, ◌∷◌, ◌++◌, All}

-- no byte is a line feed
abbrev pub HasNoLineFeed : List ℕ → Type 0
HasNoLineFeed text = All (λ byte. byte ≢ 10) text

-- the text begins with this line, whose end is the first line feed, and the rest stands after that
pub record IsFirstLine (text line rest : List ℕ) : Type 0 where
  pub parts : text ≡ line ++ (10 ∷ rest)
  pub no_line_feed : HasNoLineFeed line
