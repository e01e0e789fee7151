-- The lines of a text.
use Rattle.std.specs.Prelude.{◌≡◌, ℕ, List, [], ◌∷◌, ◌++◌, All, flat_map}
use Rattle.pm_envelope.specs.Lines.{HasNoLineFeed}

-- a whole line: bytes that are no line feeds, and a line feed at the end
abbrev pub IsWholeLine : List ℕ → Type 0
IsWholeLine line = (bytes : List ℕ) × (HasNoLineFeed bytes × (line ≡ bytes ++ 10 ∷ []))

-- the text of some lines
abbrev pub text_of_lines : List (List ℕ) → List ℕ
text_of_lines lines = flat_map (λ line. line) lines

-- the text is cut after each line feed: it is these whole lines, and behind them a rest without a line feed, which is a
-- line without end if it is not empty
pub record AreLinesOf (text : List ℕ) (lines : List (List ℕ)) (rest : List ℕ) : Type 0 where
  pub whole : All IsWholeLine lines
  pub no_end : HasNoLineFeed rest
  pub parts : text ≡ text_of_lines lines ++ rest
