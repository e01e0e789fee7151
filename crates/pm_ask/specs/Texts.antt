-- The text of a curve and of answers.
use Rattle.std.specs.Prelude.{ℕ, ℤ, List, ◌++◌, codes, decimal, flat_map, Option, Some, None}
use Rattle.std.specs.Fmt.{signed_decimal}
use Rattle.pm_basis.specs.Prices.{BasisValue, price_at}
use Rattle.pm_ask.specs.Asked.{asked_step, asked_total}
use Rattle.pm_ask.specs.Curves.{breaks_of}
use Rattle.pm_ask.specs.declared.breaks.Break.{Break}

-- the number, and this word if there is none
abbrev pub number_or : List ℕ → Option ℤ → List ℕ
number_or word (Some number) = signed_decimal number
number_or word None = word

-- from A to B, and a line feed: the least and the greatest target of a break, `low` if it has no least one and `high`
-- if it has no greatest one
abbrev pub ends_text : Break → List ℕ
ends_text break = codes "from " ++ (number_or (codes "low") break.from ++ (codes " to " ++ (number_or (codes "high") break.to ++ codes "\n")))

-- curve step K price X from A to B: a step that has targets, its price, and the ends of its targets
unfoldable pub break_line : BasisValue → Break → List ℕ
break_line basis break =
    codes "curve step " ++ (decimal break.step ++ (codes " price " ++ (signed_decimal (price_at basis break.step) ++ (codes " " ++ ends_text break))))

-- target Q price X step K total T: the step of a target with its price, and the rest there
unfoldable pub answer_line : BasisValue → List ℤ → ℤ → List ℕ
answer_line basis total target =
    codes "target " ++ (signed_decimal target ++ (codes " price " ++ (signed_decimal (price_at basis (asked_step target total))
    ++ (codes " step " ++ (decimal (asked_step target total) ++ (codes " total " ++ (signed_decimal (asked_total target total) ++ codes "\n")))))))

-- a line for each step that has targets, rising, then one for each target in order
unfoldable pub ask_text : BasisValue → List ℤ → List ℤ → List ℕ
ask_text basis total targets = flat_map (break_line basis) (breaks_of total) ++ flat_map (answer_line basis total) targets
