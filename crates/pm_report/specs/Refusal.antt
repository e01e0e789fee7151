-- The line of a refusal.
use Rattle.std.specs.Prelude.{ℕ, List, [], ◌∷◌, ◌++◌, codes, decimal, Option, Some, None}
use Rattle.pm_plan.specs.declared.refusal.Place.{Place}
use Rattle.pm_plan.specs.declared.refusal.Place.TheVariants.{Document, Basis, Node, Phase, Event, Line}
use Rattle.pm_plan.specs.declared.refusal.Refusal.{Refusal}
use Rattle.pm_report.specs.Words.{text_line}

-- document, basis, node N, phase P, event P E, line N
abbrev pub place_text : Place → List ℕ
place_text Document = codes "document"
place_text Basis = codes "basis"
place_text (Node number) = codes "node " ++ decimal number
place_text (Phase number) = codes "phase " ++ decimal number
place_text (Event phase number) = codes "event " ++ (decimal phase ++ (codes " " ++ decimal number))
place_text (Line number) = codes "line " ++ decimal number

-- item I, if there is one
abbrev pub item_words : Option ℕ → List (List ℕ)
item_words None = []
item_words (Some item) = codes "item" ∷ decimal item ∷ []

-- refused CODE PLACE, and item I if there is one
abbrev pub refusal_line : Refusal → List ℕ
refusal_line refusal = text_line (codes "refused" ∷ decimal refusal.code ∷ place_text refusal.place ∷ item_words refusal.item)
