-- A text has one first line.
use Rattle.std.proofs.Common.{◌≡◌, ◌≢◌, refl, ℕ, List, [], ◌∷◌, ◌++◌}
use Rattle.std.proofs.lemmas.List.Elements.{All-head, All-tail}
use Rattle.pm_envelope.specs.Lines.{HasNoLineFeed, IsFirstLine}

abbrev NotFeed : ℕ → Type 0
NotFeed byte = byte ≢ 10

same_parts : (line rest other others : List ℕ) → HasNoLineFeed line → HasNoLineFeed other → line ++ (10 ∷ rest) ≡ other ++ (10 ∷ others)
    → (line ≡ other) × (rest ≡ others)
same_parts [] rest [] others lone other_lone same = (refl, cc)
same_parts [] rest (y ∷ other) others lone other_lone same =
    let first : y ≡ 10 = cc in absurd (All-head NotFeed y other other_lone first)
same_parts (x ∷ line) rest [] others lone other_lone same =
    let first : x ≡ 10 = cc in absurd (All-head NotFeed x line lone first)
same_parts (x ∷ line) rest (y ∷ other) others lone other_lone same =
    let first : x ≡ y = cc in
    let later : line ++ (10 ∷ rest) ≡ other ++ (10 ∷ others) = cc in
    let more = same_parts line rest other others (All-tail NotFeed x line lone) (All-tail NotFeed y other other_lone) later in
    ((λ i. first i ∷ more.0 i), more.1)

-- two first lines of a text are one
pub same_first_line : (text line rest other others : List ℕ) → IsFirstLine text line rest → IsFirstLine text other others →
    (line ≡ other) × (rest ≡ others)
same_first_line text line rest other others is also =
    let same : line ++ (10 ∷ rest) ≡ other ++ (10 ∷ others) = cc (is.parts, also.parts) in
    same_parts line rest other others is.no_line_feed also.no_line_feed same

-- a text without a line feed has no first line
pub no_first_line : (text line rest : List ℕ) → HasNoLineFeed text → text ≡ line ++ (10 ∷ rest) → ⊥
no_first_line text [] rest none is = All-head NotFeed 10 rest (rw is at none) refl
no_first_line text (x ∷ line) rest none is = no_first_line (line ++ (10 ∷ rest)) line rest (All-tail NotFeed x (line ++ (10 ∷ rest)) (rw is at none)) refl
