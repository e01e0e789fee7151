-- What the bytes of a file hold, and what a JSON value holds, as a cluster file is read.
use Rattle.std.specs.Prelude.{ℕ, ℤ, pos, Bool, List, [], ◌∷◌, map, Option, None, is_some, option_map, option_and_then, unwrap_or, if◌then◌else◌}
use Rattle.std.specs.Str.{is_utf8}
use Rattle.serde_json.specs.Data.{Data, Items, no_items, item}
use Rattle.serde_json.specs.Find.{get, as_number, as_i64, as_str, as_array}
use Rattle.serde_json.specs.Read.{read}

-- the value of the bytes: none if they are not UTF-8, or are no JSON text that nests at most 127 deep
abbrev pub json_value : List ℕ → Option Data
json_value bytes = if is_utf8 bytes then read bytes else None

-- a whole number: a JSON number without fraction and exponent that 64 bits with a sign can hold
abbrev pub whole : Data → Option ℤ
whole d = option_and_then as_i64 (as_number d)

abbrev pub data_list : Items → List Data
data_list no_items = []
data_list (item d ds) = d ∷ data_list ds

-- the elements of an array, none if it is no array
abbrev pub elements : Data → List Data
elements d = unwrap_or (option_map data_list (as_array d)) []

-- whether an object has a member of this name
abbrev pub has_member : List ℕ → Data → Bool
has_member name d = is_some (get name d)

-- a member as a whole number, as a text and as a list; 0 and nothing if there is none
abbrev pub whole_at : List ℕ → Data → ℤ
whole_at name d = unwrap_or (option_and_then whole (get name d)) (pos 0)

abbrev pub text_at : List ℕ → Data → List ℕ
text_at name d = unwrap_or (option_and_then as_str (get name d)) []

abbrev pub elements_at : List ℕ → Data → List Data
elements_at name d = unwrap_or (option_map elements (get name d)) []

-- whole numbers, and pairs of them; 0 if there is none
abbrev pub whole_or_zero : Data → ℤ
whole_or_zero d = unwrap_or (whole d) (pos 0)

abbrev pub wholes_of : List Data → List ℤ
wholes_of ds = map whole_or_zero ds

abbrev pub pair_in : List Data → ℤ × ℤ
pair_in [] = (pos 0, pos 0)
pair_in (d ∷ []) = (pos 0, pos 0)
pair_in (d ∷ e ∷ []) = (whole_or_zero d, whole_or_zero e)
pair_in (d ∷ e ∷ f ∷ ds) = (pos 0, pos 0)

abbrev pub pair_of : Data → ℤ × ℤ
pair_of d = pair_in (elements d)

abbrev pub pairs_of : List Data → List (ℤ × ℤ)
pairs_of ds = map pair_of ds
