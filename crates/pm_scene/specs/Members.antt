-- The members check: what an object has to have, in the order of the checks.
use Rattle.std.specs.Prelude.{ℕ, Bool, true, false, ◌&&◌, List, [], ◌∷◌, Option, Some, None, is_some, Result, ⊤}
use Rattle.std.specs.List.{list_all, list_any}
use Rattle.std.specs.Str.{bytes_eq}
use Rattle.serde_json.specs.Data.{Data, null, boolean, number, string, array, object, Members, no_members, member}
use Rattle.serde_json.specs.Find.{get, as_str, as_array, as_object}
use Rattle.pm_plan.specs.Refusals.{check}
use Rattle.pm_base.specs.Outcomes.{◌>>◌}
use Rattle.pm_plan.specs.declared.refusal.Cause.TheVariants as cause
use Rattle.pm_plan.specs.declared.refusal.Place.{Place}
use Rattle.pm_plan.specs.declared.refusal.Refusal.{Refusal}
use Rattle.pm_scene.specs.Values.{whole, elements, has_member}
use Rattle.pm_scene.specs.declared.members.Form.{Form}
use Rattle.pm_scene.specs.declared.members.Form.TheVariants.{Whole, Text, Array, Object, Wholes, Pairs}
use Rattle.pm_scene.specs.declared.members.Member.{Member}

-- a member by its name and its form
abbrev pub Row : Type 0
Row = List ℕ × Form

abbrev pub row_of : Member → Row
row_of m = (m.0.now, m.1)

abbrev pub is_whole : Data → Bool
is_whole d = is_some (whole d)

-- exactly two whole numbers
abbrev pub are_two_wholes : List Data → Bool
are_two_wholes [] = false
are_two_wholes (d ∷ []) = false
are_two_wholes (d ∷ e ∷ []) = is_whole d && is_whole e
are_two_wholes (d ∷ e ∷ f ∷ ds) = false

abbrev pub is_pair : Data → Bool
is_pair d = are_two_wholes (elements d)

abbrev pub has_form : Form → Data → Bool
has_form Whole d = is_whole d
has_form Text d = is_some (as_str d)
has_form Array d = is_some (as_array d)
has_form Object d = is_some (as_object d)
has_form Wholes d = is_some (as_array d) && list_all is_whole (elements d)
has_form Pairs d = is_some (as_array d) && list_all is_pair (elements d)

-- whether a member has the form; yes if it is not there
abbrev pub fits : Form → Option Data → Bool
fits form None = true
fits form (Some d) = has_form form d

abbrev pub has_form_at : Row → Data → Bool
has_form_at row d = fits row.1 (get row.0 d)

-- the names of the members of an object
abbrev pub member_names : Members → List (List ℕ)
member_names no_members = []
member_names (member name d rest) = name ∷ member_names rest

abbrev pub names : Data → List (List ℕ)
names null = []
names (boolean b) = []
names (number n) = []
names (string s) = []
names (array ds) = []
names (object members) = member_names members

-- each listed member is there
unfoldable pub has_all : List Row → Data → Bool
has_all rows d = list_all (λ row. has_member row.0 d) rows

-- each member that is there is listed
unfoldable pub has_only : List Row → Data → Bool
has_only rows d = list_all (λ name. list_any (λ row. bytes_eq name row.0) rows) (names d)

-- each listed member has its form
unfoldable pub have_forms : List Row → Data → Bool
have_forms rows d = list_all (λ row. has_form_at row d) rows

-- an object with these members and no others, each of its form
unfoldable pub members_check : List Row → Place → Data → Result ⊤ Refusal
members_check rows place d = do
  check cause.WrongType place (is_some (as_object d))
  check cause.MissingMember place (has_all rows d)
  check cause.UnknownMember place (has_only rows d)
  check cause.WrongType place (have_forms rows d)
