-- Tests over lists of members and of elements.
use Rattle.std.proofs.Common.{◌≡◌, ℕ, List, [], ◌∷◌, map, Bool, ◌&&◌, String, Global, refl, ap, string_bytes}
use Rattle.std.specs.List.{list_all, list_any}
use Rattle.std.specs.Map.{keys_of}
use Rattle.std.specs.Str.{bytes_eq}
use Rattle.serde_json.specs.Data.{object}
use Rattle.serde_json.specs.View.{view, items_view, members_view}
use Rattle.serde_json.specs.declared.value.Value.{Value}
use Rattle.pm_scene.specs.Values.{data_list}
use Rattle.pm_scene.specs.Members.{Row, row_of, has_only}
use Rattle.pm_scene.specs.declared.members.Member.{Member}

-- testing f of each element of a list gives the same as testing the list that f maps it to
pub list_all_map : {A B : Type 0} (p : B → Bool) (f : A → B) (xs : List A) → list_all (λ x. p (f x)) xs ≡ list_all p (map f xs)
list_all_map p f [] = refl
list_all_map p f (x ∷ xs) = ap (λ b. p (f x) && b) (list_all_map p f xs)

list_any_names : (k : List ℕ) (ms : List Member) → list_any (λ (m : Member). bytes_eq k m.0.now) ms
    ≡ list_any (λ (row : Row). bytes_eq k row.0) (map row_of ms)
list_any_names k [] = refl
list_any_names k (m ∷ ms) = rw (list_any_names k ms)

-- each key of some entries names a member exactly where the object of them has only these members
pub has_only_entries : (ms : List Member) (es : List (String Global × Value)) →
    list_all (λ k. list_any (λ (m : Member). bytes_eq (string_bytes k) m.0.now) ms) (keys_of es) ≡ has_only (map row_of ms) (object (members_view es))
unfolding has_only
has_only_entries ms [] = refl
has_only_entries ms (e ∷ es) = rw (has_only_entries ms es, list_any_names (string_bytes e.0) ms)

-- the items that some values are viewed as are, as a list, the views of these values
pub data_list-items_view : (vs : List Value) → data_list (items_view vs) ≡ map view vs
data_list-items_view [] = refl
data_list-items_view (v ∷ vs) = ap (λ ds. view v ∷ ds) (data_list-items_view vs)

-- mapping f of g over a list is mapping g over it, then f
pub map_map : {A B C : Type 0} (f : B → C) (g : A → B) (xs : List A) → map (λ x. f (g x)) xs ≡ map f (map g xs)
map_map f g [] = refl
map_map f g (x ∷ xs) = ap (λ ys. f (g x) ∷ ys) (map_map f g xs)
