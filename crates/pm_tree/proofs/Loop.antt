-- The entries one after another.
use Rattle.std.proofs.Common.{◌≡◌, ℕ, ◌+◌, ◌<◌, suc, false, List, [], ◌∷◌, ◌++◌, length, get_or, take, drop, Some, None, sym, ap}
use Rattle.std.proofs.Common.{◌∙◌, arith, string_bytes, slice_get}
use Rattle.std.specs.Option.{option_to_list}
use Rattle.std.proofs.Math.Seq.{drop-cons}
use Rattle.std.proofs.lemmas.List.{length-map, get_or-map, take_more, take-append-drop}
use Rattle.pm_tree.specs.Shape.{IsTree}
use Rattle.pm_tree.specs.Entries.{Entry, entry_of, entries_of, entry_at, parents_of, leaves_of, is_leaf_at, entry_refusal, refusals_after, node_named, names_of}
use Rattle.std.specs.List.{position}
use Rattle.std.specs.Str.{bytes_eq}
use Rattle.pm_tree.specs.Tables.{IsRowOf, IsIndexOf}
use Rattle.pm_tree.specs.declared.entry.TreeEntry.{TreeEntry}
use Rattle.pm_tree.specs.declared.fault.TreeFault.{TreeFault}
use Rattle.pm_tree.specs.declared.node.TreeNode.{TreeNode}
use Rattle.pm_tree.proofs.Refusals.{refusals_after-append}
use Rattle.pm_tree.proofs.Rows.{index-more, lawful-more}

-- the entry without names that is no leaf
abbrev pub nothing : Entry
nothing = record { name = []; parent = []; leaf = false }

module _ (entries : List Entry) (place : ℕ) (inside : place < length entries) where
  abbrev before : List Entry
  before = take place entries

  more : take (place + 1) entries ≡ before ++ entry_at entries place ∷ []
  more = take_more entries place nothing inside

  -- the index of the entries before a place, with the name and the row of the entry there, is that of one more
  pub index_step : (names names' : List (List ℕ)) (nodes nodes' : List TreeNode) (row : TreeNode) → IsIndexOf before names nodes →
      IsTree (parents_of before) (leaves_of before) → IsRowOf before (entry_at entries place) row
      → names' ≡ names ++ (entry_at entries place).name ∷ [] → nodes' ≡ nodes ++ row ∷ [] → IsIndexOf (take (place + 1) entries) names' nodes'
  index_step names names' nodes nodes' row index tree row_is names_are nodes_are =
      rw (more, names_are, nodes_are) (index-more before (entry_at entries place) tree names nodes row index row_is.parent_is_named row_is)

  -- the tree of the entries before a place stays lawful with the entry there, where that has a lawful row
  pub lawful_step : (names : List (List ℕ)) (nodes : List TreeNode) (row : TreeNode) → IsIndexOf before names nodes →
      IsTree (parents_of before) (leaves_of before) → IsRowOf before (entry_at entries place) row →
      IsTree (parents_of (take (place + 1) entries)) (leaves_of (take (place + 1) entries))
  lawful_step names nodes row index tree row_is =
      let no_leaf = ap (is_leaf_at before) (sym row_is.parent_is) ∙ row_is.parent_is_no_leaf in
      rw more (lawful-more before (entry_at entries place) tree row_is.parent_is_named index.parents_are_named no_leaf
      (omega (arith, row_is.depth_is, row_is.shallow)))

  -- where no entry before a place is refused and the one there is accepted, no entry up to it is refused
  pub accepted_step : refusals_after [] before ≡ [] → entry_refusal before (entry_at entries place) ≡ None →
      refusals_after [] (take (place + 1) entries) ≡ []
  accepted_step none accepted =
      ap (refusals_after []) more ∙ refusals_after-append [] before (entry_at entries place ∷ [])
      ∙ ap (λ faults. faults ++ (option_to_list (entry_refusal before (entry_at entries place)) ++ [])) none
      ∙ ap (λ o. option_to_list o ++ []) accepted

  -- where no entry before a place is refused, the refusal of the entry there is the first of the entries' refusals
  pub refused_here : (fault : TreeFault) → refusals_after [] before ≡ [] → entry_refusal before (entry_at entries place)
      ≡ Some fault → slice_get (refusals_after [] entries) 0 ≡ Some fault
  refused_here fault none refused =
      let whole : entries ≡ before ++ entry_at entries place ∷ drop (suc place) entries = sym (take-append-drop place entries)
      ∙ ap (λ es. before ++ es) (drop-cons entries place nothing inside) in
      let rest : List TreeFault = refusals_after (before ++ entry_at entries place ∷ []) (drop (suc place) entries) in
      ap (λ es. slice_get (refusals_after [] es) 0) whole
      ∙ ap (λ faults. slice_get faults 0) (refusals_after-append [] before (entry_at entries place ∷ drop (suc place) entries))
      ∙ ap (λ faults. slice_get (faults ++ (option_to_list (entry_refusal before (entry_at entries place)) ++ rest)) 0) none
      ∙ ap (λ o. slice_get (option_to_list o ++ rest) 0) refused

-- the entry that is read
pub entry_read : (entries : List TreeEntry) (place : ℕ) (other : TreeEntry) → place < length entries →
    (entry_at (entries_of entries) place).name ≡ string_bytes (get_or entries place other).name
entry_read entries place other inside = ap (λ (entry : Entry). entry.name) (get_or-map entry_of entries place other nothing inside)

-- the code's entries stand for as many entries as they are
pub length-entries_of : (entries : List TreeEntry) → length (entries_of entries) ≡ length entries
length-entries_of entries = length-map entries entry_of

-- a name that no node so far has is not among the names
pub unknown_name : (before : List Entry) (names : List (List ℕ)) (nodes : List TreeNode) (entry : Entry) → IsIndexOf before names nodes →
    node_named before entry.name ≡ None
    → (name bytes : List ℕ) → entry.name ≡ name → bytes ≡ name → position (bytes_eq bytes) names ≡ None
unfolding node_named
unknown_name before names nodes entry index new name bytes read same =
    ap (λ ns. position (bytes_eq bytes) ns) index.names_are ∙ ap (λ b. position (bytes_eq b) (names_of before)) (same ∙ sym read) ∙ new
