-- The checks of an entry that is read from the list.
use Rattle.std.proofs.Common.{◌≡◌, ℕ, ◌+◌, ◌<◌, ◌≤◌, Bool, true, false, ◌&&◌, not, if◌then◌else◌, List, [], length, get_or}
use Rattle.std.proofs.Common.{take, Option, Some, None, is_some, unwrap_or, refl, sym, ap, subst, ◌∙◌, arith, nat_le, string_bytes, length-take-le}
use Rattle.std.specs.List.{position}
use Rattle.std.specs.Option.{option_or}
use Rattle.std.specs.Str.{bytes_eq}
use Rattle.std.proofs.lemmas.List.{length-map, get_or-map}
use Rattle.pm_base.specs.Limits.{most_depth}
use Rattle.pm_base.proofs.Options.{none_of}
use Rattle.pm_tree.specs.Names.{is_name}
use Rattle.pm_tree.specs.Shape.{IsTree}
use Rattle.pm_tree.specs.Entries.{Entry, entry_of, entries_of, entry_at, node_named, number_named, parents_of, leaves_of, is_leaf_at, depth_of}
use Rattle.pm_tree.specs.Entries.{can_be_parent, entry_refusal}
use Rattle.pm_tree.specs.Stages.{leaf_in, depth_in, name_refusal, parent_refusal, depth_refusal, refusal_by_tables, IsParent, IsRowBelow}
use Rattle.pm_tree.specs.Tables.{IsRowOf, IsIndexOf}
use Rattle.pm_tree.specs.declared.entry.TreeEntry.{TreeEntry}
use Rattle.pm_tree.specs.declared.fault.TreeFault.{TreeFault}
use Rattle.pm_tree.specs.declared.fault.TreeFault.TheVariants.{BadName, Twice, NoParent, TooDeep}
use Rattle.pm_tree.specs.declared.node.TreeNode.{TreeNode}
use Rattle.pm_tree.proofs.Rows.{length-table}
use Rattle.pm_tree.proofs.Named.{number_named-inside, length-parents_of}

-- four checks in turn are the first two and then the others
in_turn : (bad taken orphan deep : Bool) (at : ℕ) →
    (if bad then Some (BadName at)
    else (if taken then Some (Twice at) else (if orphan then Some (NoParent at) else (if deep then Some (TooDeep at) else None))))
    ≡ option_or (if bad then Some (BadName at) else (if taken then Some (Twice at) else None))
    (option_or (if orphan then Some (NoParent at) else None) (if deep then Some (TooDeep at) else None))
in_turn true taken orphan deep at = refl
in_turn false true orphan deep at = refl
in_turn false false true deep at = refl
in_turn false false false deep at = refl

free_by : (bad taken : Bool) (at : ℕ) → (if bad then Some (BadName at) else (if taken then Some (Twice at) else None)) ≡ None → taken ≡ false
free_by true taken at none = absurd (cc none)
free_by false true at none = absurd (cc none)
free_by false false at none = refl

shallow_by : (leaf : Bool) (above depth : ℕ) → above ≤ most_depth → depth ≡ above + (if leaf then 0 else 1) →
    (leaf ≡ false → depth ≤ most_depth) → depth ≤ most_depth
shallow_by true above depth low is concentrator = omega arith
shallow_by false above depth low is concentrator = concentrator refl

-- what the tables of some entries tell
module _ (before : List Entry) (names : List (List ℕ)) (nodes : List TreeNode) (index : IsIndexOf before names nodes) where
  -- an index has as many rows as names
  pub as_many_rows : length nodes ≡ length names
  as_many_rows = omega (
    arith,
    length-table (parents_of before) (leaves_of before) nodes index.nodes_are,
    length-parents_of before,
    ap length index.names_are,
    length-map before (λ (e : Entry). e.name),
  )

  named_is : (name : List ℕ) → position (bytes_eq name) names ≡ node_named before name
  unfolding node_named
  named_is name = ap (position (bytes_eq name)) index.names_are

  leaf_is : (node : ℕ) → leaf_in nodes node ≡ is_leaf_at before node
  leaf_is node = ap (λ marks. get_or marks node false) index.nodes_are.leaf_is

  depth_is : (name : List ℕ) → depth_in nodes (number_named before name) ≡ depth_of before (number_named before name)
  depth_is name = index.nodes_are.depth_is (number_named before name) (omega (arith, number_named-inside before name, length-parents_of before))

  -- the refusal of an entry after some entries is its refusal by their tables
  in_tables : (e : Entry) → entry_refusal before e ≡ refusal_by_tables names nodes e (length before + 1)
  unfolding entry_refusal
  in_tables e = rw (named_is e.name, named_is e.parent, leaf_is (number_named before e.parent), depth_is e.parent)
      (in_turn (not (is_name e.name)) (is_some (node_named before e.name)) (not (can_be_parent before e.parent))
      (not e.leaf && nat_le most_depth (depth_of before (number_named before e.parent))) (length before + 1))

  -- a row below the parent of an accepted entry is that entry's
  row_of : (e : Entry) (at parent : ℕ) (row : TreeNode) → IsTree (parents_of before) (leaves_of before) →
      name_refusal names e.name at ≡ None → IsParent names nodes e.parent parent → IsRowBelow nodes parent e.leaf row → IsRowOf before e row
  row_of e at parent row tree free is_parent below =
      let found : node_named before e.parent ≡ Some parent = sym (named_is e.parent) ∙ is_parent.named in
      let number : parent ≡ number_named before e.parent = sym (ap (λ o. unwrap_or o 0) found) in
      let depth : depth_in nodes parent ≡ depth_of before (number_named before e.parent) = ap (depth_in nodes) number ∙ depth_is e.parent in
      let low = tree.shallow (number_named before e.parent) (omega (arith, number_named-inside before e.parent, length-parents_of before)) in
      record {
        name_is_new = none_of (node_named before e.name) (ap is_some (sym (named_is e.name)) ∙ free_by (not (is_name e.name)) _ at free);
        parent_is_named = ap is_some found;
        parent_is = below.parent_is ∙ number;
        parent_is_no_leaf = ap (is_leaf_at before) below.parent_is ∙ sym (leaf_is parent) ∙ is_parent.no_leaf;
        leaf_is = below.leaf_is;
        depth_is = below.depth_is ∙ ap (λ n. n + (if e.leaf then 0 else 1)) depth;
        shallow = shallow_by e.leaf (depth_in nodes parent) row.depth (omega (arith, depth, low)) below.depth_is below.concentrator_is_shallow;
      }

-- the entry read at a place, after the entries before it
module _ (entries : List TreeEntry) (place : ℕ) (e : TreeEntry) (inside : place < length entries) (read : e ≡ get_or entries place e)
    (names : List (List ℕ)) (nodes : List TreeNode) (index : IsIndexOf (take place (entries_of entries)) names nodes) where
  abbrev before : List Entry
  before = take place (entries_of entries)

  length-before : length before ≡ place
  length-before = length-take-le place (entries_of entries) (omega (arith, length-map entries entry_of))

  entry_here : entry_of e ≡ entry_at (entries_of entries) place
  entry_here = ap entry_of read ∙ sym (get_or-map entry_of entries place e (record { name = []; parent = []; leaf = false }) inside)

  -- the refusal of the entry read is its refusal by the tables
  refusal_here : entry_refusal before (entry_at (entries_of entries) place) ≡ refusal_by_tables names nodes (entry_of e) (place + 1)
  refusal_here =
      ap (entry_refusal before) (sym entry_here) ∙ in_tables before names nodes index (entry_of e)
      ∙ ap (λ n. refusal_by_tables names nodes (entry_of e) (n + 1)) length-before

  -- the entry read is refused as its name is
  pub name_refused : (fault : TreeFault) → name_refusal names (string_bytes e.name) (place + 1) ≡ Some fault →
      entry_refusal before (entry_at (entries_of entries) place) ≡ Some fault
  name_refused fault refused = refusal_here ∙ rw refused

  module _ (free : name_refusal names (string_bytes e.name) (place + 1) ≡ None) where
    -- the entry read, of a free lawful name, is refused as its parent is
    pub parent_refused : (fault : TreeFault) → parent_refusal names nodes (string_bytes e.parent) (place + 1) ≡ Some fault →
        entry_refusal before (entry_at (entries_of entries) place) ≡ Some fault
    parent_refused fault refused = refusal_here ∙ rw (free, refused)

    module _ (parent : ℕ) (is_parent : IsParent names nodes (string_bytes e.parent) parent) where
      -- the entry read, of a free lawful name and with a parent, is accepted or refused as its depth is
      pub refusal_below : (refusal : Option TreeFault) → depth_refusal nodes parent e.leaf (place + 1) ≡ refusal →
          entry_refusal before (entry_at (entries_of entries) place) ≡ refusal
      refusal_below refusal is = refusal_here ∙ rw (free, is_parent.named, is_parent.no_leaf) is

      -- the row below the parent of the entry read is the row of that entry
      pub row_is : IsTree (parents_of before) (leaves_of before) → (row : TreeNode) → IsRowBelow nodes parent e.leaf row →
          IsRowOf before (entry_at (entries_of entries) place) row
      row_is tree row below =
          subst (λ entry. IsRowOf before entry row) entry_here
          (row_of before names nodes index (entry_of e) (place + 1) parent row tree free is_parent below)
