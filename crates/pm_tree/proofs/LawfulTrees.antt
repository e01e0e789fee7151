-- A tree that is not refused is lawful.
use Rattle.std.proofs.Common.{◌≡◌, sym, subst, refl, ℕ, ◌+◌, ◌≤◌, Bool, true, false, not, ◌&&◌, if◌then◌else◌, List, []}
use Rattle.std.proofs.Common.{◌∷◌, ◌++◌, length}
use Rattle.std.proofs.Common.{append_assoc, append-nil, Option, Some, None, is_some, Ok, nat_le, nat_lt, slice_get, arith}
use Rattle.std.specs.Option.{option_to_list}
use Rattle.std.proofs.lemmas.Bool.{and_parts, not-true}
use Rattle.std.proofs.lemmas.Bool.Decides.{nat_tests}
use Rattle.pm_base.specs.Limits.{most_nodes, most_depth}
use Rattle.pm_tree.specs.Names.{is_name}
use Rattle.pm_tree.specs.Shape.{IsTree}
use Rattle.pm_tree.specs.Entries.{Entry, parents_of, leaves_of, is_leaf_at, depth_of, node_named, number_named, can_be_parent}
use Rattle.pm_tree.specs.Entries.{entry_refusal, refusals_after, first_refusal, tree_unless, checked_tree}
use Rattle.pm_tree.specs.declared.fault.TreeFault.{TreeFault}
use Rattle.pm_tree.specs.declared.fault.TreeFault.TheVariants.{TooMany, BadName, Twice, NoParent, TooDeep}
use Rattle.pm_tree.proofs.Named.{are_named, are_named-more, number_named-inside, length-parents_of}
use Rattle.pm_tree.proofs.Rows.{lawful-more, IsTree-nil}

both_none : (first : Option TreeFault) (rest : List TreeFault) → option_to_list first ++ rest ≡ [] → (first ≡ None) × (rest ≡ [])
both_none None rest is = (refl, is)
both_none (Some fault) rest is = absurd (cc is)

none_of_four : (lawful taken can deep : Bool) (n : ℕ) →
    (if not lawful then Some (BadName n)
    else (if taken then Some (Twice n) else (if not can then Some (NoParent n) else (if deep then Some (TooDeep n) else None)))) ≡ None →
    (can ≡ true) × (deep ≡ false)
none_of_four false taken can deep n is = absurd (cc is)
none_of_four true true can deep n is = absurd (cc is)
none_of_four true false false deep n is = absurd (cc is)
none_of_four true false true true n is = absurd (cc is)
none_of_four true false true false n is = (refl, refl)

low_enough : (leaf : Bool) (depth : ℕ) → depth ≤ most_depth → (not leaf && nat_le most_depth depth) ≡ false →
    depth + (if leaf then 0 else 1) ≤ most_depth
low_enough true depth low is = omega arith
low_enough false depth low is = grind (arith, nat_tests)

record Accepted (before : List Entry) (e : Entry) : Type 0 where
  named : is_some (node_named before e.parent) ≡ true
  no_leaf : is_leaf_at before (number_named before e.parent) ≡ false
  shallow : depth_of before (number_named before e.parent) + (if e.leaf then 0 else 1) ≤ most_depth

accepted : (before : List Entry) (e : Entry) → IsTree (parents_of before) (leaves_of before) → entry_refusal before e ≡ None → Accepted before e
unfolding entry_refusal
accepted before e tree none =
    let parts = none_of_four (is_name e.name) (is_some (node_named before e.name)) (can_be_parent before e.parent)
    (not e.leaf && nat_le most_depth (depth_of before (number_named before e.parent))) (length before + 1) none in
    let parent = and_parts (is_some (node_named before e.parent)) (not (is_leaf_at before (number_named before e.parent))) parts.0 in
    let low = tree.shallow (number_named before e.parent) (omega (arith, number_named-inside before e.parent, length-parents_of before)) in
    record {
      named = parent.0;
      no_leaf = not-true (is_leaf_at before (number_named before e.parent)) parent.1;
      shallow = low_enough e.leaf (depth_of before (number_named before e.parent)) low parts.1;
    }

grown : (before rest : List Entry) → IsTree (parents_of before) (leaves_of before) → are_named before before ≡ true →
    refusals_after before rest ≡ [] → IsTree (parents_of (before ++ rest)) (leaves_of (before ++ rest))
grown before [] tree named none = subst (λ (es : List Entry). IsTree (parents_of es) (leaves_of es)) (sym (append-nil before)) tree
grown before (e ∷ rest) tree named none =
    let parts = both_none (entry_refusal before e) (refusals_after (before ++ e ∷ []) rest) none in
    let ok = accepted before e tree parts.0 in
    subst (λ (es : List Entry). IsTree (parents_of es) (leaves_of es)) (append_assoc before (e ∷ []) rest)
    (grown (before ++ e ∷ []) rest (lawful-more before e tree ok.named named ok.no_leaf ok.shallow) (are_named-more before e named ok.named) parts.1)

first_none : (many : Bool) (n : ℕ) (faults : List TreeFault) → (if many then Some (TooMany n) else slice_get faults 0) ≡ None → faults ≡ []
first_none true n faults is = absurd (cc is)
first_none false n [] is = refl
first_none false n (fault ∷ faults) is = absurd (cc is)

nothing_refused : (entries : List Entry) → first_refusal entries ≡ None → refusals_after [] entries ≡ []
unfolding first_refusal
nothing_refused entries none = first_none (nat_lt most_nodes (length entries)) (length entries) (refusals_after [] entries) none

kept_by : (entries tree : List Entry) (refusal : Option TreeFault) → tree_unless entries refusal ≡ Ok tree → (refusal ≡ None) × (entries ≡ tree)
kept_by entries tree None is = let same : entries ≡ tree = cc is in (refl, same)
kept_by entries tree (Some fault) is = absurd (cc is)

-- entries that are not refused are their own tree, and it is lawful
pub checked_is_tree : (entries tree : List Entry) → checked_tree entries ≡ Ok tree →
    (entries ≡ tree) × IsTree (parents_of entries) (leaves_of entries)
checked_is_tree entries tree is =
    let parts = kept_by entries tree (first_refusal entries) is in
    (parts.1, grown [] entries IsTree-nil refl (nothing_refused entries parts.0))
