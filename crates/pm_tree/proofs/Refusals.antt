-- When an entry is refused, and the first refusal of a list.
use Rattle.std.proofs.Common.{◌≡◌, ◌+◌, true, false, List, [], ◌∷◌, ◌++◌, length, Some, None, is_some, sym, ap, ◌∙◌}
use Rattle.std.proofs.Common.{append_assoc, append-nil}
use Rattle.std.specs.Option.{option_to_list}
use Rattle.pm_tree.specs.Names.{is_name}
use Rattle.pm_tree.specs.Entries.{Entry, node_named, can_be_parent, entry_refusal, refusals_after}
use Rattle.pm_tree.specs.declared.fault.TreeFault.{TreeFault}
use Rattle.pm_tree.specs.declared.fault.TreeFault.TheVariants.{BadName, Twice}

module _ (before : List Entry) (e : Entry) where
  -- an entry whose name is no lawful one is refused for its name
  pub refused_name : is_name e.name ≡ false → entry_refusal before e ≡ Some (BadName (length before + 1))
  unfolding entry_refusal
  refused_name bad = rw bad

  -- an entry whose lawful name a node before it has is refused as named twice
  pub refused_twice : is_name e.name ≡ true → is_some (node_named before e.name) ≡ true → entry_refusal before e ≡ Some (Twice (length before + 1))
  unfolding entry_refusal
  refused_twice good taken = rw (good, taken)

  -- a leaf of a free lawful name under a node that can be a parent is accepted
  pub accepted_leaf : is_name e.name ≡ true → is_some (node_named before e.name) ≡ false → can_be_parent before e.parent ≡ true →
      e.leaf ≡ true → entry_refusal before e ≡ None
  unfolding entry_refusal
  accepted_leaf good free below leaf = rw (good, free, below, leaf)

-- the refusals of a list, and then of what comes after it
pub refusals_after-append : (before first rest : List Entry) → refusals_after before (first ++ rest) ≡ refusals_after before first
    ++ refusals_after (before ++ first) rest
refusals_after-append before [] rest = ap (λ es. refusals_after es rest) (sym (append-nil before))
refusals_after-append before (e ∷ first) rest =
    let later = refusals_after-append (before ++ e ∷ []) first rest in
    let same : (before ++ e ∷ []) ++ first ≡ before ++ e ∷ first = append_assoc before (e ∷ []) first in
    let refusals : List TreeFault = option_to_list (entry_refusal before e) in
    ap (λ faults. refusals ++ faults) (later ∙ ap (λ es. refusals_after (before ++ e ∷ []) first ++ refusals_after es rest) same)
    ∙ sym (append_assoc refusals (refusals_after (before ++ e ∷ []) first) (refusals_after (before ++ (e ∷ first)) rest))
