-- Of `index_entries`: its clause `refused`; what the call of `push` requires; the turns of its loop over `place`.
use Rattle.std.proofs.Common.{◌≡◌, ◌<◌, ◌∙◌, ap, sym, subst, refl, map, length, take, [], string_bytes, arith, List, ℕ, ◌++◌, ◌∷◌}
use Rattle.std.proofs.Common.{inl, slice_get}
use Rattle.std.proofs.lemmas.List.{take_all}
use Rattle.std.proofs.lemmas.Result.{err_from_is_err_and}
use Rattle.pm_tree.specs.Shape.{IsTree}
use Rattle.pm_tree.specs.Entries.{Entry, entries_of, entry_at, parents_of, leaves_of, refusals_after}
use Rattle.pm_tree.specs.Tables.{IsIndexOf}
use Rattle.pm_tree.specs.declared.fault.TreeFault.{TreeFault}
use Rattle.pm_tree.proofs.Rows.{IsTree-nil}
use Rattle.pm_tree.proofs.Loop.{index_step, lawful_step, accepted_step, refused_here, entry_read, length-entries_of, unknown_name}
use Rattle.pm_tree.proofs.index.index_entries.Goals as goal

pub loop-place-init : goal.loop-place-init
loop-place-init c = record { index = c.in_ok-index.ensures; lawful = IsTree-nil; accepted = refl }

pub push-requires : goal.push-requires
push-requires c =
    unknown_name _ _ _ (entry_at (entries_of c.args.entries.now) c.loop-place.place) c.loop-place.invariant.index c.in_ok-row.ensures.row.name_is_new _ _
    (entry_read c.args.entries.now c.loop-place.place c.index-entries-place.result c.loop-place-test.true) c.as_str.ensures.value

pub loop-place-preserved : goal.loop-place-preserved
loop-place-preserved c =
    let inside : c.loop-place.place < length (entries_of c.args.entries.now) = omega (arith, length-entries_of c.args.entries.now) in
    record {
      index = index_step _ _ inside _ _ _ _ c.in_ok-row.row c.loop-place.invariant.index c.loop-place.invariant.lawful c.in_ok-row.ensures.row
          (c.in_ok-push.ensures.names
          ∙ ap (λ (name : List ℕ). map string_bytes c.loop-place.index.names.keys ++ name ∷ [])
          (c.as_str.ensures.value ∙ sym (entry_read c.args.entries.now c.loop-place.place c.index-entries-place.result
          c.loop-place-test.true))) c.in_ok-push.ensures.nodes;
      lawful = lawful_step _ _ inside _ _ c.in_ok-row.row c.loop-place.invariant.index c.loop-place.invariant.lawful c.in_ok-row.ensures.row;
      accepted = accepted_step _ _ inside c.loop-place.invariant.accepted c.in_ok-row.ensures.accepted;
    }

pub returns-in_err-row-clause-refused : goal.returns-in_err-row-clause-refused
returns-in_err-row-clause-refused c =
    let inside : c.loop-place.place < length (entries_of c.args.entries.now) = omega (arith, length-entries_of c.args.entries.now) in
    let p = err_from_is_err_and c.from_residual-in_err-row.result c.from_residual-in_err-row.ensures.1 in
    rw (p.1, p.2) (inl (refused_here _ _ inside _ c.loop-place.invariant.accepted c.in_err-row.ensures.refused))

pub returns : goal.returns
returns c =
    let entries = entries_of c.args.entries.now in
    let whole : take c.loop-place.place entries ≡ entries = take_all _ _ (omega (arith, length-entries_of c.args.entries.now)) in
    record {
      index = subst (λ (es : List Entry). IsIndexOf es (map string_bytes c.loop-place.index.names.keys) c.loop-place.index.nodes.items) whole
          c.loop-place.invariant.index;
      lawful = subst (λ (es : List Entry). IsTree (parents_of es) (leaves_of es)) whole c.loop-place.invariant.lawful;
      accepted = ap (λ (es : List Entry). slice_get (refusals_after [] es) 0) (sym whole)
          ∙ ap (λ (faults : List TreeFault). slice_get faults 0) c.loop-place.invariant.accepted;
      refused = tt;
    }
