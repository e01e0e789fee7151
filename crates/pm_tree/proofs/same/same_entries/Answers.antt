-- Of `same_entries`: what it ensures; the turns of its loop over `place`.
use Rattle.std.proofs.Common.{◌<◌, subst, sym, refl}
use Rattle.std.proofs.lemmas.Bool.{false≢true}
use Rattle.std.proofs.lemmas.List.{length-map}
use Rattle.pm_tree.specs.Entries.{entry_of, entries_of}
use Rattle.pm_tree.proofs.Alike.{alike_at, alike_up_to, seen_at}
use Rattle.pm_tree.proofs.same.same_entries.Goals as goal

pub returns-then-not-same_entry : goal.returns-then-not-same_entry
returns-then-not-same_entry c =
    let at = c.loop-place.place in
    let inside = c.loop-place-test.true in
    let within = subst (λ n. at < n) c.loop-place.invariant.0 inside in
    let others = c.args.others.now in (
      λ e. absurd (false≢true e),
      λ same. c.if-not-same_entry.ensures.1
          (alike_at (entries_of c.args.entries.now) (entries_of others) at _ _
          (subst (λ n. at < n) (sym (length-map others entry_of)) within)
          (seen_at entry_of _ at _ inside c.index-entries-place.is)
          (seen_at entry_of _ at _ within c.index-others-place.is)
          same),
    )

pub loop-place-preserved : goal.loop-place-preserved
loop-place-preserved c =
    let at = c.loop-place.place in
    let inside = c.loop-place-test.true in
    let entries = c.args.entries.now in
    let others = c.args.others.now in
    let within = subst (λ n. at < n) c.loop-place.invariant.0 inside in (
      c.loop-place.invariant.0,
      alike_up_to (entries_of entries) (entries_of others) at _ _
          (subst (λ n. at < n) (sym (length-map entries entry_of)) inside)
          (subst (λ n. at < n) (sym (length-map others entry_of)) within)
          (seen_at entry_of _ at _ inside c.index-entries-place.is)
          (seen_at entry_of _ at _ within c.index-others-place.is)
          (c.if-not-same_entry.ensures.0 refl)
          c.loop-place.invariant.1,
    )
