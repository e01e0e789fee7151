-- Of `note`: its clause `told`.
use Rattle.std.proofs.Common.{◌≡◌, ◌∙◌, sym, ap, ◌<◌, length, Some, arith}
use Rattle.std.specs.Prelude.{slice_get}
use Rattle.std.proofs.lemmas.List.{get_or_read}
use Rattle.std.proofs.lemmas.Option.{slice_get-get_or}
use Rattle.pm_phase.specs.Telling.{listed_changes}
use Rattle.pm_free.proofs.Told.{told_set}
use Rattle.pm_free.proofs.planning.note.Goals as goal

pub returns-in_ok-push : goal.returns-in_ok-push
returns-in_ok-push c =
    let changes = c.args.changes.now.items in
    let device = c.args.next.device in
    let list = c.index_mut.result.now in
    let inside : device < length changes = omega (arith, c.if-device-len.true, c.len.ensures) in
    let here : slice_get changes device ≡ Some list =
    slice_get-get_or changes device list inside ∙ ap Some (sym (get_or_read changes device list inside c.index_mut.ensures.value list)) in
    record {
      told = λ plan is told. told_set plan changes device c.push.new.self list.items c.args.next inside (ap listed_changes here)
          c.in_ok-push.ensures.items is told;
    }
