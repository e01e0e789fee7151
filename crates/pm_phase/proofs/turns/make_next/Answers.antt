-- Of `make_next`: its clause `keeps`.
use Rattle.std.proofs.Common.{◌≡◌, ◌∙◌, sym, ap, subst, Some}
use Rattle.std.specs.Prelude.{slice_get}
use Rattle.std.proofs.lemmas.Option.{slice_get-get_or}
use Rattle.pm_phase.specs.Telling.{AreNext}
use Rattle.pm_phase.proofs.DeviceKeeps.{made_or_not, told_of}
use Rattle.pm_phase.proofs.turns.make_next.Goals as goal

pub returns : goal.returns
returns g c = record {
  keeps = λ before changes end is are kept.
      let plan = c.args.phase.now.plan.now in
      let d = c.args.number in
      let made = c.make_change.ensures in
      let same : c.deref.result.now ≡ changes = c.deref.ensures.value
      ∙ told_of (slice_get c.args.phase.now.changes.now d) c.in-Some.changes.now (λ list. list.items ≡ changes) (let l = c.in-Some.ensures.lookup in
      slice_get-get_or c.args.phase.now.changes.now d c.in-Some.changes.now l.3.0 ∙ ap Some (sym l.1)) is in
      made_or_not plan d before c.deref.result.now c.make_change.result c.args.device.now c.make_change.new.self end
      (subst (AreNext plan d before) (sym same) are) made.made made.some made.unchanged made.failed kept;
}
