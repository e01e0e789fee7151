-- Of `Standing::change_device`: its clause `done`; what the calls of `make_changes` and `reach` require.
use Rattle.std.proofs.Common.{◌∙◌, ◌-◌, arith}
use Rattle.std.proofs.lemmas.Int.{to_z-of_z}
use mir.Syntax.{w64}
use Rattle.pm_plan.proofs.Ends.{end-rises}
use Rattle.pm_walk.proofs.Standings.{reached-read, further-set}
use Rattle.pm_walk.proofs.standing.Standing.change_device.Goals as goal

pub returns-then-many-eq0-clause-done : goal.returns-then-many-eq0-clause-done
returns-then-many-eq0-clause-done c = omega (arith, end-rises c.args.plan.now (c.args.phase - 1) c.args.phase c.args.device.0 (omega arith))

pub make_changes-here-requires-clause-reached : goal.make_changes-here-requires-clause-reached
make_changes-here-requires-clause-reached c =
    reached-read c.args.plan.now c.args.self.now.progress c.args.device.0 c.progress-before.result c.requires.stands.progress
    c.requires.inside c.progress-before.ensures.progress

pub make_changes-here-requires-clause-used : goal.make_changes-here-requires-clause-used
make_changes-here-requires-clause-used c = to_z-of_z w64 c.args.used c.ranges.used ∙ c.requires.used

pub reach-requires : goal.reach-requires
reach-requires c = record {
  leaf = c.requires.leaf;
  inside = c.requires.inside;
  stands = c.requires.stands;
  reached = c.make_changes-here.ensures.reached;
  spare = c.requires.spare;
}

pub returns : goal.returns
returns c =
    let further = further-set c.args.plan.now c.args.self.now.progress _ c.args.device.0 c.changes_of-many.result _ _ c.requires.stands.progress
    c.requires.inside c.progress-before.ensures.progress c.make_changes-here.ensures.count c.reach.ensures.progress in
    let rises = end-rises c.args.plan.now (c.args.phase - 1) c.args.phase c.args.device.0 (omega arith) in
    record {
      stands = c.reach.ensures.stands;
      done = omega (arith, further.here, c.changes_of-many.ensures, c.requires.begun, rises);
      others = further.others;
      same = λ none. absurd (cc none);
      spare = c.reach.ensures.spare;
    }
