-- Of `Standing::raise_device`: what it ensures; what the calls of `make_changes` and `reach` require.
use Rattle.std.proofs.Common.{◌∙◌, ◌-◌, ap, sym, refl, arith}
use Rattle.pm_walk.specs.declared.changes.Progress.{Progress}
use Rattle.pm_walk.proofs.Standings.{reached-read, further-set}
use Rattle.pm_walk.proofs.standing.Standing.raise_device.Goals as goal

pub returns-then-number-before : goal.returns-then-number-before
returns-then-number-before c = record {
  stands = c.requires.stands;
  done = ap (λ (p : Progress). p.count) (sym c.progress-before.ensures.progress) ∙ sym c.if-number-before.true;
  others = λ x other. refl;
  spare = c.requires.spare;
}

pub make_changes-here-requires-clause-reached : goal.make_changes-here-requires-clause-reached
make_changes-here-requires-clause-reached c =
    reached-read c.args.plan.now c.args.self.now.progress c.args.device.0 c.progress-before.result c.requires.stands.progress
    c.requires.inside c.progress-before.ensures.progress

pub reach-requires : goal.reach-requires
reach-requires c = record {
  leaf = c.requires.leaf;
  inside = c.requires.inside;
  stands = c.requires.stands;
  reached = c.make_changes-here.ensures.reached;
  spare = c.requires.spare;
}

pub returns : goal.returns
returns c =
    let further = further-set c.args.plan.now c.args.self.now.progress _ c.args.device.0 (c.args.number - c.progress-before.result.count) _ _
    c.requires.stands.progress c.requires.inside c.progress-before.ensures.progress c.make_changes-here.ensures.count c.reach.ensures.progress in
    let count = ap (λ (p : Progress). p.count) c.progress-before.ensures.progress in
    record {
      stands = c.reach.ensures.stands;
      done = omega (arith, further.here, count, c.requires.rises);
      others = further.others;
      spare = c.reach.ensures.spare;
    }
