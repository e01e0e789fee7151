-- Of `Run::pass`: what it ensures.
use Rattle.std.proofs.Common.{sym, subst}
use Rattle.pm_walk.specs.Clearing.{IsClearing}
use Rattle.pm_walk.specs.Standing.{StandingValue, cut_made}
use Rattle.pm_walk.proofs.run.Run.pass.Goals as goal

pub returns-else-changed : goal.returns-else-changed
returns-else-changed c =
    let made = c.change_devices-changed.ensures in
    let same = made.same c.if-changed.false in
    record {
      sound = record {
        stands = made.stands;
        clearing = subst (λ (s : StandingValue). IsClearing c.args.plan.now (cut_made s.progress) c.args.self.now.clearing) (sym same)
            c.requires.before.sound.clearing;
        spare = made.spare;
      };
      cut = made.done;
    }
