-- Of `Run::stop_at`: the turns of its loop over `phase`.
use Rattle.std.proofs.Common.{◌≡◌, ◌+◌, ◌-◌, subst, ℕ, arith}
use Rattle.pm_walk.specs.Cuts.{AreStops}
use Rattle.pm_walk.specs.Runs.{IsAtEnd}
use Rattle.pm_walk.proofs.run.Run.stop_at.Goals as goal

pub loop-phase-preserved : goal.loop-phase-preserved
loop-phase-preserved c =
    let plan = c.args.plan.now in
    let p = c.loop-phase.phase in
    let same : p ≡ p + 1 - 1 = omega arith in
    record {
      run = subst (λ (q : ℕ). IsAtEnd plan q c.pass.new.self) same c.pass.ensures;
      stops = subst (λ (q : ℕ). AreStops plan c.args.cut.now q c.change_stops.new.stops) same c.change_stops.ensures;
    }
