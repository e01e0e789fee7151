-- One node after the other is awake.
use Rattle.std.proofs.Common.{arith, length, ◌≡◌}
use Rattle.pm_waking.proofs.Replaced.{forgets_nobody_still, awake_next, awake_all}
use Rattle.pm_waking.proofs.roster.Roster.wake_all.Goals as goal

pub loop-place-preserved : goal.loop-place-preserved
loop-place-preserved c = record {
  awake = awake_next c.loop-place.self.entries c.wake.new.self.entries c.loop-place.place
      c.loop-place.invariant.awake c.wake.ensures.others c.wake.ensures.awake;
  wakes = forgets_nobody_still _ _ _ c.loop-place.invariant.wakes c.wake.ensures.wakes;
}

pub returns-clause-awake : goal.returns-clause-awake
returns-clause-awake c =
    let many : length c.loop-place.self.entries ≡ length c.args.self.now.entries = c.loop-place.invariant.wakes.many in
    let end = c.len-place-end.ensures in
    let past = c.loop-place-test.false in
    awake_all c.loop-place.self.entries c.loop-place.place (omega (arith, many, end, past)) c.loop-place.invariant.awake
