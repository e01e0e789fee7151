-- The first nodes are awake, and nobody was forgotten so far.
use Rattle.std.proofs.Common.{◌≡◌, ℕ, ◌<◌, None}
use Rattle.pm_waking.specs.Sleeping.{ForgetsNobody, asleep_at}
use Rattle.pm_waking.proofs.roster.Roster.wake_all.Given as goal

abbrev pub invariant-loop-place : goal.invariant-loop-place
invariant-loop-place l = record {
  awake : (x : ℕ) → x < l.place → asleep_at l.self.entries x ≡ None;
  wakes : ForgetsNobody l.fn.self l.self;
}
