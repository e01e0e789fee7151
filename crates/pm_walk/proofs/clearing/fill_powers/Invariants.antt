-- Of `fill_powers`: what its loop over `number` keeps.
use Rattle.std.proofs.Common.{◌≡◌, ◌<◌, ℕ, get_or, pos}
use Rattle.pm_plan.specs.Auction.{power}
use Rattle.pm_plan.specs.States.{state}
use Rattle.pm_walk.specs.Standing.{cut_made}
use Rattle.pm_walk.proofs.clearing.fill_powers.Given as goal

abbrev pub invariant-loop-number : goal.invariant-loop-number
invariant-loop-number l = (x : ℕ) → x < l.number → get_or l.powers x (pos 0) ≡ power l.plan (state l.plan) (cut_made l.standing.progress) x
