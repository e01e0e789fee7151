-- Of `begin`: what its loop over `place` keeps.
use Rattle.std.proofs.Common.{◌≡◌, ℕ, ◌<◌, length, None}
use Rattle.pm_phase.specs.Matchers.{waiting_at}
use Rattle.pm_phase.proofs.parent.ParentPart.begin.Given as goal

abbrev pub invariant-loop-place : goal.invariant-loop-place
invariant-loop-place l =
    (l.self.matcher ≡ l.fn.self.matcher)
    × (l.self.waiting ≡ l.fn.self.waiting)
    × (l.self.learnt ≡ l.fn.self.learnt)
    × (l.self.pending ≡ None)
    × (length l.self.prices.items ≡ length l.fn.self.prices.items)
    × ((k : ℕ) → k < l.place → waiting_at l.self.prices.items k ≡ None)
