-- Of `add_shares`: what its loop over `share` keeps.
use Rattle.std.proofs.Common.{take}
use Rattle.pm_bill.specs.Shares.{AreAdded}
use Rattle.pm_bill.proofs.sums.add_shares.Given as goal

abbrev pub invariant-loop-share : goal.invariant-loop-share
invariant-loop-share l = AreAdded l.minutes (take l.share-index l.shares) l.fn.accounts l.accounts
