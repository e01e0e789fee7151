-- Of `member_shares`: what its loop over `member` keeps.
use Rattle.std.proofs.Common.{◌≡◌, map, take}
use Rattle.pm_bill.specs.Charges.{member_share}
use Rattle.pm_bill.proofs.charges.member_shares.Given as goal

abbrev pub invariant-loop-member : goal.invariant-loop-member
invariant-loop-member l = l.shares.items ≡ map (member_share l.plan l.end.end) (take l.member-index l.member-items)
