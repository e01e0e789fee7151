-- Of `room_for`: what it ensures where the power does not go over.
use Rattle.std.proofs.Common.{rules, ◌≡◌, false}
use Rattle.std.proofs.lemmas.Int.{to_z-of_z}
use Rattle.pm_guard.specs.Bands.{goes_over, goes_under}
use Rattle.pm_guard.proofs.Ends.{neither}
use Rattle.pm_guard.proofs.guard.room_for.Goals as goal

pub returns-then-not-goes_over : goal.returns-then-not-goes_over
returns-then-not-goes_over c =
    let over : c.goes_over.result ≡ goes_over c.args.limits.ceiling c.args.worst c.args.most c.args.high = search (rules, to_z-of_z, c.goes_over.ensures) in
    let under : c.goes_under.result ≡ goes_under c.args.limits.floor c.args.best c.args.least c.args.low = search (rules, to_z-of_z, c.goes_under.ensures) in
    let no : c.goes_over.result ≡ false = c.if-not-goes_over.true in
    neither (goes_over c.args.limits.ceiling c.args.worst c.args.most c.args.high)
    (goes_under c.args.limits.floor c.args.best c.args.least c.args.low) _ _ over under no
