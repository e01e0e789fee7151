-- Of `steps_of_a_newer_bid`: what the call of `replace` requires.
use Rattle.pm_bid.proofs.SumLaws.{sum_of_one}
use Rattle.test_parts.proofs.cache.steps_of_a_newer_bid.Goals as goal

pub replace-requires-clause-within : goal.replace-requires-clause-within
replace-requires-clause-within c =
    rw (c.in_ok-cache.ensures.empty, sum_of_one 1000 255 c.args.bid.now c.requires.thousand) c.requires.within
