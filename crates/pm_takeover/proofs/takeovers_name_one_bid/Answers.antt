-- What holds of a tested row: the law of the crate by its lemma.
use Rattle.pm_takeover.proofs.Runs.{one_bid}
use Rattle.pm_takeover.proofs.takeovers_name_one_bid.Goals as goal

pub returns : goal.returns
returns c = one_bid
