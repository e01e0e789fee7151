-- What holds of a tested row: the law of the crate by its lemma.
use Rattle.pm_takeover.proofs.Fence as fence
use Rattle.pm_takeover.proofs.takeovers_are_fenced.Goals as goal

pub returns : goal.returns
returns c = fence.fenced
