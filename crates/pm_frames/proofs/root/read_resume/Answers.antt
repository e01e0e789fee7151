-- Of `read_resume`: what it ensures.
use Rattle.pm_frames.proofs.ReadNodes.{root_resume_refused, fails}
use Rattle.pm_frames.proofs.root.read_resume.Goals as goal

pub returns-then-not-is_accepted-clause-one : goal.returns-then-not-is_accepted-clause-one
returns-then-not-is_accepted-clause-one g c =
    root_resume_refused _ _ _ c.requires.fresh c.in_ok-stored.ensures.stored c.in_ok-stored.ensures.spelled
    (fails c.is_accepted.result c.if-not-is_accepted.true c.is_accepted.ensures.1)
