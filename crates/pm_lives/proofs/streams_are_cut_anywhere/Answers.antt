-- Of `streams_are_cut_anywhere`: its clauses.
use Rattle.pm_frames.specs.Stored.{relay_resume_bytes, root_resume_bytes, agent_resume_bytes}
use Rattle.pm_lives.proofs.Cutting.{cut_anywhere}
use Rattle.pm_lives.proofs.streams_are_cut_anywhere.Goals as goal

pub returns-clause-relay : goal.returns-clause-relay
returns-clause-relay c basis child outs m = cut_anywhere relay_resume_bytes basis child outs m

pub returns-clause-root : goal.returns-clause-root
returns-clause-root c basis outs m = cut_anywhere root_resume_bytes basis 0 outs m

pub returns-clause-device : goal.returns-clause-device
returns-clause-device c basis child outs m = cut_anywhere agent_resume_bytes basis child outs m
