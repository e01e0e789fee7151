-- Of `write_root_resume`: its clause `written`.
use Rattle.std.proofs.Common.{◌∷◌, []}
use Rattle.pm_frames.specs.Kinds.{resume_kind}
use Rattle.pm_frames.proofs.Written.{four_written}
use Rattle.pm_frames.proofs.answers.write_root_resume.Goals as goal

pub returns-clause-written : goal.returns-clause-written
returns-clause-written c =
    four_written _ (resume_kind ∷ []) _ _ _ _ _ _ _ c.append.ensures.written c.write_u32.ensures.written c.write_basis.ensures.written
    c.write_numbers.ensures.written
