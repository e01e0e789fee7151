-- Of `write_relay_resume`: its clause `written`.
use Rattle.std.proofs.Common.{◌∙◌, ap, ◌∷◌, ◌++◌, []}
use Rattle.std.specs.Int.{w16, to_be_bytes}
use Rattle.pm_frames.specs.Kinds.{resume_kind}
use Rattle.pm_frames.proofs.Written.{nine_written}
use Rattle.pm_frames.proofs.answers.write_relay_resume.Goals as goal

pub returns-clause-written : goal.returns-clause-written
returns-clause-written c =
    nine_written _ (resume_kind ∷ []) _ _ _ _ _ _ _ _ _ _ _ _ _ _ _ _ _ c.append.ensures.written c.write_u32.ensures.written
    c.write_u32-2.ensures.written c.write_u32-3.ensures.written c.write_basis.ensures.written c.write_limits.ensures.written
    (c.write_u16.ensures.written ∙ ap (λ g. c.write_limits.new.out.items ++ to_be_bytes w16 g) c.giver_number.ensures)
    c.write_limits-2.ensures.written c.write_numbers.ensures.written
