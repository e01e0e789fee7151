-- Of `write_setpoint`: its clause `written`.
use Rattle.std.proofs.Common.{◌∙◌, ap, ◌∷◌, ◌++◌, []}
use Rattle.pm_wire.specs.Frames.{signed_bytes}
use Rattle.pm_wire.proofs.OneField.{wide}
use Rattle.pm_frames.specs.Kinds.{setpoint_kind}
use Rattle.pm_frames.proofs.Written.{five_written}
use Rattle.pm_frames.proofs.answers.write_setpoint.Goals as goal

pub returns-clause-written : goal.returns-clause-written
returns-clause-written c =
    let power = c.args.setpoint.power in
    five_written _ (setpoint_kind ∷ []) _ _ _ (signed_bytes power) _ _ _ _ _ c.append.ensures.written c.write_u32.ensures.written
    c.write_u32-2.ensures.written c.write_u16.ensures.written
    (c.write_i32.ensures.written ∙ ap (λ z. c.write_u16.new.out.items ++ signed_bytes z) (wide power c.requires.power))
