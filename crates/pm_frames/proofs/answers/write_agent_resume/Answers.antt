-- Of `write_agent_resume`: the room that `write_demands` requires; its clause `written`.
use Rattle.std.proofs.Common.{arith, ◌∷◌, []}
use Rattle.std.proofs.lemmas.Grind.{common_steps}
use Rattle.pm_wire.proofs.OneField.{length-demand_bytes}
use Rattle.pm_frames.specs.Kinds.{resume_kind, resume_gone_kind}
use Rattle.pm_frames.proofs.Written.{five_written, four_written}
use Rattle.pm_frames.proofs.answers.write_agent_resume.Goals as goal

pub write_demands-requires-clause-room : goal.write_demands-requires-clause-room
write_demands-requires-clause-room c =
    let room = rw c.in-Some.is at c.requires.room in grind (arith, common_steps, room, length-demand_bytes c.in-Some.demand.now)

pub returns-in-Some-clause-written : goal.returns-in-Some-clause-written
returns-in-Some-clause-written c =
    rw c.in-Some.is (five_written _ (resume_kind ∷ []) _ _ _ _ _ _ _ _ _ c.append.ensures.written c.write_u32.ensures.written
    c.write_u32-in-Some.ensures.written c.write_basis.ensures.written c.write_demands.ensures.written)

pub returns-in-None-clause-written : goal.returns-in-None-clause-written
returns-in-None-clause-written c =
    rw c.in-None.is (four_written _ (resume_gone_kind ∷ []) _ _ _ _ _ _ _ c.append-in-None.ensures.written c.write_u32-in-None.ensures.written
    c.write_u32-in-None-2.ensures.written c.write_basis-in-None.ensures.written)
