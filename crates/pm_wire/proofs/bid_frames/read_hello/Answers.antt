-- Of `read_hello`: what it ensures.
use Rattle.std.proofs.Common.{arith, ◌∙◌}
use Rattle.pm_wire.proofs.ReadFrames.{hello_read, hello_refused, same_check}
use Rattle.pm_wire.proofs.bid_frames.read_hello.Goals as goal

pub returns-in-Ok : goal.returns-in-Ok
returns-in-Ok c =
    hello_read _ _ _ _ _ _ _ _ c.requires c.read_i32-min.ensures.bytes c.read_i32-max.ensures.bytes c.read_u16-steps.ensures
    c.read_i32-min.ensures.fits c.read_i32-max.ensures.fits (omega arith)
    (c.in-Ok.ensures ∙ same_check _ _ _ _ c.read_i32-min.ensures.fits c.read_i32-max.ensures.fits (omega arith) c.from.ensures)

pub returns-in-Err : goal.returns-in-Err
returns-in-Err c =
    hello_refused _ _ _ _ _ _ _ c.in-Err.field-0 c.requires c.read_i32-min.ensures.bytes c.read_i32-max.ensures.bytes c.read_u16-steps.ensures
    c.read_i32-min.ensures.fits c.read_i32-max.ensures.fits (omega arith)
    (c.in-Err.ensures ∙ same_check _ _ _ _ c.read_i32-min.ensures.fits c.read_i32-max.ensures.fits (omega arith) c.from.ensures)
