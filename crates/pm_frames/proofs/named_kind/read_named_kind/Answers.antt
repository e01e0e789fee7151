-- Of `read_named_kind`: its clause `spelled`.
use Rattle.pm_frames.proofs.OneOffer.{kind_read_spelled}
use Rattle.pm_frames.proofs.named_kind.read_named_kind.Goals as goal

pub returns-clause-spelled : goal.returns-clause-spelled
returns-clause-spelled c =
    kind_read_spelled c.args.body.now c.read_byte-number.result.1.now c.read_i32-first.result.1.now c.read_i32-second.result.1.now
    c.read_i32-third.result.1.now c.read_i32-fourth.result.1.now c.read_i32-fifth.result.1.now c.read_byte-number.result.0
    c.read_i32-first.result.0 c.read_i32-second.result.0 c.read_i32-third.result.0 c.read_i32-fourth.result.0 c.read_i32-fifth.result.0
    c.requires c.read_i32-first.ensures.fits c.read_i32-second.ensures.fits c.read_i32-third.ensures.fits c.read_i32-fourth.ensures.fits
    c.read_i32-fifth.ensures.fits c.read_byte-number.ensures c.read_i32-first.ensures.bytes c.read_i32-second.ensures.bytes
    c.read_i32-third.ensures.bytes c.read_i32-fourth.ensures.bytes c.read_i32-fifth.ensures.bytes
