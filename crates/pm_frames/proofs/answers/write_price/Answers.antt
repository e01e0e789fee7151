-- Of `write_price`: its clause `written`.
use Rattle.std.proofs.Common.{◌∷◌, []}
use Rattle.pm_frames.specs.Kinds.{price_kind}
use Rattle.pm_frames.proofs.Written.{six_written}
use Rattle.pm_frames.proofs.answers.write_price.Goals as goal

pub returns-clause-written : goal.returns-clause-written
returns-clause-written c =
    six_written _ (price_kind ∷ []) _ _ _ _ _ _ _ _ _ _ _ c.append.ensures.written c.write_u16.ensures.written c.write_u32.ensures.written
    c.write_u32-2.ensures.written c.write_u16-2.ensures.written c.write_basis.ensures.written
