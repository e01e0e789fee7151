-- Of `append_usage`: its clause `cut_short`.
use Rattle.std.proofs.Common.{ℕ, ◌<◌, List, length, take, subst}
use Rattle.std.specs.Io.KnownBytes.{Appends}
use Rattle.pm_live.proofs.top.append_usage.Goals as goal

pub returns-in-Err-clause-cut_short : goal.returns-in-Err-clause-cut_short
returns-in-Err-clause-cut_short g c = λ is.
    let P : List ℕ → Type 0 = λ text. (written : ℕ) × (written < length text)
    × Appends (g.K.Sink.held c.args.sink.now) (g.K.Sink.held c.write_all.new.sink) (take written text) in
    (c.in-Err.ensures.cause, subst P c.as_bytes.ensures.value (c.in-Err.field-0.written, c.in-Err.ensures.proper, c.in-Err.ensures.prefix))
