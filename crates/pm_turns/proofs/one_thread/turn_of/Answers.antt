-- Of `turn_of`: its clause `none`.
use Rattle.std.proofs.Common.{◌∙◌, sym}
use Rattle.std.proofs.lemmas.Option.{MatchOption-at_none}
use Rattle.pm_base.proofs.Options.{none_of}
use Rattle.pm_turns.proofs.one_thread.turn_of.Goals as goal

pub returns-clause-none : goal.returns-clause-none
returns-clause-none g c off = MatchOption-at_none _ _ (none_of c.in-Ok.line (sym c.is_some.ensures ∙ off)) c.in-Ok.ensures.adds
