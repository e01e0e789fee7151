-- Of `Record::write_limited`: what it ensures.
use Rattle.std.proofs.Common.{rules}
use Rattle.pm_session.proofs.record.Record.write_limited.Goals as goal

pub returns : goal.returns
returns c = search rules
