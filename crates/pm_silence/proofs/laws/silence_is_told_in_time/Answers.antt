-- Of `silence_is_told_in_time`: what is held by was answered before the cut, and a heartbeat was heard before.
use Rattle.pm_silence.proofs.Runs.{unanswered_holds_not, silent_by_then}
use Rattle.pm_silence.proofs.laws.silence_is_told_in_time.Goals as goal

pub returns-clause-beats : goal.returns-clause-beats
returns-clause-beats c clock l e validity heard d slow at long = silent_by_then clock l e validity heard d slow at long

pub returns-clause-answers : goal.returns-clause-answers
returns-clause-answers c clocks e validity grace d events are small at long = unanswered_holds_not e grace validity clocks are events d at long
