-- Of `let_go_means_fallen_back`: a run keeps a lease sound.
use Rattle.pm_silence.specs.Leases.{first_state, states_after}
use Rattle.pm_silence.proofs.Runs.{starts_sound, run_keeps, not_counted_holds_not}
use Rattle.pm_silence.proofs.laws.let_go_means_fallen_back.Goals as goal

pub returns : goal.returns
returns c clocks e validity grace events are small enough gone =
    not_counted_holds_not e grace validity clocks (states_after clocks grace (first_state clocks) events)
    (run_keeps e grace validity clocks are events (first_state clocks) (starts_sound e grace validity clocks)) enough gone
