-- Of `bids_keep_their_bounds`: its clauses.
use Rattle.pm_services.specs.Bounds.{widest, no_bounds}
use Rattle.pm_processes.specs.RelayProcess.{setup_with}
use Rattle.pm_processes.proofs.Bounded.{lists_none, all_bounded, root_all_bounded}
use Rattle.pm_processes.proofs.bids_keep_their_bounds.Goals as goal

pub returns-clause-relay : goal.returns-clause-relay
returns-clause-relay c child terms took wrote process =
    all_bounded (setup_with child terms process.basis) no_bounds (λ place. widest) lists_none process.held process.exchanges process.answers process.bounded

pub returns-clause-root : goal.returns-clause-root
returns-clause-root c took wrote process =
    root_all_bounded process.basis no_bounds (λ place. widest) lists_none process.root process.exchanges process.answers process.bounded
