-- Of `a_node_is_still_where_it_has_no_move`: its clauses `node` and `all`.
use Rattle.pm_stands.proofs.StillNodes.{still_is, all_still_is}
use Rattle.pm_stands.proofs.still.a_node_is_still_where_it_has_no_move.Goals as goal

pub returns-clause-node : goal.returns-clause-node
returns-clause-node c = still_is

pub returns-clause-all : goal.returns-clause-all
returns-clause-all c = all_still_is
