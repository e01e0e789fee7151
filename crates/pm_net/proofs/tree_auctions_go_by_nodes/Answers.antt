-- Of `tree_auctions_go_by_nodes`: its clauses `goes` and `in_node_order`.
use Rattle.pm_net.proofs.TreeAuctions.{goes_by_nodes, in_node_order}
use Rattle.pm_net.proofs.tree_auctions_go_by_nodes.Goals as goal

pub returns-clause-goes : goal.returns-clause-goes
returns-clause-goes c lists a law asked = goes_by_nodes lists law a asked

pub returns-clause-in_node_order : goal.returns-clause-in_node_order
returns-clause-in_node_order c lists a is none around by = in_node_order lists a is none around by
