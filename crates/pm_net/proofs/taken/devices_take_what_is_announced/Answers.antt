-- Of `devices_take_what_is_announced`: its clauses are lemmas of `Flow`.
use Rattle.pm_net.proofs.Flow as flow
use Rattle.pm_net.proofs.taken.devices_take_what_is_announced.Goals as goal

pub returns-clause-node : goal.returns-clause-node
returns-clause-node c lists p cut x law by adds node says = flow.flows_as_offered lists law p by adds cut x node says

pub returns-clause-settled : goal.returns-clause-settled
returns-clause-settled c lists p cut x law by adds conc says = flow.flows_as_settled lists law p by adds cut x conc says

pub returns-clause-within : goal.returns-clause-within
returns-clause-within c lists p cut x limits law by adds conc says is falls has =
    flow.flows_within lists law p by adds cut x limits conc says is falls has

pub returns-clause-root : goal.returns-clause-root
returns-clause-root c lists p cut law by adds says = flow.flows_as_cleared lists law p by adds cut says

pub returns-clause-balanced : goal.returns-clause-balanced
returns-clause-balanced c lists p cut law by adds says early = flow.flows_balanced lists law p by adds cut says early

pub returns-clause-in_node_order : goal.returns-clause-in_node_order
returns-clause-in_node_order c lists a is some long = flow.adds_in_node_order lists a is some long
