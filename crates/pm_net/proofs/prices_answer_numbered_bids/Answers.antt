-- Of `prices_answer_numbered_bids`: its clauses `named` and `back`.
use Rattle.pm_net.proofs.Runs.{never_back}
use Rattle.pm_net.proofs.prices_answer_numbered_bids.Goals as goal

pub returns-clause-named : goal.returns-clause-named
returns-clause-named c lists p net s x k agrees node lt = (agrees.prices_sent x k node lt).1

pub returns-clause-back : goal.returns-clause-back
returns-clause-back c lists p net s x i j d law agrees node i_lt j_lt le leaf = never_back lists law p net s agrees x i j node i_lt j_lt le d leaf
