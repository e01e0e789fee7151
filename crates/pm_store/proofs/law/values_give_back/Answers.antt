-- The law by its lemma.
use Rattle.pm_store.proofs.Values as values
use Rattle.pm_store.proofs.law.values_give_back.Goals as goal

pub returns : goal.returns
returns c = values.values_give_back
