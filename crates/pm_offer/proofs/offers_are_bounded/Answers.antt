-- The clause is the lemma, said of each step.
use Rattle.pm_offer.proofs.Laws.{children_within}
use Rattle.pm_offer.proofs.offers_are_bounded.Goals as goal

pub returns-clause-within : goal.returns-clause-within
returns-clause-within c = λ plan y cut is inner. children_within plan y cut is inner
