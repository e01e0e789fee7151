-- Of `plans_price_networks`: its clauses `goes` and `prices`.
use Rattle.std.proofs.Common.{ap}
use Rattle.pm_net.specs.Messages.{PriceMessage}
use Rattle.pm_net_plan.proofs.PlanPlaces.{goes}
use Rattle.pm_net_plan.proofs.places.plans_price_networks.Goals as goal

pub returns-clause-goes : goal.returns-clause-goes
returns-clause-goes c plan limits is_plan never good = goes plan is_plan never limits good

pub returns-clause-prices : goal.returns-clause-prices
returns-clause-prices c plan limits net s x k is_plan agrees node lt = ap (λ (q : PriceMessage). q.step) (agrees.prices_sent x k node lt).1
