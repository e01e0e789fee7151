-- Of `drop_offers`: its clause `offers`.
use Rattle.std.proofs.Common.{rules, leb}
use Rattle.std.proofs.lemmas.Fn.{filter_same}
use Rattle.pm_net.specs.Agents.{Offer}
use Rattle.pm_control.proofs.agent.drop_offers.Goals as goal

pub returns-clause-offers : goal.returns-clause-offers
returns-clause-offers c =
    filter_same _ (λ (o : Offer). leb c.args.number o.number) _ (λ x b f' t. search rules) _ _ c.retain.ensures.filtered
