-- Of `Standing::put`: its clause `stands`; what the calls of `exchange` and `copy_into` require; that its numbers fit.
use Rattle.std.proofs.Common.{◌≡◌, ◌∙◌, sym, subst, length, arith}
use Rattle.pm_walk.specs.Standing.{StandingValue, IsStanding}
use Rattle.pm_walk.specs.declared.standing.Standing.TheInside.{Inside}
use Rattle.pm_walk.proofs.Standings.{IsExchange, kept_places, kept_sum, kept_demand, read_within, read_stands}
use Rattle.pm_walk.proofs.standing.Standing.put.Goals as goal
use Rattle.pm_walk.proofs.standing.Standing.put.Goals.{After-uncounted}

abbrev kept : Inside → StandingValue
kept inside = record { progress = inside.progress.items; demands = inside.demands.items; sums = inside.sums.items }

-- of what is kept before the sum and the demand are read
exchange : (c : After-uncounted) → IsExchange c.args.plan.now (kept c.self.inside) c.args.device.0 c.group_of-group.result c.args.here
    c.index_mut-2.result.now c.index.result.now c.args.demand.now
exchange c = record {
  stands = subst (IsStanding c.args.plan.now) (sym c.self.view_is) c.requires.stands;
  leaf = c.requires.leaf;
  reached = c.requires.reached;
  bid_is = c.requires.demand;
  steps = c.requires.steps;
  group_is = c.group_of-group.ensures.group;
  sum_is = c.index_mut-2.ensures.value;
  demand_is = c.index.ensures;
}

-- the sum has the steps of the basis
sum_steps : (c : After-uncounted) → length c.index_mut-2.result.now ≡ c.args.plan.now.basis.steps
sum_steps c = kept_sum c.args.plan.now _ _ _ _ c.self.view_is c.requires.stands c.group_of-group.ensures.inside c.index_mut-2.ensures.value

pub index_mut-requires : goal.index_mut-requires
index_mut-requires c = omega (arith, kept_places c.args.plan.now _ _ c.self.view_is c.requires.stands, c.self.inside.progress.ok)

pub index_mut-requires-2 : goal.index_mut-requires-2
index_mut-requires-2 c =
    omega (arith, kept_places c.args.plan.now _ _ c.self.view_is c.requires.stands, c.group_of-group.ensures.inside, c.self.inside.sums.ok)

pub index-requires : goal.index-requires
index-requires c = omega (arith, kept_places c.args.plan.now _ _ c.self.view_is c.requires.stands, c.self.inside.demands.ok)

pub exchange-requires-clause-old_length : goal.exchange-requires-clause-old_length
exchange-requires-clause-old_length c = sum_steps (goal.at.exchange-requires-clause-old_length c).After-uncounted
    ∙ sym (kept_demand c.args.plan.now _ _ _ _ c.self.view_is c.requires.stands c.requires.inside c.index.ensures)

pub exchange-requires-clause-new_length : goal.exchange-requires-clause-new_length
exchange-requires-clause-new_length c = sum_steps (goal.at.exchange-requires-clause-new_length c).After-uncounted ∙ sym c.requires.steps

pub exchange-requires-clause-within : goal.exchange-requires-clause-within
exchange-requires-clause-within c = read_within (exchange (goal.at.exchange-requires-clause-within c).After-uncounted)

pub index_mut-requires-3 : goal.index_mut-requires-3
index_mut-requires-3 c = omega (arith, kept_places c.args.plan.now _ _ c.self.view_is c.requires.stands, c.self.inside.demands.ok)

pub copy_into-requires : goal.copy_into-requires
copy_into-requires c = c.requires.steps
    ∙ sym (kept_demand c.args.plan.now _ _ _ _ c.self.view_is c.requires.stands c.requires.inside c.index_mut-3.ensures.value)

pub returns-clause-stands : goal.returns-clause-stands
returns-clause-stands c = read_stands (exchange (goal.at.returns-clause-stands c).After-uncounted)
    _ c.exchange.ensures.exchanged _ c.copy_into.ensures.bid
