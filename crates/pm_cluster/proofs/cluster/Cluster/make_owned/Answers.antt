-- Of `Cluster::make_owned`: its clause `change`; what the calls of `offer_demand` and `note_change` require; what the type keeps.
use Rattle.std.proofs.Common.{◌≡◌, refl, true, length}
use Rattle.std.specs.Prelude.{Some}
use Rattle.pm_offer.specs.Offers.{device_demand}
use Rattle.pm_plan.specs.Plans.{PlanData}
use Rattle.pm_cluster.specs.ClusterFields.{core_of}
use Rattle.pm_cluster.specs.declared.cluster.Cluster.TheInside.{Inside}
use Rattle.pm_cluster.proofs.Kept.{of_fields}
use Rattle.pm_cluster.specs.Offering.{IsFollowed}
use Rattle.pm_cluster.proofs.Noted.{IsNoted, followed, planned_change, has_link, has_notes, makes_of, keeps_fields}
use Rattle.pm_cluster.proofs.cluster.Cluster.make_owned.Goals as goal
use Rattle.pm_cluster.proofs.cluster.Cluster.make_owned.Goals.{After-self, After-note_change}

follows : (c : After-self) → IsFollowed c.self.inside.plan.now (core_of c.self.inside) c.args.next c.args.kind
follows c = followed c.self.inside c.args.self.now c.args.next c.args.kind c.self.view_is c.requires.follows

pub offer_demand-requires-clause-change : goal.offer_demand-requires-clause-change
offer_demand-requires-clause-change c =
    planned_change c.self.inside c.args.next c.args.kind (Some c.args.demand.now) c.self.invariant
    (follows (goal.at.offer_demand-requires-clause-change c).After-self) (of_fields c.self.inside c.args.self.now
    c.self.view_is (λ (plan : PlanData). c.args.next.member ≡ true →
    c.args.demand.now ≡ device_demand plan c.args.next.device c.args.next.number) c.requires.given)

pub offer_demand-requires-clause-link : goal.offer_demand-requires-clause-link
offer_demand-requires-clause-link c =
    has_link c.self.inside c.args.next c.args.kind c.args.demand.now c.self.invariant
    (follows (goal.at.offer_demand-requires-clause-link c).After-self) (of_fields c.self.inside c.args.self.now
    c.self.view_is (λ (plan : PlanData). length c.args.demand.now ≡ plan.basis.steps) c.requires.steps)

pub note_change-requires : goal.note_change-requires
note_change-requires c = record {
  places = has_notes c.self.inside c.args.next c.args.kind c.self.invariant (follows (goal.at.note_change-requires c).After-self);
}

-- the fields as they are written
abbrev written : After-note_change → Inside
written c = record c.self.inside {
  counts = c.note_change.new.counts;
  states = c.note_change.new.states;
  members = c.note_change.new.members;
  ports = c.note_change.new.ports;
  links = c.offer_demand.new.links;
}

noted : (c : After-note_change) → IsNoted c.self.inside (written c) c.args.next
noted c = record {
  other = c.offer_demand.new.demand;
  offered = c.offer_demand.ensures.offered;
  noted = c.note_change.ensures.noted;
  room = refl;
}

pub invariant_of-self : goal.invariant_of-self
invariant_of-self c =
    let at = goal.at.invariant_of-self c in
    keeps_fields c.self.inside (written at.After-note_change) c.args.next c.args.kind c.self.invariant (follows at.After-self)
    (noted at.After-note_change)

pub returns-clause-change : goal.returns-clause-change
returns-clause-change c =
    let at = goal.at.returns-clause-change c in
    makes_of c.self.inside (written at.After-note_change) c.args.self.now c.args.next c.args.kind c.note_change.result c.self.view_is
    c.self.invariant (follows at.After-self) (noted at.After-note_change) c.note_change.ensures.form
