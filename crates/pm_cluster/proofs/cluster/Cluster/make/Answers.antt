-- Of `Cluster::make`: what it ensures; what the calls of `fill_given`, `offer_demand` and `note_change` require; what the type keeps.
use Rattle.std.proofs.Common.{◌≡◌, ◌∙◌, sym, true}
use Rattle.std.specs.Prelude.{Some, IfSome}
use Rattle.std.specs.Option.{option_copied}
use Rattle.pm_offer.specs.Offers.{device_demand}
use Rattle.pm_plan.specs.Plans.{PlanData}
use Rattle.pm_cluster.specs.ClusterFields.{core_of}
use Rattle.pm_cluster.specs.declared.cluster.Cluster.TheInside.{Inside}
use Rattle.pm_cluster.proofs.Kept.{of_fields}
use Rattle.pm_cluster.specs.Offering.{IsFollowed}
use Rattle.pm_cluster.proofs.Noted.{IsNoted, followed, planned_change, has_link, has_notes, makes_of, keeps_fields}
use Rattle.pm_cluster.proofs.cluster.Cluster.make.Goals as goal
use Rattle.pm_cluster.proofs.cluster.Cluster.make.Goals.{After-self, After-note_change}

follows : (c : After-self) → IsFollowed c.self.inside.plan.now (core_of c.self.inside) c.args.next c.args.kind
follows c = followed c.self.inside c.args.self.now c.args.next c.args.kind c.self.view_is c.requires.follows

pub fill_given-requires-clause-change : goal.fill_given-requires-clause-change
fill_given-requires-clause-change c =
    let next = c.args.next in
    let given = option_copied c.args.given in
    planned_change c.self.inside next c.args.kind given c.self.invariant (follows (goal.at.fill_given-requires-clause-change c).After-self)
    (of_fields c.self.inside c.args.self.now c.self.view_is (λ (plan : PlanData).
    next.member ≡ true → IfSome given (λ demand. demand ≡ device_demand plan next.device next.number)) c.requires.given)

pub fill_given-requires-clause-room : goal.fill_given-requires-clause-room
fill_given-requires-clause-room c = c.self.invariant.spare

pub offer_demand-requires-clause-change : goal.offer_demand-requires-clause-change
offer_demand-requires-clause-change c =
    planned_change c.self.inside c.args.next c.args.kind (Some c.fill_given.new.out) c.self.invariant
    (follows (goal.at.offer_demand-requires-clause-change c).After-self) c.fill_given.ensures.demand

pub offer_demand-requires-clause-link : goal.offer_demand-requires-clause-link
offer_demand-requires-clause-link c =
    has_link c.self.inside c.args.next c.args.kind c.fill_given.new.out c.self.invariant
    (follows (goal.at.offer_demand-requires-clause-link c).After-self) (c.fill_given.ensures.same_length ∙ c.self.invariant.spare)

pub note_change-requires : goal.note_change-requires
note_change-requires c = record {
  places = has_notes c.self.inside c.args.next c.args.kind c.self.invariant (follows (goal.at.note_change-requires c).After-self);
}

-- the fields as they are written
abbrev written : After-note_change → Inside
written c = record c.self.inside {
  counts = c.note_change.new.counts;
  states = c.note_change.new.states;
  members = c.note_change.new.members;
  ports = c.note_change.new.ports;
  links = c.offer_demand.new.links;
  spare = c.offer_demand.new.demand;
}

noted : (c : After-note_change) → IsNoted c.self.inside (written c) c.args.next
noted c = record {
  other = c.offer_demand.new.demand;
  offered = c.offer_demand.ensures.offered;
  noted = c.note_change.ensures.noted;
  room = c.offer_demand.ensures.offered.room ∙ sym c.self.invariant.spare;
}

pub invariant_of-self : goal.invariant_of-self
invariant_of-self c =
    let at = goal.at.invariant_of-self c in
    keeps_fields c.self.inside (written at.After-note_change) c.args.next c.args.kind c.self.invariant (follows at.After-self)
    (noted at.After-note_change)

pub returns : goal.returns
returns c =
    let at = goal.at.returns c in
    record {
      change = makes_of c.self.inside (written at.After-note_change) c.args.self.now c.args.next c.args.kind c.note_change.result c.self.view_is
          c.self.invariant (follows at.After-self) (noted at.After-note_change) c.note_change.ensures.form;
    }
