-- Of `DeviceAgent::work`: what it ensures; what the type keeps.
use Rattle.std.proofs.Common.{◌≡◌, ◌∙◌, ap, sym, subst, refl}
use Rattle.pm_agent.specs.Agents.{Agent, IsAgent}
use Rattle.pm_agent.specs.MadeBids.{demand_after_change}
use Rattle.pm_agent.proofs.AgentLaws.{kept_agent}
use Rattle.pm_agent.proofs.agent.DeviceAgent.work.Goals as goal

pub invariant_of-self : goal.invariant_of-self
invariant_of-self c =
    let kept = kept_agent c.args.self.now c.self.inside.made c.follow.new.self c.args.next c.self.view_is c.requires.device
    c.follow.ensures.next c.follow.ensures.kind c.follow.ensures.steps in
    let P : Agent → Type 0 = IsAgent in
    subst P (c.self.view_is ∙ sym kept) c.self.invariant

pub returns : goal.returns
returns c =
    let kept = kept_agent c.args.self.now c.self.inside.made c.follow.new.self c.args.next c.self.view_is c.requires.device
    c.follow.ensures.next c.follow.ensures.kind c.follow.ensures.steps in
    let D : Agent → Type 0 = λ v. c.follow.new.self.demand ≡ demand_after_change v.kind c.args.next c.args.arrays.now v.steps in (
      (refl, (λ _. tt), kept),
      record {
        agent = tt;
        next = c.follow.ensures.next;
        kind = c.follow.ensures.kind ∙ ap (λ (a : Agent). a.kind) c.self.view_is;
        demand = subst D c.self.view_is c.follow.ensures.demand;
        steps = c.follow.ensures.steps ∙ ap (λ (a : Agent). a.steps) c.self.view_is;
        made = c.follow.ensures.made;
      },
    )
