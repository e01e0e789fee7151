-- Of `DeviceAgent::new`: what it ensures.
use Rattle.std.proofs.Common.{◌≡◌, ◌∙◌, ap, ℤ, List, length}
use Rattle.pm_bid.proofs.Sums.{length-zeros}
use Rattle.pm_agent.proofs.AgentLaws.{same_agent}
use Rattle.pm_agent.proofs.agent.DeviceAgent.new.Goals as goal

pub returns : goal.returns
returns c =
    let none : length c.in_ok-none.none ≡ c.args.steps = ap (λ (bid : List ℤ). length bid) c.in_ok-none.ensures.bid ∙ length-zeros c.args.steps in
    let steps = ap (λ (bid : List ℤ). length bid) c.unchanged.ensures.demand ∙ none in
    record { agent = same_agent _ _ _ _ _ _ c.unchanged.ensures.kind c.unchanged.ensures.device steps }
