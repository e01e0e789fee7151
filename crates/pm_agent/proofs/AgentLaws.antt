-- An agent stays the same over its work.
use Rattle.std.proofs.Common.{◌≡◌, ℕ, length, subst, ◌∙◌, ap}
use Rattle.pm_device.specs.declared.kind.Kind.{Kind}
use Rattle.pm_device.specs.declared.state.Next.{Next}
use Rattle.pm_agent.specs.Agents.{Agent}
use Rattle.pm_agent.specs.MadeBids.{MadeBid}

-- the agent that last made this
abbrev pub agent_of : MadeBid → Agent
agent_of made = record { kind = made.kind; device = made.next.device; steps = length made.demand }

-- two agents with the same kind, device and number of steps are one
pub same_agent : (kind kind' : Kind) (device device' steps steps' : ℕ) → kind' ≡ kind → device' ≡ device → steps' ≡ steps →
    (let a : Agent = record { kind = kind'; device = device'; steps = steps' } in let b : Agent =
    record { kind = kind; device = device; steps = steps } in a ≡ b)
same_agent kind kind' device device' steps steps' k d s = cc

-- a bid made anew with the same kind, device and number of steps is one of the same agent
pub kept_agent : (value : Agent) (made new : MadeBid) (next : Next) → agent_of made ≡ value → next.device ≡ value.device →
    new.next ≡ next → new.kind ≡ made.kind → length new.demand ≡ length made.demand → agent_of new ≡ value
kept_agent value made new next view device next_is kind_is steps_is =
    let P : Agent → Type 0 = λ v. next.device ≡ v.device → agent_of new ≡ v in
    subst P view (λ same. same_agent made.kind new.kind made.next.device new.next.device (length made.demand)
    (length new.demand) kind_is (ap (λ (n : Next). n.device) next_is ∙ same) steps_is) device
