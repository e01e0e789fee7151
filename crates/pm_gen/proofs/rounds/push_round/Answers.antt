-- Of `push_round`: its clause `phases`.
use Rattle.std.proofs.Common.{◌≡◌, ◌∙◌, ◌++◌, [], ◌∷◌, List, map, ap, pos, append_assoc}
use Rattle.std.proofs.lemmas.List.{map-append}
use Rattle.pm_plan.specs.declared.parts.PhaseSpec.{PhaseSpec}
use Rattle.pm_plan.specs.Parts.{phase_part, tick, events}
use Rattle.pm_gen.proofs.rounds.push_round.Goals as goal

-- the phases after two pushes
both_pushed : (old between new : List PhaseSpec) (first second : PhaseSpec) → between ≡ old ++ first ∷ [] → new ≡ between ++ second ∷ [] →
    map phase_part new ≡ map phase_part old ++ phase_part first ∷ phase_part second ∷ []
both_pushed old between new first second pushed again =
    ap (map phase_part) (again ∙ ap (λ front. front ++ second ∷ []) pushed ∙ append_assoc old (first ∷ []) (second ∷ []))
    ∙ map-append phase_part old (first ∷ second ∷ [])

pub returns-clause-phases : goal.returns-clause-phases
returns-clause-phases c = λ earlier flags.
    both_pushed c.args.phases.now.items c.push.new.self.items c.push-2.new.self.items _ _ c.in_ok-push.ensures.items c.in_ok-push-2.ensures.items
    ∙ ap (λ made. map phase_part c.args.phases.now.items ++ tick (pos 15) ∷ events made ∷ []) (c.in_ok-turn_round.ensures.events earlier flags)
