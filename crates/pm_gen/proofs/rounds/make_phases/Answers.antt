-- Of `make_phases`: what it ensures; what the call of `push_rounds` requires.
use Rattle.std.proofs.Common.{◌≡◌, ◌∙◌, ◌++◌, [], ◌∷◌, true, length, map, ap, sym, subst, arith}
use Rattle.std.specs.List.{range_with_len}
use Rattle.std.proofs.lemmas.List.{length-replicate}
use Rattle.pm_plan.specs.declared.parts.PhaseSpec.TheVariants.{Events}
use Rattle.pm_plan.specs.Parts.{phase_part, events, join}
use Rattle.pm_gen.specs.Nodes.{device_name}
use Rattle.pm_gen.specs.Rounds.{joined_flags, rounds, demo_phases}
use Rattle.pm_gen.proofs.Flags.{all_flags}
use Rattle.pm_gen.proofs.rounds.make_phases.Goals as goal

pub push_rounds-requires-clause-few : goal.push_rounds-requires-clause-few
push_rounds-requires-clause-few c =
    let count : length c.deref_mut.result.now ≡ c.args.size = ap length (c.deref_mut.ensures.value ∙ c.in_ok-members.ensures)
    ∙ length-replicate c.args.size true in
    omega arith

pub push_rounds-requires-clause-joined : goal.push_rounds-requires-clause-joined
push_rounds-requires-clause-joined c =
    let made = c.deref_mut.ensures.value ∙ c.in_ok-members.ensures in
    let count : length c.deref_mut.result.now ≡ c.args.size = ap length made ∙ length-replicate c.args.size true in
    subst (λ n. c.deref_mut.result.now ≡ joined_flags n (range_with_len 1 n)) (sym count) (all_flags c.args.size c.deref_mut.result.now made)

pub returns : goal.returns
unfolding demo_phases
returns c =
    let count : length c.deref_mut.result.now ≡ c.args.size = ap length (c.deref_mut.ensures.value ∙ c.in_ok-members.ensures)
    ∙ length-replicate c.args.size true in
    let first : map phase_part c.push.new.self.items ≡ events (map (λ i. join (device_name i)) (range_with_len 1 c.args.size)) ∷ [] =
    ap (map phase_part) (c.in_ok-push.ensures.items ∙ ap (λ front. front ++ Events c.in_ok-join_all.field-0 ∷ []) c.new-phases.ensures.items)
    ∙ ap (λ list. events list ∷ []) c.in_ok-join_all.ensures in
    c.in_ok-push_rounds.ensures ∙ (λ i. first i ++ rounds 10 (count i) (range_with_len 1 (count i)) c.args.draws.now.seed)
