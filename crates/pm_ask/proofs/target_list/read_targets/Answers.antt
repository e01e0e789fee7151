-- Of `read_targets`: its clauses `accepted`, `refused` and `read`; what the call of `loop` requires; the turns of its loop over `rest`.
use Rattle.std.proofs.Common.{rules, ◌∙◌, ap, ◌+◌, ◌<◌, length, ◌∷◌, ◌++◌, [], arith, FitsSigned, w64}
use Rattle.std.proofs.lemmas.Bool.Decides.{nat_tests}
use Rattle.std.proofs.lemmas.Int.{to_z-of_z}
use Rattle.std.proofs.lemmas.Grind.{common_steps}
use Rattle.pm_ask.specs.TargetLists.{most_targets, IsFirstBadLine}
use Rattle.pm_ask.proofs.TargetTexts.{no_list, read_to_end, target_pushed}
use Rattle.pm_ask.proofs.target_list.read_targets.Goals as goal

pub returns-then-len-eq-MOST_TARGETS-clause-accepted : goal.returns-then-len-eq-MOST_TARGETS-clause-accepted
returns-then-len-eq-MOST_TARGETS-clause-accepted c = λ targets is.
    let bad : IsFirstBadLine (c.len.result + 1) c.args.text.now = search rules in
    absurd (no_list targets _ _ is bad)

pub returns-in_default-clause-accepted : goal.returns-in_default-clause-accepted
returns-in_default-clause-accepted c = λ targets is.
    let bad : IsFirstBadLine (c.len.result + 1) c.args.text.now = search rules in
    absurd (no_list targets _ _ is bad)

pub loop-rest-preserved : goal.loop-rest-preserved
loop-rest-preserved c =
    let room : length c.loop-rest.targets.items < most_targets = omega (arith, c.loop-rest.invariant.list.few) in
    let fits : FitsSigned w64 c.in-Some.target = search rules in
    let pushed = c.in_ok-push.ensures.items ∙ ap (λ target. c.loop-rest.targets.items ++ target ∷ []) (to_z-of_z w64 c.in-Some.target fits) in
    let read = target_pushed c.loop-rest.targets.items c.push.new.self.items _ c.loop-rest.rest.now _ c.args.text.now c.loop-rest.invariant.list room
    c.in-Some.ensures.within pushed c.loop-rest.invariant.parts c.in-Some.ensures.some in
    record { list = read.list; parts = read.parts }

pub returns-clause-refused : goal.returns-clause-refused
returns-clause-refused c = λ line is.
    let list = c.loop-rest.invariant.list in
    let read = read_to_end c.loop-rest.targets.items c.loop-rest.rest.now c.args.text.now list c.loop-rest.invariant.parts (grind (arith, nat_tests)) in
    absurd (no_list _ line _ read is)

pub loop-rest-smaller : goal.loop-rest-smaller
loop-rest-smaller c = grind (arith, common_steps)

pub returns-clause-read : goal.returns-clause-read
returns-clause-read c = grind (arith, common_steps)
