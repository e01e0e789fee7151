-- Of `rest`: its clauses `stand` and `over`.
use Rattle.std.proofs.Common.{subst, List}
use Rattle.std.specs.Prelude.{IfSome}
use Rattle.pm_free.specs.Nodes.{StandAfter, IsReadAfter, IsOutcome}
use Rattle.pm_free.specs.OverLinks.{CameOverLinks}
use Rattle.pm_phase.specs.declared.node.NodePart.{NodePart}
use Rattle.pm_free.proofs.CameOver.{ok_too, rest_leaves}
use Rattle.pm_free.proofs.phase.rest.Goals as goal

pub returns-clause-stand : goal.returns-clause-stand
returns-clause-stand c =
    let nodes = c.args.nodes in
    let came = c.in_ok-carried.carried in
    let read = subst (λ (ps : List NodePart). IfSome came (IsReadAfter c.args.plan.now c.args.phase nodes.made c.args.changes.now ps)) c.as_slice.ensures.value
    c.in_ok-carried.ensures in
    ok_too (λ left. IsOutcome nodes.parts c.new.result came left.0 left.1) (λ left. StandAfter c.args.plan.now c.args.phase left.0) c.outcome.result
    (λ left is. (rest_leaves c.args.plan.now c.args.phase nodes.parts nodes.made c.args.changes.now c.new.result came left.0 left.1 c.requires.first
    c.requires.stand c.requires.told c.requires.none read c.new.ensures.items is).stand) c.outcome.ensures

pub returns-clause-over : goal.returns-clause-over
returns-clause-over c =
    let nodes = c.args.nodes in
    let came = c.in_ok-carried.carried in
    let read = subst (λ (ps : List NodePart). IfSome came (IsReadAfter c.args.plan.now c.args.phase nodes.made c.args.changes.now ps)) c.as_slice.ensures.value
    c.in_ok-carried.ensures in
    ok_too (λ left. IsOutcome nodes.parts c.new.result came left.0 left.1)
    (λ left. IfSome left.1.end (λ end. CameOverLinks c.args.plan.now c.args.phase nodes.parts.items left.0.parts.items left.1 end.end)) c.outcome.result
    (λ left is. (rest_leaves c.args.plan.now c.args.phase nodes.parts nodes.made c.args.changes.now c.new.result came left.0 left.1 c.requires.first
    c.requires.stand c.requires.told c.requires.none read c.new.ensures.items is).over) c.outcome.ensures
