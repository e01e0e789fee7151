-- Of `read_member`: what it ensures.
use Rattle.std.proofs.Common.{◌∙◌, ap, List, w64, FitsSigned, rules}
use Rattle.std.proofs.lemmas.Int.{to_z-of_z}
use Rattle.pm_tree.specs.Entries.{Entry, parent_of, place_of}
use Rattle.pm_phase.specs.PartsEnd.{held_of_parts}
use Rattle.pm_phase.proofs.ReadLines.{member_is}
use Rattle.pm_phase.proofs.reading.read_member.Goals as goal

pub returns : goal.returns
returns c =
    let fits : FitsSigned w64 c.in_ok-power.power = search rules in
    member_is c.args.plan.now (held_of_parts c.args.parts.now) c.args.node c.parent.result.0 c.place-place.result _ c.in_ok-cache.cache.now
    c.held_of.result _ (c.parent.ensures.parent ∙ ap (λ (es : List Entry). parent_of es c.args.node) c.tree-tree.ensures.tree) c.in_ok-cache.ensures
    (c.place-place.ensures ∙ ap (λ (es : List Entry). place_of es c.args.node) c.tree-tree.ensures.tree) c.held_of.ensures
    (to_z-of_z w64 c.in_ok-power.power fits ∙ c.in_ok-power.ensures.power) c.in_ok-number.ensures
