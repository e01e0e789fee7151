-- Of `read_limited`: what it ensures.
use Rattle.std.proofs.Common.{◌∙◌, ap, w64, FitsSigned, rules}
use Rattle.std.proofs.lemmas.Int.{to_z-of_z}
use Rattle.pm_cache.specs.Cache.{aggregate_of}
use Rattle.pm_concentrator.specs.Concentrators.{Gathered}
use Rattle.pm_phase.specs.PartsEnd.{held_of_parts}
use Rattle.pm_phase.proofs.ReadLines.{limited_is}
use Rattle.pm_phase.proofs.reading.read_limited.Goals as goal

pub returns : goal.returns
returns c =
    let fits : FitsSigned w64 c.at-total.result = search rules in
    limited_is c.args.plan.now (held_of_parts c.args.parts.now) c.args.node c.args.step c.step_within-local.result c.args.limits.now
    c.aggregate-sum.result.now _ c.requires.limits c.requires.step
    (c.aggregate-sum.ensures.sum ∙ ap aggregate_of (c.cache.ensures.cache ∙ ap (λ (g : Gathered). g.cache) c.in_ok-concentrator_of.ensures))
    c.step_within-local.ensures.step (to_z-of_z w64 c.at-total.result fits ∙ c.at-total.ensures.demand)
