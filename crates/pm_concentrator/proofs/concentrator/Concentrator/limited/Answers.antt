-- Of `Concentrator::limited`: what the type keeps.
use Rattle.std.proofs.Common.{rules, ◌≡◌, sym, ap, ◌∙◌, length, Some}
use Rattle.std.proofs.lemmas.List.{length-replicate}
use Rattle.pm_cache.specs.Cache.{Cache}
use Rattle.pm_concentrator.specs.Limited.{LimitedValue}
use Rattle.pm_concentrator.proofs.concentrator.Concentrator.limited.Goals as goal

pub invariant_of-result : goal.invariant_of-result
invariant_of-result c =
    let made : length c.in_ok-limited.limited.announced ≡ c.args.steps =
    ap (λ (l : LimitedValue). length l.announced) c.in_ok-limited.ensures.limits ∙ length-replicate c.args.steps _ in
    let kept : c.in_ok-cache.cache.steps ≡ c.args.steps = ap (λ (e : Cache). e.steps) c.in_ok-cache.ensures.empty in
    record { same_children = search rules; steps = search rules; announced = ap Some (made ∙ sym kept) }
