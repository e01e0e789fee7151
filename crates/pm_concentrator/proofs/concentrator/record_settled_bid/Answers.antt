-- Of `record_settled_bid`: its clause `steps`.
use Rattle.std.proofs.Common.{◌≡◌, ◌∙◌, ap, sym, length, Option, Some}
use Rattle.std.specs.Prelude.{option_map}
use Rattle.pm_bid.proofs.Taken.{announced-length}
use Rattle.pm_concentrator.specs.Limited.{LimitedValue, sum_steps}
use Rattle.pm_concentrator.proofs.concentrator.record_settled_bid.Goals as goal

pub returns-in-Some-clause-steps : goal.returns-in-Some-clause-steps
returns-in-Some-clause-steps c =
    let long : length c.settle.new.self.announced ≡ c.args.cache.now.steps =
    ap (λ (l : LimitedValue). length l.announced) c.settle.ensures.announced
    ∙ announced-length c.in-Some.limits.limits c.aggregate-sum.result.now ∙ c.aggregate-sum.ensures.steps in
    ap Some long
    ∙ sym (ap (λ (o : Option LimitedValue). sum_steps (option_map (λ (l : LimitedValue). l.limits) o) c.args.cache.now.steps) c.in-Some.is)
