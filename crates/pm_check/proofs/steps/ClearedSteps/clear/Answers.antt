-- Of `ClearedSteps::clear`: its clauses `cut`, `row` and `auction`; what the call of `raise` requires.
use Rattle.std.proofs.Common.{◌∙◌, ◌+◌, ◌-◌, ap, sym, subst, ℕ, Vec, Global, map, arith}
use Rattle.std.proofs.lemmas.List.{map-append}
use Rattle.pm_base.specs.Cuts.{Cut, cut_of}
use Rattle.pm_walk.specs.Auctions.{auction_cut}
use Rattle.pm_walk.specs.Clearing.{AreGroupSteps}
use Rattle.pm_walk.proofs.DeviceCuts.{device-here}
use Rattle.pm_check.proofs.steps.ClearedSteps.clear.Goals as goal

pub returns-in_err-row-clause-cut : goal.returns-in_err-row-clause-cut
returns-in_err-row-clause-cut c = λ d leaf. ap (λ (cut : Cut). cut d) c.raise.ensures.cut ∙ device-here c.args.plan.now (cut_of c.args.cut.now) d leaf

pub returns-in_err-push-clause-cut : goal.returns-in_err-push-clause-cut
returns-in_err-push-clause-cut c = λ d leaf. ap (λ (cut : Cut). cut d) c.raise.ensures.cut ∙ device-here c.args.plan.now (cut_of c.args.cut.now) d leaf

pub returns-clause-cut : goal.returns-clause-cut
returns-clause-cut c = λ d leaf. ap (λ (cut : Cut). cut d) c.raise.ensures.cut ∙ device-here c.args.plan.now (cut_of c.args.cut.now) d leaf

pub returns-clause-row : goal.returns-clause-row
returns-clause-row c = (
  c.in_ok-row.row.items,
  (
    subst (AreGroupSteps c.args.plan.now (auction_cut c.raise.new.self)) (sym c.in_ok-row.ensures.items)
        (c.group_steps.ensures c.args.plan.now (c.args.self.now.closed + 1 - 1) c.raise.ensures.auction),
    ap (map (λ (row : Vec ℕ Global). row.items)) c.in_ok-push.ensures.items ∙ map-append (λ (row : Vec ℕ Global). row.items) _ _,
  ),
)

pub raise-requires-clause-auction : goal.raise-requires-clause-auction
raise-requires-clause-auction c = grind arith

pub returns-in_err-row-clause-auction : goal.returns-in_err-row-clause-auction
returns-in_err-row-clause-auction c = grind arith

pub returns-in_err-push-clause-auction : goal.returns-in_err-push-clause-auction
returns-in_err-push-clause-auction c = grind arith

pub returns-clause-auction : goal.returns-clause-auction
returns-clause-auction c = grind arith
