-- Of `CutAuction::start`: its clauses `none` and `auction`.
use Rattle.std.proofs.Common.{◌≡◌, ◌∙◌, ap, sym, subst, arith}
use Rattle.std.proofs.lemmas.Slice.Zip.{AllZip-map}
use Rattle.std.proofs.lemmas.List.{map-id}
use Rattle.std.proofs.lemmas.Result.{IfOk-from_err}
use Rattle.pm_base.specs.Cuts.{Cut}
use Rattle.pm_walk.specs.Clearing.{ArePowers}
use Rattle.pm_plan.proofs.Ends.{end-none}
use Rattle.pm_walk.proofs.auction.CutAuction.start.Goals as goal

pub returns-in_err-run : goal.returns-in_err-run
returns-in_err-run c =
    let fails = c.from_residual.ensures.0 in
    record { auction = IfOk-from_err c.from_residual.result _ fails; none = IfOk-from_err c.from_residual.result _ fails }

pub returns-in_err-powers : goal.returns-in_err-powers
returns-in_err-powers c =
    let r = c.from_residual-in_err-powers.result in
    let fails = c.from_residual-in_err-powers.ensures.0 in
    record { auction = IfOk-from_err r _ fails; none = IfOk-from_err r _ fails }

pub returns-clause-none : goal.returns-clause-none
returns-clause-none c = λ x.
    ap (λ (cut : Cut). cut x) c.in_ok-run.ensures.cut ∙ end-none c.args.plan.now x c.in_ok-run.ensures.sound.stands.sound.in_phases

pub returns-clause-auction : goal.returns-clause-auction
returns-clause-auction c =
    let copied : c.in_ok-powers.powers.items ≡ c.in_ok-run.run'.clearing.powers.items =
    AllZip-map (λ z. z) c.in_ok-run.run'.clearing.powers.items c.in_ok-powers.powers.items c.in_ok-powers.ensures.cases.0 ∙ map-id _ in
    record {
      run = c.in_ok-run.ensures.sound;
      begun = λ d leaf. (let same = ap (λ (cut : Cut). cut d) c.in_ok-run.ensures.cut in omega (arith, same));
      powers = subst (λ (cut : Cut). ArePowers c.args.plan.now cut c.in_ok-powers.powers.items) c.in_ok-run.ensures.cut
          (subst (ArePowers c.args.plan.now _) (sym copied) c.in_ok-run.ensures.sound.clearing.powers);
    }
