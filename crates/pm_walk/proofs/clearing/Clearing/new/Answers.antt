-- Of `Clearing::new`: what it ensures.
use Rattle.std.proofs.Common.{◌≡◌, ◌∙◌, ◌+◌, ap, length, arith}
use Rattle.std.proofs.lemmas.List.{length-replicate}
use Rattle.std.proofs.lemmas.Result.{IfOk-from_err}
use Rattle.pm_bid.proofs.Sums.{length-zeros}
use Rattle.pm_walk.proofs.clearing.Clearing.new.Goals as goal

pub returns-in_err-zero : goal.returns-in_err-zero
returns-in_err-zero c = IfOk-from_err c.from_residual.result _ c.from_residual.ensures.0

pub returns-in_err-no_steps : goal.returns-in_err-no_steps
returns-in_err-no_steps c = IfOk-from_err c.from_residual-in_err-no_steps.result _ c.from_residual-in_err-no_steps.ensures.0

pub returns-in_err-no_powers : goal.returns-in_err-no_powers
returns-in_err-no_powers c = IfOk-from_err c.from_residual-in_err-no_powers.result _ c.from_residual-in_err-no_powers.ensures.0

pub returns : goal.returns
returns c =
    let many : c.len.result + 1 ≡ length c.args.plan.now.nodes + 1 =
    omega (arith, c.tree.ensures.sound.nodes.one_each, c.len.ensures.len, ap (λ e. length e) c.tree.ensures.tree) in
    record {
      total =
          ap (λ l. length l) c.in_ok-zero.ensures.bid ∙ length-zeros c.steps.result ∙ c.steps.ensures.steps ∙ ap (λ b. b.steps) c.basis.ensures.basis;
      group_steps = ap (λ l. length l) c.in_ok-no_steps.ensures ∙ length-replicate _ _ ∙ many;
      powers = ap (λ l. length l) c.in_ok-no_powers.ensures ∙ length-replicate _ _ ∙ many;
    }
