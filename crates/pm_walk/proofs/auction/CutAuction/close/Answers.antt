-- Of `CutAuction::close`: its clause `auction`.
use Rattle.std.proofs.Common.{◌∙◌, sym, subst, arith, List, ℤ}
use Rattle.pm_base.specs.Cuts.{Cut}
use Rattle.pm_plan.specs.Plans.{end_cut}
use Rattle.pm_walk.specs.Clearing.{ArePowers}
use Rattle.pm_walk.proofs.DeviceCuts.{made_at_end}
use Rattle.pm_walk.proofs.auction.CutAuction.close.Goals as goal

pub returns-clause-auction : goal.returns-clause-auction
returns-clause-auction c =
    let plan = c.args.plan.now in
    let run = c.requires.auction.run in
    let ended = made_at_end plan c.args.self.now.run.standing.progress c.args.phase run.stands.sound run.stands.progress c.requires.ended in
    record {
      run = run;
      begun = λ d leaf. omega (arith, c.requires.ended d leaf);
      powers = subst (λ (powers : List ℤ). ArePowers plan (end_cut plan c.args.phase) powers)
          (sym (c.copy_from_slice.ensures.items ∙ c.deref.ensures.value))
          (subst (λ (cut : Cut). ArePowers plan cut c.args.self.now.run.clearing.powers.items) ended run.clearing.powers);
    }
