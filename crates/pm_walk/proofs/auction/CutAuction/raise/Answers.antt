-- Of `CutAuction::raise`: its clause `auction`; what the call of `raise_devices` requires.
use Rattle.std.proofs.Common.{◌∙◌, ◌-◌, ap, sym, subst, arith}
use Rattle.pm_base.specs.Cuts.{Cut, cut_of}
use Rattle.pm_plan.specs.Plans.{end_cut}
use Rattle.pm_walk.specs.Clearing.{ArePowers}
use Rattle.pm_walk.proofs.DeviceCuts.{device-here}
use Rattle.pm_walk.proofs.auction.CutAuction.raise.Goals as goal

pub returns-clause-auction : goal.returns-clause-auction
returns-clause-auction c =
    let plan = c.args.plan.now in
    let auction = c.requires.auction in
    record {
      run = record { stands = c.raise_devices.ensures.stands; clearing = c.clear.ensures.clearing; spare = c.clear.ensures.spare };
      begun = λ d leaf.
          let here = ap (λ (cut : Cut). cut d) c.raise_devices.ensures.done ∙ device-here plan (cut_of c.args.cut.now) d leaf in
          omega (arith, here, auction.begun d leaf, c.requires.rises d leaf);
      powers = auction.powers;
    }

pub raise_devices-requires-clause-powers : goal.raise_devices-requires-clause-powers
raise_devices-requires-clause-powers c =
    subst (ArePowers c.args.plan.now (end_cut c.args.plan.now (c.args.phase - 1))) (sym c.deref.ensures.value) c.requires.auction.powers
