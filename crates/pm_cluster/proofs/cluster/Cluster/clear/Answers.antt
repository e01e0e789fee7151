-- Of `Cluster::clear`: what it ensures; what the call of `clear` requires; what the type keeps.
use Rattle.std.proofs.Common.{rules, arith, refl}
use Rattle.pm_market.specs.State.{State}
use Rattle.pm_market.specs.declared.moves.Move.TheVariants.{Clear}
use Rattle.pm_stands.specs.Made.{DidClear}
use Rattle.pm_stands.specs.Stands.{StandsFor, MakesMove}
use Rattle.pm_stands.proofs.Made.{clear_did}
use Rattle.pm_stands.proofs.MayClear.{may_clear, cannot_clear}
use Rattle.pm_cluster.specs.declared.cluster.Cluster.TheInside.{Inside}
use Rattle.pm_cluster.specs.ClusterFields.{core_of}
use Rattle.pm_cluster.proofs.MadeBy.{made_by, made_none}
use Rattle.pm_market.specs.declared.moves.Act.TheVariants as act
use Rattle.pm_cluster.proofs.Kept.{moved}
use Rattle.pm_cluster.proofs.cluster.Cluster.clear.Goals as goal
use Rattle.pm_cluster.proofs.cluster.Cluster.clear.Goals.{In-Some}

pub clear-requires-clause-fits : goal.clear-requires-clause-fits
clear-requires-clause-fits c =
    let may = may_clear c.self.inside.plan.now c.self.invariant.is_plan (core_of c.self.inside) c.self.invariant.stands in
    record { same_length = may.row_length; last = omega (arith, may.fits); index = may.index }

abbrev after : (c : In-Some) → Inside
after c = record c.self.inside { links = c.clear.new.links; auctioneer = c.clear.new.auctioneer }

did : (c : In-Some) → DidClear (core_of c.self.inside) (core_of (after c)).links c.clear.new.auctioneer c.in-Some.cleared.index c.in-Some.cleared.step
did c = record { made = c.in-Some.ensures.cleared; row = c.in-Some.ensures.only.row refl }

makes : (c : In-Some) (s : State) → StandsFor c.self.inside.plan.now (core_of c.self.inside) s →
    MakesMove c.self.inside.plan.now (core_of (after c)) s (Clear c.in-Some.cleared.index)
makes c s stands = clear_did c.self.inside.plan.now c.self.invariant.is_plan (core_of c.self.inside) s stands _ _ _ _ (did c)

pub invariant_of-self-2 : goal.invariant_of-self-2
invariant_of-self-2 c = moved c.self.inside (after c) _ c.self.invariant refl (makes c)

pub returns : goal.returns
returns c = made_by c.self.inside (after c) _ (act.Clear) _ c.self.view_is refl (makes c)

pub returns-in_default : goal.returns-in_default
returns-in_default c =
    made_none c.self.inside _ _ act.Clear c.self.view_is (search rules) (λ s stands.
    cannot_clear c.self.inside.plan.now (core_of c.self.inside) s stands c.in_default.ensures.cleared)
