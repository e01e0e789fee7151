-- Of `Cluster::close`: its clauses `refused`, `made` and `quiet`; what the call of `keep_powers` requires; what the type keeps.
use Rattle.std.proofs.Common.{subst, ℕ, ◌+◌, sym, ◌∙◌}
use Rattle.std.proofs.Math.Logic.{∥∥₁_map}
use Rattle.pm_market.specs.State.{State}
use Rattle.std.proofs.lemmas.Bool.{false≢true}
use Rattle.pm_market.specs.Moves.{Legal, step}
use Rattle.pm_market.specs.declared.moves.Move.TheVariants.{Close}
use Rattle.pm_plan.specs.Market.{plan_lists}
use Rattle.pm_cluster.specs.Clusters.{ClusterValue}
use Rattle.pm_cluster.specs.ClusterFields.{core_of}
use Rattle.pm_cluster.specs.Ends.{MayClose}
use Rattle.pm_stands.specs.Stands.{StandsFor, MakesMove}
use Rattle.pm_stands.specs.Made.{closed_core}
use Rattle.pm_cluster.proofs.Kept.{of_value, places_of}
use Rattle.pm_cluster.proofs.EntriesTold.{entry_told}
use Rattle.pm_cluster.proofs.ClosesLegally.{close_did, may_close_from}
use Rattle.pm_cluster.proofs.cluster.Cluster.close.Goals as goal
use Rattle.pm_cluster.proofs.cluster.Cluster.close.Goals.{After-keep_powers}

pub returns-then-not-may_close-clause-refused : goal.returns-then-not-may_close-clause-refused
returns-then-not-may_close-clause-refused c = λ no.
    of_value c.self.inside c.args.self.now c.self.view_is (λ p s. (phase : ℕ) → Legal (plan_lists p) s (Close phase) → ⊥) (λ s stands phase legal.
    let may = subst (λ (v : ClusterValue). MayClose v.plan v.core) c.self.view_is
    (may_close_from c.self.inside.plan.now (core_of c.self.inside) s phase c.self.invariant.is_plan stands legal) in
    false≢true (sym c.if-not-may_close.true ∙ c.may_close.ensures.may.1 may))

may : (c : After-keep_powers) → MayClose c.self.inside.plan.now (core_of c.self.inside)
may c = subst (λ (v : ClusterValue). MayClose v.plan v.core) (sym c.self.view_is) (c.may_close.ensures.may.0 c.if-not-may_close.false)

makes : (c : After-keep_powers) (s : State) → StandsFor c.self.inside.plan.now (core_of c.self.inside) s →
    MakesMove c.self.inside.plan.now (closed_core (core_of c.self.inside) c.keep_powers.new.powers.items (c.self.inside.closed + 1)) s (Close (s.closed + 1))
makes c s stands = close_did c.self.inside.plan.now (core_of c.self.inside) s c.keep_powers.new.powers.items c.self.invariant.is_plan stands (may c)
    c.keep_powers.ensures.same_length c.keep_powers.ensures.kept

pub keep_powers-requires-clause-told : goal.keep_powers-requires-clause-told
keep_powers-requires-clause-told c =
    λ d leaf. entry_told c.self.inside.plan.now c.self.invariant.is_plan (core_of c.self.inside) c.self.invariant.stands d leaf

pub invariant_of-self : goal.invariant_of-self
invariant_of-self c =
    let plan = c.self.inside.plan.now in
    let at = (goal.at.invariant_of-self c).After-keep_powers in
    let now = ∥∥₁_map c.self.invariant.stands (λ st. record {
      state = step (plan_lists plan) st.state (Close (st.state.closed + 1));
      is = (makes at st.state st.is).stands;
    }) in
    record {
      is_plan = c.self.invariant.is_plan;
      places = places_of _ _ now;
      same_members = c.self.invariant.same_members;
      members = c.self.invariant.members;
      same_due = c.add_due.ensures.same_length ∙ c.self.invariant.same_due;
      due = λ open_phase d leaf. c.add_due.ensures.after open_phase d leaf;
      spare = c.self.invariant.spare;
      stands = now;
    }

pub returns-clause-made : goal.returns-clause-made
returns-clause-made c = λ yes.
    let at = (goal.at.returns-clause-made c).After-keep_powers in
    of_value c.self.inside c.args.self.now c.self.view_is
    (λ p s. MakesMove p (closed_core (core_of c.self.inside) c.keep_powers.new.powers.items (c.self.inside.closed + 1)) s (Close (s.closed + 1))) (makes at)

pub returns-clause-quiet : goal.returns-clause-quiet
returns-clause-quiet c = λ yes.
    let quiet = (may (goal.at.returns-clause-quiet c).After-keep_powers).quiet in
    record { bids = quiet.bids; prices = quiet.prices; concentrators = quiet.concentrators; changed = quiet.changed }
