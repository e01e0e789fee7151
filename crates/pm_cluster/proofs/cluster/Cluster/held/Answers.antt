-- Of `Cluster::held`: its clauses `held`, `current`, `member` and 4 more; that its numbers fit.
use Rattle.std.proofs.Common.{◌≡◌, ◌∙◌, sym, ap, subst, ℕ, ◌<◌, ◌≤◌, true, length, arith}
use Rattle.std.specs.Prelude.{IfSome}
use Rattle.std.proofs.lemmas.Option.{IfSome_then}
use Rattle.pm_session.specs.Ports.{held_by}
use Rattle.pm_session.specs.declared.price.Held.{Held}
use Rattle.pm_market.specs.Lists.{IsLeaf, is_member}
use Rattle.pm_market.specs.State.{State, clearings, cleared_cut}
use Rattle.pm_plan.specs.Kept.{IsPlan}
use Rattle.pm_plan.specs.Market.{plan_lists}
use Rattle.pm_offer.specs.Offers.{local_step_at}
use Rattle.pm_stands.specs.Stands.{StandsFor}
use Rattle.pm_stands.specs.Current.{held_price}
use Rattle.pm_stands.proofs.Holding.{held_agrees}
use Rattle.pm_stands.proofs.AllCurrent.{quiet_current}
use Rattle.pm_cluster.specs.Clusters.{ClusterValue}
use Rattle.pm_cluster.specs.ClusterFields.{core_of}
use Rattle.pm_cluster.proofs.Holders.{HoldsOwn, holds_own}
use Rattle.pm_cluster.proofs.Opened.{device_node}
use Rattle.pm_cluster.proofs.Seats.{seat_read}
use Rattle.pm_cluster.proofs.cluster.Cluster.held.Goals as goal
use Rattle.pm_cluster.proofs.cluster.Cluster.held.Goals.{After-held}

pub index-requires : goal.index-requires
index-requires c =
    let plan = c.self.inside.plan.now in
    let d : ℕ = c.args.device.0 in
    let leaf : IsLeaf (plan_lists plan) d = subst (λ (v : ClusterValue). IsLeaf (plan_lists v.plan) d) (sym c.self.view_is) c.requires.leaf in
    omega (arith, (device_node plan d c.self.invariant.is_plan leaf).1, c.self.invariant.places.all_ports, c.self.inside.ports.ok.0)

-- the port that was read answers the price that the market's definition names
agrees : (c : After-held) (s : State) → StandsFor c.args.self.now.plan c.args.self.now.core s →
    c.held.result ≡ held_price c.args.self.now.plan s c.args.device.0
agrees c s stands =
    let plan = c.self.inside.plan.now in
    let d : ℕ = c.args.device.0 in
    let leaf : IsLeaf (plan_lists plan) d = subst (λ (v : ClusterValue). IsLeaf (plan_lists v.plan) d) (sym c.self.view_is) c.requires.leaf in
    let there : d < length c.self.inside.ports.items = omega (arith, (device_node plan d c.self.invariant.is_plan leaf).1, c.self.invariant.places.all_ports) in
    let Claim : ClusterValue → Type 0 = λ v. (s : State) → StandsFor v.plan v.core s → c.held.result ≡ held_price v.plan s d in
    subst Claim c.self.view_is (λ s stands.
    c.held.ensures.held ∙ sym (ap held_by (seat_read c.self.inside.ports.items d c.index.result.now there c.index.ensures))
    ∙ held_agrees plan (core_of c.self.inside) s d c.self.invariant.is_plan stands leaf) s stands

pub returns-clause-held : goal.returns-clause-held
returns-clause-held c s stands = agrees (goal.at.returns-clause-held c).After-held s stands

pub returns-clause-current : goal.returns-clause-current
returns-clause-current c s stands idle member =
    let is_plan = subst (λ (v : ClusterValue). IsPlan v.plan) c.self.view_is c.self.invariant.is_plan in
    agrees (goal.at.returns-clause-current c).After-held s stands
    ∙ (quiet_current c.args.self.now.plan c.args.self.now.core s is_plan stands idle).held c.args.device.0 c.requires.leaf member

-- the price that is answered is over the device's own bid
own_held : (c : After-held) (s : State) → StandsFor c.args.self.now.plan c.args.self.now.core s →
    IfSome c.held.result (HoldsOwn c.args.self.now.plan s c.args.device.0)
own_held c s stands =
    let is_plan = subst (λ (v : ClusterValue). IsPlan v.plan) c.self.view_is c.self.invariant.is_plan in
    subst (λ o. IfSome o (HoldsOwn c.args.self.now.plan s c.args.device.0)) (sym (agrees c s stands))
    (holds_own c.args.self.now.plan is_plan s stands.sound c.args.device.0 c.requires.leaf)

-- of a price what follows from its being over the device's own bid
so_told : (c : After-held) (s : State) (P : Held → Type 0) → StandsFor c.args.self.now.plan c.args.self.now.core s →
    ((price : Held) → HoldsOwn c.args.self.now.plan s c.args.device.0 price → P price) → IfSome c.held.result P
so_told c s P stands = IfSome_then c.held.result (own_held c s stands)

pub returns-clause-member : goal.returns-clause-member
returns-clause-member c s stands =
    so_told (goal.at.returns-clause-member c).After-held s (λ price. is_member (plan_lists c.args.self.now.plan) c.args.device.0 price.number ≡ true) stands
    (λ price own. own.member)

pub returns-clause-made : goal.returns-clause-made
returns-clause-made c s stands =
    so_told (goal.at.returns-clause-made c).After-held s (λ price. price.number ≤ s.counts c.args.device.0) stands
    (λ price own. own.made)

pub returns-clause-cleared : goal.returns-clause-cleared
returns-clause-cleared c s stands =
    so_told (goal.at.returns-clause-cleared c).After-held s (λ price. (1 ≤ price.index) × (price.index ≤ clearings s)) stands
    (λ price own. (own.from, own.to))

pub returns-clause-own : goal.returns-clause-own
returns-clause-own c s stands =
    so_told (goal.at.returns-clause-own c).After-held s (λ price. price.number ≡ cleared_cut s price.index c.args.device.0) stands
    (λ price own. own.own)

pub returns-clause-step : goal.returns-clause-step
returns-clause-step c s stands =
    so_told (goal.at.returns-clause-step c).After-held s
    (λ price. price.step ≡ local_step_at c.args.self.now.plan (cleared_cut s price.index) c.args.device.0) stands
    (λ price own. own.step)
