-- When no move of a node is legal, by the kinds of nodes.
use Rattle.std.proofs.Common.{◌≡◌, ◌∙◌, sym, ap, refl, ℕ, ◌≤◌, Option, MatchOption, arith}
use Rattle.std.proofs.lemmas.Bool.{both_ways}
use Rattle.pm_market.specs.Lists.{Lists, parent, is_leaf, IsLeaf, Lawful}
use Rattle.pm_market.specs.State.{State}
use Rattle.pm_market.specs.Moves.{Legal}
use Rattle.pm_market.specs.declared.moves.Move.{Move}
use Rattle.pm_market.specs.declared.moves.Move.TheVariants.{Change, Learn, Publish, Clear, Pass, Close}
use Rattle.pm_market.specs.declared.moves.Act.{Act}
use Rattle.pm_market.specs.declared.moves.Act.TheVariants as act
use Rattle.pm_plan.specs.Plans.{PlanData}
use Rattle.pm_plan.specs.Market.{plan_lists}
use Rattle.pm_stands.specs.Core.{Core}
use Rattle.pm_stands.specs.Stands.{StandsFor, MakesMove}
use Rattle.pm_stands.specs.Actors.{NoMoveOf}
use Rattle.pm_cluster.specs.Clusters.{ClusterValue}
use Rattle.pm_cluster.specs.Acts.{NoMoveBy}

-- what a call made of a cluster: where it made no move, none of the act's form is legal
abbrev pub Claim : Option Move → Core → Act → ClusterValue → Type 0
Claim made new a v = (s : State) → StandsFor v.plan v.core s → MatchOption made (NoMoveBy v.plan s a) (MakesMove v.plan new s)

-- no Learn by node x is legal, of any of its children under any number
abbrev pub NoLearn : ℕ → Lists → State → Type 0
NoLearn x lists s = (child number : ℕ) → parent lists child ≡ x → Legal lists s (Learn child number) → ⊥

-- where no Learn by the auctioneer and no Clear is legal, the auctioneer has no legal node move
pub no_auctioneer_move : (plan : PlanData) (s : State) → NoLearn 0 (plan_lists plan) s → NoMoveBy plan s act.Clear → NoMoveOf (plan_lists plan) s 0
no_auctioneer_move plan s learn clear (Change d n) of legal = of
no_auctioneer_move plan s learn clear (Learn x n) of legal = learn x n of legal
no_auctioneer_move plan s learn clear (Publish x n) of legal = omega (arith, of, legal.0.0)
no_auctioneer_move plan s learn clear (Clear j) of legal = clear (Clear j) refl legal
no_auctioneer_move plan s learn clear (Pass x j) of legal = omega (arith, of, legal.0.0)
no_auctioneer_move plan s learn clear (Close p) of legal = of

-- where no Learn by, Publish of or Pass to a node but the auctioneer is legal, it has no legal node move
pub no_concentrator_move : (plan : PlanData) (s : State) (y : ℕ) → 1 ≤ y → NoLearn y (plan_lists plan) s → NoMoveBy plan s (act.Publish y) →
    NoMoveBy plan s (act.Pass y) → NoMoveOf (plan_lists plan) s y
no_concentrator_move plan s y one learn publish pass (Change d n) of legal = of
no_concentrator_move plan s y one learn publish pass (Learn x n) of legal = learn x n of legal
no_concentrator_move plan s y one learn publish pass (Publish x n) of legal = publish (Publish x n) (ap act.Publish of) legal
no_concentrator_move plan s y one learn publish pass (Clear j) of legal = omega (arith, of, one)
no_concentrator_move plan s y one learn publish pass (Pass x j) of legal = pass (Pass x j) (ap act.Pass of) legal
no_concentrator_move plan s y one learn publish pass (Close p) of legal = of

-- under lawful lists, where no Pass to a device is legal, the device has no legal node move
pub no_device_move : (plan : PlanData) (s : State) (d : ℕ) → Lawful (plan_lists plan) → 1 ≤ d → IsLeaf (plan_lists plan) d →
    NoMoveBy plan s (act.Pass d) → NoMoveOf (plan_lists plan) s d
no_device_move plan s d law one leaf pass (Change e n) of legal = of
no_device_move plan s d law one leaf pass (Learn x n) of legal =
    both_ways (is_leaf (plan_lists plan) d) (ap (is_leaf (plan_lists plan)) (sym of) ∙ law.inner x legal.0) leaf
no_device_move plan s d law one leaf pass (Publish x n) of legal =
    both_ways (is_leaf (plan_lists plan) d) (ap (is_leaf (plan_lists plan)) (sym of) ∙ legal.0.2) leaf
no_device_move plan s d law one leaf pass (Clear j) of legal = omega (arith, of, one)
no_device_move plan s d law one leaf pass (Pass x j) of legal = pass (Pass x j) (ap act.Pass of) legal
no_device_move plan s d law one leaf pass (Close p) of legal = of
