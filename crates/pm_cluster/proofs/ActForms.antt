-- Moves of the form of an act.
use Rattle.std.proofs.Common.{◌≡◌, sym, ap, subst, ℕ, ◌+◌, ◌≤◌, Bool, true, false, arith, refl, inl, inr}
use Rattle.std.specs.Prelude.{Option, Some, None, IfSome}
use Rattle.std.proofs.Math.Logic.{∥∥₁_elim}
use Rattle.std.proofs.Props.{props}
use Rattle.std.proofs.lemmas.Bool.{both_ways}
use Rattle.std.proofs.lemmas.Option.{IfSome_then}
use Rattle.pm_base.specs.Limits.{most_phases}
use Rattle.pm_market.specs.Lists.{Lists, is_leaf}
use Rattle.pm_market.specs.State.{State}
use Rattle.pm_market.specs.Moves.{Legal, act_of}
use Rattle.pm_market.specs.declared.moves.Move.{Move}
use Rattle.pm_market.specs.declared.moves.Move.TheVariants.{Change, Learn, Publish, Clear, Pass, Close}
use Rattle.pm_market.specs.declared.moves.Act.{Act}
use Rattle.pm_market.specs.declared.moves.Act.TheVariants as act
use Rattle.std.proofs.Common.{cond}
use Rattle.pm_market.specs.State.{last_index, cleared_cut}
use Rattle.pm_market.specs.Held.{holds_price, holding}
use Rattle.pm_session.specs.declared.price.Held.{Held}
use Rattle.pm_offer.specs.Offers.{local_step_at}
use Rattle.pm_stands.specs.Current.{held_price}
use Rattle.pm_plan.specs.Kept.{IsPlan}
use Rattle.pm_plan.specs.Plans.{PlanData, end_cut}
use Rattle.pm_plan.specs.Market.{plan_lists}
use Rattle.pm_plan.proofs.MarketLists.{phases-is}
use Rattle.pm_stands.specs.Core.{Core}
use Rattle.pm_stands.specs.Stands.{StandsFor, Stands}
use Rattle.pm_stands.specs.Actors.{IsMoveOf}
use Rattle.pm_cluster.specs.Next.{count_of, HasNoNext}
use Rattle.pm_cluster.proofs.NextChanges.{end_of_market}

-- ---- no move of a form

-- the move of an act's form with this number
abbrev pub numbered : Act → ℕ → Move
numbered (act.Change d) n = Change d n
numbered (act.Learn x) n = Learn x n
numbered (act.Publish x) n = Publish x n
numbered act.Clear n = Clear n
numbered (act.Pass x) n = Pass x n
numbered act.Close n = Close n

number_of : (m : Move) → (n : ℕ) × (numbered (act_of m) n ≡ m)
number_of (Change d n) = (n, refl)
number_of (Learn x n) = (n, refl)
number_of (Publish x n) = (n, refl)
number_of (Clear n) = (n, refl)
number_of (Pass x n) = (n, refl)
number_of (Close n) = (n, refl)

-- what holds of the move of an act's form under each number holds of each move of that form
pub of_form : (P : Move → Type 0) (a : Act) → ((n : ℕ) → P (numbered a n)) → (m : Move) → act_of m ≡ a → P m
of_form P a each m form =
    let (n, same) = number_of m in
    subst P same (subst (λ (b : Act). P (numbered b n)) (sym form) (each n))

-- where the move of an act's form is legal under no number, no legal move has that form
pub no_form : (lists : Lists) (s : State) (a : Act) → ((n : ℕ) → Legal lists s (numbered a n) → ⊥) → (m : Move) → act_of m ≡ a →
    Legal lists s m → ⊥
no_form lists s a none = of_form (λ m. Legal lists s m → ⊥) a none

-- a move of an act's form is the node's whose act it is
pub its_own : (lists : Lists) (x : ℕ) (a : Act) (made : Option Move) → ((n : ℕ) → IsMoveOf lists x (numbered a n)) →
    IfSome made (λ what. act_of what ≡ a) → IfSome made (IsMoveOf lists x)
its_own lists x a made each form = IfSome_then made form (of_form (IsMoveOf lists x) a each)

-- ---- nodes

-- no Change of a node that is no device is legal
pub no_leaf : (plan : PlanData) (s : State) (x : ℕ) → is_leaf (plan_lists plan) x ≡ false → (n : ℕ) → Legal (plan_lists plan) s (Change x n) → ⊥
no_leaf plan s x none n legal = both_ways (is_leaf (plan_lists plan) x) none legal.0

-- ---- the next change

-- where a device has no next change none is legal
pub none_legal : (plan : PlanData) → IsPlan plan → (c : Core) (s : State) → StandsFor plan c s → (d : ℕ) →
    HasNoNext plan c.closed (count_of c) d → (n : ℕ) →
    Legal (plan_lists plan) s (Change d n) → ⊥
none_legal plan is_plan c s stands d none n legal =
    elim none [
      | inl all ↦ omega (arith, all, legal.1, phases-is plan, stands.closed)
      | inr made ↦ omega (
        arith,
        made,
        legal.2,
        legal.3,
        stands.counts d legal.0,
        end_of_market plan is_plan (s.closed + 1) d legal.0 (omega (arith, legal.1, phases-is plan)),
        ap (λ (p : ℕ). end_cut plan (p + 1) d) stands.closed,
      )
    ]

-- ---- phases

-- few phases are closed
pub few_closed : (plan : PlanData) → IsPlan plan → (c : Core) → ∥ Stands plan c ∥₁ → c.closed ≤ most_phases
few_closed plan is_plan c stands = ∥∥₁_elim stands (Prim.hlevel props) (λ st.
    omega (arith, st.is.closed, st.is.sound.closed_within, phases-is plan, is_plan.within.few_phases))

-- ---- what a device holds, as a line tells it

-- the step and the number of a held price, none where no price is held
abbrev pub pair_of : Option Held → Option (ℕ × ℕ)
pair_of None = None
pair_of (Some price) = Some (price.step, price.number)

-- the price that a device holds in a state, as step and number, is what the market's lists say it holds
pub pairs_are : (plan : PlanData) (s : State) (d : ℕ) → pair_of (held_price plan s d) ≡ holding (plan_lists plan) (local_step_at plan) s d
pairs_are plan s d = go (holds_price (plan_lists plan) s d) (local_step_at plan (cleared_cut s (last_index s d)) d) (cleared_cut s (last_index s d) d)
    (last_index s d)
  where
    go : (b : Bool) (k n i : ℕ) → pair_of (cond b (Some (record { step = k; number = n; index = i })) None) ≡ cond b (Some (k, n)) None
    go true k n i = refl
    go false k n i = refl
