-- What holds after any history of a market whose carriers keep their promises.
use Rattle.std.specs.Prelude.{◌≡◌, ℕ, ◌<◌, List, Some}
use Rattle.std.specs.List.{AllPairs}
use Rattle.pm_base.specs.Cuts.{Cut}
use Rattle.pm_base.specs.Limits.{AreLimits}
use Rattle.pm_base.specs.declared.limits.Limits.{Limits}
use Rattle.pm_market.specs.Lists.{Lists, IsLeaf, IsConcentrator}
use Rattle.pm_net.specs.Pricing.{Pricing}
use Rattle.pm_net.specs.Agents.{Setpoint}
use Rattle.pm_net_plan.specs.Places.{Numbering}
use Rattle.pm_system.specs.System.{System}
use Rattle.pm_system.specs.Given.{IsTreeMarket, IsStarted}
use Rattle.pm_system.specs.Flow.{FlowsIn, TakeWhatWasTold}
use Rattle.pm_system.specs.Settled.{numbers_counted}
use Rattle.pm_lives.specs.Lives.{World, LifeStep, LivesKeepTheLaw, BeginsOnce, KeptMayBeLearnt}
use Rattle.pm_lives.specs.Settled.{IsSettledWorld, IsTakenWorld, IsCurrentWorld}
use Rattle.pm_lives.specs.Free.{HasLists}
use Rattle.pm_processes.specs.History.{Scene, HistoryEvent, Happen, life_steps, IsNewScene}

-- These steps are lives that come to this world, over lists in which each device offers what its control offered. All prices that were handed out are of
-- one legal journal; each names its receiver's own number and local step in the cut of its clearing, and each setpoint that was
-- handed out is the power of the device's own offer of its number at that step. If the world is settled, or taken by the numbers and
-- indices in its newest messages alone, it is current. All below a
-- relay that take what they were told take together what it announced. The setpoints of a device of one process have rising indices.
-- The limits that are stored of a relay are those of a message of its giver.
pub record HistoryKeepsTheLaw (tree : Lists) (p : Pricing) (numbering : Numbering) (steps : List LifeStep) (first last : World) : Type 0 where
  pub has : HasLists tree p numbering first steps last
  pub law : LivesKeepTheLaw has.lists has.pricing last
  pub current : IsSettledWorld has.lists numbering last → IsCurrentWorld has.lists has.pricing numbering steps last
  pub taken : IsTakenWorld has.lists numbering last → IsCurrentWorld has.lists has.pricing numbering steps last
  pub flows : FlowsIn has.lists has.pricing (numbers_counted has.lists numbering last.seen)
      (TakeWhatWasTold has.lists has.pricing (numbers_counted has.lists numbering last.seen) last.seen)
  pub rising : (d : ℕ) → IsLeaf has.lists d → BeginsOnce d steps → AllPairs (λ (a b : Setpoint). a.index < b.index) (last.seen.setpoints d)
  pub learnt : (c : ℕ) → IsConcentrator has.lists c → KeptMayBeLearnt has.lists has.pricing numbering last c

-- Over any market on a tree: processes of its nodes that begin when nothing runs or is stored, and carriers that keep their promises,
-- keep the law, by the steps that the events are; however controls offer, leave and are let go, wherever a process is ended, and whatever
-- is lost, repeated or reordered.
abbrev pub HistoriesKeepTheLaw : Type 0
HistoriesKeepTheLaw = (tree : Lists) (p : Pricing) (numbering : Numbering) → IsTreeMarket tree p numbering →
    ((x : ℕ) (cut : Cut) (l : Limits) → p.limits x cut ≡ Some l → AreLimits l) → (start : System) → IsStarted tree p start →
    (first last : Scene) (events : List HistoryEvent) → IsNewScene p numbering first →
    (happen : Happen tree p numbering first events last) →
    HistoryKeepsTheLaw tree p numbering (life_steps tree p numbering first events last happen) first.world last.world
