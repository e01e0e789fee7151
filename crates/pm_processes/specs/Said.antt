-- What a history says of the tree that was given, by the law that it keeps.
use Rattle.std.specs.Prelude.{◌≡◌, ◌⊎◌, ℕ, ◌<◌, List, [], ◌∷◌, ⊤}
use Rattle.std.specs.List.{AllPairs}
use Rattle.pm_market.specs.Lists.{Lists, IsLeaf, IsConcentrator}
use Rattle.pm_net.specs.Pricing.{Pricing}
use Rattle.pm_net.specs.Agents.{Setpoint}
use Rattle.pm_net_plan.specs.Places.{Numbering}
use Rattle.pm_lives.specs.Lives.{World, KeptMayBeLearnt}
use Rattle.pm_processes.specs.History.{Scene, HistoryEvent, DeviceBegins, Happen, life_steps}
use Rattle.pm_processes.specs.Kept.{HistoryKeepsTheLaw}

-- a process of device d begins with this event; never, or once at most, in these
abbrev pub BeginsDevice : ℕ → HistoryEvent → Type 0
BeginsDevice d (DeviceBegins e took wrote) = e ≡ d
BeginsDevice d event = ⊥

abbrev pub HasNoProcess : ℕ → List HistoryEvent → Type 0
HasNoProcess d [] = ⊤
HasNoProcess d (event ∷ events) = (BeginsDevice d event → ⊥) × HasNoProcess d events

abbrev pub HasOneProcess : ℕ → List HistoryEvent → Type 0
HasOneProcess d [] = ⊤
HasOneProcess d (event ∷ events) = HasNoProcess d events ⊎ ((BeginsDevice d event → ⊥) × HasOneProcess d events)

-- The setpoints of a device that had one process have rising indices. The limits that are stored of a relay are those that its giver gives
-- under the number that is stored with them, by a message that was handed out.
pub record HistorySays (tree : Lists) (p : Pricing) (numbering : Numbering) (events : List HistoryEvent) (last : World) : Type 0 where
  pub rising : (d : ℕ) → IsLeaf tree d → HasOneProcess d events → AllPairs (λ (a b : Setpoint). a.index < b.index) (last.seen.setpoints d)
  pub learnt : (c : ℕ) → IsConcentrator tree c → KeptMayBeLearnt tree p numbering last c

-- so says each history that keeps the law
abbrev pub HistoriesSay : Type 0
HistoriesSay = (tree : Lists) (p : Pricing) (numbering : Numbering) (first last : Scene) (events : List HistoryEvent)
    (happen : Happen tree p numbering first events last) →
    HistoryKeepsTheLaw tree p numbering (life_steps tree p numbering first events last happen) first.world last.world →
    HistorySays tree p numbering events last.world
