-- A world in which everything that was handed out was taken and nothing new can be sent, and what is current then.
use Rattle.std.specs.Prelude.{◌≡◌, ◌⊎◌, ℕ, ◌<◌, ◌≤◌, ◌==◌, if◌then◌else◌, true, false, List, length}
use Rattle.pm_market.specs.Lists.{Lists, parent, is_leaf, is_member, IsNode, IsLeaf, IsConcentrator}
use Rattle.pm_net.specs.Pricing.{Pricing}
use Rattle.pm_net_plan.specs.Places.{Numbering}
use Rattle.pm_relay.specs.Numbers.{child_number}
use Rattle.pm_relay.specs.Roots.{newest_index}
use Rattle.pm_system.specs.System.{System, price_in_channel}
use Rattle.pm_system.specs.Settled.{number_made, number_held, index_of_held, HasNothingToSend, HasNothingToClear}
use Rattle.pm_system.specs.Settled.{head_held, CountsAtParent, numbers_counted, HoldsNewestBid, WasTold}
use Rattle.pm_lives.specs.Lives.{World, LifeStep, BeginsOnce}

-- the index of the newest price that a parent has for its children: of the newest clearing, or of the price that it took last
abbrev pub index_above : System → ℕ → ℕ
index_above sys y = if y == 0 then newest_index sys.root else (sys.relays y).index

-- By the values of the processes that run, and by what was handed out, alone: each node runs; each parent holds the newest bid of
-- its child, and the newest number under which it was told to let the child go; each node took the newest price that was handed
-- to it; to each child that it counts a parent's newest price was handed; and no node has anything to send.
pub record IsSettledWorld (lists : Lists) (numbering : Numbering) (world : World) : Type 0 where
  pub up : (y : ℕ) → (y ≡ 0) ⊎ IsNode lists y → world.up y ≡ true
  pub bids : (x : ℕ) → IsNode lists x → number_made lists world.seen x ≤ number_held lists numbering world.seen x
  pub let_go : (d : ℕ) → IsLeaf lists d → world.let_go d ≤ number_held lists numbering world.seen d
  pub prices : (x k : ℕ) → IsNode lists x → k < length (world.seen.prices_sent x) →
      (price_in_channel world.seen x k).index ≤ index_of_held lists world.seen x
  pub told : (x : ℕ) → IsNode lists x → CountsAtParent lists numbering world.seen x →
      (k : ℕ) × (k < length (world.seen.prices_sent x)) × ((price_in_channel world.seen x k).index ≡ index_above world.seen (parent lists x))
  pub relays : (c : ℕ) → IsConcentrator lists c → HasNothingToSend (world.seen.relays c)
  pub root : HasNothingToClear world.seen.root

-- ---- taken, by what an operator sees

-- the number of x that is stored of it, of its newest bid
abbrev pub number_stored : Lists → World → ℕ → ℕ
number_stored lists world x = if is_leaf lists x then (world.agent_kept x).number else (world.relay_kept x).last

-- the number of x in what is stored of its parent: in the parent's newest bid, or in the newest clearing
abbrev pub number_noted : Lists → Numbering → World → ℕ → ℕ
number_noted lists numbering world x =
    if parent lists x == 0 then child_number world.root_kept.numbers (numbering.place x)
    else child_number (world.relay_kept (parent lists x)).numbers (numbering.place x)

-- By the numbers and the indices in the newest messages alone: each node runs; the newest bid of each child, or a newer number under
-- which it was let go, is held by its parent's process, and no newer one than the parent's newest Resume names; and to each device
-- that its parent counts the price of the newest clearing was handed, and it took one of that. Whatever else was sent, cut off or lost,
-- and whatever prices relays hold.
pub record IsTakenWorld (lists : Lists) (numbering : Numbering) (world : World) : Type 0 where
  pub up : (y : ℕ) → (y ≡ 0) ⊎ IsNode lists y → world.up y ≡ true
  pub bids : (x : ℕ) → IsNode lists x → number_stored lists world x ≤ number_held lists numbering world.seen x
  pub let_go : (d : ℕ) → IsLeaf lists d → world.let_go d ≤ number_held lists numbering world.seen d
  pub noted : (x : ℕ) → IsNode lists x → number_held lists numbering world.seen x ≤ number_noted lists numbering world x
  pub told : (d : ℕ) → IsLeaf lists d → (head_held lists numbering world.seen d).gone ≡ false →
      (k : ℕ) × (k < length (world.seen.prices_sent d)) × ((price_in_channel world.seen d k).index ≡ world.root_kept.last)
  pub taken : (d : ℕ) → IsLeaf lists d → (head_held lists numbering world.seen d).gone ≡ false → world.root_kept.last ≤ (world.seen.agents d).index

-- ---- current

-- For each member that counts, the newest clearing is over its newest bid. Its price for that, with the local step over all bids
-- that count, was handed to it, and it took it; and the control of one that had one life was told the power.
pub record IsCurrentWorld (lists : Lists) (p : Pricing) (numbering : Numbering) (steps : List LifeStep) (world : World) : Type 0 where
  pub counted : (d : ℕ) → IsLeaf lists d → is_member lists d (numbers_counted lists numbering world.seen d) ≡ true →
      numbers_counted lists numbering world.seen d ≡ (world.seen.agents d).number
  pub held : (d : ℕ) → IsLeaf lists d → is_member lists d (numbers_counted lists numbering world.seen d) ≡ true →
      HoldsNewestBid p world.seen (numbers_counted lists numbering world.seen) d
  pub told : (d : ℕ) → IsLeaf lists d → is_member lists d (numbers_counted lists numbering world.seen d) ≡ true → BeginsOnce d steps →
      WasTold p world.seen (numbers_counted lists numbering world.seen) d
