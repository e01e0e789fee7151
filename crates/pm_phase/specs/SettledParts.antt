-- Whether the numbers that the nodes and the logs of their links have say that a phase is settled.
use Rattle.std.specs.Prelude.{◌≡◌, ℕ, ◌+◌, ◌-◌, ◌≤◌, Bool, true, false, List, [], length, map, Option, Some, None, Vec, slice_get}
use Rattle.std.specs.Prelude.{slice_index_or}
use Rattle.pm_cells.specs.Numbers.{newest_number}
use Rattle.pm_cells.specs.declared.link.LinkLog.{LinkLog}
use Rattle.pm_device.specs.declared.state.Next.{Next}
use Rattle.pm_plan.specs.Plans.{PlanData, is_leaf, is_member}
use Rattle.pm_plan.specs.Market.{plan_lists}
use Rattle.pm_market.specs.Lists.{IsLeaf}
use Rattle.pm_auctioneer.specs.Auctions.{Auction, new_auction}
use Rattle.pm_session.specs.Ports.{Seat}
use Rattle.pm_session.specs.declared.price.PriceUpdate.{PriceUpdate}
use Rattle.pm_carried.specs.Carried.{Carried}
use Rattle.pm_plan.specs.Plans as plans
use Rattle.pm_tree.specs.Entries.{place_of}
use Rattle.std.specs.declared.alloc.Global.{Global}
use Rattle.pm_cache.specs.Cache.{Cache, empty_cache, child_head}
use Rattle.pm_concentrator.specs.Concentrators.{Gathered, published_heads}
use Rattle.pm_phase.specs.Matchers.{cache_of_matcher}
use Rattle.pm_phase.specs.declared.node.Duty.{Duty}
use Rattle.pm_phase.specs.declared.node.Duty.TheVariants.{Device, Parent}
use Rattle.pm_phase.specs.declared.node.NodePart.{NodePart}
use Rattle.pm_phase.specs.declared.matcher.Matcher.{Matcher}
use Rattle.pm_phase.specs.declared.matcher.Matcher.TheVariants.{Concentrator, Auctioneer}

-- the cache of a node with children
abbrev pub cache_of_duty : Duty → Cache
cache_of_duty (Device device) = empty_cache 0 0
cache_of_duty (Parent parent) = cache_of_matcher parent.matcher

abbrev pub cache_of_part : Option NodePart → Cache
cache_of_part None = empty_cache 0 0
cache_of_part (Some part) = cache_of_duty part.duty

-- the auctioneer learnt nothing since its last clearing, which has this index
abbrev pub MatcherCleared : Matcher → ℕ → Type 0
MatcherCleared (Concentrator concentrator) index = ⊥
MatcherCleared (Auctioneer auctioneer) index = (auctioneer.changed ≡ false) × (auctioneer.index ≡ index)

abbrev pub DutyCleared : Duty → ℕ → Type 0
DutyCleared (Device device) index = ⊥
DutyCleared (Parent parent) index = MatcherCleared parent.matcher index

abbrev pub PartCleared : Option NodePart → ℕ → Type 0
PartCleared None index = ⊥
PartCleared (Some part) index = DutyCleared part.duty index

-- a concentrator has nothing to send, and its parent has its newest number
abbrev pub MatcherSent : Matcher → ℕ → Type 0
MatcherSent (Concentrator g) kept = (g.cache.heads ≡ published_heads g) × (kept ≡ g.window.last)
MatcherSent (Auctioneer auctioneer) kept = ⊥

abbrev pub DutySent : Duty → ℕ → Type 0
DutySent (Device device) kept = ⊥
DutySent (Parent parent) kept = MatcherSent parent.matcher kept

-- a device made all its changes of the phase, its parent has the number of the last, and if it is a member the price that it
-- took last has this index
abbrev pub DutyMade : Duty → ℕ → ℕ → ℕ → ℕ → ℕ → Type 0
DutyMade (Device device) before count kept taken index =
    (device.made ≡ count) × (kept ≡ before + count) × (device.member ≡ true → taken ≡ index)
DutyMade (Parent parent) before count kept taken index = ⊥

abbrev pub PartSent : Option NodePart → ℕ → Type 0
PartSent None kept = ⊥
PartSent (Some part) kept = DutySent part.duty kept

abbrev pub PartMade : Option NodePart → ℕ → ℕ → ℕ → ℕ → ℕ → Type 0
PartMade None before count kept taken index = ⊥
PartMade (Some part) before count kept taken index = DutyMade part.duty before count kept taken index

-- the number of the bid that the parent of a node has of it
abbrev pub kept_in : PlanData → List NodePart → ℕ → ℕ
kept_in plan parts x = (child_head (cache_of_part (slice_get parts (plans.parent plan x))) (place_of plan.entries x)).number

-- the index of the price that a node took last, by the log of its link; 0 if it took none
abbrev pub taken_of : Option (Option LinkLog) → ℕ
taken_of None = 0
taken_of (Some None) = 0
taken_of (Some (Some log)) = newest_number log.price_takes.items

abbrev pub taken_in : List (Option LinkLog) → ℕ → ℕ
taken_in links x = taken_of (slice_get links (x - 1))

-- the link above a node has a log: both its ends came back
abbrev pub HasLog : Option (Option LinkLog) → Type 0
HasLog None = ⊥
HasLog (Some None) = ⊥
HasLog (Some (Some log)) = Unit {0}

-- how many changes a node has in the phase
abbrev pub changes_count : Option (Vec Next Global) → ℕ
changes_count None = 0
changes_count (Some list) = length list.items

-- the numbers of a node are those of a settled phase
pub record IsSettledNode (plan : PlanData) (parts : List NodePart) (before : List ℕ) (changes : List (Vec Next Global)) (links : List (Option LinkLog))
    (index x : ℕ) : Type 0 where
  pub made : is_leaf plan x ≡ true → PartMade (slice_get parts x) (slice_index_or before x 0) (changes_count (slice_get changes x))
      (kept_in plan parts x) (taken_in links x) index
  pub sent : is_leaf plan x ≡ false → PartSent (slice_get parts x) (kept_in plan parts x)
  pub closed : HasLog (slice_get links (x - 1))

-- the numbers of all nodes are those of a settled phase
pub record AreSettled (plan : PlanData) (parts : List NodePart) (before : List ℕ) (changes : List (Vec Next Global))
    (links : List (Option LinkLog)) : Type 0 where
  pub index : ℕ
  pub some : 1 ≤ index
  pub cleared : PartCleared (slice_get parts 0) index
  pub nodes : (x : ℕ) → 1 ≤ x → x ≤ length plan.entries → IsSettledNode plan parts before changes links index x

-- ---- what the nodes hold, as the law of settled phases reads it

abbrev pub no_gathered : Gathered
no_gathered = record {
  cache = empty_cache 0 0;
  window = record { children = 0; steps = None; records = []; answered = 0; last = 0 };
  limits = None;
  announced = None;
}

abbrev pub auction_of_matcher : Matcher → Auction
auction_of_matcher (Concentrator g) = new_auction 0 0
auction_of_matcher (Auctioneer a) = a

abbrev pub gathered_of_matcher : Matcher → Gathered
gathered_of_matcher (Concentrator g) = g
gathered_of_matcher (Auctioneer a) = no_gathered

abbrev pub auction_of_duty : Duty → Auction
auction_of_duty (Device device) = new_auction 0 0
auction_of_duty (Parent parent) = auction_of_matcher parent.matcher

abbrev pub gathered_of_duty : Duty → Gathered
gathered_of_duty (Device device) = no_gathered
gathered_of_duty (Parent parent) = gathered_of_matcher parent.matcher

abbrev pub seat_of_duty : Duty → Seat
seat_of_duty (Device device) = device.port
seat_of_duty (Parent parent) = record { joined = None; given = None }

abbrev pub made_of_duty : Duty → ℕ
made_of_duty (Device device) = device.made
made_of_duty (Parent parent) = 0

abbrev pub member_of_duty : Duty → Bool
member_of_duty (Device device) = device.member
member_of_duty (Parent parent) = false

-- of a part, or of none
abbrev pub of_part : {A : Type 0} → (Duty → A) → A → Option NodePart → A
of_part f none None = none
of_part f none (Some part) = f part.duty

-- the nodes by their numbers, with how many changes each made before the phase and the prices that came to it
abbrev pub carried_of : List NodePart → List ℕ → (ℕ → List PriceUpdate) → Carried
carried_of parts before came = record {
  auctioneer = of_part auction_of_duty (new_auction 0 0) (slice_get parts 0);
  concentrators = λ y. of_part gathered_of_duty no_gathered (slice_get parts y);
  seats = λ d. of_part seat_of_duty (record { joined = None; given = None }) (slice_get parts d);
  made = λ d. slice_index_or before d 0 + of_part made_of_duty 0 (slice_get parts d);
  came = came;
}

-- how many changes each device made once it made those of the phase
abbrev pub cut_after : List ℕ → List (Vec Next Global) → ℕ → ℕ
cut_after before changes d = slice_index_or before d 0 + changes_count (slice_get changes d)

-- the log of the link has the indices of the prices that came, and a device is a member as its changes say
pub record AreRead (plan : PlanData) (parts : List NodePart) (before : List ℕ) (links : List (Option LinkLog))
    (came : ℕ → List PriceUpdate) : Type 0 where
  pub taken : (d : ℕ) → IsLeaf (plan_lists plan) d → taken_in links d ≡ newest_number (map (λ price. price.index) (came d))
  pub members : (d : ℕ) → IsLeaf (plan_lists plan) d → of_part member_of_duty false (slice_get parts d)
      ≡ is_member plan d (slice_index_or before d 0 + of_part made_of_duty 0 (slice_get parts d))
