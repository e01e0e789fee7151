-- What the calls on a cluster's parts did, for each move.
use Rattle.std.specs.Prelude.{◌≡◌, ℕ, ℤ, Bool, pos, if◌then◌else◌, List, length, slice_index_or, Option, Some, None}
use Rattle.pm_cache.specs.Learning.{bid_demand}
use Rattle.pm_session.specs.Links.{Session, UpBid, BidOffered, BidTaken, PriceTaken}
use Rattle.pm_session.specs.Ports.{Seat}
use Rattle.pm_session.specs.Windows.{record_of}
use Rattle.pm_session.specs.Prices.{PricesOffered}
use Rattle.pm_session.specs.declared.price.PriceUpdate.{PriceUpdate}
use Rattle.pm_concentrator.specs.Limited.{local_step_of_record}
use Rattle.pm_concentrator.specs.Concentrators.{Gathered, Published, Passed}
use Rattle.pm_auctioneer.specs.Auctions.{Auction, ClearedAt}
use Rattle.pm_market.specs.Lists.{is_member, IsLeaf}
use Rattle.pm_market.specs.State.{update}
use Rattle.pm_plan.specs.Plans.{PlanData, end_cut}
use Rattle.pm_plan.specs.Auction.{power}
use Rattle.pm_plan.specs.States.{state}
use Rattle.pm_plan.specs.Market.{plan_lists}
use Rattle.pm_offer.specs.Offers.{device_demand}
use Rattle.pm_stands.specs.Core.{Core, row_at, link_at, gathered_at, concentrator_of, seat_at}
use Rattle.pm_stands.specs.Rows.{OneLink, OneRow, OneConcentrator, EntryLearnt}
use Rattle.pm_laws.specs.Gone.{is_gone}

-- y took the bid that waited on the link of its child in place k, and learnt it
pub record DidLearn (c : Core) (links : List (List Session)) (auctioneer : Auction) (concentrators : List (Option Gathered))
    (bid : UpBid) (y k : ℕ) : Type 0 where
  pub taken : BidTaken (link_at c.links y k) (link_at links y k) bid
  pub one : OneLink c.links links y k
  pub learnt : EntryLearnt c.auctioneer auctioneer c.concentrators concentrators y k bid.number (bid_demand bid.gone bid.demand)

abbrev pub learnt_core : Core → List (List Session) → Auction → List (Option Gathered) → Core
learnt_core c links auctioneer concentrators = record c { links = links; auctioneer = auctioneer; concentrators = concentrators }

-- concentrator x, the child of y in place k, published under number n
pub record DidPublish (c : Core) (x : ℕ) (links : List (List Session)) (concentrators : List (Option Gathered)) (n y k : ℕ) : Type 0 where
  pub made : Published (concentrator_of c x) (gathered_at concentrators x) (link_at c.links y k) (link_at links y k) n
  pub one : OneLink c.links links y k
  pub alone : OneConcentrator c.concentrators concentrators x

abbrev pub published_core : Core → List (List Session) → List (Option Gathered) → Core
published_core c links concentrators = record c { links = links; concentrators = concentrators }

-- a concentrator answered the number of a price, and offered to each child that is not gone in that number's record the
-- step of the price for the nodes below
pub record PassedOn (old new : Gathered) (downs_old downs_new : List Session) (price : PriceUpdate) : Type 0 where
  pub passed : Passed old new price.number
  pub offered : PricesOffered (record_of old.window price.number).heads
      (local_step_of_record old.limits price.step (record_of old.window price.number).sum) price.index downs_old downs_new

-- concentrator x, the child of y in place k, took the price that waited on its link, and passed it to its children
pub record DidPass (c : Core) (x : ℕ) (between links : List (List Session)) (concentrators : List (Option Gathered))
    (price : PriceUpdate) (y k : ℕ) : Type 0 where
  pub taken : PriceTaken (link_at c.links y k) (link_at between y k) price
  pub one : OneLink c.links between y k
  pub made : PassedOn (concentrator_of c x) (gathered_at concentrators x) (row_at between x) (row_at links x) price
  pub alone : OneConcentrator c.concentrators concentrators x
  pub row : OneRow between links x

abbrev pub passed_core : Core → List (List Session) → List (Option Gathered) → Core
passed_core c links concentrators = record c { links = links; concentrators = concentrators }

-- the auctioneer cleared
pub record DidClear (c : Core) (links : List (List Session)) (auctioneer : Auction) (index step : ℕ) : Type 0 where
  pub made : ClearedAt c.auctioneer auctioneer (row_at c.links 0) (row_at links 0) index step
  pub row : OneRow c.links links 0

abbrev pub cleared_core : Core → List (List Session) → Auction → Core
cleared_core c links auctioneer = record c { links = links; auctioneer = auctioneer }

-- device x, the child of y in place k, took the price that waited on its link
pub record DidTake (c : Core) (x : ℕ) (links : List (List Session)) (ports : List Seat) (price : PriceUpdate) (y k : ℕ) : Type 0 where
  pub taken : PriceTaken (link_at c.links y k) (link_at links y k) price
  pub one : OneLink c.links links y k
  pub same_ports : length ports ≡ length c.ports
  pub given : seat_at ports x ≡ record (seat_at c.ports x) { given = Some price }
  pub others : (d : ℕ) → (d ≡ x → ⊥) → seat_at ports d ≡ seat_at c.ports d

abbrev pub taken_core : Core → List (List Session) → List Seat → Core
taken_core c links ports = record c { links = links; ports = ports }

-- the seat of a device after a change, by whether it was a member before and is one afterwards
abbrev pub seat_after : Seat → Bool → Bool → ℕ → Seat
seat_after seat before after n =
    if after then (if before then seat else (record seat { joined = Some n }))
    else (record seat { joined = None })

-- device x, the child of y in place k, made its change n, and offered its bid
pub record DidChange (plan : PlanData) (c : Core) (x n : ℕ) (links : List (List Session)) (counts : List ℕ) (states : List ℤ)
    (ports : List Seat) (y k : ℕ) : Type 0 where
  pub made : BidOffered (link_at c.links y k) (link_at links y k) (record { number = n; gone = is_gone (plan_lists plan) x n; demand = device_demand plan x n })
  pub one : OneLink c.links links y k
  pub same_counts : length counts ≡ length c.counts
  pub counted : (d : ℕ) → IsLeaf (plan_lists plan) d → slice_index_or counts d 0 ≡ update (λ (e : ℕ). slice_index_or c.counts e 0) x n d
  pub same_states : length states ≡ length c.states
  pub moved : (d : ℕ) → IsLeaf (plan_lists plan) d →
      slice_index_or states d (pos 0) ≡ update (λ (e : ℕ). slice_index_or c.states e (pos 0)) x (state plan x n) d
  pub same_ports : length ports ≡ length c.ports
  pub seated : seat_at ports x ≡ seat_after (seat_at c.ports x) (is_member (plan_lists plan) x (slice_index_or c.counts x 0))
      (is_member (plan_lists plan) x n) n
  pub others : (d : ℕ) → (d ≡ x → ⊥) → seat_at ports d ≡ seat_at c.ports d

abbrev pub changed_core : Core → List (List Session) → List ℕ → List ℤ → List Seat → Core
changed_core c links counts states ports = record c { links = links; counts = counts; states = states; ports = ports }

-- the open phase was closed, and the power of each device at its end was kept
pub record DidClose (plan : PlanData) (c : Core) (powers : List ℤ) (p : ℕ) : Type 0 where
  pub same_powers : length powers ≡ length c.powers
  pub kept : (d : ℕ) → IsLeaf (plan_lists plan) d → slice_index_or powers d (pos 0) ≡ power plan (state plan) (end_cut plan p) d

abbrev pub closed_core : Core → List ℤ → ℕ → Core
closed_core c powers p = record c { powers = powers; closed = p }
