-- The two ends of a link, as contracts see them, and what each call makes of one.
use Rattle.std.specs.Prelude.{◌≡◌, ℕ, ◌≤◌, List, [], Some, None}
pub use Rattle.atomic_table.specs.Seated.{TableId}
use Rattle.pm_session.specs.declared.price.PriceUpdate.{PriceUpdate}
use Rattle.pm_cells.specs.Numbers.{newest_number}
use Rattle.pm_cells.specs.Steps.{Seated, after_loss, with_claim_to_take, after_put, after_take, after_empty_take, with_up, with_down}
use Rattle.pm_cells.specs.declared.message.UpMessage.{UpMessage}
use Rattle.pm_cells.specs.declared.message.Message.TheVariants.{Bid, Price}
use Rattle.pm_cells.specs.declared.fault.PutPriceFault.{PutPriceFault}
use Rattle.pm_cells.specs.declared.fault.PutPriceFault.TheVariants as OfPrices
use Rattle.pm_cells.specs.declared.fault.PutBidFault.{PutBidFault}
use Rattle.pm_cells.specs.declared.fault.PutBidFault.TheVariants as OfBids
use Rattle.pm_cells.specs.declared.view.EndView.{EndView}
use Rattle.pm_cells.specs.declared.view.CellView.{CellView}
use Rattle.pm_cells.specs.declared.view.Role.{Role}

-- the fault with which a bid, or a price, is handed back
abbrev pub bid_handed_back : UpMessage → PutBidFault
bid_handed_back message = OfBids.Busy message

abbrev pub price_handed_back : PriceUpdate → PutPriceFault
price_handed_back price = OfPrices.Busy price

-- which link the end is of, what it knows, and how many numbers it may put and how many it may take
pub record LinkEnd : Type 0 where
  pub link : TableId
  pub known : EndView
  pub room : ℕ

-- an end between two calls: what its seat knows, the cell that it puts into and the one that it takes from, its two lists, its
-- room and the capacities of the lists
pub record RestsBetweenCalls (role : Role) (seat : Seated) (put take : CellView) (puts takes : List ℕ) (room for_puts for_takes : ℕ) : Type 0 where
  pub has_no_slot : seat.1 ≡ []
  pub role_is : seat.0.role ≡ role
  pub has_none_to_put : put.holds ≡ 0
  pub has_none_to_take : take.holds ≡ 0
  pub puts_are : puts ≡ put.puts
  pub takes_are : takes ≡ take.takes
  pub puts_fit : room ≤ for_puts
  pub takes_fit : room ≤ for_takes

-- the end with another view
abbrev pub with_view : LinkEnd → EndView → LinkEnd
with_view e v = record { link = e.link; known = v; room = e.room }

-- after a put of this message, and after a claim that was lost
abbrev pub after_put_bid : LinkEnd → UpMessage → LinkEnd
after_put_bid e bid = with_view e (with_up e.known (after_put e.known.up bid.number (Bid bid)))

abbrev pub after_lost_bid : LinkEnd → LinkEnd
after_lost_bid e = with_view e (with_up e.known (after_loss e.known.up))

abbrev pub after_put_price : LinkEnd → PriceUpdate → LinkEnd
after_put_price e price = with_view e (with_down e.known (after_put e.known.down price.index (Price price)))

abbrev pub after_lost_price : LinkEnd → LinkEnd
after_lost_price e = with_view e (with_down e.known (after_loss e.known.down))

-- after a take of this message, and after one that found the number taken last
abbrev pub after_taken_bid : LinkEnd → UpMessage → LinkEnd
after_taken_bid e bid = with_view e (with_up e.known (after_take (with_claim_to_take e.known.up bid.number (Some (Bid bid)))))

abbrev pub after_no_bid : LinkEnd → LinkEnd
after_no_bid e = with_view e (with_up e.known (after_empty_take (with_claim_to_take e.known.up (newest_number e.known.up.takes) None)))

abbrev pub after_taken_price : LinkEnd → PriceUpdate → LinkEnd
after_taken_price e price = with_view e (with_down e.known (after_take (with_claim_to_take e.known.down price.index (Some (Price price)))))

abbrev pub after_no_price : LinkEnd → LinkEnd
after_no_price e = with_view e (with_down e.known (after_empty_take (with_claim_to_take e.known.down (newest_number e.known.down.takes) None)))
