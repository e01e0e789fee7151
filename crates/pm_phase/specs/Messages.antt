-- The bids and the prices among messages.
use Rattle.std.specs.Prelude.{List, [], ◌∷◌}
use Rattle.pm_cells.specs.declared.message.Message.{Message}
use Rattle.pm_cells.specs.declared.message.Message.TheVariants.{Bid, Price}
use Rattle.pm_session.specs.declared.price.PriceUpdate.{PriceUpdate}

-- the prices among messages, in order
abbrev pub prices_among : List Message → List PriceUpdate
prices_among [] = []
prices_among (Bid bid ∷ rest) = prices_among rest
prices_among (Price price ∷ rest) = price ∷ prices_among rest
