-- What becomes of the newest bid that a parent learnt from a child when they get a new link.
use Rattle.std.specs.Prelude.{◌≡◌, ◌⊎◌, Option, Some, None}
use Rattle.pm_cells.specs.Ends.{LinkEnd}
use Rattle.pm_cells.specs.declared.message.UpMessage.{UpMessage}
use Rattle.pm_phase.specs.Waiting.{PutBid, KeepsBid, DropsBid, TakesBidFromLink}

-- the bid was put on the link, and the parent has what it took from there
pub record PutAndTaken (up up' down down' : LinkEnd) (bid : UpMessage) (has : Option UpMessage) : Type 0 where
  pub put : PutBid up up' bid None
  pub taken : TakesBidFromLink down down' has

-- the bid could not be put: the parent has it, if the slot was lost; no bid was taken
pub record NotPut (up up' down down' : LinkEnd) (bid : UpMessage) (has : Option UpMessage) : Type 0 where
  pub why : KeepsBid up up' bid has ⊎ DropsBid up up' bid has
  pub same : down' ≡ down

-- without a bid nothing happens
abbrev pub PutsAgain : LinkEnd → LinkEnd → LinkEnd → LinkEnd → Option UpMessage → Option UpMessage → Type 0
PutsAgain up up' down down' None has = (up' ≡ up) × (down' ≡ down) × (has ≡ None)
PutsAgain up up' down down' (Some bid) has =
    PutAndTaken up up' down down' bid has ⊎ NotPut up up' down down' bid has
