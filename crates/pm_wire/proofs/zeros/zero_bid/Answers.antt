-- Of `zero_bid`: that no power at any step is no fault.
use Rattle.std.proofs.Common.{◌≡◌, ◌∙◌, ap, Ok, arith}
use Rattle.pm_bid.specs.Bids.{zeros}
use Rattle.pm_bid.specs.Checks.{checked_bid}
use Rattle.pm_wire.proofs.ZeroBids.{zeros_are_bid}
use Rattle.pm_wire.proofs.zeros.zero_bid.Goals as goal

pub unreachable-requires : goal.unreachable-requires
unreachable-requires g c =
    let made : c.new.result ≡ Ok (zeros c.args.steps) =
    c.new.ensures.bid ∙ ap (λ l. checked_bid c.args.steps l) c.in_ok-demands.ensures.zeros
    ∙ zeros_are_bid c.args.steps (omega (arith, c.requires.least)) in
    cc (made, c.in_default.is)
