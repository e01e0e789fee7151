-- Of `point_bid`: what it ensures.
use Rattle.std.proofs.Common.{◌∙◌, sym, ap, Ok}
use Rattle.pm_frames.proofs.ReadOffers.{points_kept}
use Rattle.pm_frames.proofs.offer.point_bid.Goals as goal

pub returns-in-Ok : goal.returns-in-Ok
returns-in-Ok c =
    let made = sym c.new.ensures ∙ c.in-Ok.is in
    let kept = points_kept c.args.basis.now c.args.points.items _ made in
    (kept, made ∙ ap (λ l. Ok l) kept)
