-- Of `read_bid`: what it ensures.
use Rattle.std.proofs.Common.{◌≡◌, ◌∙◌, ap, ℕ, ℤ, pos, true, List, length, arith}
use Rattle.std.proofs.lemmas.List.{length-replicate}
use Rattle.pm_bid.specs.Bids.{zeros}
use Rattle.pm_wire.proofs.ReadFrames.{bid_refused, not_sender}
use Rattle.pm_wire.proofs.bid_frames.read_bid.Goals as goal

same_steps : (bid made : List ℤ) (steps : ℕ) → length bid ≡ length made → made ≡ zeros steps → length bid ≡ steps
same_steps bid made steps same is = same ∙ ap length is ∙ length-replicate steps (pos 0)

pub returns-then-not-fill-clause-one : goal.returns-then-not-fill-clause-one
returns-then-not-fill-clause-one g c =
    bid_refused _ _ _ _ _ _ c.fill.new.bid c.read_u16-child.ensures c.read_u32-number.ensures c.fill.ensures.bytes (omega arith) (omega arith)
    (same_steps _ _ c.args.steps c.fill.ensures.steps c.in_ok-demand.ensures.bid) c.fill.ensures.fit
    (λ sender bid. let holds : c.fill.result ≡ true = c.fill.ensures.bid.1 bid in cc (c.if-not-fill.true, holds))

pub returns-then-not-is_sender-clause-one : goal.returns-then-not-is_sender-clause-one
returns-then-not-is_sender-clause-one g c =
    bid_refused _ _ _ _ _ _ c.fill.new.bid c.read_u16-child.ensures c.read_u32-number.ensures c.fill.ensures.bytes (omega arith) (omega arith)
    (same_steps _ _ c.args.steps c.fill.ensures.steps c.in_ok-demand.ensures.bid) c.fill.ensures.fit
    (λ sender bid. not_sender c.is_sender.result _ _ c.if-not-is_sender.true c.is_sender.ensures.1 sender)
