-- Of `write_down`: its clauses `written` and `few`.
use Rattle.std.proofs.Common.{◌∙◌, ap, ◌++◌, ℕ, List, arith, length, length-append}
use Rattle.pm_frames.specs.ParentFrames.{prices_bytes}
use Rattle.pm_frames.proofs.Prices.{prices_few}
use Rattle.pm_bid.specs.declared.head.BidHead.{BidHead}
use Rattle.pm_frames.specs.Stored.{relay_resume_bytes}
use Rattle.pm_concentrator.specs.Limited.{settled_step_of_record}
use Rattle.pm_relay.specs.Relays.{record_at, limits_of_number}
use Rattle.pm_services.specs.RelaySetups.{RelaySetup}
use Rattle.pm_services.specs.RelayWrites.{relay_bytes, down_outs}
use Rattle.pm_services.proofs.Written.{downs_written}
use Rattle.pm_services.proofs.relay_bytes.write_down.Goals as goal

pub returns-clause-few : goal.returns-clause-few
returns-clause-few c =
    let down = c.prices.result in
    omega (
      arith,
      ap length c.write_prices.ensures.written,
      length-append c.args.out.now.items (prices_bytes c.own.inside.basis down.index down.step 1 down.heads.now),
      prices_few c.own.inside.basis down.index down.step 1 down.heads.now,
      c.prices.ensures.children,
      c.args.out.now.ok.0,
      c.write_prices.new.out.ok.0,
    )

pub returns-clause-written : goal.returns-clause-written
returns-clause-written c =
    let down = c.prices.result in
    let own : RelaySetup = record { child = c.own.inside.child; terms = c.own.inside.terms; basis = c.own.inside.basis } in
    let r = c.args.relay.now in
    let price = c.args.price in
    let at : ℕ = settled_step_of_record (limits_of_number r price.number) price.step (record_at r price.number).sum in
    let heads : List BidHead = (record_at r price.number).heads in
    c.write_prices.ensures.written
    ∙ ap (λ (l : List BidHead). c.args.out.now.items ++ prices_bytes own.basis down.index down.step 1 l) c.prices.ensures.heads
    ∙ ap (λ (n : ℕ). c.args.out.now.items ++ prices_bytes own.basis down.index n 1 heads) c.prices.ensures.step
    ∙ ap (λ (n : ℕ). c.args.out.now.items ++ prices_bytes own.basis n at 1 heads) c.prices.ensures.index
    ∙ ap (λ (l : List ℕ). c.args.out.now.items ++ l) (downs_written relay_resume_bytes own.basis own.child price.index at 0 heads)
    ∙ ap (λ (o : RelaySetup). c.args.out.now.items ++ relay_bytes o (down_outs r price)) c.own.view_is
