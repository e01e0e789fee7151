-- Of `read_end`: what it ensures.
use Rattle.std.proofs.Common.{◌≡◌, ◌∙◌, ap, map, Vec, Global, w64, FitsSigned, rules}
use Rattle.std.proofs.lemmas.Int.{to_z-of_z}
use Rattle.std.specs.Prelude.{filter}
use Rattle.pm_auctioneer.specs.Auctions.{Auction}
use Rattle.pm_basis.specs.Prices.{BasisValue, price_at}
use Rattle.pm_bid.specs.Bids.{demand_at}
use Rattle.pm_cache.specs.Cache.{Cache, aggregate_of}
use Rattle.pm_carried.specs.Carried.{carried_member, carried_limited}
use Rattle.pm_plan.specs.Auction.{limited_nodes}
use Rattle.pm_plan.specs.Plans.{node_numbers}
use Rattle.pm_plan.specs.declared.end.MemberLine.{MemberLine}
use Rattle.pm_plan.specs.declared.end.LimitedLine.{LimitedLine}
use Rattle.pm_phase.specs.PartsEnd.{held_of_parts, is_member_in}
use Rattle.pm_phase.proofs.DeviceKeeps.{told_of}
use Rattle.pm_phase.proofs.ReadLines.{end_is}
use Rattle.pm_phase.proofs.reading.read_end.Goals as goal

pub returns : goal.returns
returns c =
    let plan = c.args.plan.now in
    let parts = c.args.parts.now in
    let held = held_of_parts parts in
    let members = told_of c.in_ok-members.field-0 c.in-Some-2.members
    (λ (lines : Vec MemberLine Global). lines.items ≡ map (carried_member plan held) (filter (is_member_in parts) (node_numbers plan)))
    c.in-Some-2.is c.in_ok-members.ensures in
    let limited = told_of c.in_ok-limited.field-0 c.in-Some-3.limited
    (λ (lines : Vec LimitedLine Global). lines.items ≡ map (carried_limited plan held) (limited_nodes plan)) c.in-Some-3.is c.in_ok-limited.ensures in
    let fits : FitsSigned w64 c.in-Some-sum_at.total = search rules in
    record {
      end = c.new.ensures ∙ end_is plan parts c.step-step.result _ _ c.in-Some-2.members.items c.in-Some-3.limited.items
          (c.step-step.ensures.step ∙ ap (λ (a : Auction). a.step) c.in-Some.ensures)
          (ap (λ (b : BasisValue). price_at b c.step-step.result) c.basis-2.ensures.basis)
          (to_z-of_z w64 c.in-Some-sum_at.total fits ∙ c.in-Some-sum_at.ensures.total
          ∙ ap (λ (q : Cache). demand_at (aggregate_of q) c.step-step.result) (c.cache.ensures.cache ∙ ap (λ (a : Auction). a.cache) c.in-Some.ensures))
          members limited;
    }
