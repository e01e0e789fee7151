-- Of `HeldRoot::write_prices`: its clauses `written` and `few`.
use Rattle.std.proofs.Common.{◌∙◌, ap, ◌++◌, ℕ, List, length, arith, length-append}
use Rattle.pm_frames.specs.ParentFrames.{prices_bytes}
use Rattle.pm_frames.proofs.Prices.{prices_few}
use Rattle.pm_relay.specs.Roots.{RootValue}
use Rattle.pm_services.specs.RootWrites.{root_bytes, kept_prices_outs}
use Rattle.pm_services.proofs.RootReplies.{kept_written}
use Rattle.pm_services.proofs.held_root.HeldRoot.write_prices.Goals as goal

pub returns-in-Some-clause-few : goal.returns-in-Some-clause-few
returns-in-Some-clause-few c =
    let clearing = c.in-Some.clearing in
    omega (
      arith,
      ap length c.write_prices.ensures.written,
      length-append c.args.out.now.items (prices_bytes c.args.basis.now clearing.index clearing.step 1 clearing.heads.now),
      prices_few c.args.basis.now clearing.index clearing.step 1 clearing.heads.now,
      ap length c.in-Some.ensures.2,
      c.self.invariant.children,
    )

pub returns-in-Some-clause-written : goal.returns-in-Some-clause-written
returns-in-Some-clause-written c =
    let clearing = c.in-Some.clearing in
    let has = c.in-Some.ensures in
    c.write_prices.ensures.written
    ∙ ap (λ (l : List ℕ). c.args.out.now.items ++ l)
    (kept_written c.args.basis.now c.self.inside.root clearing.index clearing.step clearing.heads.now has.0 has.1 has.2 has.3 has.4)
    ∙ ap (λ (r : RootValue). c.args.out.now.items ++ root_bytes c.args.basis.now (kept_prices_outs r)) c.self.view_is
