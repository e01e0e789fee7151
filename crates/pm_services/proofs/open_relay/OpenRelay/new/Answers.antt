-- Of `OpenRelay::new`: what it ensures.
use Rattle.std.proofs.Common.{ap, subst, ℕ, List, Some, replicate}
use Rattle.pm_base.specs.Limits.{most_nodes}
use Rattle.pm_base.specs.declared.limits.Limits.{Limits}
use Rattle.pm_services.specs.RelaySetups.{RelaySetup}
use Rattle.pm_services.specs.RelayWrites.{Opens}
use Rattle.pm_services.proofs.open_relay.OpenRelay.new.Goals as goal

pub returns : goal.returns
returns c =
    let held = c.in_ok-held.held in
    let own = c.args.setup in
    record {
      opens = record {
        held = held;
        opens = subst (λ (it : RelaySetup). Opens it.terms.limits it.basis.steps 0 0 0 (replicate most_nodes 0) it.terms.limits held) c.setup.view_is
            (subst (λ (n : ℕ). Opens c.setup.inside.terms.limits n 0 0 0 (replicate most_nodes 0) c.setup.inside.terms.limits held) c.steps.ensures.steps
            c.in_ok-held.ensures.opens);
        opened = ap (λ (bounds' : List Limits). Some (record { setup = own; bounds = bounds'; held = held })) c.in_ok-bounds.ensures;
      };
    }
