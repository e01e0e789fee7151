-- Of `OpenRoot::new`: what it ensures.
use Rattle.std.proofs.Common.{ap, subst, ℕ, List, Some, replicate}
use Rattle.pm_base.specs.Limits.{most_nodes}
use Rattle.pm_base.specs.declared.limits.Limits.{Limits}
use Rattle.pm_relay.specs.Roots.{RootComesBack}
use Rattle.pm_services.proofs.open_root.OpenRoot.new.Goals as goal

pub returns : goal.returns
returns c =
    let held = c.in_ok-held.held in
    record {
      opens = record {
        root = held;
        back = subst (λ (n : ℕ). RootComesBack n 0 (replicate most_nodes 0) held) c.steps.ensures.steps c.in_ok-held.ensures;
        opened = ap (λ (bounds' : List Limits). Some (record { basis = c.args.basis.now; bounds = bounds'; root = held })) c.in_ok-bounds.ensures;
      };
    }
