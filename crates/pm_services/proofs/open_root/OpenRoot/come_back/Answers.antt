-- Of `OpenRoot::come_back`: what it ensures.
use Rattle.std.proofs.Common.{subst, ℕ}
use Rattle.pm_relay.specs.Roots.{RootComesBack}
use Rattle.pm_frames.specs.declared.root.RootFrame.TheVariants.{Resume}
use Rattle.pm_services.specs.Limits.{root_reply_limit}
use Rattle.pm_services.specs.Receipts.{Appended}
use Rattle.pm_services.specs.RootWrites.{root_bytes}
use Rattle.pm_services.specs.RootAnswers.{OpenRoot, WritesOpenRoot}
use Rattle.pm_services.proofs.OpenedRoots.{comes_back}
use Rattle.pm_services.proofs.open_root.OpenRoot.come_back.Goals as goal

pub returns-clause-answered : goal.returns-clause-answered
returns-clause-answered c =
    let old : OpenRoot = record { basis = c.self.inside.basis; bounds = c.self.inside.bounds; root = c.self.inside.held } in
    let stored = c.args.stored.now in
    subst (λ (it : OpenRoot). Appended (root_bytes it.basis)
    (WritesOpenRoot it (Resume stored) (record { basis = c.self.inside.basis; bounds = c.self.inside.bounds; root = c.in_ok-back.back }))
    root_reply_limit c.args.out.now.items c.args.out.now.items) c.self.view_is
    (comes_back old stored c.in_ok-back.back c.args.out.now.items
    (subst (λ (n : ℕ). RootComesBack n stored.last stored.numbers c.in_ok-back.back) c.self.invariant c.in_ok-back.ensures))
