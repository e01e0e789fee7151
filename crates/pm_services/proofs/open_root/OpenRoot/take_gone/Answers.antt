-- Of `OpenRoot::take_gone`: what it ensures.
use Rattle.std.proofs.Common.{refl, subst, arith, ◌+◌}
use Rattle.pm_wire.specs.declared.frame.Frame.TheVariants.{Gone}
use Rattle.pm_frames.specs.declared.root.RootFrame.TheVariants.{Market}
use Rattle.pm_services.specs.Limits.{root_reply_limit, prices_limit}
use Rattle.pm_services.specs.Receipts.{Appended}
use Rattle.pm_services.specs.RootWrites.{root_bytes}
use Rattle.pm_services.specs.RootAnswers.{OpenRoot, WritesOpenRoot}
use Rattle.pm_services.proofs.OpenedRoots.{opened}
use Rattle.pm_services.proofs.open_root.OpenRoot.take_gone.Goals as goal

pub returns : goal.returns
returns c =
    let old : OpenRoot = record { basis = c.self.inside.basis; bounds = c.self.inside.bounds; root = c.self.inside.held } in
    record {
      answered =
          subst (λ (it : OpenRoot). Appended (root_bytes it.basis)
          (WritesOpenRoot it (Market (Gone c.args.sender c.args.number))
          (record { basis = c.self.inside.basis; bounds = c.self.inside.bounds; root = c.take_bid.new.self }))
          root_reply_limit c.args.out.now.items c.take_bid.new.out.items) c.self.view_is
          (opened old (Market (Gone c.args.sender c.args.number)) c.take_bid.new.self (7 + prices_limit) _ _ (omega arith) refl c.take_bid.ensures.answered);
    }
