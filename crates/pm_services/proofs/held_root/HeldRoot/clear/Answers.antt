-- Of `HeldRoot::clear`: what it ensures, and what the type keeps.
use Rattle.std.proofs.Common.{subst}
use Rattle.pm_relay.specs.Roots.{RootValue}
use Rattle.pm_services.specs.Limits.{root_reply_limit}
use Rattle.pm_services.specs.Receipts.{Appended}
use Rattle.pm_services.specs.RootWrites.{WritesClear, root_bytes}
use Rattle.pm_services.proofs.OpenRoots.{cleared}
use Rattle.pm_services.proofs.RootReplies.{clear_answered, refused_answered}
use Rattle.pm_services.proofs.held_root.HeldRoot.clear.Goals as goal

pub invariant_of-self : goal.invariant_of-self
invariant_of-self c = cleared c.self.inside.steps c.self.inside.root c.clear.new.self _ _ c.self.invariant c.in-Ok.ensures.cleared

pub returns-in-Ok : goal.returns-in-Ok
returns-in-Ok c = record {
  answered = subst (λ (old : RootValue). Appended (root_bytes c.args.basis.now) (WritesClear c.args.basis.now old c.clear.new.self) root_reply_limit
      c.args.out.now.items c.write_cleared.new.out.items) c.self.view_is
      (clear_answered c.args.basis.now c.self.inside.root c.clear.new.self _ _ _ _ c.in-Ok.ensures.cleared c.write_cleared.ensures.written
      c.write_cleared.ensures.few);
}

pub returns-in-Err : goal.returns-in-Err
returns-in-Err c = record {
  answered = subst (λ (old : RootValue). Appended (root_bytes c.args.basis.now) (WritesClear c.args.basis.now old c.clear.new.self) root_reply_limit
      c.args.out.now.items c.write_refusal.new.out.items) c.self.view_is
      (refused_answered c.args.basis.now c.self.inside.root c.clear.new.self c.in-Err.fault _ _ c.in-Err.ensures.refused c.in-Err.ensures.unchanged
      c.write_refusal.ensures.written c.write_refusal.ensures.few);
}
