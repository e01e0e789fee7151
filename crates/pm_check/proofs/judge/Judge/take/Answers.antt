-- Of `Judge::take`: its clauses `none` and `taken`; what the call of `make` requires.
use Rattle.std.proofs.Common.{◌∙◌, sym, true, false}
use Rattle.pm_check.proofs.Making.{legal_is}
use Rattle.pm_check.proofs.Judging.{reads_none, tells_illegal, tells_other, tells_legal}
use Rattle.pm_check.proofs.judge.Judge.take.Goals as goal

pub returns-in_default-clause-none : goal.returns-in_default-clause-none
returns-in_default-clause-none c = λ _.
    reads_none c.args.plan.now c.args.self.now c.requires c.args.line.now c.read_line.result c.read_line.ensures c.in_default.is

pub returns-then-not-is_legal-clause-none : goal.returns-then-not-is_legal-clause-none
returns-then-not-is_legal-clause-none c = λ _.
    tells_illegal c.args.plan.now c.args.self.now c.requires c.args.line.now c.in-Some.told c.in-Some.ensures.told.0 c.in-Some.ensures.told.1
    (sym c.is_legal.ensures ∙ c.if-not-is_legal.true)

pub make-requires-clause-legal : goal.make-requires-clause-legal
make-requires-clause-legal c = sym c.is_legal.ensures ∙ c.if-not-is_legal.false

pub returns-clause-taken : goal.returns-clause-taken
returns-clause-taken c = λ same.
    let legal = legal_is c.args.plan.now c.args.self.now c.requires c.in-Some.told.what (sym c.is_legal.ensures ∙ c.if-not-is_legal.false) in (
      c.in-Some.told.what,
      tells_legal c.args.plan.now c.args.self.now c.requires c.args.line.now c.in-Some.told c.in-Some.ensures.told.0 c.in-Some.ensures.told.1
          c.make.new.self legal c.in_ok-make.ensures (c.is_same.ensures.same same ∙ c.held_after.ensures),
    )

pub returns-clause-none : goal.returns-clause-none
returns-clause-none c = λ differ.
    tells_other c.args.plan.now c.args.self.now c.requires c.args.line.now c.in-Some.told c.in-Some.ensures.told.0 c.in-Some.ensures.told.1
    c.make.new.self c.in_ok-make.ensures (λ same. c.is_same.ensures.differ differ (same ∙ sym c.held_after.ensures))
