-- Of `push_accounts`: what its loop over `before` keeps.
use Rattle.std.proofs.Common.{◌≡◌, ◌++◌, string_bytes}
use Rattle.pm_bill.proofs.Texts.{lines_before}
use Rattle.pm_bill.proofs.text.push_accounts.Given as goal

abbrev pub invariant-loop-before : goal.invariant-loop-before
invariant-loop-before l = string_bytes l.text ≡ string_bytes l.initial.text ++ lines_before l.plan l.accounts l.before
