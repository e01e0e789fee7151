-- Of `push_accounts`: what the call of `bounds` requires; the turns of its loop over `before`.
use Rattle.std.proofs.Common.{arith, ◌∙◌, sym, ap, ◌+◌, length, ◌++◌, string_bytes, append_assoc}
use Rattle.std.proofs.lemmas.List.{append-nil}
use Rattle.pm_tree.proofs.Named.{length-leaves_of}
use Rattle.pm_bill.specs.Accounts.{account_at}
use Rattle.pm_bill.specs.Text.{account_line}
use Rattle.pm_bill.proofs.Texts.{lines_before, no_lines, is_leaf-at_place, one_more_line, no_more_line}
use Rattle.pm_bill.proofs.text.push_accounts.Goals as goal
use Rattle.pm_bill.proofs.text.push_accounts.Goals.{then-leaves-place+in_ok-push_account, else-leaves-place}

pub loop-before-init : goal.loop-before-init
loop-before-init c =
    sym (ap (λ lines. string_bytes c.args.text.now ++ lines) (no_lines c.args.plan.now c.args.accounts.now) ∙ append-nil (string_bytes c.args.text.now))

pub bounds-leaves-place : goal.bounds-leaves-place
bounds-leaves-place c = omega (arith, ap length c.requires.leaves, length-leaves_of c.args.plan.now.entries, ap length c.tree.ensures.tree)

pub loop-before-preserved : goal.loop-before-preserved
loop-before-preserved c =
    let plan = c.args.plan.now in
    let accounts = c.args.accounts.now in
    let before = c.loop-before.before in
    let start = string_bytes c.args.text.now in
    let leaf = is_leaf-at_place plan c.args.leaves.now before c.requires.leaves in
    elim c.if-leaves-place.branch [
      | then-leaves-place+in_ok-push_account w ↦
          let line = account_line plan (before + 1) (account_at accounts (before + 1)) in
          ap string_bytes w.text-is
          ∙ w.in_ok-push_account.ensures
          ∙ ap (λ text. text ++ line) c.loop-before.invariant
          ∙ append_assoc start (lines_before plan accounts before) line
          ∙ ap (λ lines. start ++ lines) (sym (one_more_line plan accounts before (leaf ∙ w.if-leaves-place.true)))
      | else-leaves-place w ↦
          ap string_bytes w.text-is
          ∙ c.loop-before.invariant
          ∙ ap (λ lines. start ++ lines) (sym (no_more_line plan accounts before (leaf ∙ w.if-leaves-place.false)))
    ]
