-- Of `Bill::open`: what the type keeps.
use Rattle.std.proofs.Common.{◌≡◌, ◌∙◌, ap, ◌+◌, length, replicate, arith}
use Rattle.pm_bill.proofs.Ticks.{opens_bill}
use Rattle.pm_bill.proofs.bill.Bill.open.Goals as goal

pub invariant_of-result : goal.invariant_of-result
invariant_of-result c =
    let leaves = c.in_ok-leaves.leaves.items in
    let many : c.len.result ≡ length leaves = omega arith in
    opens_bill leaves _ _
    (c.in_ok-accounts.ensures.items_if_clones_equal (λ y same. same)
    ∙ ap (λ n. replicate (n + 1) c.new.result) many
    ∙ ap (λ account. replicate (length leaves + 1) account) c.new.ensures)
    c.new-2.ensures
