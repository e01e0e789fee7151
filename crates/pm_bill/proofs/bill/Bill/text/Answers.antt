-- Of `Bill::text`: what it ensures.
use Rattle.std.proofs.Common.{rules, ◌≡◌, ◌∙◌, ap, ◌++◌, FitsSigned, w64, to_z, of_z, string_bytes}
use Rattle.std.proofs.lemmas.Int.{to_z-of_z}
use Rattle.pm_bill.specs.Bills.{BillData}
use Rattle.pm_bill.specs.Text.{account_lines, ticks_line, devices, bill_text}
use Rattle.pm_bill.proofs.Texts.{bill_text_is}
use Rattle.pm_bill.proofs.bill.Bill.text.Goals as goal

pub returns : goal.returns
returns c =
    let plan = c.args.plan.now in
    let fits : FitsSigned w64 c.self.inside.minutes = search rules in
    let accounts : string_bytes c.push_accounts.new.text ≡ string_bytes c.new-text.result ++ account_lines plan c.deref-2.result.now (devices plan) =
    c.in_ok-push_accounts.ensures in
    let accounts_are = ap (λ list. string_bytes c.new-text.result ++ account_lines plan list (devices plan)) c.deref-2.ensures.value in
    let computed = to_z w64 (of_z w64 c.self.inside.minutes) in
    let ticks : string_bytes c.push_ticks.new.text ≡ string_bytes c.push_grid.new.text ++ ticks_line c.self.inside.ticks computed =
    c.in_ok-push_ticks.ensures in
    let minutes = ap (λ m. string_bytes c.push_grid.new.text ++ ticks_line c.self.inside.ticks m) (to_z-of_z w64 c.self.inside.minutes fits) in
    let all = bill_text_is plan (record {
      leaves = c.self.inside.leaves.items;
      accounts = c.self.inside.accounts.items;
      grid = c.self.inside.grid;
      ticks = c.self.inside.ticks;
      minutes = c.self.inside.minutes;
    }) _ _ _ _ c.new-text.ensures.bytes (accounts ∙ accounts_are) c.in_ok-push_grid.ensures (ticks ∙ minutes) in
    let bytes : c.into_bytes.result.items ≡ string_bytes c.push_ticks.new.text = ap (λ vec. vec.items) c.into_bytes.ensures.value in
    bytes ∙ all ∙ ap (λ (bill : BillData). bill_text plan bill) c.self.view_is
