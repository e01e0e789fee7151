-- The bill of a plan, by the steps that its devices go by.
use Rattle.std.proofs.Common.{◌≡◌, ◌∙◌, sym, ap, refl, ℕ, ◌+◌, ℤ, ◌*ℤ◌, neg_ℤ, true, List, [], ◌∷◌, ◌++◌}
use Rattle.std.proofs.Common.{length, inl, inr, arith}
use Rattle.std.proofs.lemmas.Bool.{cases_Bool}
use Rattle.std.proofs.lemmas.List.{ext_get_or, length-map}
use Rattle.std.proofs.lemmas.List.FromFn.{length-range_with_len}
use Rattle.pm_tree.specs.Entries.{leaves_of}
use Rattle.pm_tree.specs.Shape.{leaf_at}
use Rattle.pm_tree.proofs.Named.{length-leaves_of}
use Rattle.pm_bid.specs.Bids.{demand_at}
use Rattle.pm_basis.specs.Prices.{price_at}
use Rattle.pm_plan.specs.Plans.{PlanData, is_leaf, node_numbers}
use Rattle.pm_plan.specs.Kept.{IsPlan}
use Rattle.pm_plan.specs.Auction.{power}
use Rattle.pm_offer.specs.Offers.{local_step_at}
use Rattle.pm_offer.proofs.EndLines.{step_is}
use Rattle.pm_offer.proofs.Steps.{demand_is}
use Rattle.pm_bill.specs.declared.account.Account.{Account}
use Rattle.pm_bill.specs.declared.share.Share.{Share}
use Rattle.pm_bill.specs.Accounts.{no_account, account_of}
use Rattle.pm_bill.specs.Shares.{sum_each, group_cost, account_of_grid}
use Rattle.pm_bill.specs.Runs.{tick_phases, tick_minutes, cut_before, device_shares, group_sums, device_gain, grid_gain, node_account}
use Rattle.pm_bill.specs.Runs.{bill_over, plan_bill}
use Rattle.pm_bill.specs.Text.{account_lines, grid_line, ticks_line, devices, bill_text}
use Rattle.pm_bill.proofs.AddingUp.{bills_add_up, account-device}
use Rattle.pm_headline.specs.Bills.{IsGain, IsGridGain, TellsBill}

module _ (plan : PlanData) (is : IsPlan plan) where
  gain_is : (d p : ℕ) → IsGain plan d p (device_gain plan d p)
  unfolding device_gain power
  gain_is d p =
      let step : ℕ = local_step_at plan (cut_before plan p) d in
      record {
        step = step;
        goes_by = step_is plan is (cut_before plan p) d;
        is =
            ap (λ (bid : List ℤ). account_of (tick_minutes plan p) (price_at plan.basis step *ℤ demand_at bid step) (demand_at bid step))
            (demand_is plan (cut_before plan p) d);
      }

  grid_gain_is : (p : ℕ) → IsGridGain plan p (grid_gain plan p)
  unfolding grid_gain account_of_grid
  grid_gain_is p = record {
    cost = sum_each group_cost (group_sums plan (cut_before plan p));
    taken = sum_each (λ (share : Share). share.power) (device_shares plan (cut_before plan p));
    costs = refl;
    takes = refl;
    is = refl;
  }

  -- a bill of a plan has an account for each node
  one_each : length (plan_bill plan).accounts ≡ length (leaves_of plan.entries) + 1
  unfolding bill_over
  one_each = omega (
    arith,
    length-map (0 ∷ node_numbers plan) (node_account plan (tick_phases plan)),
    length-range_with_len 1 (length plan.nodes),
    length-leaves_of plan.entries,
    is.nodes.one_each,
  )

  -- the text of the bill of a plan tells the bill
  pub bill_is : (text : List ℕ) → text ≡ bill_text plan (plan_bill plan) → TellsBill plan text
  unfolding bill_over
  bill_is text written = record {
    bill = plan_bill plan;
    written = written;
    accounts = λ d leaf. account-device plan is (tick_phases plan) d leaf;
    gains = λ d p leaf. gain_is d p;
    leaves = refl;
    one_each = one_each;
    grid = refl;
    grid_gains = grid_gain_is;
    adds_up = bills_add_up plan is;
    ticks = refl;
    minutes = refl;
  }

  -- the accounts of a bill that is told are those of the plan's bill
  module _ (text : List ℕ) (tells : TellsBill plan text) where
    same_accounts : tells.bill.accounts ≡ (plan_bill plan).accounts
    unfolding bill_over
    same_accounts =
        ext_get_or no_account tells.bill.accounts (plan_bill plan).accounts (omega (arith, tells.one_each, ap length tells.leaves, one_each))
        (λ i inside. elim (cases_Bool (is_leaf plan i)) [
          | inl leaf ↦ tells.accounts i leaf ∙ sym (account-device plan is (tick_phases plan) i leaf)
          | inr other ↦ tells.adds_up.others i (ap (λ l. leaf_at l i) tells.leaves ∙ other) ∙ sym ((bills_add_up plan is).others i other)
        ])

    -- so the text is that of the plan's bill
    pub bill_only : text ≡ bill_text plan (plan_bill plan)
    unfolding bill_text bill_over
    bill_only =
        tells.written
        ∙ ap (λ accounts. account_lines plan accounts (devices plan) ++ (grid_line tells.bill.grid ++ ticks_line tells.bill.ticks tells.bill.minutes))
        same_accounts
        ∙ ap (λ grid. account_lines plan (plan_bill plan).accounts (devices plan) ++ (grid_line grid ++ ticks_line tells.bill.ticks tells.bill.minutes))
        tells.grid
        ∙ ap (λ ticks. account_lines plan (plan_bill plan).accounts (devices plan)
        ++ (grid_line (plan_bill plan).grid ++ ticks_line ticks tells.bill.minutes)) tells.ticks
        ∙ ap (λ minutes. account_lines plan (plan_bill plan).accounts (devices plan)
        ++ (grid_line (plan_bill plan).grid ++ ticks_line (plan_bill plan).ticks minutes)) tells.minutes
