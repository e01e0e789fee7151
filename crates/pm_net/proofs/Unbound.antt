-- Limits that never bind may be put in and taken out.
use Rattle.std.proofs.Common.{◌≡◌, ◌∙◌, sym, ap, ℕ, ℤ, List, Option, Some, None, refl, inl, inr}
use Rattle.pm_base.specs.Cuts.{Cut}
use Rattle.pm_base.specs.declared.limits.Limits.{Limits}
use Rattle.pm_bid.specs.Taken.{announced, settled_step}
use Rattle.pm_bid.proofs.Taken.{announced-unbound, settled_unbound}
use Rattle.pm_market.specs.Lists.{Lists, parent, IsConcentrator}
use Rattle.pm_net.specs.Pricing.{Pricing, GoesByNodes}
use Rattle.pm_net.specs.TreeAuction.{NeverBindAt, AreAsGood, with_limits}

module _ (lists : Lists) (p : Pricing) (by : GoesByNodes lists p) (limits : ℕ → Cut → Option Limits) (good : AreAsGood lists p limits) where
  abbrev total : ℕ → Cut → List ℤ
  total c cut = p.add c (λ x. p.offer x cut)

  sum_kept : (c : ℕ) (cut : Cut) (l : Option Limits) → NeverBindAt p c l → announced l (total c cut) ≡ total c cut
  sum_kept c cut None never = refl
  sum_kept c cut (Some l) never = announced-unbound l (total c cut) never.0 (never.1 cut)

  local_kept : (c : ℕ) (cut : Cut) (l : Option Limits) → NeverBindAt p c l → settled_step l (p.local cut c) (total c cut) ≡ p.local cut c
  local_kept c cut None never = refl
  local_kept c cut (Some l) never = settled_unbound l (total c cut) (p.local cut c) (never.1 cut) (never.2 cut)

  same_sum : (c : ℕ) (cut : Cut) → IsConcentrator lists c → announced (p.limits c cut) (total c cut) ≡ announced (limits c cut) (total c cut)
  same_sum c cut conc = elim (good.1 c cut conc) [
    | inl same ↦ ap (λ l. announced l (total c cut)) (sym same)
    | inr never ↦ sum_kept c cut (p.limits c cut) never.0 ∙ sym (sum_kept c cut (limits c cut) never.1)
  ]

  same_step : (c : ℕ) (cut : Cut) → IsConcentrator lists c →
      settled_step (p.limits c cut) (p.local cut c) (total c cut) ≡ settled_step (limits c cut) (p.local cut c) (total c cut)
  same_step c cut conc = elim (good.1 c cut conc) [
    | inl same ↦ ap (λ l. settled_step l (p.local cut c) (total c cut)) (sym same)
    | inr never ↦ local_kept c cut (p.limits c cut) never.0 ∙ sym (local_kept c cut (limits c cut) never.1)
  ]

  -- with the other limits the same offers go up, and the same steps come down
  pub goes_unbound : GoesByNodes lists (with_limits p limits)
  goes_unbound = record {
    sums = by.sums;
    alike = by.alike;
    steps_alike = by.steps_alike;
    limits_alike = good.0;
    nothing = by.nothing;
    device = by.device;
    relay = λ c cut conc. by.relay c cut conc ∙ same_sum c cut conc;
    root = by.root;
    below = λ x cut node conc. by.below x cut node conc ∙ same_step (parent lists x) cut conc;
  }
