-- The report of a plan tells the plain auction at the end of each phase, and no other text does.
use Rattle.std.proofs.Common.{◌≡◌, ◌∙◌, sym, ap, subst, ℕ, ◌+◌, ◌-◌, ◌≤◌, List, get_or, arith}
use Rattle.std.proofs.lemmas.List.{ext_get_or}
use Rattle.std.proofs.lemmas.List.FromFn.{get_or-map-range_with_len, length-map-range_with_len}
use Rattle.pm_plan.specs.Plans.{PlanData, phases, end_cut}
use Rattle.pm_plan.specs.Kept.{IsPlan}
use Rattle.pm_plan.specs.Auction.{EndData}
use Rattle.pm_plan.specs.States.{end_of, all_ends}
use Rattle.pm_plan.specs.Ends.{no_end}
use Rattle.pm_plan.proofs.PublicLaws.{follows}
use Rattle.pm_offer.specs.EndLines.{TellsEnd}
use Rattle.pm_offer.proofs.EndLines.{tells_end}
use Rattle.pm_offer.proofs.OneEnd.{end_only}
use Rattle.pm_report.specs.Report.{report_text}
use Rattle.pm_headline.specs.Reports.{AreAuctionEnds, IsReport}

-- the ends of a plan tell the plain auction
pub ends_tell : (plan : PlanData) → IsPlan plan → AreAuctionEnds plan (all_ends plan)
ends_tell plan is = record {
  states = follows plan is.in_phases;
  one_each = length-map-range_with_len (λ p. end_of plan (end_cut plan p)) 1 (phases plan);
  tell = λ p low high.
      subst (TellsEnd plan (end_cut plan p))
      (sym (get_or-map-range_with_len (λ q. end_of plan (end_cut plan q)) 1 (phases plan) (p - 1) p no_end (omega arith) (omega arith)))
      (tells_end plan is (end_cut plan p));
}

-- they are the only ones
pub ends_only : (plan : PlanData) (ends : List EndData) → IsPlan plan → AreAuctionEnds plan ends → ends ≡ all_ends plan
ends_only plan ends is are =
    let own = ends_tell plan is in
    ext_get_or no_end ends (all_ends plan) (are.one_each ∙ sym own.one_each)
    (λ k inside.
    let low : 1 ≤ k + 1 = omega arith in
    let high : k + 1 ≤ phases plan = omega (arith, are.one_each) in
    let here : k + 1 - 1 ≡ k = omega arith in
    subst (λ (i : ℕ). get_or ends i no_end ≡ get_or (all_ends plan) i no_end) here
    (end_only plan is (end_cut plan (k + 1)) (get_or ends (k + 1 - 1) no_end) (are.tell (k + 1) low high)
    ∙ sym (end_only plan is (end_cut plan (k + 1)) (get_or (all_ends plan) (k + 1 - 1) no_end) (own.tell (k + 1) low high))))

-- the ends of a plan make its report
pub report_is : (plan : PlanData) (text : List ℕ) → IsPlan plan → text ≡ report_text plan (all_ends plan) → IsReport plan text
report_is plan text is written = record { ends = all_ends plan; are_ends = ends_tell plan is; written = written }

-- a plan has one report
pub report_only : (plan : PlanData) (text : List ℕ) → IsPlan plan → IsReport plan text → text ≡ report_text plan (all_ends plan)
report_only plan text is reports = reports.written ∙ ap (report_text plan) (ends_only plan reports.ends is reports.are_ends)
