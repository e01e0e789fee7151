-- The changes between the ends of two phases are of the later one.
use Rattle.std.proofs.Common.{◌≡◌, ℕ, ◌+◌, ◌<◌, ◌≤◌, arith}
use Rattle.std.proofs.lemmas.Bool.{leb-false}
use Rattle.std.proofs.lemmas.List.Sums.{prefix_len_stops}
use Rattle.pm_plan.specs.Plans.{PlanData, node, changes_of, is_up_to, change_count, end_cut}
use Rattle.pm_plan.specs.Kept.{IsPlan, no_change, change_at}
use Rattle.pm_plan.proofs.Ends.{end-within}
use Rattle.pm_plan.proofs.StateLaws.{phase_up_to}

-- the first change after the end of phase p is of a later phase
first_after : (plan : PlanData) (p d : ℕ) → end_cut plan p d < change_count plan d → p < (change_at plan d (end_cut plan p d)).phase
unfolding end_cut
first_after plan p d some = leb-false _ p (prefix_len_stops (is_up_to p) (changes_of (node plan d)) no_change some)

-- a device's changes from its number at the end of phase p up to that at the end of p + 1 are of phase p + 1
pub phase_between : (plan : PlanData) (p d n : ℕ) → IsPlan plan → end_cut plan p d ≤ n → n < end_cut plan (p + 1) d →
    (change_at plan d n).phase ≡ p + 1
phase_between plan p d n is from to =
    let inside : n < change_count plan d = omega (arith, end-within plan (p + 1) d) in
    let upper = phase_up_to plan d (p + 1) n to in
    let lower = first_after plan p d (omega arith) in
    let rise = is.in_phases.rise d (end_cut plan p d) n from inside in
    omega arith
