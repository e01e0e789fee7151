-- Cuts that have numbers of devices alone, and an auction that goes on from one to another.
use Rattle.std.proofs.Common.{◌≡◌, ◌∙◌, sym, ℕ, ◌<◌, true, false, List, length, arith, inl, inr}
use Rattle.std.proofs.Math.Path.{fun_ext}
use Rattle.std.proofs.lemmas.Bool.{cases_Bool, cases_lt, cond-true, cond-false}
use Rattle.pm_base.specs.Cuts.{Cut}
use Rattle.pm_plan.specs.Plans.{PlanData, is_leaf, end_cut}
use Rattle.pm_plan.specs.Kept.{IsPlan}
use Rattle.pm_plan.proofs.Leaves.{first_of, last_of}
use Rattle.pm_walk.specs.declared.changes.Progress.{Progress}
use Rattle.pm_walk.specs.Cuts.{device_cut}
use Rattle.pm_walk.specs.Standing.{HaveCome, cut_made}
use Rattle.pm_walk.proofs.Nodes.{end-other}
use Rattle.pm_walk.proofs.Standings.{made-other, made-beyond}

-- of a device a cut of devices has the number
pub device-here : (plan : PlanData) (cut : Cut) (x : ℕ) → is_leaf plan x ≡ true → device_cut plan cut x ≡ cut x
device-here plan cut x leaf = cond-true (is_leaf plan x) (cut x) 0 leaf

-- and of everything else 0
pub device-other : (plan : PlanData) (cut : Cut) (x : ℕ) → is_leaf plan x ≡ false → device_cut plan cut x ≡ 0
device-other plan cut x other = cond-false (is_leaf plan x) (cut x) 0 other

-- what is no device has made no change
pub made-none : (plan : PlanData) (progress : List Progress) (x : ℕ) → IsPlan plan → HaveCome plan progress → is_leaf plan x ≡ false →
    cut_made progress x ≡ 0
made-none plan progress x is all other = elim (cases_lt (length plan.nodes) x) [
  | inl far ↦ made-beyond plan progress x all far
  | inr near ↦ made-other plan progress x is all near other
]

-- what lies beyond the nodes is no device
pub beyond-other : (plan : PlanData) (x : ℕ) → IsPlan plan → length plan.nodes < x → is_leaf plan x ≡ false
beyond-other plan x is far = elim (cases_Bool (is_leaf plan x)) [
  | inl leaf ↦ absurd (omega (arith, last_of plan x is leaf))
  | inr other ↦ other
]

-- nor is the auctioneer
pub zero-other : (plan : PlanData) → IsPlan plan → is_leaf plan 0 ≡ false
zero-other plan is = elim (cases_Bool (is_leaf plan 0)) [
  | inl leaf ↦ absurd (omega (arith, first_of plan 0 is leaf))
  | inr other ↦ other
]

-- where the devices have come to a phase's end, so has everything
pub made_at_end : (plan : PlanData) (progress : List Progress) (p : ℕ) → IsPlan plan → HaveCome plan progress →
    ((d : ℕ) → is_leaf plan d ≡ true → cut_made progress d ≡ end_cut plan p d) → cut_made progress ≡ end_cut plan p
made_at_end plan progress p is all ended = fun_ext (λ x. elim (cases_Bool (is_leaf plan x)) [
  | inl leaf ↦ ended x leaf
  | inr other ↦ made-none plan progress x is all other ∙ sym (end-other plan p x is other)
])
