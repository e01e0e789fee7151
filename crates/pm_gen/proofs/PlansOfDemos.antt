-- The plan of a demo is one.
use Rattle.std.proofs.Common.{◌≡◌, ℕ, ◌≤◌, true, Ok, refl, arith}
use Rattle.std.proofs.lemmas.Bool.Decides.{nat_tests}
use Rattle.pm_basis.proofs.SoundBases.{checked_is_basis}
use Rattle.pm_tree.proofs.LawfulTrees.{checked_is_tree}
use Rattle.pm_plan.specs.Plans.{PlanData}
use Rattle.pm_plan.specs.Kept.{IsPlan}
use Rattle.pm_plan.proofs.PublicLaws.{plans}
use Rattle.pm_gen.specs.Demo.{is_size, demo_basis, seed_after_devices, demo_plan, demo_plan_from}
use Rattle.pm_gen.specs.Draws.{first_seed}
use Rattle.pm_gen.specs.Nodes.{demo_entries, demo_nodes}
use Rattle.pm_gen.specs.Rounds.{demo_phases}
use Rattle.pm_gen.proofs.Parts.{demo_nodes-of_entries}
use Rattle.pm_gen.proofs.Trees.{demo_entries-accepted}
use Rattle.pm_basis.specs.Prices.{IsBasis}
use Rattle.std.specs.Prelude.{pos}

size_within : (size : ℕ) → is_size size ≡ true → (1 ≤ size) × (size ≤ 200)
size_within size is = (grind (arith, nat_tests), grind (arith, nat_tests))

basis_is : IsBasis demo_basis
basis_is = checked_is_basis (pos 0) (pos 99) (pos 100) demo_basis refl

-- what a demo gives is a plan
pub demos_plan : (size number : ℕ) (plan : PlanData) → is_size size ≡ true → demo_plan size number ≡ Ok plan → IsPlan plan
unfolding demo_plan_from
demos_plan size number plan within is =
    let sizes = size_within size within in
    let accepted = demo_entries-accepted size sizes.0 sizes.1 in
    plans demo_basis (demo_entries size) (demo_nodes size (first_seed number)) (demo_phases size (seed_after_devices size (first_seed number))) plan
    basis_is accepted (checked_is_tree (demo_entries size) (demo_entries size) accepted).1 (demo_nodes-of_entries size (first_seed number)) is
