-- The bounds of the children: what each may bid.
use Rattle.std.specs.Prelude.{ℕ, ℤ, pos, neg_ℤ, List, replicate, slice_index_or, slice_set}
use Rattle.pm_base.specs.Limits.{most_nodes, demand_limit}
use Rattle.pm_base.specs.declared.limits.Limits.{Limits}
use Rattle.pm_bid.specs.Limited.{NeverBind}
use Rattle.pm_services.specs.Receipts.{sender_place}

-- what any bid may have
abbrev pub widest : Limits
widest = record { floor = neg_ℤ (pos demand_limit); ceiling = pos demand_limit }

abbrev pub no_bounds : List Limits
no_bounds = replicate most_nodes widest

abbrev pub bound_of : List Limits → ℕ → Limits
bound_of bounds sender = slice_index_or bounds (sender_place sender) widest

abbrev pub with_bound : List Limits → ℕ → Limits → List Limits
with_bound bounds sender bound = slice_set bounds (sender_place sender) bound

-- each step of a child's demand is within its bound
abbrev pub KeepsBound : List Limits → ℕ → List ℤ → Type 0
KeepsBound bounds sender demand = NeverBind (bound_of bounds sender) demand
