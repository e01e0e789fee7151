-- Over a row that tests, an older process stores nothing.
use Rattle.std.proofs.Common.{◌≡◌, ◌⊎◌, inl, inr, ⊎_elim, ℕ, ◌+◌, ◌<◌, ◌≤◌, Bool, true, refl, sym, ◌∙◌, ap, arith}
use Rattle.pm_takeover.specs.Takeovers.{
  SharedRow,
  Machine,
  SharedNode,
  TakeoverEvent,
  Reads,
  Starts,
  Stores,
  Hands,
  row_with_start,
  row_with_bid,
  Changes,
  Puts,
  PutsStart,
  HandsOut,
  TakeoverHappens,
  TakeoversAreFenced,
}

finds : (old new : SharedNode) (m : ℕ) → TakeoverHappens true old (Starts m) new →
    (new ≡ old) ⊎ (((new.machine m).own ≡ row_with_start old.row) × (new.row ≡ row_with_start old.row))
finds old new m (inl same) = inl same
finds old new m (inr puts) =
    let is : old.row ≡ (old.machine m).saw = puts.unchanged in
    inr (ap (λ (x : Machine). x.own) puts.changes.it ∙ ap row_with_start (sym is), puts.changes.row_is ∙ ap row_with_start (sym is))

refused : (old new : SharedNode) (m bid : ℕ) → (old.machine m).own.start < old.row.start → TakeoverHappens true old (Stores m bid) new → new ≡ old
refused old new m bid behind (inl same) = same
refused old new m bid behind (inr puts) = (let newest : old.row.start ≡ (old.machine m).own.start = puts.newest in absurd (omega (
  arith,
  behind,
  newest,
)))

start_same : (old new : SharedNode) → new.row ≡ old.row → old.row.start ≤ new.row.start
start_same old new e = (let f : new.row.start ≡ old.row.start = ap (λ (r : SharedRow). r.start) e in omega (arith, f))

node_same : (old new : SharedNode) → new ≡ old → old.row.start ≤ new.row.start
node_same old new e = start_same old new (ap (λ (n : SharedNode). n.row) e)

counts : (old new : SharedNode) (event : TakeoverEvent) → TakeoverHappens true old event new → old.row.start ≤ new.row.start
counts old new (Reads m) did = start_same old new did.row_is
counts old new (Starts m) (inl same) = node_same old new same
counts old new (Starts m) (inr puts) =
    (let is : old.row.start ≡ (old.machine m).saw.start = ap (λ (r : SharedRow). r.start) puts.unchanged in
    let new_is : new.row.start ≡ (old.machine m).saw.start + 1 = ap (λ (r : SharedRow). r.start) puts.changes.row_is in omega (arith, is, new_is))
counts old new (Stores m bid) (inl same) = node_same old new same
counts old new (Stores m bid) (inr puts) =
    (let newest : old.row.start ≡ (old.machine m).own.start = puts.newest in
    let new_is : new.row.start ≡ (old.machine m).own.start = ap (λ (r : SharedRow). r.start) puts.changes.row_is in omega (arith, newest, new_is))
counts old new (Hands m) did = start_same old new did.changes.row_is

-- the three parts of the law of a fence
pub fenced : TakeoversAreFenced
fenced = record { finds = finds; refused = refused; counts = counts }
