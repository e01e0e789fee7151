-- A link is cut into two ends and joined at the close, and the rule is kept.
use Rattle.std.proofs.Common.{◌≡◌, ℕ, suc, zero, List, [], ◌∷◌, ◌++◌, None, refl, sym, ap, subst, inl, inr, ⊎_elim}
use mathlib.Core.Option as opt
use mathlib.Core.Option.{some-injective, some-ne-none}
use lib.ListN.{get_elem?}
use Rattle.std.specs.Prelude.{slice_set}
use Rattle.atomic_table.specs.Table.{Splits, Joins, Seen}
use Rattle.pm_cells.specs.Numbers.{AreRising, AllAmong}
use Rattle.pm_cells.specs.Cells.{CellSlot, LinkTable, AreCells, IsBidWith, IsPriceOf, TookWhatWasPut, IsUncut, KeepsCells, whole_view}
use Rattle.pm_cells.specs.Steps.{child_view, parent_view, joined_view, spent_view}
use Rattle.pm_cells.specs.declared.view.EndView.{EndView}
use Rattle.pm_cells.specs.declared.view.Role.TheVariants.{Whole, Child, Parent, Joined, Spent}
use Rattle.pm_cells.proofs.OneCell.{empty_cell}
use Rattle.pm_cells.proofs.Seats.{HasView, keeps_cut, two_views, other_role, whole_is_not, joined_is_not, as_child}

-- the table and the seat before the cut
as_whole : (s : LinkTable) (id : ℕ) (v : EndView) → KeepsCells s → HasView s id v → v.role ≡ Whole → (id ≡ 0) × IsUncut s
as_whole s id v (inl e) at is = (first id (subst (λ t. HasView t id v) e at), e)
  where
    first : (k : ℕ) → get_elem? (whole_view ∷ []) k ≡ opt.some v → k ≡ 0
    first zero h = refl
    first (suc k) h = absurd (some-ne-none v (sym h))
as_whole s id v (inr (inl (w₀, w₁, h₀, h₁, c, p, e, r))) at is = absurd (⊎_elim
    (λ (t : (id ≡ 0) × (c ≡ v)). let bad : Child ≡ Whole = other_role c v Child Whole t.1 r.is_child is in cc)
    (λ (t : (id ≡ 1) × (p ≡ v)). let bad : Parent ≡ Whole = other_role p v Parent Whole t.1 r.is_parent is in cc)
    (two_views c p v id (subst (λ t. HasView t id v) e at)))
as_whole s id v (inr (inr j)) at is = absurd (⊎_elim (λ (t : Joined ≡ Whole). cc) (λ (t : Spent ≡ Whole). cc) (joined_is_not s id v Whole j at is))

-- the whole link may be cut
pub may_cut : (id : ℕ) (v : EndView) → v.role ≡ Whole → Splits KeepsCells id v child_view parent_view
may_cut id v is s k at =
    let t = as_whole s id v k at is in
    let Cut = λ (x : LinkTable × ℕ). KeepsCells record {
      words = x.0.words;
      homes = x.0.homes;
      views = slice_set x.0.views x.1 child_view ++ parent_view ∷ [];
    } in
    subst Cut (λ j. (sym t.1 j, sym t.0 j)) (keeps_cut 0 0 (opt.some None) (opt.some None) child_view parent_view record {
      is_child = refl;
      is_parent = refl;
      up = empty_cell IsBidWith;
      down = empty_cell (IsPriceOf []);
    })

joins_at : (w₀ w₁ : ℕ) (h₀ h₁ : opt.Option CellSlot) (c p w : EndView) (other : ℕ) → AreCells w₀ w₁ h₀ h₁ c p → ¬ (other ≡ 0)
    → get_elem? (joined_view c w ∷ p ∷ []) other ≡ opt.some w
    → KeepsCells record { words = w₀ ∷ w₁ ∷ []; homes = h₀ ∷ h₁ ∷ []; views = slice_set (joined_view c w ∷ p ∷ []) other spent_view }
joins_at w₀ w₁ h₀ h₁ c p w zero r apart there = absurd (apart refl)
joins_at w₀ w₁ h₀ h₁ c p w (suc zero) r apart there = let e = some-injective p w there in
    inr (inr (
      joined_view c w,
      spent_view,
      refl,
      refl,
      refl,
      subst (λ (x : EndView). TookWhatWasPut (joined_view c x).up) e (r.up.takes_rise, r.up.takes_were_put, r.up.received_were_put),
      subst (λ (x : EndView). TookWhatWasPut (joined_view c x).down) e (r.down.takes_rise, r.down.takes_were_put, r.down.received_were_put),
    ))
joins_at w₀ w₁ h₀ h₁ c p w (suc (suc k)) r apart there = absurd (some-ne-none w (sym there))

-- the child's end may be joined to the parent's
pub may_join : (id other : ℕ) (v w : EndView) → v.role ≡ Child → Joins KeepsCells id v other w (joined_view v w) spent_view
may_join id other v w is s k at apart there =
    let (w₀, w₁, h₀, h₁, p, n, e, r) = as_child s id v k at is in
    let Join = λ (x : LinkTable × ℕ). ¬ (other ≡ x.1) → get_elem? (slice_set x.0.views x.1 (joined_view v w)) other ≡ opt.some w
    → KeepsCells record {
      words = x.0.words;
      homes = x.0.homes;
      views = slice_set (slice_set x.0.views x.1 (joined_view v w)) other spent_view;
    } in
    subst Join (λ j. (sym e j, sym n j)) (joins_at w₀ w₁ h₀ h₁ v p w other r) apart there

-- what the view of both ends says at the close
agrees : (s : LinkTable) (id : ℕ) (v : EndView) → Seen KeepsCells id v s → v.role ≡ Joined → TookWhatWasPut v.up × TookWhatWasPut v.down
agrees s id v (inl e, at) is = absurd (let bad = whole_is_not s id v Joined e at is in cc)
agrees s id v (inr (inl (w₀, w₁, h₀, h₁, c, p, e, r)), at) is = absurd (⊎_elim
    (λ (t : (id ≡ 0) × (c ≡ v)). let bad : Child ≡ Joined = other_role c v Child Joined t.1 r.is_child is in cc)
    (λ (t : (id ≡ 1) × (p ≡ v)). let bad : Parent ≡ Joined = other_role p v Parent Joined t.1 r.is_parent is in cc)
    (two_views c p v id (subst (λ t. HasView t id v) e at)))
agrees s id v (inr (inr (both, other, e, jb, sp, up, down)), at) is = ⊎_elim
    (λ (t : (id ≡ 0) × (both ≡ v)). subst (λ (x : EndView). TookWhatWasPut x.up × TookWhatWasPut x.down) t.1 (up, down))
    (λ (t : (id ≡ 1) × (other ≡ v)). absurd (let bad : Spent ≡ Joined = other_role other v Spent Joined t.1 sp is in cc))
    (two_views both other v id (subst (λ (vs : List EndView). get_elem? vs id ≡ opt.some v) e at))

-- what the two ends put and took agrees at the close
pub ends_agree : (s : LinkTable) (id : ℕ) (v c p : EndView) → Seen KeepsCells id v s → v ≡ joined_view c p
    → (AreRising p.up.takes × AllAmong p.up.takes c.up.puts × AllAmong p.up.received c.up.sent) ×
    (AreRising c.down.takes × AllAmong c.down.takes p.down.puts × AllAmong c.down.received p.down.sent)
ends_agree s id v c p seen is =
    subst (λ (x : EndView). TookWhatWasPut x.up × TookWhatWasPut x.down) is (agrees s id v seen (ap (λ (x : EndView). x.role) is))
