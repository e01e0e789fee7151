-- While an end has its seat the link is cut, and the role in its view tells which end it is.
use Rattle.std.proofs.Common.{◌≡◌, ℕ, zero, suc, ◌⊎◌, List, [], ◌∷◌, Some, None, bit_or, refl, sym, ap, ◌∙◌, subst}
use Rattle.std.proofs.Common.{inl, inr, ⊎_elim}
use mathlib.Core.Option as opt
use mathlib.Core.Option.{some-injective, some-ne-none}
use lib.ListN.{get_elem?}
use Rattle.std.specs.Prelude.{slice_index}
use Rattle.atomic_table.specs.Table.{Act, Valid, step, stepped, carried_after, rest, Allows}
use Rattle.pm_cells.specs.Cells.{CellSlot, LinkTable, IsCell, AreCells, IsBidWith, IsPriceOf, two_cells, whole_view, IsUncut, IsJoined, KeepsCells}
use Rattle.pm_cells.specs.Steps.{Seated, StepKind, with_up, with_down}
use Rattle.pm_cells.specs.declared.view.EndView.{EndView}
use Rattle.pm_cells.specs.declared.view.CellView.{CellView}
use Rattle.pm_cells.specs.declared.message.Message.{Message}
use Rattle.pm_cells.specs.declared.view.Role.{Role}
use Rattle.pm_cells.specs.declared.view.Role.TheVariants.{Whole, Child, Parent, Joined, Spent}

-- one view has one role
pub other_role : (a b : EndView) (x y : Role) → a ≡ b → a.role ≡ x → b.role ≡ y → x ≡ y
other_role a b x y e p q = sym p ∙ ap (λ (v : EndView). v.role) e ∙ q

one_view : (a v : EndView) (id : ℕ) → get_elem? (a ∷ []) id ≡ opt.some v → a ≡ v
one_view a v zero e = some-injective a v e
one_view a v (suc id) e = absurd (some-ne-none v (sym e))

-- the view of a seat is one of two
pub two_views : (a b v : EndView) (id : ℕ) → get_elem? (a ∷ b ∷ []) id ≡ opt.some v → ((id ≡ 0) × (a ≡ v)) ⊎ ((id ≡ 1) × (b ≡ v))
two_views a b v zero e = inl (refl, some-injective a v e)
two_views a b v (suc zero) e = inr (refl, some-injective b v e)
two_views a b v (suc (suc id)) e = absurd (some-ne-none v (sym e))

-- the view of the seat with this number
abbrev pub HasView : LinkTable → ℕ → EndView → Type 0
HasView s id v = get_elem? s.views id ≡ opt.some v

-- the roles that a seat has before the cut, and after the joining
pub whole_is_not : (s : LinkTable) (id : ℕ) (v : EndView) (x : Role) → IsUncut s → HasView s id v → v.role ≡ x → Whole ≡ x
whole_is_not s id v x e at is = other_role whole_view v Whole x (one_view whole_view v id (subst (λ t. HasView t id v) e at)) refl is

-- once the ends were joined, the role in a seat's view is Joined or Spent
pub joined_is_not : (s : LinkTable) (id : ℕ) (v : EndView) (x : Role) → IsJoined s → HasView s id v → v.role ≡ x → (Joined ≡ x) ⊎ (Spent ≡ x)
joined_is_not s id v x (both, other, e, jb, sp, _, _) at is = ⊎_elim
    (λ (t : (id ≡ 0) × (both ≡ v)). inl (other_role both v Joined x t.1 jb is))
    (λ (t : (id ≡ 1) × (other ≡ v)). inr (other_role other v Spent x t.1 sp is))
    (two_views both other v id (subst (λ (vs : List EndView). get_elem? vs id ≡ opt.some v) e at))

-- the seat is the child's, and the link is cut
abbrev pub AsChild : LinkTable → ℕ → EndView → Type 0
AsChild s id v = (w₀ w₁ : ℕ) × (h₀ h₁ : opt.Option CellSlot) × (p : EndView) × (id ≡ 0) × (s ≡ two_cells w₀ w₁ h₀ h₁ v p) ×
    AreCells w₀ w₁ h₀ h₁ v p

-- the seat is the parent's, and the link is cut
abbrev pub AsParent : LinkTable → ℕ → EndView → Type 0
AsParent s id v = (w₀ w₁ : ℕ) × (h₀ h₁ : opt.Option CellSlot) × (c : EndView) × (id ≡ 1) × (s ≡ two_cells w₀ w₁ h₀ h₁ c v) ×
    AreCells w₀ w₁ h₀ h₁ c v

-- a seat with the child's role is the child's
pub as_child : (s : LinkTable) (id : ℕ) (v : EndView) → KeepsCells s → HasView s id v → v.role ≡ Child → AsChild s id v
as_child s id v (inl e) at is = absurd (let bad = whole_is_not s id v Child e at is in cc)
as_child s id v (inr (inr j)) at is = absurd (⊎_elim (λ (t : Joined ≡ Child). cc) (λ (t : Spent ≡ Child). cc) (joined_is_not s id v Child j at is))
as_child s id v (inr (inl (w₀, w₁, h₀, h₁, c, p, e, r))) at is = ⊎_elim
    (λ (t : (id ≡ 0) × (c ≡ v)). (
      w₀,
      w₁,
      h₀,
      h₁,
      p,
      t.0,
      e ∙ ap (λ (x : EndView). two_cells w₀ w₁ h₀ h₁ x p) t.1,
      subst (λ (x : EndView). AreCells w₀ w₁ h₀ h₁ x p) t.1 r,
    ))
    (λ (t : (id ≡ 1) × (p ≡ v)). absurd (let bad : Parent ≡ Child = other_role p v Parent Child t.1 r.is_parent is in cc))
    (two_views c p v id (subst (λ t. HasView t id v) e at))

-- a seat with the parent's role is the parent's
pub as_parent : (s : LinkTable) (id : ℕ) (v : EndView) → KeepsCells s → HasView s id v → v.role ≡ Parent → AsParent s id v
as_parent s id v (inl e) at is = absurd (let bad = whole_is_not s id v Parent e at is in cc)
as_parent s id v (inr (inr j)) at is = absurd (⊎_elim (λ (t : Joined ≡ Parent). cc) (λ (t : Spent ≡ Parent). cc) (joined_is_not s id v Parent j at is))
as_parent s id v (inr (inl (w₀, w₁, h₀, h₁, c, p, e, r))) at is = ⊎_elim
    (λ (t : (id ≡ 0) × (c ≡ v)). absurd (let bad : Child ≡ Parent = other_role c v Child Parent t.1 r.is_child is in cc))
    (λ (t : (id ≡ 1) × (p ≡ v)). (
      w₀,
      w₁,
      h₀,
      h₁,
      c,
      t.0,
      e ∙ ap (λ (x : EndView). two_cells w₀ w₁ h₀ h₁ c x) t.1,
      subst (λ (x : EndView). AreCells w₀ w₁ h₀ h₁ c x) t.1 r,
    ))
    (two_views c p v id (subst (λ t. HasView t id v) e at))

-- a step of the seat `id` on word `i`, which finds `f` of the word, can be made and tells `then`
abbrev pub Goes : LinkTable → ℕ → Seated → ℕ → (ℕ → ℕ) → (ℕ → Seated → Type 0) → Type 0
Goes s id m i f then = (v : EndView) × (a : Act CellSlot) × Valid s.homes m.1 a ×
    KeepsCells (stepped s i (f (slice_index s.words i)) id m.1 v a) × then (slice_index s.words i) (v, carried_after m.1 a)

-- the child's end may make a step that goes from every table of a cut link
pub child_may : (slots id : ℕ) (m : Seated) (i : ℕ) (f : ℕ → ℕ) (then : ℕ → Seated → Type 0) → m.0.role ≡ Child
    → ((w₀ w₁ : ℕ) (h₀ h₁ : opt.Option CellSlot) (p : EndView) → AreCells w₀ w₁ h₀ h₁ m.0 p →
    Goes (two_cells w₀ w₁ h₀ h₁ m.0 p) 0 m i f then)
    → Allows KeepsCells slots id m i f then
child_may slots id m i f then is go s k _ at _ =
    let (w₀, w₁, h₀, h₁, p, n, e, r) = as_child s id m.0 k at is in
    subst (λ (x : LinkTable × ℕ). Goes x.0 x.1 m i f then) (λ j. (sym e j, sym n j)) (go w₀ w₁ h₀ h₁ p r)

-- and so may the parent's
pub parent_may : (slots id : ℕ) (m : Seated) (i : ℕ) (f : ℕ → ℕ) (then : ℕ → Seated → Type 0) → m.0.role ≡ Parent
    → ((w₀ w₁ : ℕ) (h₀ h₁ : opt.Option CellSlot) (c : EndView) → AreCells w₀ w₁ h₀ h₁ c m.0 →
    Goes (two_cells w₀ w₁ h₀ h₁ c m.0) 1 m i f then)
    → Allows KeepsCells slots id m i f then
parent_may slots id m i f then is go s k _ at _ =
    let (w₀, w₁, h₀, h₁, c, n, e, r) = as_parent s id m.0 k at is in
    subst (λ (x : LinkTable × ℕ). Goes x.0 x.1 m i f then) (λ j. (sym e j, sym n j)) (go w₀ w₁ h₀ h₁ c r)

-- an end that claimed a slot and had none has it with what it put there in exchange
pub exchanged : (m n : Seated) (v : EndView) (k : ℕ) (x y : CellSlot) (l : List (ℕ × CellSlot)) → m ≡ (v, (k, x) ∷ l) → l ≡ []
    → n ≡ (m.0, (k, y) ∷ rest m.1) → n ≡ (v, (k, y) ∷ [])
exchanged m n v k x y l got none e = e ∙ ap (λ (u : Seated). (u.0, (k, y) ∷ rest u.1)) got ∙ ap (λ t. (v, (k, y) ∷ t)) none

-- what is in the first slot that an end has
abbrev pub held_first : List (ℕ × CellSlot) → CellSlot
held_first [] = None
held_first (y ∷ ys) = y.1

-- an end that has one slot, and in it a message, put that message
pub put_is_told : (k n n' : ℕ) (x y : Message) (l : List (ℕ × CellSlot)) (put : ℕ → Message → EndView) → n ≡ n' → l ≡ (k, Some x) ∷ []
    → l ≡ (k, Some y) ∷ [] → ◌≡◌ {A = Seated} (put n x, rest l) (put n' y, [])
put_is_told k n n' x y l put e a b =
    let held = sym (ap held_first a) ∙ ap held_first b in
    let same : x ≡ y = cc in
    λ i. (put (e i) (same i), rest (a i))

-- the table of a cut link keeps the rule
pub keeps_cut : (w₀ w₁ : ℕ) (h₀ h₁ : opt.Option CellSlot) (c p : EndView) → AreCells w₀ w₁ h₀ h₁ c p →
    KeepsCells (two_cells w₀ w₁ h₀ h₁ c p)
keeps_cut w₀ w₁ h₀ h₁ c p r = inr (inl (w₀, w₁, h₀, h₁, c, p, refl, r))

module _ (w₀ w₁ : ℕ) (h₀ h₁ : opt.Option CellSlot) (c p : EndView) (r : AreCells w₀ w₁ h₀ h₁ c p) (w : ℕ) (h : opt.Option CellSlot)
    (a : CellView) where
  -- the cell of the bids changes, and what the child knows of it, but not what it put
  pub child_steps_up : a.puts ≡ c.up.puts → IsCell IsBidWith w h a p.up → KeepsCells (two_cells w w₁ h h₁ (with_up c a) p)
  child_steps_up same up = keeps_cut w w₁ h h₁ (with_up c a) p record {
    is_child = r.is_child;
    is_parent = r.is_parent;
    up = up;
    down = subst (λ bids. IsCell (IsPriceOf bids) w₁ h₁ p.down c.down) (sym same) r.down;
  }

  -- the cell of the bids changes, and what the parent knows of it
  pub parent_steps_up : IsCell IsBidWith w h c.up a → KeepsCells (two_cells w w₁ h h₁ c (with_up p a))
  parent_steps_up up = keeps_cut w w₁ h h₁ c (with_up p a) record {
    is_child = r.is_child;
    is_parent = r.is_parent;
    up = up;
    down = r.down;
  }

  -- the cell of the prices changes, and what the parent knows of it
  pub parent_steps_down : IsCell (IsPriceOf c.up.puts) w h a c.down → KeepsCells (two_cells w₀ w h₀ h c (with_down p a))
  parent_steps_down down = keeps_cut w₀ w h₀ h c (with_down p a) record {
    is_child = r.is_child;
    is_parent = r.is_parent;
    up = r.up;
    down = down;
  }

  -- the cell of the prices changes, and what the child knows of it
  pub child_steps_down : IsCell (IsPriceOf c.up.puts) w h p.down a → KeepsCells (two_cells w₀ w h₀ h (with_down c a) p)
  child_steps_down down = keeps_cut w₀ w h₀ h (with_down c a) p record {
    is_child = r.is_child;
    is_parent = r.is_parent;
    up = r.up;
    down = down;
  }

-- a claim on word `k` of a kind of step is allowed
abbrev pub MayClaim : ℕ → ℕ → Seated → ℕ → StepKind → Type 0
MayClaim slots id m k kind = Allows KeepsCells slots id m k (λ n. bit_or n 1) (kind (step slots k 1 0 opt.none) m)

-- a store of a word on word `k` of a kind of step is allowed
abbrev pub MayStore : ℕ → ℕ → Seated → ℕ → ℕ → StepKind → Type 0
MayStore slots id m k word kind = Allows KeepsCells slots id m k (λ _. word) (λ _. kind (step slots k word 0 opt.none) m word)
