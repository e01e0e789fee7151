-- The four kinds of step on the cell of the prices keep the rule.
use Rattle.std.proofs.Common.{◌≡◌, ℕ, ◌*◌, ◌/◌, ◌%◌, ◌<◌, ◌≤◌, List, [], ◌∷◌, Some, None, bit_or, refl, sym, ap, ◌∙◌}
use Rattle.std.proofs.Common.{subst, arith}
use mathlib.Core.Logic.{dite}
use mathlib.Core.Option as opt
use native.Mathlib.Decide.{dec_le}
use Rattle.atomic_table.specs.Table.{step, keeps, takes, gives, put_back}
use Rattle.pm_cells.specs.Numbers.{newest_number}
use Rattle.pm_cells.specs.Cells.{CellSlot, IsCell, IsPriceOf, KeepsCells}
use Rattle.pm_cells.specs.Steps.{Seated, with_claim_to_take, with_claim_to_put, after_loss}
use Rattle.pm_cells.specs.Steps.{after_put, after_take, after_empty_take, with_down, claims_to_put_price}
use Rattle.pm_cells.specs.Steps.{ReleasesPut, releases_put_price, claims_to_take_price, releases_taken_price}
use Rattle.pm_cells.specs.declared.view.EndView.{EndView}
use Rattle.pm_cells.specs.declared.view.CellView.{CellView}
use Rattle.pm_cells.specs.declared.view.Role.TheVariants.{Child, Parent}
use Rattle.pm_cells.specs.declared.message.Message.{Message}
use Rattle.pm_cells.proofs.Words.{either_bit}
use Rattle.pm_cells.proofs.OneCell.{number_is, taken_at_most, claimed_to_put, claimed_to_take, lost_to_put, lost_to_take, found_in_slot, released_put}
use Rattle.pm_cells.proofs.OneCell.{released_taken, released_none}
use Rattle.pm_cells.proofs.Seats.{MayClaim, MayStore, child_may, parent_may, put_is_told, child_steps_down, parent_steps_down}

-- the parent's end may claim the slot of the prices
pub may_claim_to_put_price : (slots id : ℕ) (m : Seated) → m.0.role ≡ Parent → MayClaim slots id m 1 claims_to_put_price
may_claim_to_put_price slots id m is = parent_may slots id m 1 (λ n. bit_or n 1) (claims_to_put_price (step slots 1 1 0 opt.none) m) is
    (λ w₀ w₁ h₀ h₁ c r. let F = IsPriceOf c.up.puts in either_bit w₁
    (λ even. let x = found_in_slot F w₁ h₁ m.0.down c.down r.down even in let a = with_claim_to_put m.0.down in (
      with_down m.0 a,
      takes 1 x.0,
      ap opt.some x.1,
      parent_steps_down w₀ w₁ h₀ h₁ c m.0 r (bit_or w₁ 1) opt.none a (claimed_to_put F w₁ h₁ m.0.down c.down r.down even),
      ((λ _. (x.0, refl, tt)), λ odd. absurd (omega arith)),
    ))
    (λ odd. let a = after_loss m.0.down in (
      with_down m.0 a,
      keeps,
      tt,
      parent_steps_down w₀ w₁ h₀ h₁ c m.0 r (bit_or w₁ 1) h₁ a (lost_to_put F w₁ h₁ m.0.down c.down r.down odd),
      ((λ even. absurd (omega arith)), λ _. refl),
    )))

-- the child's end may claim the slot of the prices
pub may_claim_to_take_price : (slots id : ℕ) (m : Seated) → m.0.role ≡ Child → MayClaim slots id m 1 claims_to_take_price
may_claim_to_take_price slots id m is = child_may slots id m 1 (λ n. bit_or n 1) (claims_to_take_price (step slots 1 1 0 opt.none) m) is
    (λ w₀ w₁ h₀ h₁ p r. let F = IsPriceOf m.0.up.puts in either_bit w₁
    (λ even.
    let x = found_in_slot F w₁ h₁ p.down m.0.down r.down even in
    let a = with_claim_to_take m.0.down (w₁ / 2) x.0 in
    let number = number_is F w₁ h₁ p.down m.0.down r.down even in
    let at_most = subst (λ n. newest_number m.0.down.takes ≤ n) number (taken_at_most F w₁ h₁ p.down m.0.down r.down) in (
      with_down m.0 a,
      takes 1 x.0,
      ap opt.some x.1,
      child_steps_down w₀ w₁ h₀ h₁ m.0 p r (bit_or w₁ 1) opt.none a (claimed_to_take F w₁ h₁ p.down m.0.down r.down x.0 x.3 even),
      ((λ _. (x.0, refl, (x.2, r.down.takes_rise, at_most))), λ odd. absurd (omega arith)),
    ))
    (λ odd. let a = after_loss m.0.down in (
      with_down m.0 a,
      keeps,
      tt,
      child_steps_down w₀ w₁ h₀ h₁ m.0 p r (bit_or w₁ 1) h₁ a (lost_to_take F w₁ h₁ p.down m.0.down r.down odd),
      ((λ even. absurd (omega arith)), λ _. refl),
    )))

-- what the parent took the child had put, so the price names a bid that was put
may_release_put_price : (slots id : ℕ) (m : Seated) (n : ℕ) (x : Message) → m.0.role ≡ Parent → m.0.down.holds ≡ 1 → m.1 ≡ (1, Some x) ∷ []
    → newest_number m.0.down.puts < n → IsPriceOf m.0.up.takes n x → MayStore slots id m 1 (n * 2) releases_put_price
may_release_put_price slots id m n x is holds carries above (price, same, index, among) =
    parent_may slots id m 1 (λ _. n * 2) (λ _. releases_put_price (step slots 1 (n * 2) 0 opt.none) m (n * 2)) is
    (λ w₀ w₁ h₀ h₁ c r.
    let a = after_put m.0.down n x in
    let v = with_down m.0 a in
    let half : n ≡ n * 2 / 2 = omega arith in
    let fits : IsPriceOf c.up.puts n x = (price, same, index, r.up.takes_were_put price.number among) in
    let cell = released_put (IsPriceOf c.up.puts) w₁ h₁ m.0.down c.down r.down n x holds above fits in
    let After = λ (l : List (ℕ × CellSlot)). KeepsCells record {
      words = w₀ ∷ n * 2 ∷ [];
      homes = put_back (h₀ ∷ h₁ ∷ []) l;
      views = c ∷ v ∷ [];
    } in (
      v,
      gives,
      tt,
      subst After (sym carries) (parent_steps_down w₀ w₁ h₀ h₁ c m.0 r (n * 2) (opt.some (Some x)) a cell),
      λ y there. put_is_told 1 n (n * 2 / 2) x y m.1 (λ k z. with_down m.0 (after_put m.0.down k z)) half carries there,
    ))

-- the parent's end that claimed the slot and put a price there may give it back
pub may_end_put_price : (slots id : ℕ) (m : Seated) (v : EndView) (n : ℕ) (x : Message) →
    m ≡ (with_down v (with_claim_to_put v.down), (1, Some x) ∷ [])
    → v.role ≡ Parent → newest_number v.down.puts < n → IsPriceOf v.up.takes n x → MayStore slots id m 1 (n * 2) releases_put_price
may_end_put_price slots id m v n x e is above fits =
    let role = ap (λ (u : Seated). u.0.role) e ∙ is in
    let holds = ap (λ (u : Seated). u.0.down.holds) e in
    let carries = ap (λ (u : Seated). u.1) e in
    let above = subst (λ (u : Seated). newest_number u.0.down.puts < n) (sym e) above in
    may_release_put_price slots id m n x role holds carries above (subst (λ (u : Seated). IsPriceOf u.0.up.takes n x) (sym e) fits)

-- and after that it has put this price
pub price_was_put : (m m' : Seated) (v : EndView) (n : ℕ) (x : Message) → m ≡ (with_down v (with_claim_to_put v.down), (1, Some x) ∷ [])
    → ReleasesPut 1 (λ y. with_down m.0 (after_put m.0.down (n * 2 / 2) y)) m m' → m' ≡ (with_down v (after_put v.down n x), [])
price_was_put m m' v n x e told =
    let half : n * 2 / 2 ≡ n = omega arith in
    let same : ◌≡◌ {A = Seated} (with_down m.0 (after_put m.0.down (n * 2 / 2) x), []) (with_down v (after_put v.down n x), []) =
    λ i. (with_down (e i).0 (after_put (e i).0.down (half i) x), []) in
    told x (ap (λ (u : Seated). u.1) e) ∙ same

may_release_taken_price : (slots id : ℕ) (m : Seated) (k : ℕ) → m.0.role ≡ Child → m.0.down.holds ≡ 1 → m.1 ≡ (1, None) ∷ []
    → k ≡ 2 * m.0.down.found → MayStore slots id m 1 k releases_taken_price
may_release_taken_price slots id m k is holds carries found =
    child_may slots id m 1 (λ _. k) (λ _. releases_taken_price (step slots 1 k 0 opt.none) m k) is
    (λ w₀ w₁ h₀ h₁ p r.
    let F = IsPriceOf m.0.up.puts in
    let After = λ (a : CellView) (l : List (ℕ × CellSlot)). KeepsCells record {
      words = w₀ ∷ k ∷ [];
      homes = put_back (h₀ ∷ h₁ ∷ []) l;
      views = with_down m.0 a ∷ p ∷ [];
    } in
    let after : (a : CellView) → IsCell F k (opt.some None) p.down a → After a m.1 =
    λ a cell. subst (After a) (sym carries) (child_steps_down w₀ w₁ h₀ h₁ m.0 p r k (opt.some None) a cell) in
    dite (dec_le m.0.down.found (newest_number m.0.down.takes))
    (λ old. let a = after_empty_take m.0.down in (
      with_down m.0 a,
      gives,
      tt,
      after a (released_none F w₁ h₁ p.down m.0.down r.down k holds found old),
      ((λ new. absurd (omega arith)), λ _. refl),
    ))
    (λ new. let a = after_take m.0.down in (
      with_down m.0 a,
      gives,
      tt,
      after a (released_taken F w₁ h₁ p.down m.0.down r.down k holds found (omega arith)),
      ((λ _. refl), λ old. absurd (new old)),
    )))

-- the child's end that claimed the slot of the prices and emptied it may give it back
pub may_end_take_price : (slots id : ℕ) (m : Seated) (v : EndView) (k : ℕ) (x : CellSlot)
    → m ≡ (with_down v (with_claim_to_take v.down (k / 2) x), (1, None) ∷ []) → v.role ≡ Child → k % 2 ≡ 0
    → MayStore slots id m 1 k releases_taken_price
may_end_take_price slots id m v k x e is even =
    let role = ap (λ (u : Seated). u.0.role) e ∙ is in
    let holds = ap (λ (u : Seated). u.0.down.holds) e in
    let carries = ap (λ (u : Seated). u.1) e in
    let found : m.0.down.found ≡ k / 2 = ap (λ (u : Seated). u.0.down.found) e in
    may_release_taken_price slots id m k role holds carries (omega arith)
