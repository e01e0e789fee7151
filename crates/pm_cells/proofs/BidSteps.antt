-- The four kinds of step on the cell of the bids keep the rule.
use Rattle.std.proofs.Common.{◌≡◌, ℕ, ◌*◌, ◌/◌, ◌%◌, ◌<◌, ◌≤◌, List, [], ◌∷◌, ◌++◌, Some, None, bit_or, refl, sym, ap}
use Rattle.std.proofs.Common.{◌∙◌, subst, arith}
use mathlib.Core.Logic.{dite}
use mathlib.Core.Option as opt
use native.Mathlib.Decide.{dec_le}
use Rattle.atomic_table.specs.Table.{step, keeps, takes, gives, put_back}
use Rattle.pm_cells.specs.Numbers.{newest_number}
use Rattle.pm_cells.specs.Cells.{CellSlot, IsCell, IsBidWith, IsPriceOf, KeepsCells}
use Rattle.pm_cells.specs.Steps.{Seated, with_claim_to_take, with_claim_to_put, after_loss, after_put, after_take, after_empty_take, with_up, claims_to_put_bid}
use Rattle.pm_cells.specs.Steps.{ReleasesPut, releases_put_bid, claims_to_take_bid, releases_taken_bid}
use Rattle.pm_cells.specs.declared.view.EndView.{EndView}
use Rattle.pm_cells.specs.declared.view.CellView.{CellView}
use Rattle.pm_cells.specs.declared.view.Role.TheVariants.{Child, Parent}
use Rattle.pm_cells.specs.declared.message.Message.{Message}
use Rattle.pm_cells.proofs.Words.{either_bit}
use Rattle.pm_cells.proofs.OneCell.{number_is, taken_at_most, claimed_to_put, claimed_to_take, lost_to_put, lost_to_take, found_in_slot, released_put}
use Rattle.pm_cells.proofs.OneCell.{released_taken, released_none, weakened, IsPriceOf-more}
use Rattle.pm_cells.proofs.Seats.{MayClaim, MayStore, child_may, parent_may, put_is_told, keeps_cut, child_steps_up, parent_steps_up}

-- the child's end may claim the slot of the bids
pub may_claim_to_put_bid : (slots id : ℕ) (m : Seated) → m.0.role ≡ Child → MayClaim slots id m 0 claims_to_put_bid
may_claim_to_put_bid slots id m is = child_may slots id m 0 (λ n. bit_or n 1) (claims_to_put_bid (step slots 0 1 0 opt.none) m) is
    (λ w₀ w₁ h₀ h₁ p r. either_bit w₀
    (λ even. let x = found_in_slot IsBidWith w₀ h₀ m.0.up p.up r.up even in let a = with_claim_to_put m.0.up in (
      with_up m.0 a,
      takes 0 x.0,
      ap opt.some x.1,
      child_steps_up w₀ w₁ h₀ h₁ m.0 p r (bit_or w₀ 1) opt.none a refl (claimed_to_put IsBidWith w₀ h₀ m.0.up p.up r.up even),
      ((λ _. (x.0, refl, tt)), λ odd. absurd (omega arith)),
    ))
    (λ odd. let a = after_loss m.0.up in (
      with_up m.0 a,
      keeps,
      tt,
      child_steps_up w₀ w₁ h₀ h₁ m.0 p r (bit_or w₀ 1) h₀ a refl (lost_to_put IsBidWith w₀ h₀ m.0.up p.up r.up odd),
      ((λ even. absurd (omega arith)), λ _. refl),
    )))

-- the parent's end may claim the slot of the bids
pub may_claim_to_take_bid : (slots id : ℕ) (m : Seated) → m.0.role ≡ Parent → MayClaim slots id m 0 claims_to_take_bid
may_claim_to_take_bid slots id m is = parent_may slots id m 0 (λ n. bit_or n 1) (claims_to_take_bid (step slots 0 1 0 opt.none) m) is
    (λ w₀ w₁ h₀ h₁ c r. either_bit w₀
    (λ even.
    let x = found_in_slot IsBidWith w₀ h₀ c.up m.0.up r.up even in
    let a = with_claim_to_take m.0.up (w₀ / 2) x.0 in
    let number = number_is IsBidWith w₀ h₀ c.up m.0.up r.up even in
    let at_most = subst (λ n. newest_number m.0.up.takes ≤ n) number (taken_at_most IsBidWith w₀ h₀ c.up m.0.up r.up) in (
      with_up m.0 a,
      takes 0 x.0,
      ap opt.some x.1,
      parent_steps_up w₀ w₁ h₀ h₁ c m.0 r (bit_or w₀ 1) opt.none a (claimed_to_take IsBidWith w₀ h₀ c.up m.0.up r.up x.0 x.3 even),
      ((λ _. (x.0, refl, (x.2, r.up.takes_rise, at_most))), λ odd. absurd (omega arith)),
    ))
    (λ odd. let a = after_loss m.0.up in (
      with_up m.0 a,
      keeps,
      tt,
      parent_steps_up w₀ w₁ h₀ h₁ c m.0 r (bit_or w₀ 1) h₀ a (lost_to_take IsBidWith w₀ h₀ c.up m.0.up r.up odd),
      ((λ even. absurd (omega arith)), λ _. refl),
    )))

may_release_put_bid : (slots id : ℕ) (m : Seated) (n : ℕ) (x : Message) → m.0.role ≡ Child → m.0.up.holds ≡ 1 → m.1 ≡ (0, Some x) ∷ []
    → newest_number m.0.up.puts < n → IsBidWith n x → MayStore slots id m 0 (n * 2) releases_put_bid
may_release_put_bid slots id m n x is holds carries above fits =
    child_may slots id m 0 (λ _. n * 2) (λ _. releases_put_bid (step slots 0 (n * 2) 0 opt.none) m (n * 2)) is
    (λ w₀ w₁ h₀ h₁ p r.
    let v = with_up m.0 (after_put m.0.up n x) in
    let half : n ≡ n * 2 / 2 = omega arith in
    let more = m.0.up.puts ++ n ∷ [] in
    let After = λ (l : List (ℕ × CellSlot)). KeepsCells record {
      words = n * 2 ∷ w₁ ∷ [];
      homes = put_back (h₀ ∷ h₁ ∷ []) l;
      views = v ∷ p ∷ [];
    } in (
      v,
      gives,
      tt,
      subst After (sym carries) (keeps_cut (n * 2) w₁ (opt.some (Some x)) h₁ v p record {
        is_child = r.is_child;
        is_parent = r.is_parent;
        up = released_put IsBidWith w₀ h₀ m.0.up p.up r.up n x holds above fits;
        down = weakened (IsPriceOf m.0.up.puts) w₁ h₁ p.down m.0.down r.down (IsPriceOf more) (IsPriceOf-more m.0.up.puts n);
      }),
      λ y there. put_is_told 0 n (n * 2 / 2) x y m.1 (λ k z. with_up m.0 (after_put m.0.up k z)) half carries there,
    ))

-- the child's end that claimed the slot and put a bid there may give it back
pub may_end_put_bid : (slots id : ℕ) (m : Seated) (v : EndView) (n : ℕ) (x : Message) → m ≡ (with_up v (with_claim_to_put v.up), (0, Some x) ∷ [])
    → v.role ≡ Child → newest_number v.up.puts < n → IsBidWith n x → MayStore slots id m 0 (n * 2) releases_put_bid
may_end_put_bid slots id m v n x e is above fits =
    let role = ap (λ (u : Seated). u.0.role) e ∙ is in
    let holds = ap (λ (u : Seated). u.0.up.holds) e in
    let carries = ap (λ (u : Seated). u.1) e in
    may_release_put_bid slots id m n x role holds carries (subst (λ (u : Seated). newest_number u.0.up.puts < n) (sym e) above) fits

-- and after that it has put this bid
pub bid_was_put : (m m' : Seated) (v : EndView) (n : ℕ) (x : Message) → m ≡ (with_up v (with_claim_to_put v.up), (0, Some x) ∷ [])
    → ReleasesPut 0 (λ y. with_up m.0 (after_put m.0.up (n * 2 / 2) y)) m m' → m' ≡ (with_up v (after_put v.up n x), [])
bid_was_put m m' v n x e told =
    let half : n * 2 / 2 ≡ n = omega arith in
    let same : ◌≡◌ {A = Seated} (with_up m.0 (after_put m.0.up (n * 2 / 2) x), []) (with_up v (after_put v.up n x), []) =
    λ i. (with_up (e i).0 (after_put (e i).0.up (half i) x), []) in
    told x (ap (λ (u : Seated). u.1) e) ∙ same

may_release_taken_bid : (slots id : ℕ) (m : Seated) (k : ℕ) → m.0.role ≡ Parent → m.0.up.holds ≡ 1 → m.1 ≡ (0, None) ∷ []
    → k ≡ 2 * m.0.up.found → MayStore slots id m 0 k releases_taken_bid
may_release_taken_bid slots id m k is holds carries found =
    parent_may slots id m 0 (λ _. k) (λ _. releases_taken_bid (step slots 0 k 0 opt.none) m k) is
    (λ w₀ w₁ h₀ h₁ c r.
    let After = λ (a : CellView) (l : List (ℕ × CellSlot)). KeepsCells record {
      words = k ∷ w₁ ∷ [];
      homes = put_back (h₀ ∷ h₁ ∷ []) l;
      views = c ∷ with_up m.0 a ∷ [];
    } in
    let after : (a : CellView) → IsCell IsBidWith k (opt.some None) c.up a → After a m.1 =
    λ a cell. subst (After a) (sym carries) (parent_steps_up w₀ w₁ h₀ h₁ c m.0 r k (opt.some None) a cell) in
    dite (dec_le m.0.up.found (newest_number m.0.up.takes))
    (λ old. let a = after_empty_take m.0.up in (
      with_up m.0 a,
      gives,
      tt,
      after a (released_none IsBidWith w₀ h₀ c.up m.0.up r.up k holds found old),
      ((λ new. absurd (omega arith)), λ _. refl),
    ))
    (λ new. let a = after_take m.0.up in (
      with_up m.0 a,
      gives,
      tt,
      after a (released_taken IsBidWith w₀ h₀ c.up m.0.up r.up k holds found (omega arith)),
      ((λ _. refl), λ old. absurd (new old)),
    )))

-- the parent's end that claimed the slot of the bids and emptied it may give it back
pub may_end_take_bid : (slots id : ℕ) (m : Seated) (v : EndView) (k : ℕ) (x : CellSlot)
    → m ≡ (with_up v (with_claim_to_take v.up (k / 2) x), (0, None) ∷ []) → v.role ≡ Parent → k % 2 ≡ 0
    → MayStore slots id m 0 k releases_taken_bid
may_end_take_bid slots id m v k x e is even =
    let role = ap (λ (u : Seated). u.0.role) e ∙ is in
    let holds = ap (λ (u : Seated). u.0.up.holds) e in
    let carries = ap (λ (u : Seated). u.1) e in
    let found : m.0.up.found ≡ k / 2 = ap (λ (u : Seated). u.0.up.found) e in
    may_release_taken_bid slots id m k role holds carries (omega arith)
