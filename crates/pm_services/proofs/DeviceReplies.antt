-- The bytes of the answers of a device's agent, and how many it keeps over a restart.
use Rattle.std.proofs.Common.{◌≡◌, ◌∙◌, sym, ap, refl, ℕ, ◌+◌, ◌≤◌, ◌^◌, ℤ, Bool, true, false, List, []}
use Rattle.std.proofs.Common.{◌∷◌, ◌++◌, length, Option, Some, None, arith}
use Rattle.std.proofs.Common.{append_assoc, append-nil}
use Rattle.std.proofs.Common.{inl, inr}
use Rattle.std.specs.Prelude.{nat_lt, ◌==◌, ◌&&◌, if◌then◌else◌}
use Rattle.std.specs.Ordering.{int_eq}
use Rattle.std.proofs.lemmas.Bool.{cases_Bool, and_from, and_parts, eq-eqb, eqb-true}
use Rattle.std.proofs.lemmas.Cmp.{int_eq_equiv}
use Rattle.std.proofs.lemmas.Int.{ints}
use Rattle.std.proofs.lemmas.Bool.Decides.{nat_tests}
use Rattle.std.specs.Prelude.{MatchOption}
use Rattle.pm_base.specs.Limits.{most_steps}
use Rattle.pm_basis.specs.Prices.{BasisValue}
use Rattle.pm_net.specs.Messages.{PriceMessage}
use Rattle.pm_net.specs.Agents.{DeviceAgent, Setpoint, after_leaving}
use Rattle.pm_control.specs.Control.{HasNumber}
use Rattle.pm_wire.specs.Frames.{frame_bytes}
use Rattle.pm_wire.specs.declared.frame.Frame.TheVariants.{Gone}
use Rattle.pm_wire.proofs.OneField.{length-demand_bytes}
use Rattle.pm_frames.specs.Answers.{setpoint_bytes, out_of_numbers_bytes}
use Rattle.pm_frames.specs.Stored.{newest_bytes, agent_resume_bytes}
use Rattle.pm_frames.specs.declared.stored.StoredAgent.{StoredAgent}
use Rattle.pm_frames.specs.DeviceFrames.{device_frame_limit}
use Rattle.pm_services.specs.Outputs.{Output, Says}
use Rattle.pm_services.specs.DeviceWrites.{device_bytes, stored_agent, numbered_bid, made_outs, told_outs, leave_outs, same_basis}

-- its last number, an index, and an offer of at most so many steps
pub newest_few : (number index : ℕ) (basis : BasisValue) (newest : Option (List ℤ)) (steps : ℕ) →
    MatchOption newest (steps ≡ 0) (λ demand. steps ≡ length demand) →
    steps ≤ most_steps →
    length (newest_bytes number index basis newest) ≤ device_frame_limit
newest_few number index basis None steps same few = omega arith
newest_few number index basis (Some demand) steps same few = omega (arith, same, length-demand_bytes demand)

module _ (child : ℕ) (basis : BasisValue) where
  -- a setpoint, and behind it what is kept
  pub told_written : (after new : DeviceAgent) (price : PriceMessage) (setpoint : Setpoint) (given : List Setpoint) (out mid longer : List ℕ) →
      setpoint ∷ [] ≡ given → new ≡ after → mid ≡ out ++ setpoint_bytes setpoint.number setpoint.index setpoint.step setpoint.power →
      longer ≡ mid ++ agent_resume_bytes (stored_agent basis new) → longer ≡ out ++ device_bytes child basis (told_outs basis after price given)
  told_written after new price setpoint given out mid longer is same told kept =
      let first : List ℕ = setpoint_bytes setpoint.number setpoint.index setpoint.step setpoint.power in
      kept ∙ ap (λ (l : List ℕ). l ++ agent_resume_bytes (stored_agent basis new)) told
      ∙ append_assoc out first (agent_resume_bytes (stored_agent basis new))
      ∙ ap (λ (a : DeviceAgent). out ++ (first ++ agent_resume_bytes (stored_agent basis a))) same
      ∙ ap (λ (l : List ℕ). out ++ (first ++ l)) (sym (append-nil (agent_resume_bytes (stored_agent basis after))))
      ∙ ap (λ (l : List Setpoint). out ++ device_bytes child basis (told_outs basis after price l)) is

  chosen : (test : Bool) (x y : List (Output StoredAgent)) → test ≡ true → x ≡ (if test then x else y)
  chosen true x y is = refl
  chosen false x y is = absurd (let e = is in cc)

  -- what is kept, and behind it that the device is gone
  pub left_written : (steps : ℕ) (old new : DeviceAgent) (number : ℕ) (out mid longer : List ℕ) → HasNumber old → number ≡ old.number + 2 →
      new ≡ after_leaving old → mid ≡ out ++ agent_resume_bytes (stored_agent basis new) → longer ≡ mid ++ frame_bytes (Gone child number) →
      longer ≡ out ++ device_bytes child basis (leave_outs steps basis old)
  left_written steps old new number out mid longer has is after resumed gone =
      let test : nat_lt (old.number + 3) (2 ^ 32) ≡ true = grind (arith, nat_tests) in
      let kept : List ℕ = agent_resume_bytes (stored_agent basis (after_leaving old)) in
      let last : List ℕ = frame_bytes (Gone child (old.number + 2)) in
      gone ∙ ap (λ (n : ℕ). mid ++ frame_bytes (Gone child n)) is ∙ ap (λ (l : List ℕ). l ++ last) resumed
      ∙ ap (λ (a : DeviceAgent). (out ++ agent_resume_bytes (stored_agent basis a)) ++ last) after ∙ append_assoc out kept last
      ∙ ap (λ (l : List ℕ). out ++ (kept ++ l)) (sym (append-nil last))
      ∙ ap (λ (o : List (Output StoredAgent)). out ++ device_bytes child basis o)
      (chosen (nat_lt (old.number + 3) (2 ^ 32)) (made_outs basis (after_leaving old) (numbered_bid steps (old.number + 2) None))
      (Says out_of_numbers_bytes ∷ []) test)

-- a basis is the same as itself
pub itself : (b : BasisValue) → same_basis b b ≡ true
itself b = and_from _ _ (and_from _ _ (int_eq_equiv.refl b.min) (int_eq_equiv.refl b.max)) (eq-eqb b.steps b.steps refl)

abbrev basis_of : ℤ → ℤ → ℕ → BasisValue
basis_of min' max' steps' = record { min = min'; max = max'; steps = steps' }

same_fields : (m n k l : ℤ) (s t : ℕ) → m ≡ n → k ≡ l → s ≡ t → basis_of m k s ≡ basis_of n l t
same_fields m n k l s t least most count =
    ap (λ (z : ℤ). basis_of z k s) least ∙ ap (λ (z : ℤ). basis_of n z s) most ∙ ap (λ (x : ℕ). basis_of n l x) count

one_basis : (a b : BasisValue) → same_basis a b ≡ true → a ≡ b
one_basis a b is =
    let parts = and_parts (int_eq a.min b.min && int_eq a.max b.max) (a.steps == b.steps) is in
    let ends = and_parts (int_eq a.min b.min) (int_eq a.max b.max) parts.0 in
    same_fields a.min b.min a.max b.max a.steps b.steps (grind (arith, ints, ends.0)) (grind (arith, ints, ends.1)) (eqb-true a.steps b.steps parts.1)

-- and no basis is the same as another one
pub of_another : (a b : BasisValue) → ¬ (a ≡ b) → same_basis a b ≡ false
of_another a b other = elim (cases_Bool (same_basis a b)) [
  | inl e ↦ absurd (other (one_basis a b e))
  | inr e ↦ e
]
