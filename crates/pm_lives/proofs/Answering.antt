-- The bytes of a device's answer, frame by frame: they are those of the answer in any market, however many steps it has.
use Rattle.std.proofs.Common.{◌≡◌, ◌∙◌, ap, ℕ, ◌+◌, ◌^◌, Bool, true, false, cond, eqb, ltb, ℤ, List, [], ◌∷◌}
use Rattle.std.proofs.Common.{Option, Some, None, refl, append-nil}
use Rattle.std.proofs.lemmas.Bool.{cond-true, cond-false}
use Rattle.pm_basis.specs.Prices.{BasisValue}
use Rattle.pm_net.specs.Messages.{price_message}
use Rattle.pm_net.specs.Agents.{DeviceAgent, setpoints_for, after_leaving, after_price}
use Rattle.pm_control.specs.Control.{newest_demand, after_old}
use Rattle.pm_frames.specs.Answers.{out_of_numbers_bytes, other_basis_bytes}
use Rattle.pm_frames.specs.declared.stored.StoredAgent.{StoredAgent}
use Rattle.pm_frames.specs.declared.parent.ParentFrame.TheVariants.{Price, Old}
use Rattle.pm_frames.specs.declared.device.DeviceFrame.{DeviceFrame}
use Rattle.pm_frames.specs.declared.device.DeviceFrame.TheVariants.{Hello, Offer, Kind, Leave, Parent, Resume}
use Rattle.pm_services.specs.Outputs.{Output, Up, Says}
use Rattle.pm_services.specs.DeviceWrites.{device_bytes, numbered_bid, made_outs, told_outs, again_outs, device_outs, agent_after, same_basis}
use Rattle.pm_services.specs.DeviceAnswers as device
use Rattle.pm_lives.specs.Answering.{IsOfBasis, IsOfOtherBasis, SaysOtherBasis}

module _ (child' : ℕ) (own : BasisValue) where
  abbrev bytes_of : List (Output StoredAgent) → List ℕ
  bytes_of outs = device_bytes child' own outs

  -- a Gone has no demand in its bytes
  made_same : (a b number : ℕ) (after : DeviceAgent) (newest : Option (List ℤ)) →
      bytes_of (made_outs own after (numbered_bid a number newest)) ≡ bytes_of (made_outs own after (numbered_bid b number newest))
  made_same a b number after None = refl
  made_same a b number after (Some demand) = refl

  then_same : (test : Bool) (x y other : List (Output StoredAgent)) → bytes_of x ≡ bytes_of y → bytes_of (cond test x other)
      ≡ bytes_of (cond test y other)
  then_same true x y other same = same
  then_same false x y other same = refl

  else_same : (test : Bool) (x y other : List (Output StoredAgent)) → bytes_of x ≡ bytes_of y → bytes_of (cond test other x)
      ≡ bytes_of (cond test other y)
  else_same true x y other same = refl
  else_same false x y other same = same

  -- what is sent again has the same bytes, however many steps a market has
  pub again_same : (a b number : ℕ) (newest : Option (List ℤ)) → bytes_of (again_outs a number newest) ≡ bytes_of (again_outs b number newest)
  again_same a b number (Some demand) = refl
  again_same a b number None = else_same (eqb number 0) (Up (numbered_bid a number None) ∷ []) (Up (numbered_bid b number None) ∷ []) [] refl

  -- so in markets of any numbers of steps
  steps_same : (a b : ℕ) (agent : DeviceAgent) (frame : DeviceFrame) → bytes_of (device_outs a own agent frame) ≡ bytes_of (device_outs b own agent frame)
  steps_same a b agent (Hello basis) = refl
  steps_same a b agent (Offer form demand) = refl
  steps_same a b agent (Kind named) = refl
  steps_same a b agent Leave =
      then_same (ltb (agent.number + 3) (2 ^ 32)) (made_outs own (after_leaving agent) (numbered_bid a (agent.number + 2) None))
      (made_outs own (after_leaving agent) (numbered_bid b (agent.number + 2) None)) (Says out_of_numbers_bytes ∷ []) refl
  steps_same a b agent (Parent (Price child number index step basis)) = refl
  steps_same a b agent (Parent (Old child kept)) =
      let after : DeviceAgent = after_old agent kept in
      then_same (ltb agent.number after.number) (made_outs own after (numbered_bid a after.number (newest_demand after)))
      (made_outs own after (numbered_bid b after.number (newest_demand after))) [] (made_same a b after.number after (newest_demand after))
  steps_same a b agent (Resume stored) = again_same a b stored.number stored.newest

-- what the service of a device answers is the frames of its agent, which is then as after the frame
pub device_answers_frames : (steps child' : ℕ) (basis' : BasisValue) (agent' : DeviceAgent) (frame : DeviceFrame) → IsOfBasis basis' frame →
    (device.device_reply child' (record { agent = agent'; basis = basis' }) frame ≡ device_bytes child' basis' (device_outs steps basis' agent' frame))
    × (device.open_device_after (record { agent = agent'; basis = basis' }) frame ≡ record { agent = agent_after agent' frame; basis = basis' })
device_answers_frames steps child own agent (Hello basis) same = (steps_same child own own.steps steps agent (Hello basis), refl)
device_answers_frames steps child own agent (Offer form demand) same = (steps_same child own own.steps steps agent (Offer form demand), refl)
device_answers_frames steps child own agent (Kind named) same = (steps_same child own own.steps steps agent (Kind named), refl)
device_answers_frames steps child own agent Leave same = (steps_same child own own.steps steps agent Leave, refl)
device_answers_frames steps child own' agent' (Parent (Price sender number index step basis')) same =
    let price = price_message number index step in (
      ap (λ (l : List (Output StoredAgent)). device_bytes child own' l)
          (cond-true (same_basis basis' own') (told_outs own' (after_price agent' price) price (setpoints_for agent' price))
          (Says (other_basis_bytes number index) ∷ []) same),
      ap (λ (a : DeviceAgent). record { agent = a; basis = own' }) (cond-true (same_basis basis' own') (after_price agent' price) agent' same),
    )
device_answers_frames steps child own agent (Parent (Old sender kept)) same = (steps_same child own own.steps steps agent (Parent (Old sender kept)), refl)
device_answers_frames steps child own agent (Resume stored) same = (steps_same child own own.steps steps agent (Resume stored), refl)

-- a device that is given a price of another basis says so, and does not change
pub device_says_other : (child : ℕ) (node : device.OpenDevice) (frame : DeviceFrame) → IsOfOtherBasis node.basis frame →
    (device.open_device_after node frame ≡ node) × SaysOtherBasis (device.device_reply child node frame) frame
device_says_other child node (Hello basis) other = absurd other
device_says_other child node (Offer form demand) other = absurd other
device_says_other child node (Kind named) other = absurd other
device_says_other child node Leave other = absurd other
device_says_other child node (Parent (Price sender number index step basis)) other =
    let price = price_message number index step in (
      ap (λ (a : DeviceAgent). device.with_held_agent node a) (cond-false (same_basis basis node.basis) (after_price node.agent price) node.agent other),
      ap (λ (l : List (Output StoredAgent)). device_bytes child node.basis l)
          (cond-false (same_basis basis node.basis) (told_outs node.basis (after_price node.agent price) price (setpoints_for node.agent price))
          (Says (other_basis_bytes number index) ∷ []) other)
          ∙ append-nil (other_basis_bytes number index),
    )
device_says_other child node (Parent (Old sender kept)) other = absurd other
device_says_other child node (Resume stored) other = absurd other
