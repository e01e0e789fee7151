-- Device agents.
use Rattle.std.specs.Prelude.{ℕ, IsTrue}
use Rattle.pm_base.specs.Limits.{AreSteps}
use Rattle.pm_device.specs.declared.kind.Kind.{Kind}
use Rattle.pm_device.specs.Kinds.{is_valid}

-- the agent of one device: the device's kind, the number of its node, and the steps of its bids
pub record Agent : Type 0 where
  pub kind : Kind
  pub device : ℕ
  pub steps : ℕ

-- the kind is valid, and the steps are those of a market basis
pub record IsAgent (agent : Agent) : Type 0 where
  pub valid : IsTrue (is_valid agent.kind)
  pub basis : AreSteps agent.steps
