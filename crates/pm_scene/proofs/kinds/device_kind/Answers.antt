-- Of `device_kind`: what it ensures.
use Rattle.std.proofs.Common.{refl, inl, inr}
use Rattle.pm_scene.proofs.kinds.device_kind.Goals as goal

pub returns-in-Concentrator : goal.returns-in-Concentrator
returns-in-Concentrator c = elim c.in-Concentrator.is [
  | inl concentrator ↦ rw concentrator refl
  | inr other ↦ elim other [
    | inl limited ↦ rw limited refl
    | inr manual ↦ rw manual refl
  ]
]
