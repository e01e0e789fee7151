-- Of `lives_begin`: its clauses.
use Rattle.pm_lives.proofs.Carrying.{relay_is_back, root_is_back, device_is_back}
use Rattle.pm_lives.proofs.lives_begin.Goals as goal

pub returns-clause-relay : goal.returns-clause-relay
returns-clause-relay c old basis after stored reply closed given = relay_is_back old basis after stored reply closed given

pub returns-clause-root : goal.returns-clause-root
returns-clause-root c basis after stored given = root_is_back basis after stored given

pub returns-clause-device : goal.returns-clause-device
returns-clause-device c p old mid after basis stored reply more closed accepted first then =
    device_is_back p old mid after basis stored reply more closed accepted first then
