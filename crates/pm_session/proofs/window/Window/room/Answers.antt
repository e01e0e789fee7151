-- Of `Window::room`: its clause `room`.
use Rattle.std.proofs.Common.{rules}
use Rattle.pm_session.proofs.window.Window.room.Goals as goal

pub returns-clause-room : goal.returns-clause-room
returns-clause-room c = search rules
