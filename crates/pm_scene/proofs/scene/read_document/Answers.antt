-- Of `read_document`: what it ensures.
use Rattle.std.proofs.Common.{◌∙◌, sym, ap, Err}
use Rattle.pm_scene.proofs.Documents.{document-read, document-unread}
use Rattle.pm_scene.proofs.scene.read_document.Goals as goal

pub returns-in-Ok : goal.returns-in-Ok
returns-in-Ok c = document-read _ _ c.in-Ok.ensures.ok.0 c.in-Ok.ensures.ok.1

pub returns-else-is_memory : goal.returns-else-is_memory
returns-else-is_memory c =
    document-unread _ (c.in-Err.ensures.err (λ h. absurd (cc (c.is_memory.ensures.1 h)))) ∙ ap Err (sym c.at.ensures)
