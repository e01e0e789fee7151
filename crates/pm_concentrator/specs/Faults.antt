-- Why nothing is published.
use Rattle.std.specs.Prelude.{◌≡◌}
use Rattle.pm_base.specs.Limits.{window_size}
use Rattle.pm_session.specs.Windows.{unanswered_count}
use Rattle.pm_concentrator.specs.Concentrators.{Gathered, published_heads}
use Rattle.pm_concentrator.specs.declared.fault.PublishFault.{PublishFault}
use Rattle.pm_concentrator.specs.declared.fault.PublishFault.TheVariants.{NotChanged, WindowFull, NoMemory}

-- when each fault comes: nothing was learnt since the last publish; else the window is full; never an allocation failure
abbrev pub NotPublished : Gathered → PublishFault → Type 0
NotPublished c NotChanged = c.cache.heads ≡ published_heads c
NotPublished c (WindowFull count) = (c.cache.heads ≡ published_heads c → ⊥) × (unanswered_count c.window ≡ window_size) × (count ≡ window_size)
NotPublished c NoMemory = ⊥
