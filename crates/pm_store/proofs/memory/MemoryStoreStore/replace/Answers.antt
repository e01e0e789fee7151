-- Of `replace` of a store in memory: what a crash might have left.
use Rattle.std.proofs.Common.{List, ℕ, subst, ◌⊎◌, ◌≡◌}
use Rattle.pm_store.specs.Stores.{LeavesInTime}
use Rattle.pm_store.specs.Past.{HadBeen}
use Rattle.pm_store.proofs.Past.{goes_on}
use Rattle.pm_store.proofs.memory.MemoryStoreStore.replace.Goals as goal

pub returns-in-Ok-clause-moments : goal.returns-in-Ok-clause-moments
returns-in-Ok-clause-moments c =
    let past = c.in-Ok.ensures.past in
    let old = c.args.self.now in
    let new = c.replaced.new in
    subst (λ (l : List ℕ). LeavesInTime l (λ d. d ≡ old.value.items) (λ d. (d ≡ old.value.items) ⊎ HadBeen old.past.items d)
    (λ d. (d ≡ new.value.items) ⊎ HadBeen new.past.items d)) c.in-Ok.ensures.ok
    (goes_on old.past.items new.past.items past.0 old.value.items new.value.items past.1 past.2)
