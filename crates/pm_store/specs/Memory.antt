-- What a store and a row in memory hold.
use Rattle.std.specs.Prelude.{ℕ, List}
use Rattle.pm_store.specs.declared.memory.MemoryStore.{MemoryStore}
use Rattle.pm_store.specs.declared.row.MemoryRow.{MemoryRow}

abbrev pub memory_value : MemoryStore → List ℕ
memory_value store = store.value.items

abbrev pub row_value : MemoryRow → List ℕ
row_value row = row.store.value.items
