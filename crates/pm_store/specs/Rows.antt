-- What a store over a row holds.
use Rattle.std.specs.Prelude.{◌≡◌, ℕ, List}
use Rattle.pm_store.specs.declared.row.RowStore.{RowStore}

-- this row, and the value that was read of it
pub record HoldsRow {R : Type 0} (row : R) (value : List ℕ) (store : RowStore R) : Type 0 where
  pub row_is : store.row ≡ row
  pub value_is : store.value.items ≡ value
