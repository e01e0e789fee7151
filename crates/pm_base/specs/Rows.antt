-- Tables as lists of rows.
use Rattle.std.specs.Prelude.{List, map, Vec}
use Rattle.std.specs.declared.alloc.Global.{Global}

-- the rows of a table, each as the list of its items
abbrev pub rows_of : {A : Type 0} → List (Vec A Global) → List (List A)
rows_of table = map (λ row. row.items) table
