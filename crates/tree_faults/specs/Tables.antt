-- Tables that are met.
use Rattle.std.specs.Prelude.{ℕ, Option, Some, None}
use Rattle.load_model.specs.Met.{Met, Table}

-- the place of a table, if this is one
abbrev pub table_in : Met → Option ℕ
table_in (Table place) = Some place
table_in _ = None
