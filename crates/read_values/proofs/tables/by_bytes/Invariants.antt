use Rattle.std.proofs.Common.{◌≡◌, map, drop}
use Rattle.load_model.specs.Values.{by_table}
use Rattle.read_values.proofs.tables.by_bytes.Given as goal

abbrev pub invariant-rows : goal.invariant-rows
invariant-rows g l = by_table (map (λ row. (row.0.now, row.1)) (drop l.row-index l.table)) l.text ≡ by_table (map (λ row. (row.0.now, row.1)) l.table) l.text
