use Rattle.std.proofs.Common.{◌≡◌, ◌++◌, drop}
use Rattle.std.specs.List.{filter_map}
use Rattle.std.specs.Option.{option_map}
use Rattle.paginate.proofs.contents.push_row_places.Given as goal

abbrev pub invariant-loop-row : goal.invariant-loop-row
invariant-loop-row l = l.places ++ filter_map (λ row. option_map (λ first. first.place) row.first) (drop l.row-index l.rows) ≡ l.fn.places ++ filter_map (λ row. option_map (λ first. first.place) row.first) l.rows
