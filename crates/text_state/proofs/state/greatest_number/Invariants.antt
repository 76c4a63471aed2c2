use Rattle.std.proofs.Common.{◌≡◌, take}
use Rattle.std.specs.List.{flat_map}
use Rattle.doc_model.specs.Limits.{greatest}
use Rattle.node_array.specs.Rows.{rows_of}
use Rattle.paragraph_rows.specs.Standing.{number_in}
use Rattle.text_state.proofs.state.greatest_number.Given as goal

abbrev pub invariant-loop-at : goal.invariant-loop-at
invariant-loop-at l = l.greatest ≡ greatest (flat_map number_in (take l.at (rows_of l.rows)))
