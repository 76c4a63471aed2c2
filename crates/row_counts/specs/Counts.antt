-- How many paragraphs, items and sections rows have.
use Rattle.std.specs.Prelude.{List, filter, length, sum}
use Rattle.std.specs.List.{flat_map}
use Rattle.doc_model.specs.Limits.{counts_as_section}
use Rattle.node_array.specs.declared.row.Row.{Row}
use Rattle.paragraph_rows.specs.Standing.{number_in}
use Rattle.row_facts.specs.Paragraphs.{section_in}
use Rattle.row_measures.specs.RowCounts.{item_counts}
use Rattle.row_counts.specs.declared.counts.Counts.{Counts}

-- the paragraphs, the items of all of them, and the sections without rows and cells of tables
abbrev pub counts_of : List Row → Counts
counts_of rows = record { paragraphs = length (flat_map number_in rows); items = sum (item_counts rows); sections = length (filter (λ head. counts_as_section head.kind) (flat_map section_in rows)) }
