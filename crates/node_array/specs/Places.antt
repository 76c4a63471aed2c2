-- Where rows stand.
use Rattle.std.specs.Prelude.{◌==◌, Bool, false}
use Rattle.doc_model.specs.declared.paragraph.ParId.{ParId}
use Rattle.node_array.specs.declared.row.Row.{Row}
use Rattle.node_array.specs.declared.row.Row.TheVariants as row

-- whether a row is that of the paragraph with this number
abbrev pub is_par : ParId → Row → Bool
is_par par (row.Start head) = false
is_par par row.End = false
is_par par (row.Par head items) = par.0 == head.id.0
is_par par row.NoteText = false
