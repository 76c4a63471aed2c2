use Rattle.std.proofs.Common.{◌∙◌}
use Rattle.level_walks.proofs.Rows.{container_within, in_note, is_found}
use Rattle.level_walks.proofs.notes.is_in_note.Goals as goal

pub is_note-requires : goal.is_note-requires
is_note-requires c = record { in_range = container_within c.args.rows.now c.args.par c.in-Some.at c.container.result c.in-Some.ensures c.container.ensures }

pub returns-in-Some : goal.returns-in-Some
returns-in-Some c = λ doc same live. c.is_note.ensures ∙ in_note doc c.args.rows.now c.args.par c.in-Some.at c.container.result same c.requires.flat c.requires.apart c.in-Some.ensures c.container.ensures

pub returns-in-None : goal.returns-in-None
returns-in-None c = λ doc same live. is_found doc c.args.rows.now c.args.par same c.requires.flat c.in-None.ensures live
