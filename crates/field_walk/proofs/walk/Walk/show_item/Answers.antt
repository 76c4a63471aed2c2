use Rattle.std.proofs.Common.{List, ◌++◌, ◌∙◌, sym, ap}
use Rattle.doc_model.specs.declared.paragraph.What.{Note as note_item}
use Rattle.field_model.specs.declared.gathered.Shown.{Shown}
use Rattle.field_walk.proofs.ShowLemmas.{note_shown}
use Rattle.field_walk.proofs.walk.Walk.show_item.Goals as goal

pub returns-in_ok-show_note-in-Note : goal.returns-in_ok-show_note-in-Note
returns-in_ok-show_note-in-Note c = λ all front h s.
    c.in_ok-show_note-in-Note.ensures front s
    ∙ ap (λ (more : List Shown). c.args.shown.now ++ more) (sym (note_shown all c.args.table.now c.args.par.now front c.args.item.now c.get-in-Note.result.now (c.in-Note.is ∙ ap note_item (sym c.get-in-Note.ensures))))
