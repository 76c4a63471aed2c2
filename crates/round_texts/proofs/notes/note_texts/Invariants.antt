use Rattle.std.proofs.Common.{◌≡◌, true, List, ◌++◌}
use Rattle.std.specs.Prelude.{unwrap_or}
use Rattle.std.specs.List.{flat_map}
use Rattle.doc_model.specs.declared.document.Document.{Document}
use Rattle.key_parts.specs.Displays.{displays_of}
use Rattle.format_model.specs.Standing.{BodyPar, notes_from, props_of}
use Rattle.format_model.specs.Keys.{Standing, standing_in_note}
use Rattle.round_pars.specs.Pars.{AreRoundPars}
use Rattle.round_texts.proofs.OfNotes.{NotesLeft}
use Rattle.round_texts.proofs.notes.note_texts.Given as goal

abbrev pub invariant-items : goal.invariant-items
invariant-items l = (doc : Document) (placed : BodyPar) (after : List Standing) → l.displays ≡ displays_of doc.styles → l.otherwise ≡ unwrap_or (props_of doc placed.par).display true
    → AreRoundPars doc (flat_map (standing_in_note placed) (notes_from doc placed.par 0 1 l.items) ++ after) l.fn.left.pars.now → NotesLeft doc placed after l.items l.at l.left.pars.now l.notes.items
