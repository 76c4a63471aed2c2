-- Paragraphs that are apart by their rows.
use Rattle.std.proofs.Common.{◌≢◌, List, [], ◌∷◌, subst}
use Rattle.std.specs.Prelude.{AllPairs}
use Rattle.std.specs.List.{flat_map, AllByRecursion as Each}
use Rattle.doc_model.specs.declared.document.Document.{Document}
use Rattle.doc_model.specs.declared.paragraph.Par.{Par}
use Rattle.doc_model.specs.Reading.{body_paragraphs, notes_of}
use Rattle.edit_rules.specs.Edited.{Edited}
use Rattle.node_array.specs.Rows.{rows_of}
use Rattle.container_rows.specs.Standing.{IsApart, HoldsNoNotes}
use Rattle.paragraph_rows.specs.Flat.{AreFlat}
use Rattle.paragraph_rows.specs.Standing.{AreApart}
use Rattle.paragraph_rows.proofs.FlatPars.{IsFlatPar, flat_pars}
use Rattle.paragraph_rows.proofs.Lists.{each_both}
use Rattle.paragraph_rows.proofs.ValidRows.{row_numbers}
use Rattle.row_edits.specs.Sound.{IsSound}

notes_alone : (pars : List Par) → Each IsFlatPar pars → Each HoldsNoNotes (flat_map notes_of pars)
notes_alone [] flat = tt
notes_alone (par ∷ pars) flat = each_both HoldsNoNotes (notes_of par) (flat_map notes_of pars) flat.0 (notes_alone pars flat.1)

pub apart_by_rows : (doc : Document) → AreFlat (rows_of doc.body) → AreApart (rows_of doc.body) → IsApart doc
apart_by_rows doc flat apart = record {
  numbers = subst (AllPairs (λ left right. left ≢ right)) (row_numbers doc flat) apart;
  notes = notes_alone (body_paragraphs doc) (flat_pars doc.body flat);
}

pub apart_where_sound : (old : Edited) → IsSound old → IsApart old.document
apart_where_sound old sound = apart_by_rows old.document sound.flat sound.apart
