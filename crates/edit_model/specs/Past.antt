-- The past of a document: what undo goes back to, and redo forth.
use Rattle.std.specs.Prelude.{ℕ, Bool, List, [], ◌∷◌, take, Option, Some, None}
use Rattle.doc_model.specs.declared.document.Document.{Document}

-- a document of the past, with the paragraphs that the group beside it touched and whether it was restyling
pub record Entry : Type 0 where
  pub document : Document
  pub touched : List ℕ
  pub restyling : Bool

-- the present document, the earlier and the undone ones. In both lists the next one to be taken comes first
pub record Past : Type 0 where
  pub present : Document
  pub earlier : List Entry
  pub undone : List Entry

-- the past of a document that nothing was done to
abbrev pub no_past : Document → Past
no_past doc = record { present = doc; earlier = []; undone = [] }

-- the past after a group that wasn't refused: the present document becomes the next earlier one, of which the last 256 are kept, and nothing is undone any more
abbrev pub after_group : Past → Document → List ℕ → Bool → Past
after_group past doc touched restyling = record {
  present = doc;
  earlier = take 256 (record { document = past.present; touched = touched; restyling = restyling } ∷ past.earlier);
  undone = [];
}

-- the past after an undo, where there is an earlier document
abbrev pub after_undo : Past → Option Past
after_undo past = of_earlier past.earlier where
  of_earlier : List Entry → Option Past
  of_earlier [] = None
  of_earlier (entry ∷ earlier) = Some (record { present = entry.document; earlier = earlier; undone = record entry { document = past.present } ∷ past.undone })

-- the past after a redo, where there is an undone document
abbrev pub after_redo : Past → Option Past
after_redo past = of_undone past.undone where
  of_undone : List Entry → Option Past
  of_undone [] = None
  of_undone (entry ∷ undone) = Some (record { present = entry.document; earlier = record entry { document = past.present } ∷ past.earlier; undone = undone })
