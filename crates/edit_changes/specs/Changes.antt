-- What an edit makes of a document, and how it is taken back.
use Rattle.std.specs.Prelude.{◌≡◌, max, Bool, List}
use Rattle.doc_model.specs.declared.document.Document.{Document}
use Rattle.doc_model.specs.declared.paragraph.ParId.{ParId}
use Rattle.edit_rules.specs.Edited.{Edited}
use Rattle.undo_groups.specs.Meaning.{Meaning}

-- a change: the edited document before it and after it, the paragraphs that it touches, and whether it changes styles
pub record Change : Type 0 where
  pub before : Edited
  pub after : Edited
  pub touched : List ParId
  pub restyles : Bool

-- the change that takes another back. It touches the same paragraphs
abbrev pub turned : Change → Change
turned change = record { before = change.after; after = change.before; touched = change.touched; restyles = change.restyles }

-- what a change leaves: its document after it. A number that was given is never given again
abbrev pub changed : Edited → Change → Edited
changed old change = record { document = change.after.document; next = max old.next change.after.next }

-- what changes mean for documents: each fits the one before it, leaves the one after it, and is taken back by the turned change
abbrev pub meaning : Meaning Document Change
meaning = record {
  fits = λ doc change. doc ≡ change.before.document;
  changed = λ doc change. change.after.document;
  answer = λ doc change. turned change;
}
