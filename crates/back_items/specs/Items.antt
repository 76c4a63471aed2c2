-- Items that can be read back.
use Rattle.std.specs.Prelude.{◌≡◌, ℕ, Bool, List, [], ◌∷◌}
use Rattle.std.specs.List.{AllByRecursion as Each}
use Rattle.markup_nodes.specs.declared.tree.Elem.{Elem}
use Rattle.markup_nodes.specs.Node.{Node}
use Rattle.doc_model.specs.declared.paragraph.Item.{Item, out-Item}
use Rattle.doc_model.specs.declared.paragraph.Note.{Note}
use Rattle.doc_model.specs.declared.paragraph.Par.{Par}
use Rattle.doc_model.specs.declared.paragraph.What.{What}
use Rattle.doc_model.specs.declared.paragraph.What.TheOpen.{What-F}
use Rattle.doc_model.specs.Parts.{what_of, mark_name}
use Rattle.doc_model.specs.Valid.{IsItem}
use Rattle.load_model.specs.Blocks.{ReadContent, node_content}
use Rattle.load_model.specs.Content.{Read, item_in, items_of_raw}
use Rattle.load_model.specs.Left.{nothing}
use Rattle.load_model.specs.Styles.{Names}
use Rattle.back_fields.specs.Fit.{IsFit, IsName}
use Rattle.back_fields.specs.Given.{given, whole}
use Rattle.back_spans.specs.Spans.{IsTextStyle}

-- content is read as these items, and nothing is left out
pub record IsReadAs (content : ReadContent) (items : List Item) : Type 0 where
  pub same : items_of_raw content.raws ≡ items
  pub none : content.left ≡ nothing

module _ (names : Names) (in_note : Bool) (note_node : Note → Node Elem) where
  -- a field has what it needs, the bookmark of a mark has a name, and a note is read back where it is written so
  abbrev pub IsRead : List (List ℕ) → What-F What Item Note Par → Type 0
  IsRead spans (What-F.Field field) = IsFit field
  IsRead spans (What-F.Mark mark) = IsName (mark_name mark)
  IsRead spans (What-F.Note note) = node_content (record { spans = spans; in_note = in_note }) (given names (note_node note)) ≡ whole (Read (item_in spans (What-F.Note note)) ∷ [])
  IsRead spans _ = Unit {0}

  -- an item of a document, whose spans have styles that are there, and which can be read
  pub record IsReadable (item : Item) : Type 0 where
    pub legal : IsItem item
    pub styles : Each (IsTextStyle names) (out-Item item).spans
    pub what : IsRead (out-Item item).spans (what_of item)
