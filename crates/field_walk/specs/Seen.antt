-- How far the items of a paragraph are shown.
use Rattle.std.specs.Prelude.{◌≡◌, ◌+◌, List, length}
use Rattle.doc_model.specs.declared.paragraph.Item.{Item}
use Rattle.doc_model.specs.declared.field.NoteClass.TheVariants.{Footnote, Endnote}
use Rattle.field_model.specs.declared.gathered.ParPlace.{ParPlace}
use Rattle.field_model.specs.Shown.{cited_in}
use Rattle.field_walk.specs.declared.show.Seen.{Seen}

-- these items of a paragraph were seen
pub record HasSeen (par : ParPlace) (seen : Seen) (front : List Item) : Type 0 where
  pub index : seen.index ≡ length front
  pub footnotes : seen.footnotes ≡ par.footnotes + cited_in Footnote front
  pub endnotes : seen.endnotes ≡ par.endnotes + cited_in Endnote front
