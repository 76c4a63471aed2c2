-- What a walk holds of the paragraphs that were gathered.
use Rattle.std.specs.Prelude.{◌≡◌, ℕ, Bool, List, length, nat_eq}
use Rattle.indexmap.specs.IndexMap.{get}
use Rattle.doc_model.specs.declared.field.NoteClass.TheVariants.{Footnote, Endnote}
use Rattle.field_model.specs.Gathered.{Event, GatheredPar, events, in_note, note_place, note_places, AreInOrder}
use Rattle.field_model.specs.Fields.{counted, assigned, marks, sequence_targets, note_targets, paragraphs, place_of, chapters, cited}
use Rattle.field_model.specs.Quotes.{pieces}
use Rattle.field_walk.specs.Lists.{list_of, list_in, run_in}
use Rattle.field_walk.specs.declared.walk.Walk.{Walk}
use Rattle.field_walk.specs.declared.forget.Kept.{Kept}
use Rattle.field_walk.specs.Steps.{places_before}
use Rattle.doc_model.specs.declared.paragraph.ParHead.{ParHead}
use Rattle.field_model.specs.declared.gathered.Gathered.{Gathered}

-- what a walk holds when all these were gathered, the last one in front: the answer of each filter of them
pub record HoldsEvents (walk : Walk) (all : List Event) : Type 0 where
  pub count : walk.count ≡ length all
  pub in_note : walk.in_note ≡ in_note all
  pub anchor : walk.anchor ≡ note_place all
  pub note_places : walk.note_places.items ≡ note_places all
  pub pars : walk.pars.items ≡ paragraphs all
  pub places : (id : ℕ) → get nat_eq walk.places id ≡ place_of id all
  pub chapters : walk.chapters ≡ chapters all
  pub footnotes : walk.footnotes ≡ cited Footnote all
  pub endnotes : walk.endnotes ≡ cited Endnote all
  pub runs : (noted : Bool) → run_in walk.runs noted ≡ pieces noted all
  pub counted : (noted : Bool) (name : List ℕ) → list_in walk.counted noted name ≡ counted noted name all
  pub assigned : (noted : Bool) (name : List ℕ) → list_in walk.assigned noted name ≡ assigned noted name all
  pub marks : (name : List ℕ) → list_of walk.marks name ≡ marks name all
  pub sequences : (name : List ℕ) → list_of walk.sequences name ≡ sequence_targets name all
  pub notes : (name : List ℕ) → list_of walk.notes name ≡ note_targets name all
  pub in_order : AreInOrder all

-- what a walk holds when these paragraphs were gathered, the last one in front
abbrev pub Holds : Walk → List GatheredPar → Type 0
Holds walk gathered = HoldsEvents walk (events gathered)

-- what was kept before a paragraph began, where all these were gathered
pub record IsKept (kept : Kept) (place : Gathered) (head : ParHead) (all : List Event) : Type 0 where
  pub in_note : kept.in_note ≡ in_note all
  pub anchor : kept.anchor ≡ note_place all
  pub chapters : kept.chapters ≡ chapters all
  pub note_places : places_before place kept.note_places.items (note_places all) ≡ note_places all
  pub before : kept.before ≡ place_of head.id.0 all
