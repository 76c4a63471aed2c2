-- What blocks are by the attributes of their elements and what is read in them.
use Rattle.std.specs.Prelude.{ℕ, Bool, true, false, not, List, [], ◌∷◌, Option}
use Rattle.doc_model.specs.declared.block.Block.{Block}
use Rattle.doc_model.specs.declared.block.Section.{Section, roll-Section}
use Rattle.doc_model.specs.declared.block.SectionSource.{SectionSource}
use Rattle.doc_model.specs.declared.block.Kind.TheVariants.{Plain}
use Rattle.doc_model.specs.declared.field.NoteClass.TheVariants as class
use Rattle.doc_model.specs.declared.paragraph.ListPos.{ListPos}
use Rattle.doc_model.specs.declared.paragraph.Item.{Item}
use Rattle.doc_model.specs.declared.paragraph.Note.{Note, roll-Note}
use Rattle.doc_model.specs.declared.paragraph.Par.{Par, roll-Par}
use Rattle.load_model.specs.declared.names.Key.TheVariants as key
use Rattle.load_model.specs.declared.element.Attribute.{Attribute}
use Rattle.load_model.specs.declared.element.Element.{Element, out-Element}
use Rattle.load_model.specs.Fields.{own_name}
use Rattle.load_model.specs.Styles.{reference}
use Rattle.load_model.specs.Values as value
use Rattle.load_model.specs.Values.{Rule, rule, stated_or}

-- the paragraph that an element is, whose style is one of these names, with its list place, its level and its items
abbrev pub paragraph_by : List (List ℕ) → Option ListPos → ℕ → Element → List Item → Par
paragraph_by styles list level element items = roll-Par (record {
  id = record { 0 = (out-Element element).place };
  style = stated_or key.StyleName (reference styles) [] (out-Element element).attributes;
  level = level;
  list = list;
  items = items;
})

-- a section whose style is one of these names
abbrev pub section_by : List (List ℕ) → List Attribute → Option SectionSource → List Block → Section
section_by styles attributes source blocks = roll-Section (record {
  kind = Plain;
  name = stated_or key.TextName value.name [] attributes;
  style = stated_or key.StyleName (reference styles) [] attributes;
  protected = stated_or key.Protected value.truth false attributes;
  hidden = not (stated_or key.Display value.display true attributes);
  source = source;
  blocks = blocks;
})

-- the source of a section
abbrev pub source_by : List Attribute → SectionSource
source_by attributes = record { href = stated_or key.Href value.name_or_none [] attributes; section = stated_or key.SectionName value.name_or_none [] attributes }

abbrev pub source_rules : List Rule
source_rules = rule key.Href value.name_or_none ∷ rule key.SectionName value.name_or_none ∷ []

-- a note, which has an id of its own or not
abbrev pub note_by : Bool → List Attribute → List Par → Note
note_by is_first attributes pars = roll-Note (record {
  id = stated_or key.Id (own_name is_first) [] attributes;
  class = stated_or key.NoteClass value.note_class class.Footnote attributes;
  pars = pars;
})
