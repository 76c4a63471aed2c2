-- Masters that can be read back.
use Rattle.std.specs.Prelude.{◌≡◌, ℕ, ◌≤◌, List, [], length, Some}
use Rattle.std.specs.List.{AllByRecursion as Each}
use Rattle.doc_model.specs.declared.page_layout.Master.{Master}
use Rattle.load_model.specs.declared.names.Key.TheVariants as key
use Rattle.load_model.specs.declared.names.Tag.TheVariants as tag
use Rattle.load_model.specs.declared.element.Element.{Element}
use Rattle.load_model.specs.Headers.{head_paragraphs, master_left}
use Rattle.load_model.specs.Left.{attributes_of, nothing}
use Rattle.load_model.specs.Styles.{Names, name_of, reference}
use Rattle.load_model.specs.Values.{stated_or}
use Rattle.written_model.specs.Styles.{master_element}
use Rattle.back_fields.specs.Fit.{IsName}
use Rattle.back_heads.specs.Heads.{IsReadableHead}
use Rattle.back_paragraphs.specs.Paragraphs.{IsNoneOrGood}
use Rattle.back_styles.specs.Shown.{shown}

-- a master with a name, whose references are good as they are read, with at most sixteen paragraphs in its header and in its footer
pub record IsReadableMaster (names : Names) (master : Master) : Type 0 where
  pub name : IsName master.name
  pub layout : IsNoneOrGood (reference names.layouts) master.layout
  pub next : IsNoneOrGood (reference names.masters) master.next
  pub header : Each IsReadableHead master.header
  pub header_few : length master.header ≤ 16
  pub footer : Each IsReadableHead master.footer
  pub footer_few : length master.footer ≤ 16

-- a master as it is written, named
abbrev pub master_read : Master → Element
master_read master = shown (master_element master)

-- the master that an element with this name is read as
abbrev pub master_of : Names → Element → List ℕ → Master
master_of names element name = record {
  name = name;
  layout = stated_or key.Layout (reference names.layouts) [] (attributes_of element);
  next = stated_or key.Next (reference names.masters) [] (attributes_of element);
  header = head_paragraphs names tag.Header element;
  footer = head_paragraphs names tag.Footer element;
}

-- a master is read as itself, and nothing is left out
pub record IsMasterBack (names : Names) (master : Master) : Type 0 where
  pub name : name_of (master_read master) ≡ Some master.name
  pub value : master_of names (master_read master) master.name ≡ master
  pub left : master_left names (master_read master) ≡ nothing
