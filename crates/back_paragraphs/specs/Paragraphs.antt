-- Paragraphs and notes that can be read back. Those of a tree without places have the number 0.
use Rattle.std.specs.Prelude.{◌≡◌, ◌≢◌, ℕ, ◌≤◌, ◌⊎◌, Bool, true, List, [], map, length, codes, Option, Some, None}
use Rattle.std.specs.List.{AllByRecursion as Each}
use Rattle.markup_nodes.specs.declared.tree.Elem.{Elem}
use Rattle.markup_nodes.specs.Node.{Node}
use Rattle.markup_nodes.specs.Nodes.{elems}
use Rattle.doc_model.specs.declared.block.Block.{Block}
use Rattle.doc_model.specs.declared.paragraph.ListPos.{ListPos}
use Rattle.doc_model.specs.declared.paragraph.Note.{Note, out-Note}
use Rattle.doc_model.specs.declared.paragraph.Par.{Par, out-Par}
use Rattle.doc_model.specs.declared.style.Family.TheVariants as family
use Rattle.doc_model.specs.Reading.{number_of}
use Rattle.load_model.specs.Blocks.{Lists, ReadBlocks, joined_blocks}
use Rattle.load_model.specs.Left.{nothing}
use Rattle.load_model.specs.Styles.{Names, reference, style_reference}
use Rattle.written_model.specs.Elements.{empty_element}
use Rattle.back_fields.specs.Fit.{IsNameOrNone}
use Rattle.back_fields.specs.Given.{given}
use Rattle.back_items.specs.Items.{IsReadable}

-- these blocks are read alone, with nothing left out
abbrev pub whole_blocks : List Block → ReadBlocks
whole_blocks blocks = record { blocks = blocks; sources = []; declarations = []; left = nothing }

-- what is read of written nodes where blocks are
abbrev pub parts_of : Names → Lists → List (Node Elem) → ReadBlocks
parts_of names lists nodes = joined_blocks (map (λ one. one.blocks lists) (elems (map (given names) nodes)))

-- outside of all lists, in a note or not
abbrev pub outside : Bool → Lists
outside in_note = record { level = 0; style = []; in_note = in_note }

-- a name is none, or good as it is read
abbrev pub IsNoneOrGood : (List ℕ → Option (List ℕ)) → List ℕ → Type 0
IsNoneOrGood read name = (name ≡ []) ⊎ (read name ≡ Some name)

-- a list place has a level, and its list style is there
abbrev pub IsPlace : Names → Option ListPos → Type 0
IsPlace names None = Unit {0}
IsPlace names (Some place) = IsNoneOrGood (reference names.lists) place.style × (1 ≤ place.level)

-- a paragraph whose styles are there, with items that can be read, where notes are written so
pub record IsReadablePar (names : Names) (in_note : Bool) (note_node : Note → Node Elem) (par : Par) : Type 0 where
  pub number : number_of par ≡ 0
  pub style : IsNoneOrGood (style_reference names family.Paragraph) (out-Par par).style
  pub level : (out-Par par).level ≤ 10
  pub list : IsPlace names (out-Par par).list
  pub each_item : Each (IsReadable names in_note note_node) (out-Par par).items
  pub few : length (out-Par par).items ≤ 4294967295

-- a note that has a paragraph, whose paragraphs can be read and hold no notes
pub record IsReadableNote (names : Names) (note : Note) : Type 0 where
  pub id : IsNameOrNone (out-Note note).id
  pub some : (out-Note note).pars ≢ []
  pub each : Each (IsReadablePar names true (λ inner. empty_element (codes "text:note") [])) (out-Note note).pars
