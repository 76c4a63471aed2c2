-- Paragraphs, lists, notes and sections as elements.
use Rattle.std.specs.Prelude.{ℕ, Bool, true, false, List, [], ◌∷◌, ◌++◌, map, codes, decimal, Option, Some, None, zero, suc, if◌then◌else◌}
use Rattle.markup_nodes.specs.declared.words.Attr.{Attr}
use Rattle.markup_nodes.specs.declared.tree.Elem.{Elem}
use Rattle.markup_nodes.specs.Node.{Node}
use Rattle.doc_model.specs.declared.block.Block.{Block, fold-Block}
use Rattle.doc_model.specs.declared.block.Block.TheOpen.{Block-F, Section-F}
use Rattle.doc_model.specs.declared.block.SectionSource.{SectionSource}
use Rattle.doc_model.specs.declared.paragraph.Par.{Par, out-Par}
use Rattle.doc_model.specs.declared.paragraph.ListPos.{ListPos}
use Rattle.doc_model.specs.declared.paragraph.Note.{Note, out-Note}
use Rattle.written_model.specs.Elements.{attribute, unless_empty, where_true, element, empty_element}
use Rattle.written_model.specs.Values.{truth, class_text}
use Rattle.written_model.specs.Content.{content}

-- a paragraph without its list place, where notes are written so: a heading has its level
abbrev pub bare_paragraph : (Note → Node Elem) → Par → Node Elem
bare_paragraph note_node par = of_level (out-Par par).level where
  style : List Attr
  style = unless_empty (codes "text:style-name") (out-Par par).style

  of_level : ℕ → Node Elem
  of_level zero = element (codes "text:p") style (content note_node (out-Par par).items)
  of_level (suc level) = element (codes "text:h") (style ++ attribute (codes "text:outline-level") (decimal (suc level)) ∷ []) (content note_node (out-Par par).items)

-- what holds the paragraph in the innermost list: an item, or a header where the paragraph begins none
abbrev pub entry_element : Bool → Node Elem → Node Elem
entry_element true node = element (codes "text:list-item") [] (node ∷ [])
entry_element false node = element (codes "text:list-header") [] (node ∷ [])

-- what stands in the list at the first of so many further levels: the entry, or an item with the next list
abbrev pub nested_entry : ℕ → Node Elem → Node Elem
nested_entry zero entry = entry
nested_entry (suc deeper) entry = element (codes "text:list-item") [] (element (codes "text:list") [] (nested_entry deeper entry ∷ []) ∷ [])

-- how many levels stand below the first
abbrev pub below : ℕ → ℕ
below zero = zero
below (suc level) = level

-- a paragraph alone in its own list: the outermost one has the style, and says whether it goes on counting
abbrev pub listed_paragraph : ListPos → Node Elem → Node Elem
listed_paragraph place node = element (codes "text:list") attrs (nested_entry (below place.level) (entry_element place.item node) ∷ []) where
  attrs : List Attr
  attrs = unless_empty (codes "text:style-name") place.style ++ attribute (codes "text:continue-numbering") (truth (if place.fresh then false else true)) ∷ []

-- a paragraph in its list, if it has a list place, where notes are written so
abbrev pub paragraph : (Note → Node Elem) → Par → Node Elem
paragraph note_node par = of_list (out-Par par).list where
  of_list : Option ListPos → Node Elem
  of_list None = bare_paragraph note_node par
  of_list (Some place) = listed_paragraph place (bare_paragraph note_node par)

-- a note, whose paragraphs hold no notes
abbrev pub note_element : Note → Node Elem
note_element note = element (codes "text:note") attrs (empty_element (codes "text:note-citation") [] ∷ element (codes "text:note-body") [] (map (paragraph (λ inner. empty_element (codes "text:note") [])) (out-Note note).pars) ∷ []) where
  attrs : List Attr
  attrs = unless_empty (codes "text:id") (out-Note note).id ++ attribute (codes "text:note-class") (class_text (out-Note note).class) ∷ []

-- the source of a section, if it has one
abbrev pub source_element : Option SectionSource → List (Node Elem)
source_element None = []
source_element (Some source) = empty_element (codes "text:section-source") (unless_empty (codes "xlink:href") source.href ++ unless_empty (codes "text:section-name") source.section) ∷ []

-- a block of the body
abbrev pub block_element : Block → Node Elem
block_element = fold-Block (Node Elem) (Node Elem) of_block of_section where
  of_block : Block-F (Node Elem) (Node Elem) → Node Elem
  of_block (Block-F.Par par) = paragraph note_element par
  of_block (Block-F.Section section) = section

  of_section : Section-F (Node Elem) (Node Elem) → Node Elem
  of_section section =
      element (codes "text:section")
      (unless_empty (codes "text:style-name") section.style
      ++ unless_empty (codes "text:name") section.name
      ++ where_true (codes "text:protected") (codes "true") section.protected
      ++ where_true (codes "text:display") (codes "none") section.hidden)
      (source_element section.source ++ section.blocks)
