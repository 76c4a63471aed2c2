-- What a section says of itself.
use Rattle.std.specs.Prelude.{ℕ, Bool, ◌||◌, List, ◌++◌, codes, map, is_some, Option}
use Rattle.markup_nodes.specs.declared.words.Attr.{Attr}
use Rattle.markup_nodes.specs.declared.tree.Elem.{Elem}
use Rattle.markup_nodes.specs.Node.{Node}
use Rattle.doc_model.specs.declared.block.Section.{Section, out-Section}
use Rattle.spelling_model.specs.Spelling.{is_there}
use Rattle.doc_model.specs.declared.block.SectionSource.{SectionSource}
use Rattle.tree_text.specs.Writing.{tag_text, content_text}
use Rattle.written_model.specs.Elements.{unless_empty, where_true, element}
use Rattle.written_model.specs.Blocks.{source_element, block_element}
use Rattle.paragraph_write.specs.Around.{tag_close, element_close}
use Rattle.block_write.specs.declared.sections.SectionTag.{SectionTag}

-- the attributes of a section
abbrev pub section_attributes : List ℕ → List ℕ → Bool → Bool → List Attr
section_attributes style name protected hidden =
    unless_empty (codes "text:style-name") style
    ++ unless_empty (codes "text:name") name
    ++ where_true (codes "text:protected") (codes "true") protected
    ++ where_true (codes "text:display") (codes "none") hidden

-- the text of a section before its blocks, and behind them
abbrev pub section_start : List ℕ → List ℕ → Bool → Bool → Option SectionSource → Bool → List ℕ
section_start style name protected hidden source holds =
    tag_text (codes "text:section") (section_attributes style name protected hidden) ++ (tag_close holds ++ content_text (source_element source))

abbrev pub section_end : Bool → List ℕ
section_end holds = element_close (codes "text:section") holds

abbrev pub tag_attributes : SectionTag → List Attr
tag_attributes tag = section_attributes tag.style.now tag.name.now tag.protected tag.hidden

abbrev pub tag_start : SectionTag → Bool → List ℕ
tag_start tag holds = section_start tag.style.now tag.name.now tag.protected tag.hidden tag.source.now holds

-- the text of a section before its blocks
abbrev pub start_of : Section → Bool → List ℕ
start_of section holds = let s = out-Section section in section_start s.style s.name s.protected s.hidden s.source holds

-- whether it holds a source or a block
abbrev pub holds_of : Section → Bool
holds_of section = is_some (out-Section section).source || is_there (out-Section section).blocks

-- a section
abbrev pub section_element : Section → Node Elem
section_element section = let s = out-Section section in element (codes "text:section") (section_attributes s.style s.name s.protected s.hidden) (source_element s.source ++ map block_element s.blocks)
