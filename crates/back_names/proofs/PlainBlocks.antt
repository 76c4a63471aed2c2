-- Paragraphs, notes, sections and declarations are plain, and so is all that the root holds.
use Rattle.std.proofs.Common.{◌≡◌, ℕ, Bool, true, false, List, [], ◌∷◌, ◌++◌, map, refl, sym, subst, codes, decimal, Option, Some, None, zero, suc, cond}
use Rattle.std.specs.List.{AllByRecursion as Each}
use Rattle.markup_nodes.specs.declared.words.Attr.{Attr}
use Rattle.markup_nodes.specs.declared.tree.Elem.{Elem}
use Rattle.markup_nodes.specs.Node.{Node}
use Rattle.doc_model.specs.declared.block.Block.{Block}
use Rattle.doc_model.specs.declared.block.Block.TheOpen.{Section-F}
use Rattle.doc_model.specs.declared.block.Block.TheFolds.{fold-roll-Block, fold-roll-Section}
use Rattle.doc_model.specs.declared.block.Section.{Section}
use Rattle.doc_model.specs.declared.block.SectionSource.{SectionSource}
use Rattle.doc_model.specs.declared.paragraph.Par.{Par, out-Par}
use Rattle.doc_model.specs.declared.paragraph.ListPos.{ListPos}
use Rattle.doc_model.specs.declared.paragraph.Note.{Note, out-Note}
use Rattle.doc_model.specs.declared.document.Document.{Document}
use Rattle.block_facts.proofs.Blocks.{par_block, section_block, of_block}
use Rattle.written_model.specs.Elements.{attribute, unless_empty, where_true, element, empty_element}
use Rattle.written_model.specs.Values.{truth, class_text}
use Rattle.written_model.specs.Content.{content}
use Rattle.written_model.specs.Blocks.{bare_paragraph, entry_element, nested_entry, below, listed_paragraph, paragraph, note_element, source_element, block_element}
use Rattle.written_model.specs.Written.{variable_declarations, sequence_declarations, text_element}
use Rattle.back_names.proofs.Rows.{Row, AreByRows, unless, where_so, no_rows, joined, given_first, unless_row, true_row}
use Rattle.back_names.proofs.PlainLists.{IsPlain, ArePlain, element_plain, one_plain, more_plain, both_plain, each_plain, part_plain}
use Rattle.back_names.proofs.PlainContent.{content_plain, bare_note_plain}

-- a paragraph or heading of a level, with its attributes and what it holds
abbrev at_level : List ℕ → List (Node Elem) → ℕ → Node Elem
at_level style nodes zero = element (codes "text:p") (unless_empty (codes "text:style-name") style) nodes
at_level style nodes (suc level) = element (codes "text:h") (unless_empty (codes "text:style-name") style ++ attribute (codes "text:outline-level") (decimal (suc level)) ∷ []) nodes

level_plain : (style : List ℕ) (nodes : List (Node Elem)) (level : ℕ) → ArePlain nodes → IsPlain (at_level style nodes level)
level_plain style nodes zero plain =
    element_plain (codes "text:p") (unless_empty (codes "text:style-name") style) nodes (unless_row (codes "text:style-name") style) refl plain
level_plain style nodes (suc level) plain =
    element_plain (codes "text:h") (unless_empty (codes "text:style-name") style ++ attribute (codes "text:outline-level") (decimal (suc level)) ∷ []) nodes
    (joined (unless_row (codes "text:style-name") style) (given_first (codes "text:outline-level") (decimal (suc level)) no_rows)) refl plain

-- a paragraph in its lists
entry_plain : (item : Bool) (node : Node Elem) → IsPlain node → IsPlain (entry_element item node)
entry_plain true node plain = element_plain (codes "text:list-item") [] (node ∷ []) no_rows refl (one_plain node plain)
entry_plain false node plain = element_plain (codes "text:list-header") [] (node ∷ []) no_rows refl (one_plain node plain)

nested_plain : (deeper : ℕ) (entry : Node Elem) → IsPlain entry → IsPlain (nested_entry deeper entry)
nested_plain zero entry plain = plain
nested_plain (suc deeper) entry plain =
    let inner = element (codes "text:list") [] (nested_entry deeper entry ∷ []) in
    element_plain (codes "text:list-item") [] (inner ∷ []) no_rows refl
    (one_plain inner (element_plain (codes "text:list") [] (nested_entry deeper entry ∷ []) no_rows refl (one_plain (nested_entry deeper entry) (nested_plain deeper entry plain))))

listed_plain : (place : ListPos) (node : Node Elem) → IsPlain node → IsPlain (listed_paragraph place node)
listed_plain place node plain =
    let entry = nested_entry (below place.level) (entry_element place.item node) in
    let counting = truth (cond place.fresh false true) in
    element_plain (codes "text:list") (unless_empty (codes "text:style-name") place.style ++ attribute (codes "text:continue-numbering") counting ∷ []) (entry ∷ [])
    (joined (unless_row (codes "text:style-name") place.style) (given_first (codes "text:continue-numbering") counting no_rows)) refl
    (one_plain entry (nested_plain (below place.level) (entry_element place.item node) (entry_plain place.item node plain)))

abbrev in_list : Node Elem → Option ListPos → Node Elem
in_list node None = node
in_list node (Some place) = listed_paragraph place node

in_list_plain : (node : Node Elem) (list : Option ListPos) → IsPlain node → IsPlain (in_list node list)
in_list_plain node None plain = plain
in_list_plain node (Some place) plain = listed_plain place node plain

-- paragraphs, where notes are plain
module _ (note_node : Note → Node Elem) (note_plain : (note : Note) → IsPlain (note_node note)) where
  bare_plain : (par : Par) → IsPlain (bare_paragraph note_node par)
  bare_plain par = level_plain (out-Par par).style (content note_node (out-Par par).items) (out-Par par).level (content_plain note_node note_plain (out-Par par).items)

  paragraph_plain : (par : Par) → IsPlain (paragraph note_node par)
  paragraph_plain par = in_list_plain (bare_paragraph note_node par) (out-Par par).list (bare_plain par)

-- a note
note_plain : (note : Note) → IsPlain (note_element note)
note_plain note =
    let bare : Note → Node Elem = λ inner. empty_element (codes "text:note") [] in
    let pars = map (paragraph bare) (out-Note note).pars in
    let body = element (codes "text:note-body") [] pars in
    let citation = empty_element (codes "text:note-citation") [] in
    let id = (out-Note note).id in
    let class = class_text (out-Note note).class in
    element_plain (codes "text:note") (unless_empty (codes "text:id") id ++ attribute (codes "text:note-class") class ∷ []) (citation ∷ body ∷ [])
    (joined (unless_row (codes "text:id") id) (given_first (codes "text:note-class") class no_rows)) refl
    (more_plain citation (body ∷ []) (element_plain (codes "text:note-citation") [] [] no_rows refl refl)
    (one_plain body (element_plain (codes "text:note-body") [] pars no_rows refl (each_plain (paragraph bare) (paragraph_plain bare (λ inner. bare_note_plain)) (out-Note note).pars))))

-- sections
source_plain : (source : Option SectionSource) → ArePlain (source_element source)
source_plain None = refl
source_plain (Some source) =
    let href = unless_empty (codes "xlink:href") source.href in
    let section = unless_empty (codes "text:section-name") source.section in
    one_plain (empty_element (codes "text:section-source") (href ++ section))
    (element_plain (codes "text:section-source") (href ++ section) []
    (joined (unless_row (codes "xlink:href") source.href) (unless_row (codes "text:section-name") source.section)) refl refl)

abbrev section_attributes : Section-F Block Section → List Attr
section_attributes section =
    unless_empty (codes "text:style-name") section.style ++ unless_empty (codes "text:name") section.name
    ++ where_true (codes "text:protected") (codes "true") section.protected ++ where_true (codes "text:display") (codes "none") section.hidden

abbrev section_rows : Section-F Block Section → List Row
section_rows section =
    unless (codes "text:style-name") section.style ∷ unless (codes "text:name") section.name
    ∷ where_so (codes "text:protected") (codes "true") section.protected ∷ where_so (codes "text:display") (codes "none") section.hidden ∷ []

section_by_rows : (section : Section-F Block Section) → AreByRows (section_attributes section) (section_rows section)
section_by_rows section =
    joined
    (joined (joined (unless_row (codes "text:style-name") section.style) (unless_row (codes "text:name") section.name)) (true_row (codes "text:protected") (codes "true") section.protected))
    (true_row (codes "text:display") (codes "none") section.hidden)

par_is : (par : Par) → block_element (par_block par) ≡ paragraph note_element par
par_is par = simp fold-roll-Block

section_is : (section : Section-F Block Section) → block_element (section_block section) ≡ element (codes "text:section") (section_attributes section) (source_element section.source ++ map block_element section.blocks)
section_is section = simp (fold-roll-Block, fold-roll-Section)

abbrev IsPlainBlock : Block → Type 0
IsPlainBlock block = IsPlain (block_element block)

blocks_plain : (blocks : List Block) → Each IsPlainBlock blocks → ArePlain (map block_element blocks)
blocks_plain [] each = refl
blocks_plain (block ∷ blocks) each = more_plain (block_element block) (map block_element blocks) each.0 (blocks_plain blocks each.1)

par_plain : (par : Par) → IsPlainBlock (par_block par)
par_plain par = subst IsPlain (sym (par_is par)) (paragraph_plain note_element note_plain par)

section_plain : (section : Section-F Block Section) → Each IsPlainBlock section.blocks → IsPlainBlock (section_block section)
section_plain section each =
    let source = source_element section.source in
    let blocks = map block_element section.blocks in
    subst IsPlain (sym (section_is section))
    (element_plain (codes "text:section") (section_attributes section) (source ++ blocks) (section_by_rows section) refl (both_plain source blocks (source_plain section.source) (blocks_plain section.blocks each)))

block_plain : (block : Block) → IsPlainBlock block
block_plain = of_block IsPlainBlock par_plain section_plain

-- declarations
abbrev variable_element : List ℕ → Node Elem
variable_element name = empty_element (codes "text:variable-decl") (attribute (codes "office:value-type") (codes "string") ∷ attribute (codes "text:name") name ∷ [])

variable_plain : (name : List ℕ) → IsPlain (variable_element name)
variable_plain name = element_plain (codes "text:variable-decl") _ [] (given_first (codes "office:value-type") (codes "string") (given_first (codes "text:name") name no_rows)) refl refl

abbrev sequence_element : List ℕ → Node Elem
sequence_element name = empty_element (codes "text:sequence-decl") (attribute (codes "text:display-outline-level") (codes "0") ∷ attribute (codes "text:name") name ∷ [])

sequence_plain : (name : List ℕ) → IsPlain (sequence_element name)
sequence_plain name = element_plain (codes "text:sequence-decl") _ [] (given_first (codes "text:display-outline-level") (codes "0") (given_first (codes "text:name") name no_rows)) refl refl

pub text_plain : (doc : Document) → IsPlain (text_element doc)
text_plain doc =
    let variables = variable_declarations doc.variables in
    let sequences = sequence_declarations doc.sequences in
    let blocks = map block_element doc.body in
    element_plain (codes "office:text") (where_true (codes "text:global") (codes "true") doc.global) (variables ++ sequences ++ blocks)
    (true_row (codes "text:global") (codes "true") doc.global) refl
    (both_plain (variables ++ sequences) blocks
    (both_plain variables sequences
    (part_plain (codes "text:variable-decls") (map variable_element doc.variables) refl (each_plain variable_element variable_plain doc.variables))
    (part_plain (codes "text:sequence-decls") (map sequence_element doc.sequences) refl (each_plain sequence_element sequence_plain doc.sequences)))
    (each_plain block_element block_plain doc.body))
