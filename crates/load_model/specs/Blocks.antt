-- Blocks and the content of paragraphs as they are read, with what is left out. A paragraph has the place of its element as its number until the whole document is numbered.
use Rattle.std.specs.Prelude.{ℕ, ◌+◌, ◌-◌, ◌==◌, nat_lt, ◌&&◌, not, Bool, true, false, if◌then◌else◌, List, [], ◌∷◌, ◌++◌, map, filter, length, replicate, take, drop, Option, Some, None, option_map, is_some}
use Rattle.std.specs.Option.{option_map_or}
use Rattle.std.specs.List.{flat_map, list_any}
use Rattle.markup_nodes.specs.Node.{Node, Element as Inner, Char as Letter}
use Rattle.markup_nodes.specs.Nodes.{elems}
use Rattle.doc_model.specs.declared.style.Family.TheVariants as family
use Rattle.doc_model.specs.declared.block.Block.{Block, out-Block, roll-Block}
use Rattle.doc_model.specs.declared.block.Block.TheOpen.{Block-F}
use Rattle.doc_model.specs.declared.block.Section.{Section, roll-Section}
use Rattle.doc_model.specs.declared.block.SectionSource.{SectionSource}
use Rattle.doc_model.specs.declared.block.Kind.TheVariants.{Plain}
use Rattle.doc_model.specs.declared.paragraph.ListPos.{ListPos}
use Rattle.doc_model.specs.declared.paragraph.Par.{Par, out-Par, roll-Par}
use Rattle.doc_model.specs.declared.paragraph.Item.{Item}
use Rattle.doc_model.specs.declared.paragraph.Note.{Note, roll-Note}
use Rattle.doc_model.specs.declared.paragraph.Mark.{Mark}
use Rattle.doc_model.specs.declared.paragraph.Mark.TheVariants.{Point, Start, End}
use Rattle.doc_model.specs.declared.paragraph.What.TheOpen.{What-F}
use Rattle.doc_model.specs.declared.field.Field.{Field}
use Rattle.doc_model.specs.declared.field.NoteClass.TheVariants as class
use Rattle.load_model.specs.declared.names.Key.TheVariants as key
use Rattle.load_model.specs.declared.names.Tag.{Tag}
use Rattle.load_model.specs.declared.names.Tag.TheVariants as tag
use Rattle.load_model.specs.declared.element.Element.{Element}
use Rattle.load_model.specs.declared.element.Element.TheOpen.{Element-F}
use Rattle.load_model.specs.declared.element.Element.TheFolds.{fold-Element}
use Rattle.load_model.specs.declared.element.Attribute.{Attribute}
use Rattle.load_model.specs.Values as value
use Rattle.load_model.specs.Values.{Rule, rule, stated, stated_or, value_of, attributes_left}
use Rattle.load_model.specs.Left.{Left, nothing, only_elements, only_attributes, both, all_of, is_same_tag}
use Rattle.load_model.specs.Styles.{Names, reference, style_reference}
use Rattle.load_model.specs.Met.{Kept, is_at, is_dropped}
use Rattle.load_model.specs.Content.{Raw, Read, item_in, raw_character, spaced, items_of_raw}
use Rattle.load_model.specs.Fields.{field_of, field_rules, is_field, own_name}

-- what is known as a text is read: the names that can be referred to, and what is kept
pub record Known : Type 0 where
  pub names : Names
  pub kept : Kept

-- what stands round the content that is read: the spans that count, the outermost first, and whether it is a note's
pub record Around : Type 0 where
  pub spans : List (List ℕ)
  pub in_note : Bool

-- what stands round the blocks that are read: how many lists, the style of the innermost that states one, and whether it is a note
pub record Lists : Type 0 where
  pub level : ℕ
  pub style : List ℕ
  pub in_note : Bool

-- what is read where the content of a paragraph is
pub record ReadContent : Type 0 where
  pub raws : List Raw
  pub left : Left

-- the source of a section, with what is left out in its element
pub record ReadSource : Type 0 where
  pub source : SectionSource
  pub left : Left

-- a declaration of a name: its place, the name, and what is left out in it where it is kept
pub record Declared : Type 0 where
  pub place : ℕ
  pub name : List ℕ
  pub left : Left

-- declarations: whether of sequences or of variables, and what is left out between them
pub record ReadDeclarations : Type 0 where
  pub sequences : Bool
  pub declared : List Declared
  pub left : Left

-- what is read where blocks are: blocks, and the sources and declarations among them, which count only where a section or the text itself reads them
pub record ReadBlocks : Type 0 where
  pub blocks : List Block
  pub sources : List ReadSource
  pub declarations : List ReadDeclarations
  pub left : Left

-- nothing is read
abbrev pub no_content : Left → ReadContent
no_content left = record { raws = []; left = left }

abbrev pub no_blocks : Left → ReadBlocks
no_blocks left = record { blocks = []; sources = []; declarations = []; left = left }

-- what is read one after another
abbrev pub joined_content : List ReadContent → ReadContent
joined_content parts = record { raws = flat_map (λ part. part.raws) parts; left = all_of (map (λ part. part.left) parts) }

abbrev pub joined_blocks : List ReadBlocks → ReadBlocks
joined_blocks parts = record {
  blocks = flat_map (λ part. part.blocks) parts;
  sources = flat_map (λ part. part.sources) parts;
  declarations = flat_map (λ part. part.declarations) parts;
  left = all_of (map (λ part. part.left) parts);
}

-- more is left out
abbrev pub content_with : Left → ReadContent → ReadContent
content_with left content = record content { left = both left content.left }

abbrev pub blocks_with : Left → ReadBlocks → ReadBlocks
blocks_with left read = record read { left = both left read.left }

-- a passed element counts as one that is left out
abbrev pub one_element : Left
one_element = only_elements 1

-- the attributes that are left out by some rules
abbrev pub left_by : List Rule → List Attribute → Left
left_by rules attributes = only_attributes (attributes_left rules attributes)

-- where sources and declarations aren't read, each is dropped
abbrev pub without_declarations : ReadBlocks → ReadBlocks
without_declarations read = record read { declarations = []; left = both (only_elements (length read.declarations)) read.left }

abbrev pub without_sources : ReadBlocks → ReadBlocks
without_sources read = record read { sources = []; left = both (only_elements (length read.sources)) read.left }

-- where blocks alone are read
abbrev pub blocks_alone : ReadBlocks → ReadBlocks
blocks_alone read = without_sources (without_declarations read)

-- what an element gives by where it stands: where the content of a paragraph is read, where blocks are, where the entries of a list are, and where declarations are. What it holds, read as blocks, stands beside, and what is left out in it where it is a note's citation or body
pub record Gives : Type 0 where
  pub tag : Tag
  pub attributes : List Attribute
  pub place : ℕ
  pub content : Around → ReadContent
  pub blocks : Lists → ReadBlocks
  pub entry : Lists → ReadBlocks
  pub inside : Lists → ReadBlocks
  pub children : ℕ

-- the content that nodes give: characters, and what elements give
abbrev pub node_content : Around → Node Gives → ReadContent
node_content around (Inner gives) = gives.content around
node_content around (Letter c) = record { raws = raw_character around.spans c ∷ []; left = nothing }

abbrev pub content_of : Around → List (Node Gives) → ReadContent
content_of around nodes = joined_content (map (node_content around) nodes)

-- the characters that stand directly in an element
abbrev pub own_text : List (Node Gives) → List ℕ
own_text nodes = flat_map of_node nodes where
  of_node : Node Gives → List ℕ
  of_node (Inner gives) = []
  of_node (Letter c) = c ∷ []

-- an element in which no other has a rule
abbrev pub inner_left : List Gives → Left
inner_left gives = only_elements (length gives)

-- an item that an element without content is, with the rules of its attributes
abbrev pub leaf_items : List Rule → List Attribute → List Gives → List Item → ReadContent
leaf_items rules attributes gives items = record { raws = map Read items; left = both (left_by rules attributes) (inner_left gives) }

-- so many spaces
abbrev pub spaces_content : Around → List Attribute → List Gives → ReadContent
spaces_content around attributes gives =
    leaf_items (rule key.Count (value.number 1 4294967295) ∷ []) attributes gives (replicate (stated_or key.Count (value.number 1 4294967295) 1 attributes) (item_in around.spans (What-F.Char 0x20)))

-- a span: one without a style is passed without a count, one whose style isn't there counts that attribute, and a ninth within eight others is passed
abbrev pub span_content : Known → Around → List Attribute → List (Node Gives) → ReadContent
span_content known around attributes nodes = of_value (value_of key.StyleName attributes) where
  good : List ℕ → ReadContent
  good name =
      if nat_lt (length around.spans) 8
      then content_with (left_by (rule key.StyleName (style_reference known.names family.Text) ∷ []) attributes) (content_of (record around { spans = around.spans ++ name ∷ [] }) nodes)
      else content_with one_element (content_of around nodes)

  of_reference : Option (List ℕ) → ReadContent
  of_reference None = content_with (only_attributes 1) (content_of around nodes)
  of_reference (Some name) = good name

  of_value : Option (List ℕ) → ReadContent
  of_value None = content_of around nodes
  of_value (Some text) = of_reference (style_reference known.names family.Text text)

-- a mark: one that isn't kept is dropped
abbrev pub mark_content : Known → Around → ℕ → (List ℕ → Mark) → List Attribute → List Gives → ReadContent
mark_content known around place mark attributes gives =
    if is_at known.kept.marks place
    then leaf_items (rule key.TextName value.name ∷ []) attributes gives (item_in around.spans (What-F.Mark (mark (stated_or key.TextName value.name [] attributes))) ∷ [])
    else no_content one_element

-- a field: one that lacks the name that it needs is dropped
abbrev pub field_content : Known → Around → Tag → ℕ → List Attribute → List (Node Gives) → ReadContent
field_content known around which place attributes nodes = of_field (field_of which (is_at known.kept.references place) (spaced (own_text nodes)) attributes) where
  of_field : Option Field → ReadContent
  of_field None = no_content one_element
  of_field (Some field) = leaf_items (field_rules which (is_at known.kept.references place)) attributes (elems nodes) (item_in around.spans (What-F.Field field) ∷ [])

-- the first of a tag, and how many are not of these
abbrev pub first_given : Tag → List Gives → List Gives
first_given wanted [] = []
first_given wanted (one ∷ more) = if is_same_tag one.tag wanted then one ∷ [] else first_given wanted more

abbrev pub of_tag : Tag → List Gives → List Gives
of_tag wanted gives = filter (λ one. is_same_tag one.tag wanted) gives

-- blocks are read in a note outside of all lists
abbrev pub lists_of_note : Lists
lists_of_note = record { level = 0; style = []; in_note = true }

-- a paragraph without a style, a list place and items, which has a place of a file as its number
abbrev pub empty_paragraph : ℕ → Par
empty_paragraph place = roll-Par (record { id = record { 0 = place }; style = []; level = 0; list = None; items = [] })

abbrev pub as_block : Par → Block
as_block par = roll-Block (Block-F.Par par)

-- blocks, or an empty paragraph where there are none
abbrev pub or_empty : ℕ → List Block → List Block
or_empty place [] = as_block (empty_paragraph place) ∷ []
or_empty place (block ∷ blocks) = block ∷ blocks

-- the paragraphs among blocks
abbrev pub paragraphs_of : List Block → List Par
paragraphs_of blocks = flat_map (λ block. of_block (out-Block block)) blocks where
  of_block : Block-F Block Section → List Par
  of_block (Block-F.Par par) = par ∷ []
  of_block (Block-F.Section section) = []

-- the rules of a note
abbrev pub note_rules : Bool → List Rule
note_rules is_first = rule key.Id (own_name is_first) ∷ rule key.NoteClass value.note_class ∷ []

-- the blocks of a note's body, of which the first is read
abbrev pub note_blocks : List Gives → ReadBlocks
note_blocks gives = joined_blocks (map (λ body. blocks_alone (body.inside lists_of_note)) (first_given tag.NoteBody gives))

-- what is left out round them: the other elements, and the attributes of the body and of citations
abbrev pub note_left : List Gives → Left
note_left gives =
    both (only_elements (length gives - (length (first_given tag.NoteBody gives) + length (of_tag tag.NoteCitation gives))))
    (all_of (map (λ one. left_by [] one.attributes) (first_given tag.NoteBody gives ++ of_tag tag.NoteCitation gives)))

-- a note: one within a note is dropped
abbrev pub note_content : Known → Around → ℕ → List Attribute → List Gives → ReadContent
note_content known around place attributes gives = if around.in_note then no_content one_element else read where
  note : Note
  note = roll-Note (record {
    id = stated_or key.Id (own_name (is_at known.kept.notes place)) [] attributes;
    class = stated_or key.NoteClass value.note_class class.Footnote attributes;
    pars = paragraphs_of (or_empty place (note_blocks gives).blocks);
  })

  read : ReadContent
  read = record {
    raws = Read (item_in around.spans (What-F.Note note)) ∷ [];
    left = all_of (left_by (note_rules (is_at known.kept.notes place)) attributes ∷ note_left gives ∷ (note_blocks gives).left ∷ []);
  }

-- what an element gives where the content of a paragraph is read. One without a rule is passed, but for those that are dropped
abbrev pub element_content : Known → Tag → ℕ → List Attribute → List (Node Gives) → Around → ReadContent
element_content known tag.Span place attributes nodes around = span_content known around attributes nodes
element_content known tag.Spaces place attributes nodes around = spaces_content around attributes (elems nodes)
element_content known tag.Tab place attributes nodes around = leaf_items [] attributes (elems nodes) (item_in around.spans What-F.Tab ∷ [])
element_content known tag.LineBreak place attributes nodes around = leaf_items [] attributes (elems nodes) (item_in around.spans What-F.Break ∷ [])
element_content known tag.Note place attributes nodes around = note_content known around place attributes (elems nodes)
element_content known tag.Bookmark place attributes nodes around = mark_content known around place Point attributes (elems nodes)
element_content known tag.BookmarkStart place attributes nodes around = mark_content known around place Start attributes (elems nodes)
element_content known tag.BookmarkEnd place attributes nodes around = mark_content known around place End attributes (elems nodes)
element_content known which place attributes nodes around =
    if is_field which then field_content known around which place attributes nodes
    else if is_dropped which then no_content one_element
    else content_with one_element (content_of around nodes)

-- the rules of a paragraph and of a heading
abbrev pub paragraph_rules : Known → List Rule
paragraph_rules known = rule key.StyleName (style_reference known.names family.Paragraph) ∷ []

abbrev pub heading_rules : Known → List Rule
heading_rules known = rule key.StyleName (style_reference known.names family.Paragraph) ∷ rule key.OutlineLevel value.heading_level ∷ []

-- the list place within so many lists: it is not yet said whether it begins an item, or counting
abbrev pub list_place : Lists → Option ListPos
list_place lists = if lists.level == 0 then None else Some (record { style = lists.style; level = lists.level; item = false; fresh = false })

-- a paragraph
abbrev pub paragraph_block : Known → Lists → ℕ → ℕ → List Rule → List Attribute → List (Node Gives) → ReadBlocks
paragraph_block known lists place level rules attributes nodes = record {
  blocks = as_block (roll-Par (record {
    id = record { 0 = place };
    style = stated_or key.StyleName (style_reference known.names family.Paragraph) [] attributes;
    level = level;
    list = list_place lists;
    items = items_of_raw content.raws;
  })) ∷ [];
  sources = [];
  declarations = [];
  left = both (left_by rules attributes) content.left;
} where
  content : ReadContent
  content = content_of (record { spans = []; in_note = lists.in_note }) nodes

-- the paragraph with a change made to its list place
abbrev pub with_place : (ListPos → ListPos) → Par → Par
with_place change par = roll-Par (record (out-Par par) { list = option_map change (out-Par par).list })

-- whether a paragraph stands directly within so many lists
abbrev pub is_directly_in : ℕ → Block → Bool
is_directly_in level block = list_any (λ par. option_map_or (λ place. place.level == level) (out-Par par).list false) (paragraphs_of (block ∷ []))

-- blocks of which the first that passes a test has its list place changed
abbrev pub first_changed : (Block → Bool) → (ListPos → ListPos) → List Block → List Block
first_changed test change [] = []
first_changed test change (block ∷ blocks) =
    if test block then map (λ par. as_block (with_place change par)) (paragraphs_of (block ∷ [])) ++ blocks
    else block ∷ first_changed test change blocks

-- the list that an element begins within others
abbrev pub inner_list : Known → Lists → List Attribute → Lists
inner_list known lists attributes = record lists { level = lists.level + 1; style = stated_or key.StyleName (reference known.names.lists) lists.style attributes }

-- a list: only items and headers are read in it. The first paragraph of an outermost list begins counting anew, where the list doesn't say that it goes on
abbrev pub list_blocks : Known → Lists → List Attribute → List Gives → ReadBlocks
list_blocks known lists attributes gives =
    blocks_with (left_by (rule key.StyleName (reference known.names.lists) ∷ rule key.ContinueNumbering value.truth ∷ []) attributes) (if begins then record entries { blocks = first_changed (λ block. true) (λ place. record place { fresh = true }) entries.blocks } else entries) where
      entries : ReadBlocks
      entries = joined_blocks (map (λ one. one.entry (inner_list known lists attributes)) gives)

      begins : Bool
      begins = lists.level == 0 && not (stated_or key.ContinueNumbering value.truth false attributes)

-- what an element gives where the entries of a list are read: the first paragraph directly in an item begins it
abbrev pub entry_blocks : Tag → List Attribute → List Gives → Lists → ReadBlocks
entry_blocks which attributes gives lists = of_tag which where
  held : ReadBlocks
  held = blocks_with (left_by [] attributes) (blocks_alone (joined_blocks (map (λ one. one.blocks lists) gives)))

  of_tag : Tag → ReadBlocks
  of_tag tag.ListItem = record held { blocks = first_changed (is_directly_in lists.level) (λ place. record place { item = true }) held.blocks }
  of_tag tag.ListHeader = held
  of_tag _ = no_blocks one_element

-- the rules of a section
abbrev pub section_rules : Known → List Rule
section_rules known = rule key.TextName value.name ∷ rule key.StyleName (style_reference known.names family.Section) ∷ rule key.Protected value.truth ∷ rule key.Display value.display ∷ []

-- a section that is kept, of which the first source is read
abbrev pub kept_section : Known → ℕ → List Attribute → ReadBlocks → ReadBlocks
kept_section known place attributes held = record {
  blocks = roll-Block (Block-F.Section (roll-Section (record {
    kind = Plain;
    name = stated_or key.TextName value.name [] attributes;
    style = stated_or key.StyleName (style_reference known.names family.Section) [] attributes;
    protected = stated_or key.Protected value.truth false attributes;
    hidden = not (stated_or key.Display value.display true attributes);
    source = first_source held.sources;
    blocks = or_empty place held.blocks;
  }))) ∷ [];
  sources = [];
  declarations = [];
  left = all_of (left_by (section_rules known) attributes ∷ all_of (map (λ read. read.left) (take 1 held.sources)) ∷ only_elements (length (drop 1 held.sources)) ∷ held.left ∷ []);
} where
  first_source : List ReadSource → Option SectionSource
  first_source [] = None
  first_source (read ∷ more) = Some read.source

-- a section: one that isn't kept is passed, and what it holds is read at its place
abbrev pub section_blocks : Known → Lists → ℕ → List Attribute → List Gives → ReadBlocks
section_blocks known lists place attributes gives =
    if is_at known.kept.sections place then kept_section known place attributes (without_declarations held) else blocks_with one_element held where
      held : ReadBlocks
      held = joined_blocks (map (λ one. one.blocks lists) gives)

-- the source of a section
abbrev pub source_blocks : List Attribute → List Gives → ReadBlocks
source_blocks attributes gives = record (no_blocks nothing) { sources = record { source = source; left = both (left_by rules attributes) (inner_left gives) } ∷ [] } where
  source : SectionSource
  source = record { href = stated_or key.Href value.name_or_none [] attributes; section = stated_or key.SectionName value.name_or_none [] attributes }

  rules : List Rule
  rules = rule key.Href value.name_or_none ∷ rule key.SectionName value.name_or_none ∷ []

-- declarations of names: those without a name are left out. Whether a name came before is told of all of them
abbrev pub declaration_blocks : Bool → Tag → List Attribute → List Gives → ReadBlocks
declaration_blocks sequences which attributes gives = record (no_blocks nothing) { declarations = record { sequences = sequences; declared = map declared named; left = left } ∷ [] } where
  named : List Gives
  named = filter (λ one. is_same_tag one.tag which && is_some (stated key.TextName value.name one.attributes)) gives

  declared : Gives → Declared
  declared one = record { place = one.place; name = stated_or key.TextName value.name [] one.attributes; left = both (left_by (rule key.TextName value.name ∷ []) one.attributes) (only_elements one.children) }

  left : Left
  left = both (left_by [] attributes) (only_elements (length gives - length named))

-- what an element gives where blocks are read
abbrev pub element_blocks : Known → Tag → ℕ → List Attribute → List (Node Gives) → Lists → ReadBlocks
element_blocks known tag.Paragraph place attributes nodes lists = paragraph_block known lists place 0 (paragraph_rules known) attributes nodes
element_blocks known tag.Heading place attributes nodes lists = paragraph_block known lists place (stated_or key.OutlineLevel value.heading_level 1 attributes) (heading_rules known) attributes nodes
element_blocks known tag.List place attributes nodes lists = list_blocks known lists attributes (elems nodes)
element_blocks known tag.Section place attributes nodes lists = section_blocks known lists place attributes (elems nodes)
element_blocks known tag.Index place attributes nodes lists = blocks_with one_element (joined_blocks (map (λ one. one.blocks lists) (elems nodes)))
element_blocks known tag.SectionSource place attributes nodes lists = source_blocks attributes (elems nodes)
element_blocks known tag.VariableDeclarations place attributes nodes lists = declaration_blocks false tag.VariableDeclaration attributes (elems nodes)
element_blocks known tag.SequenceDeclarations place attributes nodes lists = declaration_blocks true tag.SequenceDeclaration attributes (elems nodes)
element_blocks known _ place attributes nodes lists = no_blocks one_element

-- what an element gives
abbrev pub gives_of : Known → Element → Gives
gives_of known = fold-Element Gives of_element where
  of_element : Element-F Gives → Gives
  of_element element = record {
    tag = element.tag;
    attributes = element.attributes;
    place = element.place;
    content = element_content known element.tag element.place element.attributes element.nodes;
    blocks = element_blocks known element.tag element.place element.attributes element.nodes;
    entry = entry_blocks element.tag element.attributes (elems element.nodes);
    inside = λ lists. joined_blocks (map (λ one. one.blocks lists) (elems element.nodes));
    children = length (elems element.nodes);
  }
