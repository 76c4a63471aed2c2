-- Written paragraphs, notes and sections are in place.
use Rattle.std.proofs.Common.{◌≡◌, ℕ, ◌&&◌, ◌||◌, zero, suc, Bool, true, false, List, [], ◌∷◌, ◌++◌, map, codes, refl, sym, ap, subst, ◌∙◌, append_assoc, append-nil, Option, Some, None, is_some}
use Rattle.std.specs.List.{flat_map, AllByRecursion as Each, list_all}
use Rattle.std.specs.Option.{option_and_then}
use Rattle.markup_nodes.specs.declared.words.Attr.{Attr}
use Rattle.markup_nodes.specs.declared.tree.Elem.{Elem}
use Rattle.markup_nodes.specs.Node.{Node}
use Rattle.doc_model.specs.declared.block.Block.{Block}
use Rattle.doc_model.specs.declared.block.Block.TheOpen.{Section-F}
use Rattle.doc_model.specs.declared.block.Section.{Section}
use Rattle.doc_model.specs.declared.block.SectionSource.{SectionSource}
use Rattle.doc_model.specs.declared.paragraph.Item.{Item}
use Rattle.doc_model.specs.declared.paragraph.ListPos.{ListPos}
use Rattle.doc_model.specs.declared.paragraph.Note.{Note, out-Note}
use Rattle.doc_model.specs.declared.paragraph.Par.{Par, out-Par}
use Rattle.doc_model.specs.declared.paragraph.What.{What}
use Rattle.doc_model.specs.declared.paragraph.What.TheOpen.{What-F}
use Rattle.doc_model.specs.Parts.{SectionHead, block_sections, items_of, what_of}
use Rattle.doc_model.specs.Reading.{block_paragraphs}
use Rattle.block_facts.proofs.Blocks.{of_blocks, par_block, par_reads, section_block, section_reads}
use Rattle.load_model.specs.declared.names.Key.TheVariants as key
use Rattle.load_model.specs.declared.names.Tag.TheVariants as tag
use Rattle.load_model.specs.declared.element.Attribute.{Attribute}
use Rattle.load_model.specs.Values as value
use Rattle.load_model.specs.Values.{stated}
use Rattle.written_model.specs.Blocks.{bare_paragraph, below, block_element, entry_element, listed_paragraph, nested_entry, note_element, paragraph, source_element}
use Rattle.written_model.specs.Content.{content, what_node}
use Rattle.written_model.specs.Elements.{attribute, element, empty_element, unless_empty, where_true}
use Rattle.written_model.specs.Values.{class_text}
use Rattle.back_names.specs.Named.{named_attribute}
use Rattle.back_blocks.proofs.Keys as block_name
use Rattle.back_blocks.proofs.Opened.{element_par, element_section}
use Rattle.back_blocks.proofs.Joins.{at_true, named_true, past_unless}
use Rattle.back_fields.specs.Fit.{IsName, IsNameOrNone}
use Rattle.back_fields.proofs.Attributes.{at, at_unless, named_first, named_unless}
use Rattle.back_fields.proofs.Keys as field_name
use Rattle.back_met.proofs.Blocks.{IsNamedInner, IsNamedItem, IsNamedNote}
use Rattle.back_met.proofs.Named.{IsNoNote}
use Rattle.back_paragraphs.proofs.Keys as par_name
use Rattle.back_spans.proofs.Runs.{each_both, style_name_key}
use Rattle.back_valid.proofs.Blocks.{section_sections}
use Rattle.back_values.proofs.Texts.{name_back}
use Rattle.back_text.proofs.Contents.{AreContent, IsContent, content_stand, is_content, what_stands}
use Rattle.back_text.proofs.Stood.{Stand, both_stand, each_stand, one_stands, stood, stood_element}
use Rattle.back_text_places.proofs.Steps.{stands_with}
use Rattle.back_text_places.specs.Standing.{Standing, first_standing, has_name, has_name_or_none}

abbrev pub AreBlocks : Bool → List (Node Elem) → Type 0
AreBlocks sections = Stand (λ (one : Standing). one.blocks sections)

abbrev AreEntries : List (Node Elem) → Type 0
AreEntries = Stand (λ (one : Standing). one.entry)

-- a paragraph, in lists or not
module _ (note_node : Note → Node Elem) (sections : Bool) where
  bare_stands : (sections : Bool) (par : Par) → AreContent (content note_node (out-Par par).items) → AreBlocks sections (bare_paragraph note_node par ∷ [])
  bare_stands sections par are = by_level (out-Par par).level refl where
    by_level : (level : ℕ) → (out-Par par).level ≡ level → AreBlocks sections (bare_paragraph note_node par ∷ [])
    by_level zero e = rw e (one_stands (λ (one : Standing). one.blocks sections) (codes "text:p") _ (content note_node (out-Par par).items) tag.Paragraph par_name.paragraph_tag are)
    by_level (suc level) e = rw e (one_stands (λ (one : Standing). one.blocks sections) (codes "text:h") _ (content note_node (out-Par par).items) tag.Heading par_name.heading_tag are)

  entry_stands : (item : Bool) (node : Node Elem) → AreBlocks false (node ∷ []) → AreEntries (entry_element item node ∷ [])
  entry_stands true node are = one_stands (λ (one : Standing). one.entry) (codes "text:list-item") [] (node ∷ []) tag.ListItem par_name.item_tag are
  entry_stands false node are = one_stands (λ (one : Standing). one.entry) (codes "text:list-header") [] (node ∷ []) tag.ListHeader par_name.header_tag are

  nested_stands : (levels : ℕ) (entry : Node Elem) → AreEntries (entry ∷ []) → AreEntries (nested_entry levels entry ∷ [])
  nested_stands zero entry are = are
  nested_stands (suc deeper) entry are =
      let inner : List (Node Elem) = nested_entry deeper entry ∷ [] in
      one_stands (λ (one : Standing). one.entry) (codes "text:list-item") [] (element (codes "text:list") [] inner ∷ []) tag.ListItem par_name.item_tag
      (one_stands (λ (one : Standing). one.blocks false) (codes "text:list") [] inner tag.List par_name.list_tag (nested_stands deeper entry are))

  pub paragraph_stands : (par : Par) → AreContent (content note_node (out-Par par).items) → AreBlocks sections (paragraph note_node par ∷ [])
  paragraph_stands par are = by_list (out-Par par).list refl where
    listed : (place : ListPos) → AreBlocks sections (listed_paragraph place (bare_paragraph note_node par) ∷ [])
    listed place =
        let entry : Node Elem = nested_entry (below place.level) (entry_element place.item (bare_paragraph note_node par)) in
        one_stands (λ (one : Standing). one.blocks sections) (codes "text:list") _ (entry ∷ []) tag.List par_name.list_tag (nested_stands (below place.level) _ (entry_stands place.item _ (bare_stands false par are)))

    by_list : (list : Option ListPos) → (out-Par par).list ≡ list → AreBlocks sections (paragraph note_node par ∷ [])
    by_list None e = rw e (bare_stands sections par are)
    by_list (Some place) e = rw e (listed place)

-- a note
abbrev empty_note : Note → Node Elem
empty_note inner = empty_element (codes "text:note") []

inner_stands : (item : Item) → IsNamedInner item → IsContent (what_node empty_note (what_of item))
inner_stands item is = what_stands empty_note (what_of item) is.0 (λ note e. absurd (no_note (what_of item) note e is.1)) where
  no_note : (what : What-F What Item Note Par) (note : Note) → what ≡ What-F.Note note → IsNoNote what → ⊥
  no_note (What-F.Note own) note e is = is
  no_note (What-F.Char c) note e is = cc
  no_note What-F.Tab note e is = cc
  no_note What-F.Break note e is = cc
  no_note (What-F.Field field) note e is = cc
  no_note (What-F.Mark mark) note e is = cc

pars_stand : (pars : List Par) → Each (λ par. Each IsNamedInner (items_of par)) pars → AreBlocks false (map (paragraph empty_note) pars)
pars_stand pars each = each_stand (λ (one : Standing). one.blocks false) (paragraph empty_note) pars (all_of pars each) where
  all_of : (pars : List Par) → Each (λ par. Each IsNamedInner (items_of par)) pars → Each (λ par. AreBlocks false (paragraph empty_note par ∷ [])) pars
  all_of [] each = tt
  all_of (par ∷ pars) each = (paragraph_stands empty_note false par (content_stand empty_note IsNamedInner inner_stands (out-Par par).items each.0), all_of pars each.1)

id_stands : (id class : List ℕ) → IsNameOrNone id → has_name_or_none key.Id (at_unless key.Id id (at key.NoteClass class ∷ [])) ≡ true
id_stands [] class few = refl
id_stands (c ∷ cs) class few = ap (λ (found : Option (List ℕ)). is_some found || false) (name_back (c ∷ cs) (λ e. cc) few)

both_are : (one more : Bool) → one ≡ true → more ≡ true → (one && more) ≡ true
both_are true true e f = refl
both_are true false e f = cc
both_are false more e f = cc

note_stands : (note : Note) → IsNamedNote note → IsContent (note_element note)
note_stands note is =
    let x = out-Note note in
    let inner : List (Node Elem) = map (paragraph empty_note) x.pars in
    let body : List (Node Elem) = element (codes "text:note-body") [] inner ∷ [] in
    let attrs : List Attr = unless_empty (codes "text:id") x.id ++ attribute (codes "text:note-class") (class_text x.class) ∷ [] in
    one_stands is_content (codes "text:note") attrs (empty_element (codes "text:note-citation") [] ∷ body) tag.Note par_name.note_tag
    (both_are (has_name_or_none key.Id (map named_attribute attrs)) (list_all (λ (one : Standing). one.inside false) (first_standing tag.NoteBody (stood (empty_element (codes "text:note-citation") [] ∷ body))))
    (ap (has_name_or_none key.Id) (named_unless (codes "text:id") x.id key.Id (attribute (codes "text:note-class") (class_text x.class) ∷ []) (at key.NoteClass (class_text x.class) ∷ []) par_name.id_key
    (named_first (codes "text:note-class") (class_text x.class) key.NoteClass [] [] field_name.note_class_key refl)) ∙ id_stands x.id (class_text x.class) is.id)
    (ap (λ (all : List Standing). list_all (λ (one : Standing). one.inside false) (first_standing tag.NoteBody all))
    (stood_element (codes "text:note-citation") [] [] body tag.NoteCitation par_name.citation_tag ∙ ap (λ (more : List Standing). stands_with tag.NoteCitation [] [] ∷ more) (stood_element (codes "text:note-body") [] inner [] tag.NoteBody par_name.body_tag))
    ∙ both_are (list_all (λ (one : Standing). one.blocks false) (stood inner)) true (pars_stand x.pars is.each_inner) refl))

item_stands : (item : Item) → IsNamedItem item → IsContent (what_node note_element (what_of item))
item_stands item is = what_stands note_element (what_of item) is.0 (λ note e. own_note (what_of item) note e is.1) where
  notes_in : What-F What Item Note Par → List Note
  notes_in (What-F.Note note) = note ∷ []
  notes_in _ = []

  own_note : (what : What-F What Item Note Par) (note : Note) → what ≡ What-F.Note note → Each IsNamedNote (notes_in what) → IsContent (note_element note)
  own_note what note e each = note_stands note (subst (λ (one : What-F What Item Note Par). Each IsNamedNote (notes_in one)) e each).0

-- a section by what is written of it
module _ (x : Section-F Block Section) where
  abbrev guarded : List Attribute
  guarded = at_true key.Protected (codes "true") x.protected (at_true key.Display (codes "none") x.hidden [])

  abbrev attributes : List Attribute
  attributes = at_unless key.StyleName x.style (at_unless key.TextName x.name guarded)

  abbrev section_attrs : List Attr
  section_attrs = unless_empty (codes "text:style-name") x.style ++ unless_empty (codes "text:name") x.name ++ where_true (codes "text:protected") (codes "true") x.protected ++ where_true (codes "text:display") (codes "none") x.hidden

  four_parts : (a b c d : List Attr) → ((a ++ b) ++ c) ++ d ≡ a ++ (b ++ (c ++ (d ++ [])))
  four_parts a b c d = simp append_assoc (ap (λ (end : List Attr). a ++ (b ++ (c ++ end))) (sym (append-nil d)))

  attrs_named : map named_attribute section_attrs ≡ attributes
  attrs_named =
      ap (map named_attribute) (four_parts (unless_empty (codes "text:style-name") x.style) (unless_empty (codes "text:name") x.name) (where_true (codes "text:protected") (codes "true") x.protected) (where_true (codes "text:display") (codes "none") x.hidden))
      ∙ named_unless (codes "text:style-name") x.style key.StyleName (unless_empty (codes "text:name") x.name ++ (where_true (codes "text:protected") (codes "true") x.protected ++ (where_true (codes "text:display") (codes "none") x.hidden ++ [])))
      (at_unless key.TextName x.name guarded) style_name_key
      (named_unless (codes "text:name") x.name key.TextName (where_true (codes "text:protected") (codes "true") x.protected ++ (where_true (codes "text:display") (codes "none") x.hidden ++ [])) guarded field_name.name_key
      (named_true (codes "text:protected") (codes "true") key.Protected x.protected (where_true (codes "text:display") (codes "none") x.hidden ++ []) (at_true key.Display (codes "none") x.hidden []) block_name.protected_key
      (named_true (codes "text:display") (codes "none") key.Display x.hidden [] [] field_name.display_key refl)))

  name_stated : IsName x.name → has_name key.TextName attributes ≡ true
  name_stated is = ap (λ (found : Option (List ℕ)). is_some (option_and_then value.name found)) (past_unless key.StyleName key.TextName x.style (at_unless key.TextName x.name guarded) refl) ∙ by_name x.name is where
    by_name : (name : List ℕ) → IsName name → has_name key.TextName (at_unless key.TextName name guarded) ≡ true
    by_name [] is = absurd (is.0 refl)
    by_name (c ∷ cs) is = ap is_some (name_back (c ∷ cs) is.0 is.1)

source_stands : (source : Option SectionSource) → AreBlocks true (source_element source)
source_stands None = refl
source_stands (Some source) = one_stands (λ (one : Standing). one.blocks true) (codes "text:section-source") _ [] tag.SectionSource block_name.source_tag refl

-- blocks whose items and sections have names
abbrev IsNamedBlock : Block → Type 0
IsNamedBlock block = Each (λ par. Each IsNamedItem (items_of par)) (block_paragraphs block) × Each (λ section. IsName section.name) (block_sections block)

abbrev IsStanding : Block → Type 0
IsStanding block = IsNamedBlock block → AreBlocks true (block_element block ∷ [])

par_case : (par : Par) → IsStanding (par_block par)
par_case par is =
    subst (λ (node : Node Elem). AreBlocks true (node ∷ [])) (sym (element_par par))
    (paragraph_stands note_element true par (content_stand note_element IsNamedItem item_stands (out-Par par).items (subst (Each (λ one. Each IsNamedItem (items_of one))) (par_reads par) is.0).0))

blocks_stand : (blocks : List Block) → Each IsStanding blocks → Each (λ par. Each IsNamedItem (items_of par)) (flat_map block_paragraphs blocks) → Each (λ section. IsName section.name) (flat_map block_sections blocks)
    → AreBlocks true (map block_element blocks)
blocks_stand [] each pars heads = refl
blocks_stand (block ∷ blocks) each pars heads =
    let own_pars = each_both (λ par. Each IsNamedItem (items_of par)) (block_paragraphs block) (flat_map block_paragraphs blocks) pars in
    let own_heads = each_both (λ (section : SectionHead). IsName section.name) (block_sections block) (flat_map block_sections blocks) heads in
    both_stand (λ (one : Standing). one.blocks true) (block_element block ∷ []) (map block_element blocks) (each.0 (own_pars.0, own_heads.0)) (blocks_stand blocks each.1 own_pars.1 own_heads.1)

section_case : (x : Section-F Block Section) → Each IsStanding x.blocks → IsStanding (section_block x)
section_case x each is =
    let heads = subst (Each (λ (section : SectionHead). IsName section.name)) (section_sections x) is.1 in
    let pars = subst (Each (λ par. Each IsNamedItem (items_of par))) (section_reads x) is.0 in
    subst (λ (node : Node Elem). AreBlocks true (node ∷ [])) (sym (element_section x))
    (one_stands (λ (one : Standing). one.blocks true) (codes "text:section") (section_attrs x) (source_element x.source ++ map block_element x.blocks) tag.Section block_name.section_tag
    (both_are (has_name key.TextName (map named_attribute (section_attrs x))) (list_all (λ (one : Standing). one.blocks true) (stood (source_element x.source ++ map block_element x.blocks)))
    (ap (has_name key.TextName) (attrs_named x) ∙ name_stated x heads.0)
    (both_stand (λ (one : Standing). one.blocks true) (source_element x.source) (map block_element x.blocks) (source_stands x.source) (blocks_stand x.blocks each pars heads.1))))

pub all_stand : (blocks : List Block) → Each (λ par. Each IsNamedItem (items_of par)) (flat_map block_paragraphs blocks) → Each (λ section. IsName section.name) (flat_map block_sections blocks) → AreBlocks true (map block_element blocks)
all_stand blocks pars heads = blocks_stand blocks (of_blocks IsStanding par_case section_case blocks) pars heads
