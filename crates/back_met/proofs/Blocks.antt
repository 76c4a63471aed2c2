-- What is met of notes, of blocks and of a whole text.
use Rattle.std.proofs.Common.{◌≡◌, ℕ, Bool, false, List, [], ◌∷◌, ◌++◌, map, codes, refl, sym, ap, ap₂, ◌∙◌, subst, append-nil, append_assoc, Option, Some, None}
use Rattle.std.specs.List.{flat_map, AllByRecursion as Each}
use Rattle.std.specs.Option.{option_and_then}
use Rattle.std.proofs.lemmas.List.Folds.{flat_map-map}
use Rattle.markup_nodes.specs.declared.words.Attr.{Attr}
use Rattle.markup_nodes.specs.declared.tree.Elem.{Elem}
use Rattle.markup_nodes.specs.Node.{Node, Element}
use Rattle.doc_model.specs.declared.block.Block.{Block}
use Rattle.doc_model.specs.declared.block.Block.TheOpen.{Section-F}
use Rattle.doc_model.specs.declared.block.Block.TheFolds.{fold-roll-Block, fold-roll-Section}
use Rattle.doc_model.specs.declared.block.Section.{Section}
use Rattle.doc_model.specs.declared.block.SectionSource.{SectionSource}
use Rattle.doc_model.specs.declared.document.Document.{Document}
use Rattle.doc_model.specs.declared.paragraph.Item.{Item}
use Rattle.doc_model.specs.declared.paragraph.Note.{Note as DocNote, out-Note}
use Rattle.doc_model.specs.declared.paragraph.Par.{Par}
use Rattle.doc_model.specs.declared.paragraph.What.{What}
use Rattle.doc_model.specs.declared.paragraph.What.TheOpen.{What-F}
use Rattle.doc_model.specs.Parts.{SectionHead, block_sections, items_of, sections, what_of}
use Rattle.doc_model.specs.Reading.{block_paragraphs, body_paragraphs, note_of}
use Rattle.block_facts.proofs.Blocks.{of_blocks, par_block, par_reads, section_block, section_reads}
use Rattle.load_model.specs.declared.names.Key.TheVariants as key
use Rattle.load_model.specs.declared.names.Tag.{Tag}
use Rattle.load_model.specs.declared.names.Tag.TheVariants as tag
use Rattle.load_model.specs.declared.element.Attribute.{Attribute}
use Rattle.load_model.specs.declared.element.Element.{Element as Read, out-Element}
use Rattle.load_model.specs.Met.{Gives, Met, Note, Section as MetSection, Where, each, in_blocks, in_note, met_in, named_at, section_met}
use Rattle.load_model.specs.Values as value
use Rattle.load_model.specs.Values.{stated}
use Rattle.written_model.specs.Blocks.{block_element, note_element, paragraph, source_element}
use Rattle.written_model.specs.Content.{what_node}
use Rattle.written_model.specs.Elements.{attribute, element, empty_element, part, unless_empty, where_true}
use Rattle.written_model.specs.Values.{class_text}
use Rattle.written_model.specs.Written.{sequence_declarations, text_element, variable_declarations}
use Rattle.back_names.specs.Named.{named, named_attribute, named_node, placeless, tag_named}
use Rattle.back_names.proofs.Parts.{elem_of}
use Rattle.back_fields.specs.Fit.{IsName, IsNameOrNone}
use Rattle.back_fields.proofs.Attributes.{at, at_unless, named_first, named_unless}
use Rattle.back_fields.proofs.Keys as field_name
use Rattle.back_paragraphs.proofs.Keys as par_name
use Rattle.back_spans.proofs.Runs.{each_both, style_name_key}
use Rattle.back_values.proofs.Texts.{name_back}
use Rattle.back_blocks.proofs.Joins.{at_true, named_true, past_unless}
use Rattle.back_blocks.proofs.Keys as block_name
use Rattle.back_blocks.proofs.Opened.{element_par, element_section}
use Rattle.back_valid.proofs.Blocks.{section_sections}
use Rattle.met_read.specs.Walk.{held}
use Rattle.met_read.proofs.WalkLemmas.{inside_out}
use Rattle.back_met.proofs.Contents.{items_met}
use Rattle.back_met.proofs.Named.{IsNamedWhat, IsNoNote, break_is, char_is, field_is, inner_met, mark_is, tab_is}
use Rattle.back_met.proofs.Nodes.{AreNodesOf, IsNodeOf, blocks_met, blocks_one, content_met, content_one, element_of, is_of, nodes_met, parted}
use Rattle.back_met.proofs.Paragraphs.{note_body, par_met, pars_met}
use Rattle.back_met.specs.Things.{block_things, AreMet, Counted, Headed, IsInner, IsMet, Marked, Noted, Thing, if_any, note_items, things_in, things_of}
use Rattle.back_met.proofs.Parts.{met_both, met_is, met_one}

-- the names in a note, and in an item with its note, can be read
abbrev pub IsNamedInner : Item → Type 0
IsNamedInner item = IsNamedWhat (what_of item) × IsNoNote (what_of item)

pub record IsNamedNote (note : DocNote) : Type 0 where
  pub id : IsNameOrNone (out-Note note).id
  pub each_inner : Each (λ par. Each IsNamedInner (items_of par)) (out-Note note).pars

abbrev pub IsNamedItem : Item → Type 0
IsNamedItem item = IsNamedWhat (what_of item) × Each IsNamedNote (note_of item)

abbrev notes_in : What-F What Item DocNote Par → List DocNote
notes_in (What-F.Note note) = note ∷ []
notes_in _ = []

abbrev empty_note : DocNote → Node Elem
empty_note inner = empty_element (codes "text:note") []

abbrev in_body : Bool → List ℕ → Where
in_body in_list sections = record { text = 0; in_list = in_list; sections = sections }

-- what a note holds
inner_read : (place : ℕ) (note : DocNote) → IsNamedNote note → (ts : List (Node Read)) → AreNodesOf ts (map (paragraph empty_note) (out-Note note).pars)
    → AreMet (IsInner place) (flat_map things_of (note_items note)) (blocks_met (in_note place) ts)
inner_read place note is ts are =
    pars_met place [] empty_note (IsInner place) IsNamedInner
    (λ in_list items. items_met empty_note (IsInner place) (record { text = place; in_list = in_list; sections = [] }) IsNamedInner
    (λ item fine t of. inner_met (record { text = place; in_list = in_list; sections = [] }) empty_note (what_of item) fine t of) items)
    false (out-Note note).pars is.each_inner ts are

id_stated : (id : List ℕ) (class : List ℕ) → IsNameOrNone id → stated key.Id value.name (at_unless key.Id id (at key.NoteClass class ∷ [])) ≡ if_any id
id_stated [] class few = refl
id_stated (c ∷ cs) class few = name_back (c ∷ cs) (λ e. cc) few

note_read : (in_list : Bool) (sections : List ℕ) (note : DocNote) → IsNamedNote note → (t : Node Read) → IsNodeOf t (note_element note) → IsMet (Noted note) (content_met (in_body in_list sections) (t ∷ []))
note_read in_list sections note is t of =
    let x = out-Note note in
    let inner = map (paragraph empty_note) x.pars in
    let nodes = empty_element (codes "text:note-citation") [] ∷ element (codes "text:note-body") [] inner ∷ [] in
    let attributes = at_unless key.Id x.id (at key.NoteClass (class_text x.class) ∷ []) in
    let one = element_of t (codes "text:note") (unless_empty (codes "text:id") x.id ++ attribute (codes "text:note-class") (class_text x.class) ∷ []) nodes tag.Note attributes of par_name.note_tag
    (named_unless (codes "text:id") x.id key.Id (attribute (codes "text:note-class") (class_text x.class) ∷ []) (at key.NoteClass (class_text x.class) ∷ []) par_name.id_key
    (named_first (codes "text:note-class") (class_text x.class) key.NoteClass [] [] field_name.note_class_key refl)) in
    let place = (out-Element one.found).place in
    let body = note_body (out-Element one.found).nodes inner (in_note place) one.is.nodes_of in (
      place,
      blocks_met (in_note place) body.body,
      content_one t tag.Note attributes nodes one (in_body in_list sections)
          ∙ ap₂ (λ (id : Option (List ℕ)) (held_met : List Met). map Note (named_at place id) ++ held_met) (id_stated x.id (class_text x.class) is.id) body.body_same,
      inner_read place note is body.body body.body_of,
    )

what_read : (in_list : Bool) (sections : List ℕ) (what : What-F What Item DocNote Par) → IsNamedWhat what → Each IsNamedNote (notes_in what) → (t : Node Read) → IsNodeOf t (what_node note_element what)
    → AreMet IsMet (things_in what) (content_met (in_body in_list sections) (t ∷ []))
what_read in_list sections (What-F.Char c) is notes t of = char_is (in_body in_list sections) c t of
what_read in_list sections What-F.Tab is notes t of = tab_is (in_body in_list sections) note_element t of
what_read in_list sections What-F.Break is notes t of = break_is (in_body in_list sections) note_element t of
what_read in_list sections (What-F.Field field) is notes t of = met_one IsMet (Counted field) (content_met (in_body in_list sections) (t ∷ [])) (field_is (in_body in_list sections) field is t of)
what_read in_list sections (What-F.Mark mark) is notes t of = met_one IsMet (Marked mark) (content_met (in_body in_list sections) (t ∷ [])) (mark_is (in_body in_list sections) mark is t of)
what_read in_list sections (What-F.Note note) is notes t of = met_one IsMet (Noted note) (content_met (in_body in_list sections) (t ∷ [])) (note_read in_list sections note notes.0 t of)

par_read : (sections : List ℕ) (par : Par) → Each IsNamedItem (items_of par) → (t : Node Read) → IsNodeOf t (paragraph note_element par) → AreMet IsMet (flat_map things_of (items_of par)) (blocks_met (in_body false sections) (t ∷ []))
par_read sections par fine t of =
    par_met 0 sections note_element IsMet IsNamedItem
    (λ in_list items. items_met note_element IsMet (in_body in_list sections) IsNamedItem (λ item is t of. what_read in_list sections (what_of item) is.0 is.1 t of) items)
    false par fine t of

pub things_par : (par : Par) → block_things (par_block par) ≡ flat_map things_of (items_of par)
things_par par = simp fold-roll-Block

things_open : (x : Section-F Block Section) → block_things (section_block x) ≡ Headed x.name ∷ flat_map (λ things. things) (map block_things x.blocks)
things_open x = simp (fold-roll-Block, fold-roll-Section)

pub things_section : (x : Section-F Block Section) → block_things (section_block x) ≡ Headed x.name ∷ flat_map block_things x.blocks
things_section x = things_open x ∙ ap (λ (more : List Thing). Headed x.name ∷ more) (flat_map-map (λ (things : List Thing). things) block_things x.blocks)

-- elements of which nothing is met where blocks are
none_met : (here : Where) (t : Node Read) (called : List ℕ) (attrs : List Attr) (nodes : List (Node Elem)) (which : Tag) → IsNodeOf t (element called attrs nodes) → tag_named called ≡ which
    → ((place : ℕ) (attributes : List Attribute) (gives : List Gives) → in_blocks which place attributes gives here ≡ []) → blocks_met here (t ∷ []) ≡ []
none_met here t called attrs nodes which of is none =
    let one = element_of t called attrs nodes which (map named_attribute attrs) of is refl in
    blocks_one t which (map named_attribute attrs) nodes one here ∙ none (out-Element one.found).place (map named_attribute attrs) (held one.found)

source_met : (here : Where) (source : Option SectionSource) (ts : List (Node Read)) → AreNodesOf ts (source_element source) → blocks_met here ts ≡ []
source_met here None [] are = refl
source_met here None (t ∷ ts) are = absurd are
source_met here (Some source) [] are = absurd are
source_met here (Some source) (t ∷ u ∷ ts) are = absurd are.1
source_met here (Some source) (t ∷ []) are =
    none_met here t (codes "text:section-source") (unless_empty (codes "xlink:href") source.href ++ unless_empty (codes "text:section-name") source.section) [] tag.SectionSource are.0 block_name.source_tag (λ place attributes gives. refl)

part_met : (here : Where) (called : List ℕ) (nodes : List (Node Elem)) (which : Tag) → tag_named called ≡ which → ((place : ℕ) (attributes : List Attribute) (gives : List Gives) → in_blocks which place attributes gives here ≡ [])
    → (ts : List (Node Read)) → AreNodesOf ts (part called nodes) → blocks_met here ts ≡ []
part_met here called [] which is none [] are = refl
part_met here called [] which is none (t ∷ ts) are = absurd are
part_met here called (node ∷ nodes) which is none [] are = absurd are
part_met here called (node ∷ nodes) which is none (t ∷ u ∷ ts) are = absurd are.1
part_met here called (node ∷ nodes) which is none (t ∷ []) are = none_met here t called [] (node ∷ nodes) which are.0 is none

-- blocks
abbrev IsNamedBlock : Block → Type 0
IsNamedBlock block = Each (λ par. Each IsNamedItem (items_of par)) (block_paragraphs block) × Each (λ section. IsName section.name) (block_sections block)

abbrev IsRead : Block → Type 0
IsRead block = (sections : List ℕ) → IsNamedBlock block → (t : Node Read) → IsNodeOf t (block_element block) → AreMet IsMet (block_things block) (blocks_met (in_body false sections) (t ∷ []))

blocks_read : (blocks : List Block) → Each IsRead blocks → (sections : List ℕ) → Each (λ par. Each IsNamedItem (items_of par)) (flat_map block_paragraphs blocks) → Each (λ section. IsName section.name) (flat_map block_sections blocks)
    → (ts : List (Node Read)) → AreNodesOf ts (map block_element blocks) → AreMet IsMet (flat_map block_things blocks) (blocks_met (in_body false sections) ts)
blocks_read [] each sections pars heads [] are = refl
blocks_read [] each sections pars heads (t ∷ ts) are = absurd are
blocks_read (block ∷ blocks) each sections pars heads [] are = absurd are
blocks_read (block ∷ blocks) each sections pars heads (t ∷ ts) are =
    let own_pars = each_both (λ par. Each IsNamedItem (items_of par)) (block_paragraphs block) (flat_map block_paragraphs blocks) pars in
    let own_heads = each_both (λ (section : SectionHead). IsName section.name) (block_sections block) (flat_map block_sections blocks) heads in
    met_is IsMet (block_things block ++ flat_map block_things blocks) (blocks_met (in_body false sections) (t ∷ ts)) (blocks_met (in_body false sections) (t ∷ []) ++ blocks_met (in_body false sections) ts)
    (nodes_met (λ one. one.blocks) (in_body false sections) (t ∷ []) ts)
    (met_both IsMet (block_things block) (flat_map block_things blocks) (blocks_met (in_body false sections) (t ∷ [])) (blocks_met (in_body false sections) ts)
    (each.0 sections (own_pars.0, own_heads.0) t are.0) (blocks_read blocks each.1 sections own_pars.1 own_heads.1 ts are.1))

par_case : (par : Par) → IsRead (par_block par)
par_case par sections is t of =
    subst (λ (things : List Thing). AreMet IsMet things (blocks_met (in_body false sections) (t ∷ []))) (sym (things_par par))
    (par_read sections par (subst (Each (λ one. Each IsNamedItem (items_of one))) (par_reads par) is.0).0 t (subst (IsNodeOf t) (element_par par) of))

module _ (x : Section-F Block Section) where
  abbrev guarded : List Attribute
  guarded = at_true key.Protected (codes "true") x.protected (at_true key.Display (codes "none") x.hidden [])

  abbrev attributes : List Attribute
  attributes = at_unless key.StyleName x.style (at_unless key.TextName x.name guarded)

  abbrev written : List Attr
  written = unless_empty (codes "text:style-name") x.style ++ unless_empty (codes "text:name") x.name ++ where_true (codes "text:protected") (codes "true") x.protected ++ where_true (codes "text:display") (codes "none") x.hidden

  four_parts : (a b c d : List Attr) → ((a ++ b) ++ c) ++ d ≡ a ++ (b ++ (c ++ (d ++ [])))
  four_parts a b c d = simp append_assoc (ap (λ (end : List Attr). a ++ (b ++ (c ++ end))) (sym (append-nil d)))

  written_named : map named_attribute written ≡ attributes
  written_named =
      ap (map named_attribute) (four_parts (unless_empty (codes "text:style-name") x.style) (unless_empty (codes "text:name") x.name) (where_true (codes "text:protected") (codes "true") x.protected) (where_true (codes "text:display") (codes "none") x.hidden))
      ∙ named_unless (codes "text:style-name") x.style key.StyleName (unless_empty (codes "text:name") x.name ++ (where_true (codes "text:protected") (codes "true") x.protected ++ (where_true (codes "text:display") (codes "none") x.hidden ++ [])))
      (at_unless key.TextName x.name guarded) style_name_key
      (named_unless (codes "text:name") x.name key.TextName (where_true (codes "text:protected") (codes "true") x.protected ++ (where_true (codes "text:display") (codes "none") x.hidden ++ [])) guarded field_name.name_key
      (named_true (codes "text:protected") (codes "true") key.Protected x.protected (where_true (codes "text:display") (codes "none") x.hidden ++ []) (at_true key.Display (codes "none") x.hidden []) block_name.protected_key
      (named_true (codes "text:display") (codes "none") key.Display x.hidden [] [] field_name.display_key refl)))

  name_stated : IsName x.name → stated key.TextName value.name attributes ≡ Some x.name
  name_stated is = ap (option_and_then value.name) (past_unless key.StyleName key.TextName x.style (at_unless key.TextName x.name guarded) refl) ∙ by_name x.name is where
    by_name : (name : List ℕ) → IsName name → stated key.TextName value.name (at_unless key.TextName name guarded) ≡ Some name
    by_name [] is = absurd (is.0 refl)
    by_name (c ∷ cs) is = name_back (c ∷ cs) is.0 is.1

  section_case : Each IsRead x.blocks → IsRead (section_block x)
  section_case each sections is t of =
      let nodes = source_element x.source ++ map block_element x.blocks in
      let one = element_of t (codes "text:section") written nodes tag.Section attributes (subst (IsNodeOf t) (element_section x) of) block_name.section_tag written_named in
      let place = (out-Element one.found).place in
      let parts = parted (out-Element one.found).nodes (source_element x.source) (map block_element x.blocks) one.is.nodes_of in
      let within = sections ++ place ∷ [] in
      let heads = subst (Each (λ (section : SectionHead). IsName section.name)) (section_sections x) is.1 in
      let pars = subst (Each (λ par. Each IsNamedItem (items_of par))) (section_reads x) is.0 in
      subst (λ (things : List Thing). AreMet IsMet things (blocks_met (in_body false sections) (t ∷ []))) (sym (things_section x)) (
        MetSection (record { place = place; name = x.name; around = sections }) ∷ [],
        blocks_met (in_body false within) parts.behind,
        blocks_one t tag.Section attributes nodes one (in_body false sections) ∙ ap (λ (name : Option (List ℕ)). section_met place name (held one.found) (in_body false sections)) (name_stated heads.0)
            ∙ ap (λ (more : List Met). MetSection (record { place = place; name = x.name; around = sections }) ∷ more)
            (ap (blocks_met (in_body false within)) parts.both ∙ nodes_met (λ given. given.blocks) (in_body false within) parts.front parts.behind
            ∙ ap (λ (front : List Met). front ++ blocks_met (in_body false within) parts.behind) (source_met (in_body false within) x.source parts.front parts.front_of)),
        (place, sections, refl),
        blocks_read x.blocks each within pars heads.1 parts.behind parts.behind_of,
      )

-- the whole text
pub text_read : (doc : Document) (text : Read) → Each (λ par. Each IsNamedItem (items_of par)) (body_paragraphs doc) → Each (λ section. IsName section.name) (sections doc) → Element (placeless text) ≡ named_node (text_element doc)
    → AreMet IsMet (flat_map block_things doc.body) (met_in text)
text_read doc text pars heads e =
    let attrs = where_true (codes "text:global") (codes "true") doc.global in
    let declared = variable_declarations doc.variables ++ sequence_declarations doc.sequences in
    let nodes = declared ++ map block_element doc.body in
    let same : placeless text ≡ named (elem_of 0 (codes "office:text") attrs nodes) = cc in
    let is = is_of text 0 (codes "office:text") attrs nodes (tag_named (codes "office:text")) (map named_attribute attrs) same refl refl in
    let here = in_body false [] in
    let parts = parted (out-Element text).nodes declared (map block_element doc.body) is.nodes_of in
    let names = parted parts.front (variable_declarations doc.variables) (sequence_declarations doc.sequences) parts.front_of in
    met_is IsMet (flat_map block_things doc.body) (met_in text) (blocks_met here parts.behind)
    (inside_out text here ∙ ap (blocks_met here) parts.both ∙ nodes_met (λ given. given.blocks) here parts.front parts.behind
    ∙ ap (λ (front : List Met). front ++ blocks_met here parts.behind)
    (ap (blocks_met here) names.both ∙ nodes_met (λ given. given.blocks) here names.front names.behind
    ∙ ap₂ (λ (a b : List Met). a ++ b)
    (part_met here (codes "text:variable-decls") _ tag.VariableDeclarations block_name.variables_tag (λ place attributes gives. refl) names.front names.front_of)
    (part_met here (codes "text:sequence-decls") _ tag.SequenceDeclarations block_name.sequences_tag (λ place attributes gives. refl) names.behind names.behind_of)))
    (blocks_read doc.body (of_blocks IsRead par_case section_case doc.body) [] pars heads parts.behind parts.behind_of)
