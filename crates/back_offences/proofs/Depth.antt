-- A section that is met stands in fewer others than the limit of depth.
use Rattle.std.proofs.Common.{◌≡◌, ℕ, ◌+◌, ◌≤◌, ◌<◌, false, List, [], ◌∷◌, ◌++◌, length, map, max, fold, filter, codes, refl, sym, ap, ap₂, ◌∙◌, subst, arith, append-nil, append_assoc, length-append, Option, Some, None, nat_le}
use Rattle.std.specs.List.{flat_map, AllByRecursion as Each}
use Rattle.std.specs.Option.{option_and_then}
use Rattle.std.proofs.lemmas.Bool.Decides.{nat_tests}
use Rattle.markup_nodes.specs.declared.words.Attr.{Attr}
use Rattle.markup_nodes.specs.declared.tree.Elem.{Elem}
use Rattle.markup_nodes.specs.Node.{Node, Element}
use Rattle.doc_model.specs.declared.block.Block.{Block}
use Rattle.doc_model.specs.declared.block.Block.TheOpen.{Section-F}
use Rattle.doc_model.specs.declared.block.Block.TheFolds.{fold-roll-Block, fold-roll-Section}
use Rattle.doc_model.specs.declared.block.Section.{Section}
use Rattle.doc_model.specs.declared.block.SectionSource.{SectionSource}
use Rattle.doc_model.specs.declared.document.Document.{Document}
use Rattle.doc_model.specs.declared.paragraph.Par.{Par}
use Rattle.doc_model.specs.Parts.{SectionHead, block_sections, depth_of, items_of}
use Rattle.doc_model.specs.Reading.{block_paragraphs}
use Rattle.doc_model.specs.Valid.{IsValid}
use Rattle.block_facts.proofs.Blocks.{of_blocks, par_block, par_reads, section_block, section_reads}
use Rattle.load_model.specs.declared.names.Key.TheVariants as key
use Rattle.load_model.specs.declared.names.Tag.{Tag}
use Rattle.load_model.specs.declared.names.Tag.TheVariants as tag
use Rattle.load_model.specs.declared.element.Attribute.{Attribute}
use Rattle.load_model.specs.declared.element.Element.{Element as Read, out-Element}
use Rattle.load_model.specs.Met.{Gives, Met, MetSection as SectionRow, Section as MetSection, Mark, Note, Reference, Sequence, Variable, Table, Where, in_blocks, is_at, kept_sections, met_in, section_met, sections_met}
use Rattle.load_model.specs.Offences.{too_deep}
use Rattle.load_model.specs.Values as value
use Rattle.load_model.specs.Values.{stated}
use Rattle.written_model.specs.Blocks.{block_element, source_element}
use Rattle.written_model.specs.Elements.{element, part, unless_empty, where_true}
use Rattle.written_model.specs.Written.{sequence_declarations, text_element, variable_declarations}
use Rattle.back_names.specs.Named.{named, named_attribute, named_node, placeless, tag_named}
use Rattle.back_names.proofs.Parts.{elem_of}
use Rattle.back_fields.specs.Fit.{IsName}
use Rattle.back_fields.proofs.Attributes.{at_unless, named_unless}
use Rattle.back_fields.proofs.Keys as field_name
use Rattle.back_spans.proofs.Runs.{each_both, style_name_key}
use Rattle.back_values.proofs.Texts.{name_back}
use Rattle.back_blocks.proofs.Joins.{at_true, named_true, past_unless}
use Rattle.back_blocks.proofs.Keys as block_name
use Rattle.back_blocks.proofs.Opened.{element_par, element_section}
use Rattle.back_valid.proofs.Blocks.{section_sections}
use Rattle.met_read.specs.Walk.{held}
use Rattle.met_read.proofs.WalkLemmas.{inside_out}
use Rattle.back_met.proofs.Blocks.{IsNamedItem}
use Rattle.back_met.proofs.Nodes.{AreNodesOf, IsNodeOf, blocks_met, blocks_one, element_of, is_of, nodes_met, parted}
use Rattle.back_met.proofs.Readable.{heads_named, pars_named}
use Rattle.back_valid.proofs.Lists.{each_also, each_at_most, each_mapped}
use Rattle.back_offences.proofs.Lists.{each_append, each_firsts, few_filter, none_filter}
use Rattle.back_offences.proofs.Plain.{IsPlainMet, in_body, par_plain}

-- each section that is met stands in fewer others than so many
abbrev IsShallow : ℕ → Met → Type 0
IsShallow most (MetSection section) = length section.around < most
IsShallow most _ = Unit {0}

plain_shallow : (most : ℕ) (one : Met) → IsPlainMet one → IsShallow most one
plain_shallow most (MetSection section) is = absurd is
plain_shallow most (Mark one) is = tt
plain_shallow most (Note one) is = tt
plain_shallow most (Reference one) is = tt
plain_shallow most (Sequence one) is = tt
plain_shallow most (Variable one) is = tt
plain_shallow most (Table one) is = tt

-- the depth of a section is that of its blocks and one more
section_depth : (x : Section-F Block Section) → depth_of (section_block x) ≡ 1 + fold max 0 (map depth_of x.blocks)
section_depth x = simp (fold-roll-Block, fold-roll-Section)

-- blocks
abbrev IsNamedBlock : Block → Type 0
IsNamedBlock block = Each (λ par. Each IsNamedItem (items_of par)) (block_paragraphs block) × Each (λ section. IsName section.name) (block_sections block)

abbrev AreShallow : List ℕ → ℕ → List (Node Read) → Type 0
AreShallow sections most ts = Each (IsShallow most) (blocks_met (in_body false sections) ts)

abbrev IsFlat : Block → Type 0
IsFlat block = (sections : List ℕ) (most : ℕ) → length sections + depth_of block ≤ most → IsNamedBlock block → (t : Node Read) → IsNodeOf t (block_element block) → AreShallow sections most (t ∷ [])

blocks_flat : (blocks : List Block) → Each IsFlat blocks → (sections : List ℕ) (most : ℕ) → Each (λ block. length sections + depth_of block ≤ most) blocks
    → Each (λ par. Each IsNamedItem (items_of par)) (flat_map block_paragraphs blocks) → Each (λ section. IsName section.name) (flat_map block_sections blocks)
    → (ts : List (Node Read)) → AreNodesOf ts (map block_element blocks) → AreShallow sections most ts
blocks_flat [] each sections most few pars heads [] are = tt
blocks_flat [] each sections most few pars heads (t ∷ ts) are = absurd are
blocks_flat (block ∷ blocks) each sections most few pars heads [] are = absurd are
blocks_flat (block ∷ blocks) each sections most few pars heads (t ∷ ts) are =
    let own_pars = each_both (λ par. Each IsNamedItem (items_of par)) (block_paragraphs block) (flat_map block_paragraphs blocks) pars in
    let own_heads = each_both (λ (section : SectionHead). IsName section.name) (block_sections block) (flat_map block_sections blocks) heads in
    subst (Each (IsShallow most)) (sym (nodes_met (λ one. one.blocks) (in_body false sections) (t ∷ []) ts))
    (each_append (IsShallow most) (blocks_met (in_body false sections) (t ∷ [])) (blocks_met (in_body false sections) ts)
    (each.0 sections most few.0 (own_pars.0, own_heads.0) t are.0) (blocks_flat blocks each.1 sections most few.1 own_pars.1 own_heads.1 ts are.1))

par_flat : (par : Par) → IsFlat (par_block par)
par_flat par sections most few is t of =
    each_also IsPlainMet (IsShallow most) (plain_shallow most) (blocks_met (in_body false sections) (t ∷ []))
    (par_plain sections par (subst (Each (λ one. Each IsNamedItem (items_of one))) (par_reads par) is.0).0 t (subst (IsNodeOf t) (element_par par) of))

-- blocks that are no deeper than the deepest
none_deeper : (count most : ℕ) (blocks : List Block) → count + fold max 0 (map depth_of blocks) ≤ most → Each (λ block. count + depth_of block ≤ most) blocks
none_deeper count most blocks few =
    let deepest = fold max 0 (map depth_of blocks) in
    each_also (λ block. depth_of block ≤ deepest) (λ block. count + depth_of block ≤ most) (λ block less. omega (arith, less, few)) blocks
    (each_mapped (λ depth. depth ≤ deepest) depth_of blocks (each_at_most deepest 0 (map depth_of blocks) (omega arith)).1)

-- elements of which nothing is met where blocks are
none_met : (here : Where) (t : Node Read) (called : List ℕ) (attrs : List Attr) (nodes : List (Node Elem)) (which : Tag) → IsNodeOf t (element called attrs nodes) → tag_named called ≡ which
    → ((place : ℕ) (attributes : List Attribute) (gives : List Gives) → in_blocks which place attributes gives here ≡ []) → blocks_met here (t ∷ []) ≡ []
none_met here t called attrs nodes which of is none =
    let one = element_of t called attrs nodes which (map named_attribute attrs) of is refl in
    blocks_one t which (map named_attribute attrs) nodes one here ∙ none (out-Element one.found).place (map named_attribute attrs) (held one.found)

source_met : (here : Where) (source : Option SectionSource) (ts : List (Node Read)) → AreNodesOf ts (source_element source) → blocks_met here ts ≡ []
source_met here None [] are = refl
source_met here None (t ∷ ts) are = absurd are
source_met here (Some source) [] are = absurd are
source_met here (Some source) (t ∷ u ∷ ts) are = absurd are.1
source_met here (Some source) (t ∷ []) are =
    none_met here t (codes "text:section-source") (unless_empty (codes "xlink:href") source.href ++ unless_empty (codes "text:section-name") source.section) [] tag.SectionSource are.0 block_name.source_tag (λ place attributes gives. refl)

part_met : (here : Where) (called : List ℕ) (nodes : List (Node Elem)) (which : Tag) → tag_named called ≡ which → ((place : ℕ) (attributes : List Attribute) (gives : List Gives) → in_blocks which place attributes gives here ≡ [])
    → (ts : List (Node Read)) → AreNodesOf ts (part called nodes) → blocks_met here ts ≡ []
part_met here called [] which is none [] are = refl
part_met here called [] which is none (t ∷ ts) are = absurd are
part_met here called (node ∷ nodes) which is none [] are = absurd are
part_met here called (node ∷ nodes) which is none (t ∷ u ∷ ts) are = absurd are.1
part_met here called (node ∷ nodes) which is none (t ∷ []) are = none_met here t called [] (node ∷ nodes) which are.0 is none

-- a section by what is written of it
module _ (x : Section-F Block Section) where
  abbrev guarded : List Attribute
  guarded = at_true key.Protected (codes "true") x.protected (at_true key.Display (codes "none") x.hidden [])

  abbrev attributes : List Attribute
  attributes = at_unless key.StyleName x.style (at_unless key.TextName x.name guarded)

  abbrev written : List Attr
  written = unless_empty (codes "text:style-name") x.style ++ unless_empty (codes "text:name") x.name ++ where_true (codes "text:protected") (codes "true") x.protected ++ where_true (codes "text:display") (codes "none") x.hidden

  four_parts : (a b c d : List Attr) → ((a ++ b) ++ c) ++ d ≡ a ++ (b ++ (c ++ (d ++ [])))
  four_parts a b c d = simp append_assoc (ap (λ (end : List Attr). a ++ (b ++ (c ++ end))) (sym (append-nil d)))

  written_named : map named_attribute written ≡ attributes
  written_named =
      ap (map named_attribute) (four_parts (unless_empty (codes "text:style-name") x.style) (unless_empty (codes "text:name") x.name) (where_true (codes "text:protected") (codes "true") x.protected) (where_true (codes "text:display") (codes "none") x.hidden))
      ∙ named_unless (codes "text:style-name") x.style key.StyleName (unless_empty (codes "text:name") x.name ++ (where_true (codes "text:protected") (codes "true") x.protected ++ (where_true (codes "text:display") (codes "none") x.hidden ++ [])))
      (at_unless key.TextName x.name guarded) style_name_key
      (named_unless (codes "text:name") x.name key.TextName (where_true (codes "text:protected") (codes "true") x.protected ++ (where_true (codes "text:display") (codes "none") x.hidden ++ [])) guarded field_name.name_key
      (named_true (codes "text:protected") (codes "true") key.Protected x.protected (where_true (codes "text:display") (codes "none") x.hidden ++ []) (at_true key.Display (codes "none") x.hidden []) block_name.protected_key
      (named_true (codes "text:display") (codes "none") key.Display x.hidden [] [] field_name.display_key refl)))

  name_stated : IsName x.name → stated key.TextName value.name attributes ≡ Some x.name
  name_stated is = ap (option_and_then value.name) (past_unless key.StyleName key.TextName x.style (at_unless key.TextName x.name guarded) refl) ∙ by_name x.name is where
    by_name : (name : List ℕ) → IsName name → stated key.TextName value.name (at_unless key.TextName name guarded) ≡ Some name
    by_name [] is = absurd (is.0 refl)
    by_name (c ∷ cs) is = name_back (c ∷ cs) is.0 is.1

  section_flat : Each IsFlat x.blocks → IsFlat (section_block x)
  section_flat each sections most few is t of =
      let nodes = source_element x.source ++ map block_element x.blocks in
      let one = element_of t (codes "text:section") written nodes tag.Section attributes (subst (IsNodeOf t) (element_section x) of) block_name.section_tag written_named in
      let place = (out-Element one.found).place in
      let parts = parted (out-Element one.found).nodes (source_element x.source) (map block_element x.blocks) one.is.nodes_of in
      let within = sections ++ place ∷ [] in
      let heads = subst (Each (λ (section : SectionHead). IsName section.name)) (section_sections x) is.1 in
      let pars = subst (Each (λ par. Each IsNamedItem (items_of par))) (section_reads x) is.0 in
      let depth = section_depth x in
      let one_more = length-append sections (place ∷ []) in
      let less : length sections < most = omega (arith, few, depth) in
      let room : length within + fold max 0 (map depth_of x.blocks) ≤ most = omega (arith, few, depth, one_more) in
      let met : blocks_met (in_body false sections) (t ∷ []) ≡ MetSection (record { place = place; name = x.name; around = sections }) ∷ blocks_met (in_body false within) parts.behind =
      blocks_one t tag.Section attributes nodes one (in_body false sections) ∙ ap (λ (name : Option (List ℕ)). section_met place name (held one.found) (in_body false sections)) (name_stated heads.0)
      ∙ ap (λ (more : List Met). MetSection (record { place = place; name = x.name; around = sections }) ∷ more)
      (ap (blocks_met (in_body false within)) parts.both ∙ nodes_met (λ given. given.blocks) (in_body false within) parts.front parts.behind
      ∙ ap (λ (front : List Met). front ++ blocks_met (in_body false within) parts.behind) (source_met (in_body false within) x.source parts.front parts.front_of)) in
      subst (Each (IsShallow most)) (sym met)
      (less, blocks_flat x.blocks each within most (none_deeper (length within) most x.blocks room) pars heads.1 parts.behind parts.behind_of)

-- the whole text
text_shallow : (doc : Document) (text : Read) → IsValid doc → Element (placeless text) ≡ named_node (text_element doc) → Each (IsShallow (fold max 0 (map depth_of doc.body))) (met_in text)
text_shallow doc text valid e =
    let most = fold max 0 (map depth_of doc.body) in
    let attrs = where_true (codes "text:global") (codes "true") doc.global in
    let declared = variable_declarations doc.variables ++ sequence_declarations doc.sequences in
    let nodes = declared ++ map block_element doc.body in
    let same : placeless text ≡ named (elem_of 0 (codes "office:text") attrs nodes) = cc in
    let is = is_of text 0 (codes "office:text") attrs nodes (tag_named (codes "office:text")) (map named_attribute attrs) same refl refl in
    let here = in_body false [] in
    let parts = parted (out-Element text).nodes declared (map block_element doc.body) is.nodes_of in
    let names = parted parts.front (variable_declarations doc.variables) (sequence_declarations doc.sequences) parts.front_of in
    let met : met_in text ≡ blocks_met here parts.behind =
    inside_out text here ∙ ap (blocks_met here) parts.both ∙ nodes_met (λ given. given.blocks) here parts.front parts.behind
    ∙ ap (λ (front : List Met). front ++ blocks_met here parts.behind)
    (ap (blocks_met here) names.both ∙ nodes_met (λ given. given.blocks) here names.front names.behind
    ∙ ap₂ (λ (a b : List Met). a ++ b)
    (part_met here (codes "text:variable-decls") _ tag.VariableDeclarations block_name.variables_tag (λ place attributes gives. refl) names.front names.front_of)
    (part_met here (codes "text:sequence-decls") _ tag.SequenceDeclarations block_name.sequences_tag (λ place attributes gives. refl) names.behind names.behind_of)) in
    subst (Each (IsShallow most)) (sym met)
    (blocks_flat doc.body (of_blocks IsFlat par_flat section_flat doc.body) [] most (none_deeper 0 most doc.body (omega arith)) (pars_named doc valid) (heads_named doc valid) parts.behind parts.behind_of)

-- the sections among what is met
each_section : (most : ℕ) (met : List Met) → Each (IsShallow most) met → Each (λ section. length section.around < most) (sections_met met)
each_section most [] each = tt
each_section most (MetSection section ∷ met) each = (each.0, each_section most met each.1)
each_section most (Mark one ∷ met) each = each_section most met each.1
each_section most (Note one ∷ met) each = each_section most met each.1
each_section most (Reference one ∷ met) each = each_section most met each.1
each_section most (Sequence one ∷ met) each = each_section most met each.1
each_section most (Variable one ∷ met) each = each_section most met each.1
each_section most (Table one ∷ met) each = each_section most met each.1

not_deep : (count limit : ℕ) → count < limit → nat_le limit count ≡ false
not_deep count limit less = grind (arith, nat_tests, less)

pub none_deep : (doc : Document) (text : Read) → IsValid doc → fold max 0 (map depth_of doc.body) ≤ 32 → Element (placeless text) ≡ named_node (text_element doc) → too_deep (met_in text) ≡ []
none_deep doc text valid few e =
    let met = met_in text in
    let most = fold max 0 (map depth_of doc.body) in
    let places = map (λ (other : SectionRow). other.place) (kept_sections met) in
    ap (map (λ (section : SectionRow). section.place))
    (none_filter _ (kept_sections met)
    (each_firsts _ _ (sections_met met)
    (each_also (λ (section : SectionRow). length section.around < most) (λ (section : SectionRow). nat_le 32 (length (filter (is_at places) section.around)) ≡ false)
    (λ section less. let kept = few_filter (is_at places) section.around in not_deep (length (filter (is_at places) section.around)) 32 (omega (arith, less, few, kept)))
    (sections_met met) (each_section most met (text_shallow doc text valid e)))))
