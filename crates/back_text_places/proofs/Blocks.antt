-- Blocks are read alike wherever they stand.
use Rattle.std.proofs.Common.{◌≡◌, ℕ, ◌==◌, ◌&&◌, ◌-◌, not, Bool, true, false, cond, List, [], ◌∷◌, ◌++◌, map, filter, length, refl, sym, ap, ap₂, subst, ◌∙◌, Option, Some, None, is_some}
use Rattle.std.specs.List.{AllByRecursion as Each, list_all}
use Rattle.std.proofs.lemmas.List.{length-map}
use Rattle.markup_nodes.specs.Node.{Node}
use Rattle.markup_nodes.specs.Nodes.{elems}
use Rattle.doc_model.specs.declared.block.Block.{Block}
use Rattle.doc_model.specs.declared.block.Block.TheOpen.{Section-F}
use Rattle.doc_model.specs.declared.block.Kind.TheVariants.{Plain}
use Rattle.doc_model.specs.declared.block.Section.{Section}
use Rattle.doc_model.specs.declared.block.SectionSource.{SectionSource}
use Rattle.doc_model.specs.declared.paragraph.ListPos.{ListPos}
use Rattle.doc_model.specs.declared.style.Family.TheVariants as family
use Rattle.block_facts.proofs.Blocks.{section_block}
use Rattle.load_model.specs.declared.names.Key.TheVariants as key
use Rattle.load_model.specs.declared.names.Tag.{Tag}
use Rattle.load_model.specs.declared.names.Tag.TheVariants as tag
use Rattle.load_model.specs.declared.element.Attribute.{Attribute}
use Rattle.load_model.specs.declared.element.Element.{Element as Read, out-Element}
use Rattle.load_model.specs.Blocks.{Known, Around, Declared, Gives, Lists, ReadBlocks, ReadContent, ReadDeclarations, ReadSource, as_block, blocks_alone, blocks_with, content_of, declaration_blocks, element_blocks, entry_blocks, first_changed, heading_rules, inner_list, is_directly_in, joined_blocks, kept_section, left_by, list_blocks, list_place, no_blocks, one_element, or_empty, paragraph_block, paragraph_rules, section_blocks, section_rules, source_blocks, without_declarations}
use Rattle.load_model.specs.Content.{Raw, items_of_raw}
use Rattle.load_model.specs.Left.{Left, all_of, both, is_same_tag, nothing, only_elements}
use Rattle.load_model.specs.Met as met
use Rattle.load_model.specs.Met.{Met, Where, each, in_blocks, in_list, is_at, reads_sections, section_met}
use Rattle.load_model.specs.Styles.{reference, style_reference}
use Rattle.load_model.specs.Values as value
use Rattle.load_model.specs.Values.{Rule, rule, stated, stated_or}
use Rattle.back_names.specs.Named.{placeless_node}
use Rattle.back_sheet_places.proofs.Lists.{filtered}
use Rattle.back_text_places.specs.Bare.{at_paragraphs, bare_blocks, bare_declared, bare_par, bare_raws}
use Rattle.back_text_places.specs.Standing.{Standing, blocks_stand, has_name, standing}
use Rattle.back_text_places.proofs.Pars.{at_par, at_section, changed_bare, directly_bare, empty_bare, par_bare, par_of}
use Rattle.back_text_places.proofs.Raws.{items_same}
use Rattle.back_text_places.proofs.Same.{AreKept, InText, IsSame, alone_bare, attributes_bared, attributes_placed, bare_known, bared, blocks_joined, both_pass, content_same, count_same, declarations_out, elems_bared, elems_placed, placed, role_same, tag_bared, tag_placed}
use Rattle.back_text_places.proofs.Steps.{bare_out, given_nodes, gives_out}

-- one paragraph
abbrev block_of : ℕ → List ℕ → ℕ → Option ListPos → List Raw → Left → ReadBlocks
block_of place style level list raws left = record { blocks = as_block (par_of place style level list (items_of_raw raws)) ∷ []; sources = []; declarations = []; left = left }

block_same : (within : Bool) (place : ℕ) (style : List ℕ) (level : ℕ) (list : Option ListPos) (raws : List Raw) (left : Left) → block_of 0 style level list (bare_raws within raws) left ≡ bare_blocks within (block_of place style level list raws left)
block_same within place style level list raws left =
    ap (λ block. record { blocks = block ∷ []; sources = []; declarations = []; left = left })
    (ap (λ items. as_block (par_of 0 style level list items)) (items_same within raws) ∙ ap as_block (sym (par_bare within place style level list (items_of_raw raws)))
    ∙ sym (at_par (bare_par within) (par_of place style level list (items_of_raw raws))))

-- with more left out
with_bare : (within : Bool) (left : Left) (one other : ReadBlocks) → one ≡ bare_blocks within other → blocks_with left one ≡ bare_blocks within (blocks_with left other)
with_bare within left one other e = ap (blocks_with left) e

-- blocks of which the first is changed
change_bare : (within : Bool) (test : Block → Bool) (change : ListPos → ListPos) → ((block : Block) → test (at_paragraphs (bare_par within) block) ≡ test block) → (one other : ReadBlocks) → one ≡ bare_blocks within other
    → record one { blocks = first_changed test change one.blocks } ≡ bare_blocks within (record other { blocks = first_changed test change other.blocks })
change_bare within test change same one other e =
    ap (λ (read : ReadBlocks). record read { blocks = first_changed test change read.blocks }) e
    ∙ ap (λ (blocks : List Block). record (bare_blocks within other) { blocks = blocks }) (changed_bare within test change same other.blocks)

module _ (known : Known) (place : ℕ) (attributes : List Attribute) where
  -- a section with this source and these blocks, by its attributes
  abbrev section_with : Option SectionSource → List Block → Section-F Block Section
  section_with source blocks = record {
    kind = Plain;
    name = stated_or key.TextName value.name [] attributes;
    style = stated_or key.StyleName (style_reference known.names family.Section) [] attributes;
    protected = stated_or key.Protected value.truth false attributes;
    hidden = not (stated_or key.Display value.display true attributes);
    source = source;
    blocks = blocks;
  }

  abbrev one_section : Left → ℕ → Left → Block → ReadBlocks
  one_section own further inner block = record { blocks = block ∷ []; sources = []; declarations = []; left = all_of (left_by (section_rules known) attributes ∷ own ∷ only_elements further ∷ inner ∷ []) }

  section_bare : (within : Bool) (source : Option SectionSource) (blocks : List Block)
      → section_block (section_with source (or_empty 0 (map (at_paragraphs (bare_par within)) blocks))) ≡ at_paragraphs (bare_par within) (section_block (section_with source (or_empty place blocks)))
  section_bare within source blocks =
      ap (λ (held : List Block). section_block (section_with source held)) (empty_bare within place blocks) ∙ sym (at_section (bare_par within) (section_with source (or_empty place blocks)))

  kept_same : (within : Bool) (blocks : List Block) (sources : List ReadSource) (declarations : List ReadDeclarations) (left : Left)
      → kept_section (bare_known known) 0 attributes (bare_blocks within (record { blocks = blocks; sources = sources; declarations = declarations; left = left }))
      ≡ bare_blocks within (kept_section known place attributes (record { blocks = blocks; sources = sources; declarations = declarations; left = left }))
  kept_same within blocks [] declarations left = ap (one_section (all_of []) 0 left) (section_bare within None blocks)
  kept_same within blocks (source ∷ sources) declarations left = ap (one_section (all_of (source.left ∷ [])) (length sources) left) (section_bare within (Some source.source) blocks)

module _ (known : Known) (place : ℕ) (attributes : List Attribute) (nodes : List (Node Read)) (same : Each (IsSame known) (elems nodes)) where
  abbrev given : List (Node Gives)
  given = given_nodes known nodes

  abbrev bare : List (Node Gives)
  bare = given_nodes (bare_known known) (map placeless_node nodes)

  abbrev stand : List Standing
  stand = map standing (elems nodes)

  abbrev gives : List met.Gives
  gives = map met.gives_of (elems nodes)

  -- blocks one after another
  blocks_in : (lists : Lists) (here : Where) (sections : Bool) → InText lists.in_note here → (sections ≡ true → reads_sections here ≡ true) → list_all (λ (one : Standing). one.blocks sections) stand ≡ true → AreKept known (each (λ one. one.blocks) here gives)
      → joined_blocks (map (λ (one : Gives). one.blocks lists) (elems bare)) ≡ bare_blocks lists.in_note (joined_blocks (map (λ (one : Gives). one.blocks lists) (elems given)))
  blocks_in lists here sections text read stands kept =
      ap (λ (held : List Gives). joined_blocks (map (λ (one : Gives). one.blocks lists) held)) (elems_bared known nodes)
      ∙ ap joined_blocks (role_same known (λ (one : Gives). one.blocks lists) (λ (one : met.Gives). one.blocks here) (λ (one : Standing). one.blocks sections) (bare_blocks lists.in_note)
      (λ element is stand kept. is.blocks lists here sections text read stand kept) (elems nodes) same stands kept)
      ∙ blocks_joined lists.in_note (map (λ (one : Gives). one.blocks lists) (map (placed known) (elems nodes)))
      ∙ ap (λ (held : List Gives). bare_blocks lists.in_note (joined_blocks (map (λ (one : Gives). one.blocks lists) held))) (sym (elems_placed known nodes))

  -- entries one after another
  entries_in : (lists : Lists) (here : Where) → InText lists.in_note here → list_all (λ (one : Standing). one.entry) stand ≡ true → AreKept known (each (λ one. one.entry) here gives)
      → joined_blocks (map (λ (one : Gives). one.entry lists) (elems bare)) ≡ bare_blocks lists.in_note (joined_blocks (map (λ (one : Gives). one.entry lists) (elems given)))
  entries_in lists here text stands kept =
      ap (λ (held : List Gives). joined_blocks (map (λ (one : Gives). one.entry lists) held)) (elems_bared known nodes)
      ∙ ap joined_blocks (role_same known (λ (one : Gives). one.entry lists) (λ (one : met.Gives). one.entry here) (λ (one : Standing). one.entry) (bare_blocks lists.in_note)
      (λ element is stand kept. is.entry lists here text stand kept) (elems nodes) same stands kept)
      ∙ blocks_joined lists.in_note (map (λ (one : Gives). one.entry lists) (map (placed known) (elems nodes)))
      ∙ ap (λ (held : List Gives). bare_blocks lists.in_note (joined_blocks (map (λ (one : Gives). one.entry lists) held))) (sym (elems_placed known nodes))

  abbrev around_in : Lists → Around
  around_in lists = record { spans = []; in_note = lists.in_note }

  paragraph_same : (lists : Lists) (here : Where) → InText lists.in_note here → (level : ℕ) (rules : List Rule) → list_all (λ (one : Standing). one.content) stand ≡ true → AreKept known (each (λ one. one.content) here gives)
      → paragraph_block (bare_known known) lists 0 level rules attributes bare ≡ bare_blocks lists.in_note (paragraph_block known lists place level rules attributes given)
  paragraph_same lists here text level rules stands kept =
      let content = content_of (around_in lists) given in
      let style = stated_or key.StyleName (style_reference known.names family.Paragraph) [] attributes in
      ap (λ (read : ReadContent). block_of 0 style level (list_place lists) read.raws (both (left_by rules attributes) read.left)) (content_same known (around_in lists) here text nodes same stands kept)
      ∙ block_same lists.in_note place style level (list_place lists) content.raws (both (left_by rules attributes) content.left)

  -- a list that begins counting or not
  begins_same : (within : Bool) (b : Bool) (one other : ReadBlocks) → one ≡ bare_blocks within other
      → cond b (record one { blocks = first_changed (λ block. true) (λ place. record place { fresh = true }) one.blocks }) one
      ≡ bare_blocks within (cond b (record other { blocks = first_changed (λ block. true) (λ place. record place { fresh = true }) other.blocks }) other)
  begins_same within true one other e = change_bare within (λ block. true) (λ place. record place { fresh = true }) (λ block. refl) one other e
  begins_same within false one other e = e

  list_same : (lists : Lists) (here : Where) → InText lists.in_note here → list_all (λ (one : Standing). one.entry) stand ≡ true → AreKept known (each (λ one. one.entry) here gives)
      → list_blocks (bare_known known) lists attributes (elems bare) ≡ bare_blocks lists.in_note (list_blocks known lists attributes (elems given))
  list_same lists here text stands kept =
      let inner = inner_list known lists attributes in
      ap (blocks_with (left_by (rule key.StyleName (reference known.names.lists) ∷ rule key.ContinueNumbering value.truth ∷ []) attributes))
      (begins_same lists.in_note (lists.level == 0 && not (stated_or key.ContinueNumbering value.truth false attributes))
      (joined_blocks (map (λ (one : Gives). one.entry inner) (elems bare))) (joined_blocks (map (λ (one : Gives). one.entry inner) (elems given))) (entries_in inner here text stands kept))

  -- a section that is kept
  section_same : (lists : Lists) (here : Where) → InText lists.in_note here → (name : Option (List ℕ)) → is_some name ≡ true → reads_sections here ≡ true → list_all (λ (one : Standing). one.blocks true) stand ≡ true
      → AreKept known (section_met place name gives here)
      → section_blocks (bare_known known) lists 0 attributes (elems bare) ≡ bare_blocks lists.in_note (section_blocks known lists place attributes (elems given))
  section_same lists here text None some read stands kept = cc
  section_same lists here text (Some name) some read stands kept =
      let inner : Where = record here { sections = here.sections ++ place ∷ [] } in
      let all : AreKept known (met.Section (record { place = place; name = name; around = here.sections }) ∷ each (λ one. one.blocks) inner gives) =
      subst (AreKept known) (ap (λ (b : Bool). cond b (met.Section (record { place = place; name = name; around = here.sections }) ∷ each (λ one. one.blocks) inner gives) (each (λ one. one.blocks) here gives)) read) kept in
      let held = joined_blocks (map (λ (one : Gives). one.blocks lists) (elems given)) in
      ap (λ (blocks : ReadBlocks). kept_section (bare_known known) 0 attributes (without_declarations blocks)) (blocks_in lists inner true text (λ e. read) stands all.1)
      ∙ ap (kept_section (bare_known known) 0 attributes) (declarations_out lists.in_note held)
      ∙ kept_same known place attributes lists.in_note held.blocks held.sources [] (without_declarations held).left
      ∙ sym (ap (λ (b : Bool). bare_blocks lists.in_note (cond b (kept_section known place attributes (without_declarations held)) (blocks_with one_element held))) all.0)

  source_same : (within : Bool) → source_blocks attributes (elems bare) ≡ bare_blocks within (source_blocks attributes (elems given))
  source_same within =
      ap (λ (count : ℕ). record (no_blocks nothing) {
        sources = record {
          source = record { href = stated_or key.Href value.name_or_none [] attributes; section = stated_or key.SectionName value.name_or_none [] attributes };
          left = both (left_by (rule key.Href value.name_or_none ∷ rule key.SectionName value.name_or_none ∷ []) attributes) (only_elements count);
        } ∷ [];
      }) (count_same known nodes)

  -- declarations
  abbrev is_named : Tag → Gives → Bool
  is_named which one = is_same_tag one.tag which && is_some (stated key.TextName value.name one.attributes)

  abbrev names_one : Tag → Read → Bool
  names_one which element = is_named which (placed known element)

  abbrev declared_by : Gives → Declared
  declared_by one = record { place = one.place; name = stated_or key.TextName value.name [] one.attributes; left = both (left_by (rule key.TextName value.name ∷ []) one.attributes) (only_elements one.children) }

  children_same : (element : Read) → (bared known element).children ≡ (placed known element).children
  children_same element =
      ap (λ (one : Gives). one.children) (bare_out (bare_known known) element) ∙ count_same known (out-Element element).nodes ∙ sym (ap (λ (one : Gives). one.children) (gives_out known element))

  declared_same : (element : Read) → declared_by (bared known element) ≡ bare_declared (declared_by (placed known element))
  declared_same element =
      ap₂ (λ (where_it_is : ℕ) (children : ℕ). record {
        place = where_it_is;
        name = stated_or key.TextName value.name [] (bared known element).attributes;
        left = both (left_by (rule key.TextName value.name ∷ []) (bared known element).attributes) (only_elements children);
      }) (ap (λ (one : Gives). one.place) (bare_out (bare_known known) element)) (children_same element)
      ∙ ap (λ (all : List Attribute). record { place = 0; name = stated_or key.TextName value.name [] all; left = both (left_by (rule key.TextName value.name ∷ []) all) (only_elements (placed known element).children) })
      (attributes_bared known element ∙ sym (attributes_placed known element))

  named_same : (which : Tag) (element : Read) → is_named which (bared known element) ≡ is_named which (placed known element)
  named_same which element =
      ap₂ (λ (one : Tag) (all : List Attribute). is_same_tag one which && is_some (stated key.TextName value.name all)) (tag_bared known element ∙ sym (tag_placed known element)) (attributes_bared known element ∙ sym (attributes_placed known element))

  mapped_twice : (elements : List Read) → map declared_by (map (bared known) elements) ≡ map bare_declared (map declared_by (map (placed known) elements))
  mapped_twice [] = refl
  mapped_twice (element ∷ elements) = ap₂ (λ (one : Declared) (more : List Declared). one ∷ more) (declared_same element) (mapped_twice elements)

  abbrev declarations_of : Bool → Left → List Declared → ReadBlocks
  declarations_of sequences left declared = record (no_blocks nothing) { declarations = record { sequences = sequences; declared = declared; left = left } ∷ [] }

  declarations_same : (within : Bool) (sequences : Bool) (which : Tag) → declaration_blocks sequences which attributes (elems bare) ≡ bare_blocks within (declaration_blocks sequences which attributes (elems given))
  declarations_same within sequences which =
      let elements = elems nodes in
      let found = filter (names_one which) elements in
      ap (declaration_blocks sequences which attributes) (elems_bared known nodes)
      ∙ ap (λ (named : List Gives). declarations_of sequences (both (left_by [] attributes) (only_elements (length (map (bared known) elements) - length named))) (map declared_by named))
      (filtered (bared known) (is_named which) (names_one which) (named_same which) elements)
      ∙ ap₂ (λ (count : ℕ) (declared : List Declared). declarations_of sequences (both (left_by [] attributes) (only_elements count)) declared)
      (ap₂ (λ (all named : ℕ). all - named) (length-map elements (bared known) ∙ sym (length-map elements (placed known))) (length-map found (bared known) ∙ sym (length-map found (placed known)))) (mapped_twice found)
      ∙ ap (λ (named : List Gives). bare_blocks within (declarations_of sequences (both (left_by [] attributes) (only_elements (length (map (placed known) elements) - length named))) (map declared_by named)))
      (sym (filtered (placed known) (is_named which) (names_one which) (λ element. refl) elements))
      ∙ ap (λ (held : List Gives). bare_blocks within (declaration_blocks sequences which attributes held)) (sym (elems_placed known nodes))

  pub blocks_at : (which : Tag) (lists : Lists) (here : Where) (sections : Bool) → InText lists.in_note here → (sections ≡ true → reads_sections here ≡ true) → blocks_stand which attributes stand sections ≡ true
      → AreKept known (in_blocks which place attributes gives here)
      → element_blocks (bare_known known) which 0 attributes bare lists ≡ bare_blocks lists.in_note (element_blocks known which place attributes given lists)
  blocks_at tag.Paragraph lists here sections text read stands kept = paragraph_same lists here text 0 (paragraph_rules known) stands kept
  blocks_at tag.Heading lists here sections text read stands kept = paragraph_same lists here text (stated_or key.OutlineLevel value.heading_level 1 attributes) (heading_rules known) stands kept
  blocks_at tag.List lists here sections text read stands kept = list_same lists (record here { in_list = true }) text stands kept
  blocks_at tag.Section lists here true text read stands kept =
      let parts = both_pass (has_name key.TextName attributes) (list_all (λ (one : Standing). one.blocks true) stand) stands in
      section_same lists here text (stated key.TextName value.name attributes) parts.0 (read refl) parts.1 kept
  blocks_at tag.Section lists here false text read stands kept = cc
  blocks_at tag.Index lists here sections text read stands kept = ap (blocks_with one_element) (blocks_in lists here sections text read stands kept)
  blocks_at tag.SectionSource lists here sections text read stands kept = source_same lists.in_note
  blocks_at tag.VariableDeclarations lists here sections text read stands kept = declarations_same lists.in_note false tag.VariableDeclaration
  blocks_at tag.SequenceDeclarations lists here sections text read stands kept = declarations_same lists.in_note true tag.SequenceDeclaration
  blocks_at _ lists here sections text read stands kept = refl

  held_same : (lists : Lists) (here : Where) → InText lists.in_note here → list_all (λ (one : Standing). one.blocks false) stand ≡ true → AreKept known (each (λ one. one.blocks) here gives)
      → blocks_with (left_by [] attributes) (blocks_alone (joined_blocks (map (λ (one : Gives). one.blocks lists) (elems bare))))
      ≡ bare_blocks lists.in_note (blocks_with (left_by [] attributes) (blocks_alone (joined_blocks (map (λ (one : Gives). one.blocks lists) (elems given)))))
  held_same lists here text stands kept =
      ap (λ (read : ReadBlocks). blocks_with (left_by [] attributes) (blocks_alone read)) (blocks_in lists here false text (λ e. cc) stands kept)
      ∙ ap (blocks_with (left_by [] attributes)) (alone_bare lists.in_note (joined_blocks (map (λ (one : Gives). one.blocks lists) (elems given))))

  pub entry_at : (which : Tag) (lists : Lists) (here : Where) → InText lists.in_note here → list_all (λ (one : Standing). one.blocks false) stand ≡ true → AreKept known (in_list which gives here)
      → entry_blocks which attributes (elems bare) lists ≡ bare_blocks lists.in_note (entry_blocks which attributes (elems given) lists)
  entry_at tag.ListItem lists here text stands kept =
      change_bare lists.in_note (is_directly_in lists.level) (λ place. record place { item = true }) (directly_bare lists.in_note lists.level)
      (blocks_with (left_by [] attributes) (blocks_alone (joined_blocks (map (λ (one : Gives). one.blocks lists) (elems bare)))))
      (blocks_with (left_by [] attributes) (blocks_alone (joined_blocks (map (λ (one : Gives). one.blocks lists) (elems given))))) (held_same lists here text stands kept)
  entry_at tag.ListHeader lists here text stands kept = held_same lists here text stands kept
  entry_at _ lists here text stands kept = refl

  pub inside_at : (lists : Lists) (here : Where) (sections : Bool) → InText lists.in_note here → (sections ≡ true → reads_sections here ≡ true) → list_all (λ (one : Standing). one.blocks sections) stand ≡ true → AreKept known (each (λ one. one.blocks) here gives)
      → joined_blocks (map (λ (one : Gives). one.blocks lists) (elems bare)) ≡ bare_blocks lists.in_note (joined_blocks (map (λ (one : Gives). one.blocks lists) (elems given)))
  inside_at lists here sections text read stands kept = blocks_in lists here sections text read stands kept
