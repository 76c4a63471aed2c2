-- Sections with their sources are read back.
use Rattle.std.proofs.Common.{◌≡◌, ◌≢◌, ℕ, not, Bool, true, false, List, [], ◌∷◌, ◌++◌, map, length, codes, refl, sym, ap, ap₂, ◌∙◌, subst, append_assoc, append-nil, inl, inr, Option, Some, None, is_some}
use Rattle.std.specs.List.{flat_map, AllByRecursion as Each}
use Rattle.std.specs.Option.{option_and_then, option_map_or}
use Rattle.std.proofs.lemmas.List.{length-map}
use Rattle.std.proofs.lemmas.List.Folds.{flat_map-map}
use Rattle.markup_nodes.specs.declared.words.Attr.{Attr}
use Rattle.markup_nodes.specs.declared.tree.Elem.{Elem}
use Rattle.markup_nodes.specs.Node.{Node}
use Rattle.doc_model.specs.declared.block.Block.{Block, roll-Block}
use Rattle.doc_model.specs.declared.block.Block.TheOpen.{Block-F, Section-F}
use Rattle.doc_model.specs.declared.block.Block.TheFolds.{fold-roll-Block, fold-roll-Section}
use Rattle.doc_model.specs.declared.block.Kind.{Kind}
use Rattle.doc_model.specs.declared.block.Kind.TheVariants.{Plain}
use Rattle.doc_model.specs.declared.block.Section.{Section, roll-Section}
use Rattle.doc_model.specs.declared.block.SectionSource.{SectionSource}
use Rattle.doc_model.specs.declared.paragraph.Par.{Par}
use Rattle.doc_model.specs.declared.style.Family.TheVariants as family
use Rattle.doc_model.specs.Parts.{SectionHead, block_sections}
use Rattle.doc_model.specs.Reading.{block_paragraphs}
use Rattle.block_facts.proofs.Blocks.{of_block, par_block, par_reads, section_block, section_reads}
use Rattle.load_model.specs.declared.names.Key.TheVariants as key
use Rattle.load_model.specs.declared.names.Tag.TheVariants as tag
use Rattle.load_model.specs.declared.element.Attribute.{Attribute}
use Rattle.load_model.specs.Blocks.{Lists, ReadBlocks, ReadSource, kept_section, left_by, section_rules, without_declarations}
use Rattle.load_model.specs.Left.{Left, all_of, both, nothing}
use Rattle.load_model.specs.Styles.{Names, style_reference}
use Rattle.load_model.specs.Values as value
use Rattle.load_model.specs.Values.{Rule, rule, stated_or}
use Rattle.written_model.specs.Blocks.{block_element, note_element, source_element}
use Rattle.written_model.specs.Elements.{element, unless_empty, where_true}
use Rattle.back_names.specs.Named.{named_attribute}
use Rattle.back_fields.specs.Fit.{IsName, IsNameOrNone}
use Rattle.back_fields.specs.Given.{all_kept, given}
use Rattle.back_fields.proofs.Attributes.{at, at_unless, left_first, left_unless, named_unless}
use Rattle.back_fields.proofs.Keys as field_name
use Rattle.back_fields.proofs.Opened.{gives_with}
use Rattle.back_spans.proofs.Runs.{each_both, style_name_key}
use Rattle.back_values.proofs.Texts.{name_back, none_back}
use Rattle.back_paragraphs.specs.Paragraphs.{IsNoneOrGood, IsReadablePar, outside, parts_of, whole_blocks}
use Rattle.back_paragraphs.proofs.Lists.{par_read}
use Rattle.back_paragraphs.proofs.Parts.{IsBlocks, gives_at, part_first, style_stated}
use Rattle.back_blocks.specs.Blocks.{IsReadableSection, IsSource}
use Rattle.back_blocks.proofs.Joins.{IsParts, all_read, at_true, left_true, named_true, parts_first, past_true, past_unless}
use Rattle.back_blocks.proofs.Keys as named
use Rattle.back_blocks.proofs.Opened.{element_par, element_section}

-- a source
abbrev read_source : SectionSource → ReadSource
read_source source = record { source = source; left = nothing }

abbrev sources_of : Option SectionSource → List ReadSource
sources_of None = []
sources_of (Some source) = read_source source ∷ []

abbrev given_or_none : Option (List ℕ) → List ℕ
given_or_none found = option_map_or (λ value. value) (option_and_then value.name_or_none found) []

own_stated : (text : List ℕ) → IsNameOrNone text → given_or_none (Some text) ≡ text
own_stated text few = ap (λ (found : Option (List ℕ)). option_map_or (λ value. value) found []) (none_back text few)

module _ (source : SectionSource) (is : IsSource (Some source)) where
  abbrev source_attributes : List Attribute
  source_attributes = at_unless key.Href source.href (at_unless key.SectionName source.section [])

  abbrev source_rules : List Rule
  source_rules = rule key.Href value.name_or_none ∷ rule key.SectionName value.name_or_none ∷ []

  href_is : stated_or key.Href value.name_or_none [] source_attributes ≡ source.href
  href_is = by_href source.href is.0 where
    by_href : (href : List ℕ) → IsNameOrNone href → stated_or key.Href value.name_or_none [] (at_unless key.Href href (at_unless key.SectionName source.section [])) ≡ href
    by_href [] few = ap given_or_none (past_unless key.SectionName key.Href source.section [] refl)
    by_href (c ∷ cs) few = own_stated (c ∷ cs) few

  section_is : stated_or key.SectionName value.name_or_none [] source_attributes ≡ source.section
  section_is = ap given_or_none (past_unless key.Href key.SectionName source.href (at_unless key.SectionName source.section []) refl) ∙ by_section source.section is.1 where
    by_section : (section : List ℕ) → IsNameOrNone section → stated_or key.SectionName value.name_or_none [] (at_unless key.SectionName section []) ≡ section
    by_section [] few = refl
    by_section (c ∷ cs) few = own_stated (c ∷ cs) few

  source_left : left_by source_rules source_attributes ≡ nothing
  source_left =
      left_unless source_rules key.Href source.href (at_unless key.SectionName source.section []) (ap is_some (none_back source.href is.0))
      (left_unless source_rules key.SectionName source.section [] (ap is_some (none_back source.section is.1)) refl)

  source_named : map named_attribute (unless_empty (codes "xlink:href") source.href ++ unless_empty (codes "text:section-name") source.section) ≡ source_attributes
  source_named =
      named_unless (codes "xlink:href") source.href key.Href (unless_empty (codes "text:section-name") source.section) (at_unless key.SectionName source.section []) named.href_key
      (ap (map named_attribute) (sym (append-nil (unless_empty (codes "text:section-name") source.section))) ∙ named_unless (codes "text:section-name") source.section key.SectionName [] [] named.section_name_key refl)

  source_read : (names : Names) (lists : Lists) → IsParts names lists (element (codes "text:section-source") (unless_empty (codes "xlink:href") source.href ++ unless_empty (codes "text:section-name") source.section) []) (all_read [] (read_source source ∷ []) [])
  source_read names lists = record {
    gives = gives_with (all_kept names) tag.SectionSource source_attributes [];
    is = gives_at names (codes "text:section-source") (unless_empty (codes "xlink:href") source.href ++ unless_empty (codes "text:section-name") source.section) [] tag.SectionSource source_attributes named.source_tag source_named;
    read_is =
        ap₂ (λ (href section : List ℕ). made href section (left_by source_rules source_attributes)) href_is section_is
        ∙ ap (made source.href source.section) source_left;
  } where
    made : List ℕ → List ℕ → Left → ReadBlocks
    made href section left = all_read [] (record { source = record { href = href; section = section }; left = both left nothing } ∷ []) []

-- what a section holds
module _ (names : Names) where
  with_source : (source : Option SectionSource) → IsSource source → (nodes : List (Node Elem)) (blocks : List Block) → parts_of names (outside false) nodes ≡ whole_blocks blocks
      → parts_of names (outside false) (source_element source ++ nodes) ≡ all_read blocks (sources_of source) []
  with_source None is nodes blocks e = e
  with_source (Some source) is nodes blocks e =
      parts_first names (outside false) (element (codes "text:section-source") (unless_empty (codes "xlink:href") source.href ++ unless_empty (codes "text:section-name") source.section) []) nodes [] blocks (read_source source ∷ []) [] [] []
      (source_read source is names (outside false)) e

  -- a section's own parts
  module _ (x : Section-F Block Section) (readable : IsReadableSection names (record { kind = x.kind; name = x.name; style = x.style; protected = x.protected; hidden = x.hidden; source = x.source; blocks = length x.blocks })) where
    abbrev shown : List Attribute
    shown = at_true key.Display (codes "none") x.hidden []

    abbrev guarded : List Attribute
    guarded = at_true key.Protected (codes "true") x.protected shown

    abbrev called : List Attribute
    called = at_unless key.TextName x.name guarded

    abbrev attributes : List Attribute
    attributes = at_unless key.StyleName x.style called

    abbrev rules : List Rule
    rules = section_rules (all_kept names)

    -- section rules with the style in front, so that it is told alike
    name_stated : stated_or key.TextName value.name [] attributes ≡ x.name
    name_stated = ap (λ (found : Option (List ℕ)). option_map_or (λ value. value) (option_and_then value.name found) []) (past_unless key.StyleName key.TextName x.style called refl) ∙ by_name x.name readable.name where
      by_name : (name : List ℕ) → IsName name → stated_or key.TextName value.name [] (at_unless key.TextName name guarded) ≡ name
      by_name [] is = absurd (is.0 refl)
      by_name (c ∷ cs) is = ap (λ (found : Option (List ℕ)). option_map_or (λ value. value) found []) (name_back (c ∷ cs) is.0 is.1)

    style_none : stated_or key.StyleName (style_reference names family.Section) [] called ≡ []
    style_none =
        ap (λ (found : Option (List ℕ)). option_map_or (λ value. value) (option_and_then (style_reference names family.Section) found) [])
        (past_unless key.TextName key.StyleName x.name guarded refl ∙ past_true key.Protected key.StyleName (codes "true") x.protected shown refl ∙ past_true key.Display key.StyleName (codes "none") x.hidden [] refl)

    own_style : stated_or key.StyleName (style_reference names family.Section) [] attributes ≡ x.style
    own_style = style_stated (style_reference names family.Section) x.style [] called readable.style (λ none. style_none)

    protected_stated : stated_or key.Protected value.truth false attributes ≡ x.protected
    protected_stated =
        ap (λ (found : Option (List ℕ)). option_map_or (λ value. value) (option_and_then value.truth found) false)
        (past_unless key.StyleName key.Protected x.style called refl ∙ past_unless key.TextName key.Protected x.name guarded refl)
        ∙ by_test x.protected where
          by_test : (protected : Bool) → stated_or key.Protected value.truth false (at_true key.Protected (codes "true") protected shown) ≡ protected
          by_test true = refl
          by_test false = ap (λ (found : Option (List ℕ)). option_map_or (λ value. value) (option_and_then value.truth found) false) (past_true key.Display key.Protected (codes "none") x.hidden [] refl)

    hidden_stated : not (stated_or key.Display value.display true attributes) ≡ x.hidden
    hidden_stated =
        ap (λ (found : Option (List ℕ)). not (option_map_or (λ value. value) (option_and_then value.display found) true))
        (past_unless key.StyleName key.Display x.style called refl ∙ past_unless key.TextName key.Display x.name guarded refl ∙ past_true key.Protected key.Display (codes "true") x.protected shown refl)
        ∙ by_test x.hidden where
          by_test : (hidden : Bool) → not (stated_or key.Display value.display true (at_true key.Display (codes "none") hidden [])) ≡ hidden
          by_test true = refl
          by_test false = refl

    none_called : left_by rules called ≡ nothing
    none_called =
        left_unless rules key.TextName x.name guarded (ap is_some (name_back x.name readable.name.0 readable.name.1))
        (left_true rules key.Protected (codes "true") x.protected shown refl (left_true rules key.Display (codes "none") x.hidden [] refl refl))

    none_left : left_by rules attributes ≡ nothing
    none_left = by_style x.style readable.style where
      by_style : (style : List ℕ) → IsNoneOrGood (style_reference names family.Section) style → left_by rules (at_unless key.StyleName style called) ≡ nothing
      by_style [] good = none_called
      by_style (c ∷ cs) (inl e) = cc
      by_style (c ∷ cs) (inr e) = left_first rules (at key.StyleName (c ∷ cs)) called (ap is_some e) none_called

    abbrev made : Kind → List ℕ → List ℕ → Bool → Bool → Left → Option SectionSource → List Block → ReadBlocks
    made kind name style protected hidden left source blocks = record {
      blocks = roll-Block (Block-F.Section (roll-Section (record { kind = kind; name = name; style = style; protected = protected; hidden = hidden; source = source; blocks = blocks }))) ∷ [];
      sources = [];
      declarations = [];
      left = all_of (left ∷ nothing ∷ nothing ∷ nothing ∷ []);
    }

    -- by what it states
    parts_are : (source : Option SectionSource) (blocks : List Block) → x.source ≡ source → x.blocks ≡ blocks
        → made Plain (stated_or key.TextName value.name [] attributes) (stated_or key.StyleName (style_reference names family.Section) [] attributes) (stated_or key.Protected value.truth false attributes)
        (not (stated_or key.Display value.display true attributes)) (left_by rules attributes) source blocks
        ≡ whole_blocks (section_block x ∷ [])
    parts_are source blocks e f =
        ap₂ (λ (name style : List ℕ). made Plain name style (stated_or key.Protected value.truth false attributes) (not (stated_or key.Display value.display true attributes)) (left_by rules attributes) source blocks) name_stated own_style
        ∙ ap₂ (λ (protected hidden : Bool). made Plain x.name x.style protected hidden (left_by rules attributes) source blocks) protected_stated hidden_stated
        ∙ ap₂ (λ (left : Left) (kind : Kind). made kind x.name x.style x.protected x.hidden left source blocks) none_left (sym readable.kind)
        ∙ ap₂ (λ (own : Option SectionSource) (held : List Block). made x.kind x.name x.style x.protected x.hidden nothing own held) (sym e) (sym f)

    kept_is : kept_section (all_kept names) 0 attributes (without_declarations (all_read x.blocks (sources_of x.source) [])) ≡ whole_blocks (section_block x ∷ [])
    kept_is = by_parts x.source x.blocks refl refl readable.some where
      by_parts : (source : Option SectionSource) (blocks : List Block) → x.source ≡ source → x.blocks ≡ blocks → length blocks ≢ 0
          → kept_section (all_kept names) 0 attributes (without_declarations (all_read blocks (sources_of source) [])) ≡ whole_blocks (section_block x ∷ [])
      by_parts source [] e f some = absurd (some refl)
      by_parts None (block ∷ blocks) e f some = parts_are None (block ∷ blocks) e f
      by_parts (Some source) (block ∷ blocks) e f some = parts_are (Some source) (block ∷ blocks) e f

    abbrev written : List Attr
    written = unless_empty (codes "text:style-name") x.style ++ unless_empty (codes "text:name") x.name ++ where_true (codes "text:protected") (codes "true") x.protected ++ where_true (codes "text:display") (codes "none") x.hidden

    four_parts : (a b c d : List Attr) → ((a ++ b) ++ c) ++ d ≡ a ++ (b ++ (c ++ (d ++ [])))
    four_parts a b c d = simp append_assoc (ap (λ (end : List Attr). a ++ (b ++ (c ++ end))) (sym (append-nil d)))

    written_named : map named_attribute written ≡ attributes
    written_named =
        ap (map named_attribute) (four_parts (unless_empty (codes "text:style-name") x.style) (unless_empty (codes "text:name") x.name) (where_true (codes "text:protected") (codes "true") x.protected) (where_true (codes "text:display") (codes "none") x.hidden))
        ∙ named_unless (codes "text:style-name") x.style key.StyleName (unless_empty (codes "text:name") x.name ++ (where_true (codes "text:protected") (codes "true") x.protected ++ (where_true (codes "text:display") (codes "none") x.hidden ++ []))) called style_name_key
        (named_unless (codes "text:name") x.name key.TextName (where_true (codes "text:protected") (codes "true") x.protected ++ (where_true (codes "text:display") (codes "none") x.hidden ++ [])) guarded field_name.name_key
        (named_true (codes "text:protected") (codes "true") key.Protected x.protected (where_true (codes "text:display") (codes "none") x.hidden ++ []) shown named.protected_key
        (named_true (codes "text:display") (codes "none") key.Display x.hidden [] [] field_name.display_key refl)))

    section_read : parts_of names (outside false) (map block_element x.blocks) ≡ whole_blocks x.blocks
        → IsBlocks names (outside false) (element (codes "text:section") written (source_element x.source ++ map block_element x.blocks)) (section_block x ∷ [])
    section_read e = record {
      gives = gives_with (all_kept names) tag.Section attributes (map (given names) (source_element x.source ++ map block_element x.blocks));
      is = gives_at names (codes "text:section") written (source_element x.source ++ map block_element x.blocks) tag.Section attributes named.section_tag written_named;
      read = ap (λ (held : ReadBlocks). kept_section (all_kept names) 0 attributes (without_declarations held)) (with_source x.source readable.source (map block_element x.blocks) x.blocks e) ∙ kept_is;
    }

  -- what is asked of a block, and what it is read as
  abbrev Reads : Block → Type 0
  Reads block = Each (IsReadablePar names false note_element) (block_paragraphs block) → Each (IsReadableSection names) (block_sections block) → IsBlocks names (outside false) (block_element block) (block ∷ [])

  par_case : (par : Par) → Reads (par_block par)
  par_case par pars sections =
      subst (λ (node : Node Elem). IsBlocks names (outside false) node (par_block par ∷ [])) (sym (element_par par))
      (par_read names false note_element par (subst (λ (all : List Par). Each (IsReadablePar names false note_element) all) (par_reads par) pars).0)

  abbrev head_of : Section-F Block Section → SectionHead
  head_of x = record { kind = x.kind; name = x.name; style = x.style; protected = x.protected; hidden = x.hidden; source = x.source; blocks = length x.blocks }

  sections_open : (x : Section-F Block Section) → block_sections (section_block x) ≡ head_of x ∷ flat_map (λ sections. sections) (map block_sections x.blocks)
  sections_open x = simp (fold-roll-Block, fold-roll-Section, length-map x.blocks block_sections)

  sections_are : (x : Section-F Block Section) → block_sections (section_block x) ≡ head_of x ∷ flat_map block_sections x.blocks
  sections_are x = sections_open x ∙ ap (λ (more : List SectionHead). head_of x ∷ more) (flat_map-map (λ (sections : List SectionHead). sections) block_sections x.blocks)

  all_read_from : (blocks : List Block) → Each Reads blocks → Each (IsReadablePar names false note_element) (flat_map block_paragraphs blocks) → Each (IsReadableSection names) (flat_map block_sections blocks)
      → parts_of names (outside false) (map block_element blocks) ≡ whole_blocks blocks
  all_read_from [] each pars sections = refl
  all_read_from (block ∷ blocks) each pars sections =
      let own_pars = each_both (IsReadablePar names false note_element) (block_paragraphs block) (flat_map block_paragraphs blocks) pars in
      let own_sections = each_both (IsReadableSection names) (block_sections block) (flat_map block_sections blocks) sections in
      part_first names (outside false) (block_element block) (map block_element blocks) (block ∷ []) blocks (each.0 own_pars.0 own_sections.0) (all_read_from blocks each.1 own_pars.1 own_sections.1)

  section_case : (x : Section-F Block Section) → Each Reads x.blocks → Reads (section_block x)
  section_case x each pars sections =
      let own = subst (λ (all : List SectionHead). Each (IsReadableSection names) all) (sections_are x) sections in
      let held = subst (λ (all : List Par). Each (IsReadablePar names false note_element) all) (section_reads x) pars in
      subst (λ (node : Node Elem). IsBlocks names (outside false) node (section_block x ∷ [])) (sym (element_section x)) (section_read x own.0 (all_read_from x.blocks each held own.1))

  each_reads : (blocks : List Block) → Each Reads blocks
  each_reads [] = tt
  each_reads (block ∷ blocks) = (of_block Reads par_case section_case block, each_reads blocks)

  pub blocks_read : (blocks : List Block) → Each (IsReadablePar names false note_element) (flat_map block_paragraphs blocks) → Each (IsReadableSection names) (flat_map block_sections blocks)
      → parts_of names (outside false) (map block_element blocks) ≡ whole_blocks blocks
  blocks_read blocks pars sections = all_read_from blocks (each_reads blocks) pars sections
