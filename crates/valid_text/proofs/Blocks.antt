-- Blocks are good.
use Rattle.std.proofs.Common.{◌≡◌, ◌≢◌, ℕ, ◌≤◌, ◌==◌, ◌&&◌, ◌||◌, not, Bool, true, false, cond, List, [], ◌∷◌, ◌++◌, map, length, zero, suc, refl, sym, ap, subst, ◌∙◌, Option, Some, None, is_some, inl, arith}
use Rattle.std.specs.List.{flat_map, AllByRecursion as Each}
use Rattle.std.specs.Option.{option_map_or}
use Rattle.markup_nodes.specs.Node.{Node}
use Rattle.markup_nodes.specs.Nodes.{elems}
use Rattle.doc_model.specs.declared.block.Block.{Block}
use Rattle.doc_model.specs.declared.block.Block.TheOpen.{Section-F}
use Rattle.doc_model.specs.declared.block.Block.TheFolds.{fold-roll-Block, fold-roll-Section}
use Rattle.doc_model.specs.declared.block.Kind.TheVariants.{Plain}
use Rattle.doc_model.specs.declared.block.Section.{Section}
use Rattle.doc_model.specs.declared.block.SectionSource.{SectionSource}
use Rattle.doc_model.specs.declared.style.Family.{Family}
use Rattle.doc_model.specs.declared.style.Family.TheVariants as family
use Rattle.doc_model.specs.Parts.{SectionHead, block_sections, names_of_section}
use Rattle.doc_model.specs.Reading.{block_paragraphs}
use Rattle.doc_model.specs.Valid.{IsNoneOrStyle}
use Rattle.block_facts.proofs.Blocks.{joined, section_block, section_reads}
use Rattle.load_model.specs.declared.names.Key.TheVariants as key
use Rattle.load_model.specs.declared.names.Tag.{Tag}
use Rattle.load_model.specs.declared.names.Tag.TheVariants as tag
use Rattle.load_model.specs.declared.element.Attribute.{Attribute}
use Rattle.load_model.specs.declared.element.Element.{Element as Read}
use Rattle.load_model.specs.Blocks.{Around, Gives, Lists, ReadBlocks, ReadSource, blocks_with, element_blocks, entry_blocks, first_changed, heading_rules, inner_list, is_directly_in, joined_blocks, kept_section, list_blocks, list_place, one_element, or_empty, paragraph_block, paragraph_rules, section_blocks, source_blocks, without_declarations}
use Rattle.load_model.specs.Left.{Left}
use Rattle.load_model.specs.Met as met
use Rattle.load_model.specs.Met.{Met, Where, each, in_blocks, in_list, is_at, reads_sections, section_met}
use Rattle.load_model.specs.Styles.{reference, style_reference}
use Rattle.load_model.specs.Values as value
use Rattle.load_model.specs.Values.{Rule, stated, stated_or}
use Rattle.legal_trees.specs.Legal.{IsLegalNode}
use Rattle.valid_text.specs.Texts.{IsGoodName, IsPlace}
use Rattle.valid_text.proofs.Good.{Text, Fits, AreGoodBlocks, IsGoodBlock, IsGoodPar, IsGoodSection, IsGoodSource, NoteOf, place_names}
use Rattle.valid_text.proofs.Lists.{each_made}
use Rattle.valid_text.proofs.Pars.{block_good, changed_good, empty_good_blocks, rolled}
use Rattle.valid_text.proofs.Raws.{items_good}
use Rattle.valid_text.proofs.Settled.{own_settled, within_note}
use Rattle.valid_text.proofs.Steps.{elems_given, given_nodes}
use Rattle.valid_text.proofs.Values.{AreLegal, empty_good, heading_good, name_good, name_or_none_good, stated_holds, stated_or_holds}
use Rattle.valid_text.proofs.Walk.{AreDeclared, AreSettled, InText, IsGood, IsListName, content_good, joined_good, role_good}

-- the sections of a section
abbrev head_of : Section-F Block Section → ℕ → SectionHead
head_of x count = record { kind = x.kind; name = x.name; style = x.style; protected = x.protected; hidden = x.hidden; source = x.source; blocks = count }

sections_open : (x : Section-F Block Section) → block_sections (section_block x) ≡ head_of x (length (map block_sections x.blocks)) ∷ flat_map (λ sections. sections) (map block_sections x.blocks)
sections_open x = simp (fold-roll-Block, fold-roll-Section)

sections_read : (x : Section-F Block Section) → block_sections (section_block x) ≡ head_of x (length (map block_sections x.blocks)) ∷ flat_map block_sections x.blocks
sections_read x = sections_open x ∙ ap (λ (more : List SectionHead). head_of x (length (map block_sections x.blocks)) ∷ more) (joined block_sections x.blocks)

-- a number that isn't 0
one_at_least : (n : ℕ) → (n == 0) ≡ false → 1 ≤ n
one_at_least zero e = absurd cc
one_at_least (suc n) e = omega arith

abbrev source_names : Option SectionSource → List (List ℕ)
source_names None = []
source_names (Some source) = source.href ∷ source.section ∷ []

module _ (text : Text) (fits : Fits text) (place : ℕ) (attributes : List Attribute) (legal : AreLegal attributes) (nodes : List (Node Read)) (chars : Each IsLegalNode nodes) (good : Each (IsGood text) (elems nodes)) where
  abbrev given : List (Node Gives)
  given = given_nodes text.known nodes

  abbrev gives : List met.Gives
  gives = map met.gives_of (elems nodes)

  -- what stands in it, one after another
  blocks_in : (lists : Lists) (here : Where) → InText lists.in_note here → AreSettled text lists.in_note (elems nodes) → IsListName text lists.style → AreDeclared text (each (λ one. one.blocks) here gives)
      → AreGoodBlocks text lists.in_note (joined_blocks (map (λ (one : Gives). one.blocks lists) (elems given)))
  blocks_in lists here outside settled named declared =
      subst (λ (held : List Gives). AreGoodBlocks text lists.in_note (joined_blocks (map (λ (one : Gives). one.blocks lists) held))) (sym (elems_given text.known nodes))
      (joined_good text lists.in_note _ (role_good text (λ (one : Gives). one.blocks lists) (λ (one : met.Gives). one.blocks here) lists.in_note
      (λ element is settled declared. is.blocks lists here outside settled named declared) (elems nodes) good settled declared))

  entries_in : (lists : Lists) (here : Where) → InText lists.in_note here → AreSettled text lists.in_note (elems nodes) → IsListName text lists.style → AreDeclared text (each (λ one. one.entry) here gives)
      → AreGoodBlocks text lists.in_note (joined_blocks (map (λ (one : Gives). one.entry lists) (elems given)))
  entries_in lists here outside settled named declared =
      subst (λ (held : List Gives). AreGoodBlocks text lists.in_note (joined_blocks (map (λ (one : Gives). one.entry lists) held))) (sym (elems_given text.known nodes))
      (joined_good text lists.in_note _ (role_good text (λ (one : Gives). one.entry lists) (λ (one : met.Gives). one.entry here) lists.in_note
      (λ element is settled declared. is.entry lists here outside settled named declared) (elems nodes) good settled declared))

  -- the style that it states
  abbrev style_of : Family → List ℕ
  style_of of = stated_or key.StyleName (style_reference text.known.names of) [] attributes

  style_there : (of : Family) → IsNoneOrStyle text.doc of (style_of of) × IsGoodName (style_of of)
  style_there of =
      stated_or_holds (λ (name : List ℕ). IsNoneOrStyle text.doc of name × IsGoodName name) key.StyleName (style_reference text.known.names of) [] attributes legal (inl refl, empty_good)
      (λ found name is e. let there = fits.style of found name is e in (there.1, there.2))

  -- a list place
  list_there : (lists : Lists) → IsListName text lists.style → IsPlace text.doc (list_place lists) × Each IsGoodName (place_names (list_place lists))
  list_there lists named = by_level (lists.level == 0) refl where
    by_level : (b : Bool) → (lists.level == 0) ≡ b → IsPlace text.doc (cond b None (Some (record { style = lists.style; level = lists.level; item = false; fresh = false })))
        × Each IsGoodName (place_names (cond b None (Some (record { style = lists.style; level = lists.level; item = false; fresh = false }))))
    by_level true e = (tt, tt)
    by_level false e = ((named.0, one_at_least lists.level e), (named.1, tt))

  abbrev around_in : Lists → Around
  around_in lists = record { spans = []; in_note = lists.in_note }

  -- a paragraph
  paragraph_good : (lists : Lists) (here : Where) → InText lists.in_note here → (level : ℕ) → level ≤ 10 → (rules : List Rule) → AreSettled text lists.in_note (elems nodes) → IsListName text lists.style
      → AreDeclared text (each (λ one. one.content) here gives) → AreGoodBlocks text lists.in_note (paragraph_block text.known lists place level rules attributes given)
  paragraph_good lists here outside level least rules settled named declared =
      let style = style_there family.Paragraph in
      let list = list_there lists named in
      let raws = content_good text (around_in lists) here outside (omega arith, tt) nodes chars good settled declared in
      ((block_good text lists.in_note _ (rolled text (NoteOf text lists.in_note) _ ((style.0, least, list.0), (style.1, list.1), items_good text lists.in_note _ raws)), tt), tt)

  -- a list
  list_named : (lists : Lists) → IsListName text lists.style → IsListName text (inner_list text.known lists attributes).style
  list_named lists named = stated_or_holds (IsListName text) key.StyleName (reference text.known.names.lists) lists.style attributes legal named (λ found name is e. fits.list found name is e)

  begins_good : (within : Bool) (b : Bool) (read : ReadBlocks) → AreGoodBlocks text within read → AreGoodBlocks text within (cond b (record read { blocks = first_changed (λ block. true) (λ place. record place { fresh = true }) read.blocks }) read)
  begins_good within true read is = (changed_good text within (λ place. record place { fresh = true }) (λ place. (refl, refl)) (λ block. true) read.blocks is.0, is.1)
  begins_good within false read is = is

  list_good : (lists : Lists) (here : Where) → InText lists.in_note here → AreSettled text lists.in_note (elems nodes) → IsListName text lists.style → AreDeclared text (each (λ one. one.entry) here gives)
      → AreGoodBlocks text lists.in_note (list_blocks text.known lists attributes (elems given))
  list_good lists here outside settled named declared =
      let inner = inner_list text.known lists attributes in
      begins_good lists.in_note (lists.level == 0 && not (stated_or key.ContinueNumbering value.truth false attributes)) (joined_blocks (map (λ (one : Gives). one.entry inner) (elems given)))
      (entries_in inner here outside settled (list_named lists named) declared)

  -- a section
  abbrev name_stated : List ℕ
  name_stated = stated_or key.TextName value.name [] attributes

  name_is : IsGoodName name_stated
  name_is = stated_or_holds IsGoodName key.TextName value.name [] attributes legal empty_good (λ found name is e. (name_good found name is e).0)

  has_name : is_some (stated key.TextName value.name attributes) ≡ true → name_stated ≢ []
  has_name some = by_stated (stated key.TextName value.name attributes) refl some where
    by_stated : (found : Option (List ℕ)) → stated key.TextName value.name attributes ≡ found → is_some found ≡ true → option_map_or (λ name. name) found [] ≡ [] → ⊥
    by_stated None is some none = absurd cc
    by_stated (Some name) is some none = stated_holds (λ (one : List ℕ). one ≢ []) key.TextName value.name attributes legal (λ found one legal e. (name_good found one legal e).1) name is none

  abbrev section_with : Option SectionSource → List Block → Section-F Block Section
  section_with source blocks = record {
    kind = Plain;
    name = name_stated;
    style = style_of family.Section;
    protected = stated_or key.Protected value.truth false attributes;
    hidden = not (stated_or key.Display value.display true attributes);
    source = source;
    blocks = blocks;
  }

  some_blocks : (blocks : List Block) → length (map block_sections (or_empty place blocks)) ≢ 0
  some_blocks [] e = absurd cc
  some_blocks (block ∷ blocks) e = absurd cc

  source_good : (source : Option SectionSource) (count : ℕ) (blocks : List Block) → Each IsGoodName (source_names source) → Each IsGoodName (names_of_section (head_of (section_with source blocks) count))
  source_good None count blocks is = (name_is, ((style_there family.Section).1, tt))
  source_good (Some source) count blocks is = (name_is, ((style_there family.Section).1, is))

  abbrev OwnSettled : Bool → Type 0
  OwnSettled within = text.strict ≡ true → (not within && is_some (stated key.TextName value.name attributes)) ≡ true

  named_if : (within : Bool) → (not within && is_some (stated key.TextName value.name attributes)) ≡ true → is_some (stated key.TextName value.name attributes) ≡ true
  named_if true e = absurd cc
  named_if false e = e

  outside_if : (within some : Bool) → (not within && some) ≡ true → within ≡ true → ⊥
  outside_if true some e is = cc
  outside_if false some e is = cc

  section_good : (within : Bool) → OwnSettled within → (source : Option SectionSource) → Each IsGoodName (source_names source) → (blocks : List Block) → Each (IsGoodBlock text within) blocks
      → IsGoodBlock text within (section_block (section_with source (or_empty place blocks)))
  section_good within own source is blocks each =
      let all = empty_good_blocks text within place blocks each in
      let x = section_with source (or_empty place blocks) in
      let count = length (map block_sections (or_empty place blocks)) in (
        subst (Each (IsGoodPar text (NoteOf text within))) (sym (section_reads x)) (each_made (IsGoodBlock text within) (IsGoodPar text (NoteOf text within)) block_paragraphs (λ block good. good.0) (or_empty place blocks) all),
        subst (Each (IsGoodSection text)) (sym (sections_read x)) (
          (record { blocks = some_blocks blocks; style = (style_there family.Section).0; kind = refl }, (λ strict. has_name (named_if within (own strict))), source_good source count (or_empty place blocks) is),
          each_made (IsGoodBlock text within) (IsGoodSection text) block_sections (λ block good. good.1) (or_empty place blocks) all,
        ),
        λ strict inside. absurd (outside_if within (is_some (stated key.TextName value.name attributes)) (own strict) inside),
      )

  kept_good : (within : Bool) → OwnSettled within → (blocks : List Block) (sources : List ReadSource) (left : Left) → Each (IsGoodBlock text within) blocks → Each IsGoodSource sources
      → AreGoodBlocks text within (kept_section text.known place attributes (record { blocks = blocks; sources = sources; declarations = []; left = left }))
  kept_good within own blocks [] left each is = ((section_good within own None tt blocks each, tt), tt)
  kept_good within own blocks (read ∷ sources) left each is = ((section_good within own (Some read.source) (is.0.0, (is.0.1, tt)) blocks each, tt), tt)

  kept_if : (within b : Bool) (read : ReadBlocks) → AreGoodBlocks text within read → (text.strict ≡ true → (not b || (not within && is_some (stated key.TextName value.name attributes))) ≡ true)
      → AreGoodBlocks text within (cond b (kept_section text.known place attributes (without_declarations read)) (blocks_with one_element read))
  kept_if within true read is own = kept_good within own read.blocks read.sources (without_declarations read).left is.0 is.1
  kept_if within false read is own = is

  held_good : (lists : Lists) (here : Where) → InText lists.in_note here → AreSettled text lists.in_note (elems nodes) → IsListName text lists.style → (name : Option (List ℕ)) → AreDeclared text (section_met place name gives here)
      → AreGoodBlocks text lists.in_note (joined_blocks (map (λ (one : Gives). one.blocks lists) (elems given)))
  held_good lists here outside settled named None declared = blocks_in lists here outside settled named declared
  held_good lists here outside settled named (Some name) declared = by_read (reads_sections here) declared where
    by_read : (b : Bool) → AreDeclared text (cond b (met.Section (record { place = place; name = name; around = here.sections }) ∷ each (λ one. one.blocks) (record here { sections = here.sections ++ place ∷ [] }) gives) (each (λ one. one.blocks) here gives))
        → AreGoodBlocks text lists.in_note (joined_blocks (map (λ (one : Gives). one.blocks lists) (elems given)))
    by_read true declared = blocks_in lists (record here { sections = here.sections ++ place ∷ [] }) outside settled named declared.1
    by_read false declared = blocks_in lists here outside settled named declared

  section_is : (lists : Lists) (here : Where) → InText lists.in_note here → (text.strict ≡ true → own_settled text.known.kept lists.in_note tag.Section place attributes ≡ true) → AreSettled text lists.in_note (elems nodes) → IsListName text lists.style
      → AreDeclared text (section_met place (stated key.TextName value.name attributes) gives here) → AreGoodBlocks text lists.in_note (section_blocks text.known lists place attributes (elems given))
  section_is lists here outside own settled named declared =
      kept_if lists.in_note (is_at text.known.kept.sections place) (joined_blocks (map (λ (one : Gives). one.blocks lists) (elems given))) (held_good lists here outside settled named (stated key.TextName value.name attributes) declared) own

  -- a source
  source_is : (within : Bool) → AreGoodBlocks text within (source_blocks attributes (elems given))
  source_is within =
      (tt, ((stated_or_holds IsGoodName key.Href value.name_or_none [] attributes legal empty_good name_or_none_good, stated_or_holds IsGoodName key.SectionName value.name_or_none [] attributes legal empty_good name_or_none_good), tt))

  heading_level : stated_or key.OutlineLevel value.heading_level 1 attributes ≤ 10
  heading_level = stated_or_holds (λ (n : ℕ). n ≤ 10) key.OutlineLevel value.heading_level 1 attributes legal (omega arith) (λ found n is e. heading_good found n e)

  pub blocks_at : (which : Tag) (lists : Lists) (here : Where) → InText lists.in_note here → (text.strict ≡ true → own_settled text.known.kept lists.in_note which place attributes ≡ true) → AreSettled text (within_note lists.in_note which) (elems nodes)
      → IsListName text lists.style → AreDeclared text (in_blocks which place attributes gives here) → AreGoodBlocks text lists.in_note (element_blocks text.known which place attributes given lists)
  blocks_at tag.Paragraph lists here outside own settled named declared = paragraph_good lists here outside 0 (omega arith) (paragraph_rules text.known) settled named declared
  blocks_at tag.Heading lists here outside own settled named declared = paragraph_good lists here outside (stated_or key.OutlineLevel value.heading_level 1 attributes) heading_level (heading_rules text.known) settled named declared
  blocks_at tag.List lists here outside own settled named declared = list_good lists (record here { in_list = true }) outside settled named declared
  blocks_at tag.Section lists here outside own settled named declared = section_is lists here outside own settled named declared
  blocks_at tag.Index lists here outside own settled named declared = blocks_in lists here outside settled named declared
  blocks_at tag.SectionSource lists here outside own settled named declared = source_is lists.in_note
  blocks_at tag.VariableDeclarations lists here outside own settled named declared = (tt, tt)
  blocks_at tag.SequenceDeclarations lists here outside own settled named declared = (tt, tt)
  blocks_at _ lists here outside own settled named declared = (tt, tt)

  pub entry_at : (which : Tag) (lists : Lists) (here : Where) → InText lists.in_note here → AreSettled text (within_note lists.in_note which) (elems nodes)
      → IsListName text lists.style → AreDeclared text (in_list which gives here) → AreGoodBlocks text lists.in_note (entry_blocks which attributes (elems given) lists)
  entry_at tag.ListItem lists here outside settled named declared =
      (changed_good text lists.in_note (λ place. record place { item = true }) (λ place. (refl, refl)) (is_directly_in lists.level) _ (blocks_in lists here outside settled named declared).0, tt)
  entry_at tag.ListHeader lists here outside settled named declared = ((blocks_in lists here outside settled named declared).0, tt)
  entry_at _ lists here outside settled named declared = (tt, tt)

  pub inside_at : (lists : Lists) (here : Where) → InText lists.in_note here → AreSettled text lists.in_note (elems nodes) → IsListName text lists.style → AreDeclared text (each (λ one. one.blocks) here gives)
      → AreGoodBlocks text lists.in_note (joined_blocks (map (λ (one : Gives). one.blocks lists) (elems given)))
  inside_at lists here outside settled named declared = blocks_in lists here outside settled named declared
