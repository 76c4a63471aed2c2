-- Blocks may be written.
use Rattle.std.proofs.Common.{◌≡◌, ℕ, ◌+◌, ◌≤◌, suc, List, [], ◌∷◌, ◌++◌, map, max, fold, length, codes, refl, ap, subst, sym, ◌∙◌, Option, Some, None, arith}
use Rattle.std.specs.List.{flat_map, AllByRecursion as Each}
use Rattle.std.proofs.lemmas.List.{length-map}
use Rattle.std.proofs.lemmas.List.Folds.{flat_map-map}
use Rattle.markup_nodes.specs.declared.words.Attr.{Attr}
use Rattle.markup_parts.specs.Chars.{is_legal, is_name_start, is_name_char}
use Rattle.doc_model.specs.declared.block.Block.{Block}
use Rattle.doc_model.specs.declared.block.Block.TheOpen.{Section-F}
use Rattle.doc_model.specs.declared.block.Block.TheFolds.{fold-roll-Block, fold-roll-Section}
use Rattle.doc_model.specs.declared.block.Section.{Section}
use Rattle.doc_model.specs.declared.block.SectionSource.{SectionSource}
use Rattle.doc_model.specs.declared.paragraph.Par.{Par}
use Rattle.doc_model.specs.Parts.{SectionHead, block_sections, depth_of, names_of_section}
use Rattle.doc_model.specs.Reading.{block_paragraphs}
use Rattle.written_model.specs.Blocks.{block_element, note_element, paragraph, source_element}
use Rattle.written_model.specs.Elements.{unless_empty, where_true, element}
use Rattle.block_facts.proofs.Blocks.{of_block, par_block, par_reads, section_block, section_reads}
use Rattle.back_writable.proofs.Chars.{AreLegal}
use Rattle.back_writable.proofs.Lists.{each_append, each_at_most, each_both, each_mapped}
use Rattle.back_writable.proofs.Nodes.{Fits, AreFit, IsGood, AreGood, unless_good, true_good, element_fits, empty_fits, looser, all_looser}
use Rattle.back_writable.proofs.Paragraphs.{IsGoodNote, IsGoodPar, note_fits, paragraph_fits}

-- the sections of a paragraph and of a section
abbrev head_of : Section-F Block Section → SectionHead
head_of x = record { kind = x.kind; name = x.name; style = x.style; protected = x.protected; hidden = x.hidden; source = x.source; blocks = length x.blocks }

sections_open : (x : Section-F Block Section) → block_sections (section_block x) ≡ head_of x ∷ flat_map (λ sections. sections) (map block_sections x.blocks)
sections_open x = simp (fold-roll-Block, fold-roll-Section, length-map x.blocks block_sections)

section_sections : (x : Section-F Block Section) → block_sections (section_block x) ≡ head_of x ∷ flat_map block_sections x.blocks
section_sections x = sections_open x ∙ ap (λ (more : List SectionHead). head_of x ∷ more) (flat_map-map (λ (sections : List SectionHead). sections) block_sections x.blocks)

-- how deep they are
section_depth : (x : Section-F Block Section) → depth_of (section_block x) ≡ 1 + fold max 0 (map depth_of x.blocks)
section_depth x = simp (fold-roll-Block, fold-roll-Section)

-- what they are written as
abbrev section_attributes : Section-F Block Section → List Attr
section_attributes section =
    unless_empty (codes "text:style-name") section.style
    ++ unless_empty (codes "text:name") section.name
    ++ where_true (codes "text:protected") (codes "true") section.protected
    ++ where_true (codes "text:display") (codes "none") section.hidden

par_is : (par : Par) → block_element (par_block par) ≡ paragraph note_element par
par_is par = simp fold-roll-Block

section_is : (section : Section-F Block Section) → block_element (section_block section) ≡ element (codes "text:section") (section_attributes section) (source_element section.source ++ map block_element section.blocks)
section_is section = simp (fold-roll-Block, fold-roll-Section)

-- the names of a source
abbrev names_of_source : Option SectionSource → List (List ℕ)
names_of_source None = []
names_of_source (Some source) = source.href ∷ source.section ∷ []

source_fits : (room : ℕ) (source : Option SectionSource) → Each AreLegal (names_of_source source) → AreFit (suc room) (source_element source)
unfolding is_name_start is_name_char
source_fits room None legal = tt
source_fits room (Some source) legal = (
  empty_fits room (codes "text:section-source") _ refl
      (each_append IsGood (unless_empty (codes "xlink:href") source.href) (unless_empty (codes "text:section-name") source.section)
      (unless_good (codes "xlink:href") source.href refl legal.0) (unless_good (codes "text:section-name") source.section refl legal.1.0)),
  tt,
)

section_good : (section : Section-F Block Section) → Each AreLegal (names_of_section (head_of section)) → AreGood (section_attributes section)
unfolding is_name_start is_name_char is_legal
section_good section legal =
    let style : List Attr = unless_empty (codes "text:style-name") section.style in
    let name : List Attr = unless_empty (codes "text:name") section.name in
    let protected : List Attr = where_true (codes "text:protected") (codes "true") section.protected in
    let hidden : List Attr = where_true (codes "text:display") (codes "none") section.hidden in
    each_append IsGood (style ++ name ++ protected) hidden
    (each_append IsGood (style ++ name) protected
    (each_append IsGood style name (unless_good (codes "text:style-name") section.style refl legal.1.0) (unless_good (codes "text:name") section.name refl legal.0))
    (true_good (codes "text:protected") (codes "true") section.protected refl refl))
    (true_good (codes "text:display") (codes "none") section.hidden refl refl)

-- a section that may be written
abbrev pub IsGoodSection : SectionHead → Type 0
IsGoodSection section = Each AreLegal (names_of_section section)

-- a block fits where its paragraphs and sections may be written; each section takes room for one element
record IsGoodBlock (block : Block) : Type 0 where
  pars : Each (IsGoodPar IsGoodNote) (block_paragraphs block)
  sections : Each IsGoodSection (block_sections block)

abbrev DoesFit : Block → Type 0
DoesFit block = IsGoodBlock block → Fits (61 + depth_of block) (block_element block)

par_fits : (par : Par) → DoesFit (par_block par)
par_fits par good =
    let own : Each (IsGoodPar IsGoodNote) (par ∷ []) = subst (Each (IsGoodPar IsGoodNote)) (par_reads par) good.pars in
    subst (Fits (61 + depth_of (par_block par))) (sym (par_is par)) (looser 61 (61 + depth_of (par_block par)) (omega arith) (paragraph note_element par) (paragraph_fits IsGoodNote 31 note_element note_fits par own.0))

blocks_fit : (most : ℕ) (blocks : List Block) → Each DoesFit blocks → Each (λ block. depth_of block ≤ most) blocks → Each (IsGoodPar IsGoodNote) (flat_map block_paragraphs blocks) → Each IsGoodSection (flat_map block_sections blocks)
    → AreFit (61 + most) (map block_element blocks)
blocks_fit most [] fit few pars sections = tt
blocks_fit most (block ∷ blocks) fit few pars sections =
    let own_pars = each_both (IsGoodPar IsGoodNote) (block_paragraphs block) (flat_map block_paragraphs blocks) pars in
    let own_sections = each_both IsGoodSection (block_sections block) (flat_map block_sections blocks) sections in (
      looser (61 + depth_of block) (61 + most) (omega (arith, few.0)) (block_element block) (fit.0 (record { pars = own_pars.0; sections = own_sections.0 })),
      blocks_fit most blocks fit.1 few.1 own_pars.1 own_sections.1,
    )

depths : (blocks : List Block) → Each (λ block. depth_of block ≤ fold max 0 (map depth_of blocks)) blocks
depths blocks =
    let most : ℕ = fold max 0 (map depth_of blocks) in
    each_mapped (λ n. n ≤ most) depth_of blocks (each_at_most most 0 (map depth_of blocks) (omega arith)).1

section_fits : (x : Section-F Block Section) → Each DoesFit x.blocks → DoesFit (section_block x)
unfolding is_name_start is_name_char
section_fits x fit good =
    let most : ℕ = fold max 0 (map depth_of x.blocks) in
    let pars : Each (IsGoodPar IsGoodNote) (flat_map block_paragraphs x.blocks) = subst (Each (IsGoodPar IsGoodNote)) (section_reads x) good.pars in
    let sections : Each IsGoodSection (head_of x ∷ flat_map block_sections x.blocks) = subst (Each IsGoodSection) (section_sections x) good.sections in
    subst (Fits (61 + depth_of (section_block x))) (sym (section_is x))
    (looser (suc (61 + most)) (61 + depth_of (section_block x)) (omega (arith, section_depth x)) (element (codes "text:section") (section_attributes x) (source_element x.source ++ map block_element x.blocks))
    (element_fits (61 + most) (codes "text:section") (section_attributes x) (source_element x.source ++ map block_element x.blocks) refl (section_good x sections.0)
    (each_append (Fits (61 + most)) (source_element x.source) (map block_element x.blocks)
    (all_looser 1 (61 + most) (omega arith) (source_element x.source) (source_fits 0 x.source sections.0.1.1)) (blocks_fit most x.blocks fit (depths x.blocks) pars sections.1))))

-- the blocks of a body
pub body_fits : (blocks : List Block) → fold max 0 (map depth_of blocks) ≤ 32 → Each (IsGoodPar IsGoodNote) (flat_map block_paragraphs blocks) → Each IsGoodSection (flat_map block_sections blocks) → AreFit 93 (map block_element blocks)
body_fits blocks few pars sections = blocks_fit 32 blocks (each_fits blocks) (each_mapped (λ n. n ≤ 32) depth_of blocks (each_at_most 32 0 (map depth_of blocks) few).1) pars sections where
  each_fits : (blocks : List Block) → Each DoesFit blocks
  each_fits [] = tt
  each_fits (block ∷ blocks) = (of_block DoesFit par_fits section_fits block, each_fits blocks)
