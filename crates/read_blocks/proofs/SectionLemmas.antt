-- Sections with what is read in them.
use Rattle.std.proofs.Common.{◌≡◌, ◌≤◌, ℕ, ◌-◌, Bool, List, [], ◌∷◌, ◌++◌, map, length, take, drop, get_or, refl, sym, ap, ap₂, ◌∙◌, arith, append-nil, Option, Some, None}
use Rattle.std.specs.Option.{option_map}
use Rattle.std.proofs.lemmas.List.{length-map, length-drop}
use Rattle.doc_model.specs.declared.block.Block.{Block, roll-Block}
use Rattle.doc_model.specs.declared.block.Block.TheOpen.{Block-F}
use Rattle.doc_model.specs.declared.block.Section.{Section, roll-Section}
use Rattle.doc_model.specs.declared.block.SectionSource.{SectionSource}
use Rattle.doc_model.specs.declared.style.Family.TheVariants as family
use Rattle.load_model.specs.declared.element.Attribute.{Attribute}
use Rattle.load_model.specs.Blocks as blocks
use Rattle.load_model.specs.Blocks.{Known, ReadSource, ReadDeclarations, kept_section, or_empty, without_declarations}
use Rattle.load_model.specs.Left.{Left, all_of, both, nothing}
use Rattle.element_parts.specs.Shown.{shown}
use Rattle.element_parts.specs.declared.left.LeftOut.{LeftOut}
use Rattle.sheet_names.specs.declared.names.Names.{Names}
use Rattle.sheet_names.specs.Known.{Knows, names_with, of_family}
use Rattle.block_parts.specs.Values.{section_by}
use Rattle.read_blocks.specs.declared.read.ReadBlocks.{ReadBlocks}
use Rattle.read_blocks.specs.declared.read.ReadSource.{ReadSource as Source}
use Rattle.read_blocks.specs.Adds.{Adds, AreBlocks}
use Rattle.read_blocks.specs.Kept.{first_of, kept_block}
use Rattle.read_blocks.specs.Shown.{shown_source}
use Rattle.read_blocks.proofs.KeptLemmas.{or_empty_kept, section_kept}

-- the first source
pub first_shown : (all : List ReadSource) (sources : List Source) (first : Source) (total : LeftOut) → sources ≡ map shown_source all → 1 ≤ length sources → first ≡ get_or sources 0 first
    → ((two : Left) → first.left ≡ shown two → total ≡ shown (both nothing two)) → total ≡ shown (all_of (map (λ (read : ReadSource). read.left) (take 1 all)))
first_shown [] sources first total e l is joined = let none : length sources ≡ 0 = ap length e in absurd (omega (arith, l, none))
first_shown (one ∷ more) sources first total e l is joined = joined one.left (ap (λ (read : Source). read.left) (is ∙ ap (λ (xs : List Source). get_or xs 0 first) e))

pub others_count : (all : List ReadSource) (sources : List Source) → sources ≡ map shown_source all → length sources - 1 ≡ length (drop 1 all)
others_count all sources e = ap (λ (xs : List Source). length xs - 1) e ∙ ap (λ n. n - 1) (length-map all shown_source) ∙ sym (length-drop 1 all)

source_first : (all : List ReadSource) → option_map (λ (read : Source). read.source) (first_of (map shown_source all)) ≡ option_map (λ (read : ReadSource). read.source) (first_of all)
source_first [] = refl
source_first (one ∷ more) = refl

module _ (known : Known) (place : ℕ) (attributes : List Attribute) where
  abbrev read_with : List Block → List ReadSource → List ReadDeclarations → Left → blocks.ReadBlocks
  read_with all sources declarations left = record { blocks = all; sources = sources; declarations = declarations; left = left }

  abbrev section_with : List (List ℕ) → Option SectionSource → List Block → List Block
  section_with styles source inside = roll-Block (Block-F.Section (section_by styles attributes source inside)) ∷ []

  section_blocks : (all : List Block) (sources : List ReadSource) (declarations : List ReadDeclarations) (left : Left)
      → (kept_section known place attributes (read_with all sources declarations left)).blocks ≡ section_with (names_with family.Section known.names.styles) (option_map (λ (read : ReadSource). read.source) (first_of sources)) (or_empty place all)
  section_blocks all [] declarations left = refl
  section_blocks all (one ∷ more) declarations left = refl

  -- a section as it is kept
  pub kept_as_section : (in_note : Bool) (names : Names) (held : ReadBlocks) (more : blocks.ReadBlocks) (block : Block) → Knows names known.names → AreBlocks in_note held more
      → block ≡ roll-Block (Block-F.Section (section_by (of_family names.styles family.Section) attributes (option_map (λ (read : Source). read.source) (first_of held.sources.items)) (or_empty place held.blocks.items)))
      → block ∷ [] ≡ map (kept_block in_note) (kept_section known place attributes (without_declarations more)).blocks
  kept_as_section in_note names held more block knows are is =
      ap (λ (one : Block). one ∷ []) is
      ∙ ap (λ styles. section_with styles (option_map (λ (read : Source). read.source) (first_of held.sources.items)) (or_empty place held.blocks.items)) (knows.styles_are family.Section)
      ∙ ap₂ (λ source inside. section_with (names_with family.Section known.names.styles) source inside)
      (ap (λ (sources : List Source). option_map (λ (read : Source). read.source) (first_of sources)) are.sources_are ∙ source_first more.sources)
      (ap (or_empty place) are.blocks_are ∙ or_empty_kept in_note place more.blocks)
      ∙ sym (ap (map (kept_block in_note)) (section_blocks more.blocks more.sources [] (without_declarations more).left)
      ∙ ap (λ (one : Block). one ∷ []) (section_kept in_note _))
