-- Blocks as they are kept, part by part.
use Rattle.std.proofs.Common.{◌≡◌, ℕ, append-nil, Bool, true, false, not, ◌&&◌, cond, List, [], ◌∷◌, ◌++◌, map, refl, sym, ap, ap₂, ◌∙◌}
use Rattle.std.proofs.lemmas.List.{map-append}
use Rattle.std.proofs.lemmas.Grind.{flat_map-append}
use Rattle.std.specs.List.{filter, flat_map, list_any}
use Rattle.std.specs.Option.{option_map}
use Rattle.doc_model.specs.Alike.{in_note}
use Rattle.doc_model.specs.Parts.{is_mark}
use Rattle.doc_model.specs.declared.block.Block.{Block, out-Block, roll-Block}
use Rattle.doc_model.specs.declared.block.Block.TheOpen.{Block-F, Section-F}
use Rattle.doc_model.specs.declared.block.Block.TheFolds.{fold-roll-Block, fold-roll-Section}
use Rattle.doc_model.specs.declared.block.Block.TheViews.{roll-out-Block, roll-out-Section, out-roll-Block}
use Rattle.doc_model.specs.declared.block.Section.{Section, out-Section, roll-Section}
use Rattle.doc_model.specs.declared.paragraph.Item.{Item}
use Rattle.doc_model.specs.declared.paragraph.Par.{Par, out-Par, roll-Par}
use Rattle.doc_model.specs.declared.paragraph.What.TheViews.{out-roll-Par}
use Rattle.load_model.specs.Blocks.{as_block, empty_paragraph, or_empty, paragraphs_of}
use Rattle.load_model.specs.Content.{Raw, Blank, Read, items_of_raw, items_behind, is_solid, is_passing, is_nearest_solid}
use Rattle.read_blocks.specs.Kept.{at_ten, kept_items, kept_par, kept_block, kept_raw, kept_raws}

pub par_kept : (is_in_note : Bool) (par : Par) → kept_block is_in_note (as_block par) ≡ as_block (kept_par is_in_note par)
par_kept is_in_note par = simp fold-roll-Block

pub section_kept : (is_in_note : Bool) (x : Section-F Block Section)
    → kept_block is_in_note (roll-Block (Block-F.Section (roll-Section x))) ≡ roll-Block (Block-F.Section (roll-Section (record x { blocks = map (kept_block is_in_note) x.blocks })))
section_kept is_in_note x = simp (fold-roll-Block, fold-roll-Section)

-- an empty paragraph has no list place
pub empty_kept : (is_in_note : Bool) (place : ℕ) → kept_par is_in_note (empty_paragraph place) ≡ empty_paragraph place
empty_kept true place = simp out-roll-Par
empty_kept false place = simp out-roll-Par

pub or_empty_kept : (is_in_note : Bool) (place : ℕ) (blocks : List Block) → or_empty place (map (kept_block is_in_note) blocks) ≡ map (kept_block is_in_note) (or_empty place blocks)
or_empty_kept is_in_note place [] = ap (λ (block : Block). block ∷ []) (sym (par_kept is_in_note (empty_paragraph place) ∙ ap as_block (empty_kept is_in_note place)))
or_empty_kept is_in_note place (block ∷ blocks) = refl

-- paragraphs among blocks
paragraphs_par : (par : Par) → paragraphs_of (as_block par ∷ []) ≡ par ∷ []
paragraphs_par par = simp out-roll-Block

paragraphs_section : (section : Section) → paragraphs_of (roll-Block (Block-F.Section section) ∷ []) ≡ []
paragraphs_section section = simp out-roll-Block

kind_paragraphs : (is_in_note : Bool) (x : Block-F Block Section) → paragraphs_of (kept_block is_in_note (roll-Block x) ∷ []) ≡ map (kept_par is_in_note) (paragraphs_of (roll-Block x ∷ []))
kind_paragraphs is_in_note (Block-F.Par par) =
    ap (λ (one : Block). paragraphs_of (one ∷ [])) (par_kept is_in_note par) ∙ paragraphs_par (kept_par is_in_note par) ∙ sym (ap (map (kept_par is_in_note)) (paragraphs_par par))
kind_paragraphs is_in_note (Block-F.Section section) =
    ap (λ (one : Section). paragraphs_of (kept_block is_in_note (roll-Block (Block-F.Section one)) ∷ [])) (sym (roll-out-Section section))
    ∙ ap (λ (one : Block). paragraphs_of (one ∷ [])) (section_kept is_in_note (out-Section section))
    ∙ paragraphs_section (roll-Section (record (out-Section section) { blocks = map (kept_block is_in_note) (out-Section section).blocks }))
    ∙ sym (ap (map (kept_par is_in_note)) (paragraphs_section section))

block_paragraphs : (is_in_note : Bool) (block : Block) → paragraphs_of (kept_block is_in_note block ∷ []) ≡ map (kept_par is_in_note) (paragraphs_of (block ∷ []))
block_paragraphs is_in_note block =
    ap (λ (one : Block). paragraphs_of (kept_block is_in_note one ∷ [])) (sym (roll-out-Block block)) ∙ kind_paragraphs is_in_note (out-Block block)
    ∙ ap (λ (one : Block). map (kept_par is_in_note) (paragraphs_of (one ∷ []))) (roll-out-Block block)

abbrev par_in : Block → List Par
par_in block = of_block (out-Block block) where
  of_block : Block-F Block Section → List Par
  of_block (Block-F.Par par) = par ∷ []
  of_block (Block-F.Section section) = []

pub paragraphs_first : (block : Block) (blocks : List Block) → paragraphs_of (block ∷ blocks) ≡ paragraphs_of (block ∷ []) ++ paragraphs_of blocks
paragraphs_first block blocks = flat_map-append par_in (block ∷ []) blocks

pub paragraphs_kept : (is_in_note : Bool) (blocks : List Block) → paragraphs_of (map (kept_block is_in_note) blocks) ≡ map (kept_par is_in_note) (paragraphs_of blocks)
paragraphs_kept is_in_note [] = refl
paragraphs_kept is_in_note (block ∷ blocks) =
    paragraphs_first (kept_block is_in_note block) (map (kept_block is_in_note) blocks)
    ∙ ap₂ (λ (front back : List Par). front ++ back) (block_paragraphs is_in_note block) (paragraphs_kept is_in_note blocks)
    ∙ sym (map-append (kept_par is_in_note) (paragraphs_of (block ∷ [])) (paragraphs_of blocks)) ∙ ap (map (kept_par is_in_note)) (sym (paragraphs_first block blocks))

-- paragraphs one after another
pub paragraphs_joined : (some others : List Block) → paragraphs_of (some ++ others) ≡ paragraphs_of some ++ paragraphs_of others
paragraphs_joined some others = flat_map-append par_in some others
