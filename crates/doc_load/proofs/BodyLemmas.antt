-- The blocks of a body as they are kept.
use Rattle.std.proofs.Common.{◌≡◌, ℕ, List, [], ◌∷◌, map, refl, sym, ap, ap₂, ◌∙◌}
use Rattle.std.specs.Prelude.{false}
use Rattle.doc_model.specs.Alike.{in_block, in_paragraph}
use Rattle.doc_model.specs.declared.block.Block.{Block}
use Rattle.doc_model.specs.declared.paragraph.What.TheViews.{out-roll-Par}
use Rattle.load_model.specs.Blocks.{as_block, empty_paragraph, or_empty}
use Rattle.block_facts.proofs.Blocks.{par_changes}
use Rattle.read_blocks.specs.Kept.{at_ten, kept_block}
use Rattle.read_blocks.proofs.LawLemmas.{kept_changed}

all_changed : (blocks : List Block) → map (kept_block false) blocks ≡ map (in_block at_ten) blocks
all_changed [] = refl
all_changed (block ∷ blocks) = ap₂ (λ (here : Block) (more : List Block). here ∷ more) (kept_changed block) (all_changed blocks)

-- blocks that are kept, or an empty paragraph
pub kept_or_empty : (place : ℕ) (blocks : List Block) → or_empty place (map (kept_block false) blocks) ≡ map (in_block at_ten) (or_empty place blocks)
kept_or_empty place [] = sym (ap (λ (block : Block). block ∷ []) (par_changes at_ten (empty_paragraph place) ∙ ap as_block changed)) where
  changed : in_paragraph at_ten (empty_paragraph place) ≡ empty_paragraph place
  changed = simp out-roll-Par
kept_or_empty place (block ∷ blocks) = all_changed (block ∷ blocks)
