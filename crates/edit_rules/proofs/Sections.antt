-- The blocks of a section, unwrapped.
use Rattle.std.proofs.Common.{◌≡◌, ℕ, true, List, refl}
use Rattle.std.specs.Str.{bytes_eq}
use Rattle.std.proofs.lemmas.Slice.Eq.{bytes_eq-Decides}
use Rattle.doc_model.specs.declared.block.Block.{Block}
use Rattle.doc_model.specs.declared.block.Block.TheViews.{out-roll-Block, out-roll-Section}
use Rattle.edit_rules.specs.Blocks.{section_of, unwrapped}

is_same : (name : List ℕ) → bytes_eq name name ≡ true
is_same name = (bytes_eq-Decides name name).1 refl

pub unwrapped_again : (name style : List ℕ) (blocks : List Block) → unwrapped name (section_of name style blocks) ≡ blocks
unwrapped_again name style blocks = simp (out-roll-Block, out-roll-Section, is_same name)
