-- Blocks as they are kept are blocks with a change to each paragraph.
use Rattle.std.proofs.Common.{◌≡◌, Bool, true, false, refl, sym, ap, ◌∙◌}
use Rattle.std.proofs.Math.Path.{fun_ext}
use Rattle.doc_model.specs.Alike.{in_block, in_paragraph}
use Rattle.doc_model.specs.declared.block.Block.{Block, fold-Block}
use Rattle.doc_model.specs.declared.block.Block.TheOpen.{Section-F}
use Rattle.doc_model.specs.declared.block.Section.{Section, roll-Section}
use Rattle.doc_model.specs.declared.paragraph.Par.{Par, out-Par}
use Rattle.doc_model.specs.declared.paragraph.What.TheViews.{out-roll-Par}
use Rattle.read_blocks.specs.Kept.{at_ten, kept_block, kept_par, with_pars}

par_changed : (par : Par) → kept_par false par ≡ in_paragraph at_ten par
par_changed par = simp out-roll-Par

pub kept_changed : (block : Block) → kept_block false block ≡ in_block at_ten block
kept_changed block = ap (λ (change : Par → Par). fold-Block Block Section (with_pars change) (λ (x : Section-F Block Section). roll-Section x) block) (fun_ext par_changed)
