use Rattle.std.proofs.Common.{◌≡◌, ◌∙◌, ◌++◌, List, map, ap, sym, subst}
use Rattle.std.specs.Prelude.{OnOk}
use Rattle.std.specs.List.{flat_map}
use Rattle.doc_model.specs.declared.block.Block as block_type
use Rattle.load_model.specs.Offences.{Counted}
use Rattle.paragraph_faults.specs.Counts.{counted_of, block_counts}
use Rattle.paragraph_faults.proofs.CountLemmas.{par_block_counts, section_counts}
use Rattle.paragraph_faults.proofs.counted.+push_block.Goals as goal

pub push_block-returns-in-Section : goal.push_block-returns-in-Section
unfolding block_type.roll-Block denote.Hole.Carrier.roll
push_block-returns-in-Section t c =
    subst (λ (more : List Counted). OnOk c.push_blocks.result (map counted_of c.push_blocks.new.counted.items ≡ map counted_of c.args.counted.now.items ++ more))
    (sym (ap block_counts c.in-Section.is ∙ section_counts c.in-Section.section)
    ) (subst (λ (more : List Counted). OnOk c.push_blocks.result (map counted_of c.push_blocks.new.counted.items ≡ map counted_of c.args.counted.now.items ++ more)) (ap (flat_map block_counts) c.as_slice.ensures) c.push_blocks.ensures)

pub push_block-returns-in-Par : goal.push_block-returns-in-Par
unfolding block_type.roll-Block denote.Hole.Carrier.roll
push_block-returns-in-Par t c =
    subst (λ (more : List Counted). OnOk c.push_par.result (map counted_of c.push_par.new.counted.items ≡ map counted_of c.args.counted.now.items ++ more))
    (sym (ap block_counts c.in-Par.is ∙ par_block_counts c.in-Par.par)) c.push_par.ensures
