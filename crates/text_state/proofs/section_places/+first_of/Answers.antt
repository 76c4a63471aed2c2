use Rattle.std.proofs.Common.{◌∙◌, List, take, ap, sym}
use Rattle.std.specs.Prelude.{option_to_list}
use Rattle.std.specs.List.{flat_map}
use Rattle.doc_model.specs.declared.block.Block.{Block}
use Rattle.name_index.specs.Scan.{in_block}
use Rattle.text_state.proofs.Gathered.{section_numbers, first_found}
use Rattle.doc_model.specs.declared.block.Block as block_type
use Rattle.text_state.proofs.section_places.+first_of.Goals as goal

pub first_of-returns-in-Section : goal.first_of-returns-in-Section
unfolding block_type.roll-Block denote.Hole.Carrier.roll
first_of-returns-in-Section t c = c.first_of_section.ensures ∙ sym (ap (λ (block : Block). take 1 (in_block block).numbers) c.in-Section.is ∙ section_numbers c.in-Section.section)

pub first_of_section-returns-in-Some : goal.first_of_section-returns-in-Some
first_of_section-returns-in-Some t c =
    first_found c.as_slice-block-items.result.now c.loop-block.block-index c.block-item.result c.in-Some.par c.loop-block-test.true c.block-item.is c.loop-block.invariant
    (sym (ap option_to_list c.in-Some.is) ∙ c.first_of.ensures)
    ∙ ap (λ (blocks : List Block). take 1 (flat_map (λ block. (in_block block).numbers) blocks)) c.as_slice-block-items.ensures
