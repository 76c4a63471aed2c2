use Rattle.std.proofs.Common.{◌≡◌, ◌∙◌, ◌++◌, ap, sym, subst}
use Rattle.std.specs.Prelude.{OnOk}
use Rattle.doc_model.specs.declared.block.Block.{Block}
use Rattle.name_index.specs.Scan.{in_block}
use Rattle.text_state.proofs.Gathered.{section_sections}
use Rattle.doc_model.specs.declared.block.Block as block_type
use Rattle.text_state.proofs.section_places.+push_those_of.Goals as goal

pub push_those_of-returns-in-Section : goal.push_those_of-returns-in-Section
unfolding block_type.roll-Block denote.Hole.Carrier.roll
push_those_of-returns-in-Section t c =
    subst (λ more. OnOk c.push_section.result (c.push_section.new.places.items ≡ c.args.places.now.items ++ more))
    (sym (ap (λ (block : Block). (in_block block).sections) c.in-Section.is ∙ section_sections c.in-Section.section)) c.push_section.ensures
