use Rattle.std.proofs.Common.{◌≡◌, ◌∙◌, ◌++◌, ap, sym, subst}
use Rattle.std.specs.Prelude.{OnOk}
use Rattle.text_state.specs.NamePlaces.{block_places}
use Rattle.text_state.proofs.Gathered.{section_block}
use Rattle.doc_model.specs.declared.block.Block as block_type
use Rattle.text_state.proofs.places.+push_block.Goals as goal

pub push_block-returns-in-Section : goal.push_block-returns-in-Section
unfolding block_type.roll-Block denote.Hole.Carrier.roll
push_block-returns-in-Section t c =
    subst (λ more. OnOk c.push_section.result (c.push_section.new.places.items ≡ c.args.places.now.items ++ more))
    (sym (ap (block_places c.args.kind) c.in-Section.is ∙ section_block c.args.kind c.in-Section.section)) c.push_section.ensures
