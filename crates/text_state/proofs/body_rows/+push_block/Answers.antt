use Rattle.std.proofs.Common.{◌∙◌, ◌∷◌, ◌++◌, [], ap, sym}
use Rattle.std.specs.List.{flat_map}
use Rattle.doc_model.specs.declared.block.Section.{out-Section}
use Rattle.node_array.specs.declared.row.Row.TheVariants as row
use Rattle.node_array.specs.declared.row.SectionHead.{SectionHead}
use Rattle.node_array.specs.Rows.{block_rows}
use Rattle.text_state.proofs.Opened.{section_open, closed}
use Rattle.text_state.proofs.body_rows.+push_block.Goals as goal

pub push_section-returns : goal.push_section-returns
push_section-returns t c = closed _ _ _ _ _ _ _ _ c.in_ok-push.ensures.items c.in_ok-push_blocks.ensures c.in_ok-push-2.ensures.items
    (section_open c.args.section.now ∙ ap (λ (head : SectionHead). row.Start head ∷ (flat_map block_rows (out-Section c.args.section.now).blocks ++ row.End ∷ [])) (sym c.in_ok-section_head.ensures))
