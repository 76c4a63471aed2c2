use Rattle.std.proofs.Common.{◌∙◌, ◌≡◌, ◌<◌, arith, min, sym}
use Rattle.std.specs.Prelude.{reverse}
use Rattle.doc_model.specs.declared.block.Block.TheVariants.{rolls-Par}
use Rattle.doc_model.specs.declared.style.Family.TheVariants as family
use Rattle.load_model.specs.Blocks.{as_block, list_place}
use Rattle.load_model.specs.Content.{items_of_raw}
use Rattle.sheet_names.specs.Known.{of_family}
use Rattle.block_parts.specs.Values.{paragraph_by}
use Rattle.read_blocks.specs.Kept.{kept_raws}
use Rattle.text_read.proofs.StepLemmas.{block_added, par_is_kept, paragraph_inside, paragraph_outside}
use Rattle.text_read.proofs.steps.add_paragraph.Goals as goal

pub returns-then-lists-eq0 : goal.returns-then-lists-eq0
returns-then-lists-eq0 c = λ at content stands holds left.
    let styles = of_family c.args.names.now.styles family.Paragraph in
    let element = c.args.element.now in
    let items = items_of_raw content.raws in
    let block = as_block (paragraph_by styles (list_place at) c.args.level element items) in
    let kept = par_is_kept at.in_note styles (list_place at) c.args.level element content.raws c.into_items-items.result c.in_ok-par.par (c.into_items-items.ensures (reverse (kept_raws at.in_note content.raws)) holds) (c.in_ok-par.ensures at stands) in
    let adds = block_added at.in_note c.args.into.now c.leave_out.new.self c.push.new.self block content.left (c.leave_out.ensures at.in_note content.left left) (c.in_ok-push.ensures at.in_note block (sym (rolls-Par c.in_ok-par.par) ∙ kept)) in
    paragraph_outside at styles c.args.level element items c.args.into.now c.push.new.self content.left adds (omega (arith, c.if-lists-eq0.true, stands.level))

pub returns : goal.returns
returns c = λ at content stands holds left.
    let styles = of_family c.args.names.now.styles family.Paragraph in
    let element = c.args.element.now in
    let items = items_of_raw content.raws in
    let block = as_block (paragraph_by styles (list_place at) c.args.level element items) in
    let kept = par_is_kept at.in_note styles (list_place at) c.args.level element content.raws c.into_items-items.result c.in_ok-par.par (c.into_items-items.ensures (reverse (kept_raws at.in_note content.raws)) holds) (c.in_ok-par.ensures at stands) in
    let adds = block_added at.in_note c.args.into.now c.leave_out.new.self c.push.new.self block content.left (c.leave_out.ensures at.in_note content.left left) (c.in_ok-push.ensures at.in_note block (sym (rolls-Par c.in_ok-par.par) ∙ kept)) in
    paragraph_inside at styles c.args.level element items c.args.into.now c.push.new.self content.left adds c.len-at.result (omega (arith, c.if-lists-eq0.false, stands.level)) (omega (arith, c.len-at.ensures))
