use Rattle.std.proofs.Common.{◌∙◌, ◌<◌, ap, arith, length, slice_set, sym}
use Rattle.block_parts.specs.Begins.{begun, is_section}
use Rattle.block_parts.proofs.ChangeLemmas.{changed_beyond, par_changes, same_item, section_goes}
use Rattle.block_parts.proofs.begins.begin_at.Goals as goal

pub returns-then-at-len : goal.returns-then-at-len
returns-then-at-len c = changed_beyond (begun c.args.what) c.args.at c.args.blocks.now.items (omega (arith, c.if-at-len.true, c.len.ensures))

pub returns-then-is_section : goal.returns-then-is_section
returns-then-is_section c =
    c.remove-section.ensures.items
    ∙ section_goes (begun c.args.what) c.args.at c.args.blocks.now.items c.index.result.now (omega (arith, c.if-at-len.false, c.len.ensures)) c.index.ensures (sym c.is_section.ensures ∙ c.if-is_section.true)

pub returns : goal.returns
returns c =
    let items = c.args.blocks.now.items in
    let l : c.args.at < length items = omega (arith, c.if-at-len.false, c.len.ensures) in
    ap (slice_set items c.args.at) c.begin.ensures
    ∙ par_changes (begun c.args.what) c.args.at items c.index_mut.result.now l c.index_mut.ensures.value
    (ap is_section (same_item items c.args.at c.index_mut.result.now c.index.result.now l c.index_mut.ensures.value c.index.ensures) ∙ sym c.is_section.ensures ∙ c.if-is_section.false)
