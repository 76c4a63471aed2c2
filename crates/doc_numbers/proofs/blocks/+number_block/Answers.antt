use Rattle.std.proofs.Common.{◌≡◌, ◌≤◌, List, length, map, ap, sym, ◌∙◌, subst, arith}
use Rattle.std.specs.List.{AllByRecursion as Each}
use Rattle.doc_model.specs.declared.block.Block as block_type
use Rattle.doc_model.specs.declared.block.Block.{Block, roll-Block}
use Rattle.doc_model.specs.declared.block.Block.TheOpen.{Block-F}
use Rattle.doc_model.specs.declared.paragraph.Par.{Par}
use Rattle.doc_model.specs.Alike.{in_block}
use Rattle.doc_model.specs.Limits.{greatest}
use Rattle.doc_model.specs.Parts.{depth_of}
use Rattle.load_model.specs.Loaded.{numbered}
use Rattle.doc_numbers.specs.Numbering.{Follow, block_pars}
use Rattle.doc_numbers.proofs.NumberLemmas.{Goes, goes_none, goes_more}
use Rattle.doc_numbers.proofs.BlockLemmas.{section_pars, section_changed, within_greatest}
use Rattle.doc_numbers.proofs.blocks.+number_block.Goals as goal

pub number_block-number_section-requires : goal.number_block-number_section-requires
unfolding block_type.roll-Block denote.Hole.Carrier.roll
number_block-number_section-requires t c =
    let depth = ap depth_of c.in-Section.is in
    let size = ap (λ (pars : List Par). length pars) (ap block_pars c.in-Section.is ∙ section_pars c.in-Section.section) in
    let few = c.requires in
    let falls = c.decreases in
    (omega (arith, depth, falls), omega (arith, size, few))

pub number_block-returns-in_ok-number_section-in-Section-clause-counted : goal.number_block-returns-in_ok-number_section-in-Section-clause-counted
unfolding block_type.roll-Block denote.Hole.Carrier.roll
number_block-returns-in_ok-number_section-in-Section-clause-counted t c =
    let size = ap (λ (pars : List Par). length pars) (ap block_pars c.in-Section.is ∙ section_pars c.in-Section.section) in
    let count = c.in_ok-number_section-in-Section.ensures.counted in
    omega (arith, size, count)

pub number_block-returns-in_ok-number_section-in-Section-clause-numbered : goal.number_block-returns-in_ok-number_section-in-Section-clause-numbered
unfolding block_type.roll-Block denote.Hole.Carrier.roll
number_block-returns-in_ok-number_section-in-Section-clause-numbered t c = λ numbers follow.
    let here : block_pars c.args.block ≡ block_pars (roll-Block (Block-F.Section c.in-Section.section)) = ap block_pars c.in-Section.is in
    ap (λ section. roll-Block (Block-F.Section section))
    (c.in_ok-number_section-in-Section.ensures.numbered numbers (subst (Follow numbers c.args.last.now) (here ∙ section_pars c.in-Section.section) follow))
    ∙ sym (ap (in_block (numbered numbers)) c.in-Section.is ∙ section_changed (numbered numbers) c.in-Section.section)

pub number_blocks-left-init : goal.number_blocks-left-init
number_blocks-left-init t c = record {
  goes = subst (λ (done : List Block). Goes Block block_pars (λ numbers. in_block (numbered numbers)) c.args.blocks done c.args.blocks c.args.last.now c.args.last.now) (sym c.in_ok-done.ensures.items)
      (goes_none block_pars (λ numbers. in_block (numbered numbers)) c.args.blocks c.args.last.now);
  shallow = within_greatest depth_of c.args.blocks;
}

pub number_blocks-left-preserved : goal.number_blocks-left-preserved
number_blocks-left-preserved t c = record {
  goes = goes_more block_pars (λ numbers. in_block (numbered numbers)) c.args.blocks c.args.last.now c.left.done.items c.push.new.self.items c.left.left c.pop.new.self c.in-Some.block c.in_ok-number_block.field-0 c.left.last c.number_block.new.last
      c.in-Some.ensures c.left.invariant.goes c.in_ok-push.ensures.items c.in_ok-number_block.ensures.counted c.in_ok-number_block.ensures.numbered;
  shallow = (subst (Each (λ block. depth_of block ≤ greatest (map depth_of c.args.blocks))) c.in-Some.ensures c.left.invariant.shallow).1;
}
