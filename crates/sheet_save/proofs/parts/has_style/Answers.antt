use Rattle.std.proofs.Common.{List, ap, sym, ◌∙◌, arith}
use Rattle.doc_model.specs.declared.style.Style.{Style}
use Rattle.spelling_model.specs.Spelling.{is_there}
use Rattle.sheet_write.specs.Parts.{style_nodes}
use Rattle.sheet_save.proofs.WalkLemmas.{past_end, found, passed}
use Rattle.sheet_save.proofs.parts.has_style.Goals as goal

pub loop-at-preserved : goal.loop-at-preserved
loop-at-preserved c = passed c.args.automatic c.args.tree.now.styles c.loop-at.at c.get.result.now c.get.ensures (sym c.is_among.ensures ∙ c.if-is_among.false) ∙ c.loop-at.invariant

pub returns-then-is_among : goal.returns-then-is_among
returns-then-is_among c = sym (found c.args.automatic c.args.tree.now.styles c.loop-at.at c.get.result.now c.get.ensures (sym c.is_among.ensures ∙ c.if-is_among.true)) ∙ c.loop-at.invariant

pub returns : goal.returns
returns c =
    ap (λ (left : List Style). is_there (style_nodes c.args.automatic left)) (sym (past_end c.args.tree.now.styles c.loop-at.at (omega (arith, c.loop-at-test.false, c.len-at-end.ensures)))) ∙ c.loop-at.invariant
