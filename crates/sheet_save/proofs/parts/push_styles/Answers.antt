-- One style more is out, and one less is left.
use Rattle.std.proofs.Common.{◌++◌, List, ap, sym, ◌∙◌, arith}
use Rattle.std.proofs.lemmas.List.{append-nil}
use Rattle.std.specs.Str.{chars}
use Rattle.std.specs.String.{string_bytes}
use Rattle.doc_model.specs.declared.style.Style.{Style}
use Rattle.tree_text.specs.Writing.{content_text}
use Rattle.sheet_write.specs.Parts.{style_nodes}
use Rattle.sheet_save.proofs.WalkLemmas.{past_end, written_on}
use Rattle.sheet_save.proofs.parts.push_styles.Goals as goal

pub loop-at-preserved : goal.loop-at-preserved
loop-at-preserved c =
    written_on c.args.automatic c.args.tree.now.styles c.loop-at.at c.get.result.now (chars (string_bytes c.push_style_among.new.out)) (chars (string_bytes c.loop-at.out)) c.get.ensures c.in_ok-push_style_among.ensures ∙ c.loop-at.invariant

pub returns : goal.returns
returns c =
    let old = chars (string_bytes c.loop-at.out) in
    sym (append-nil old)
    ∙ (ap (λ (left : List Style). old ++ content_text (style_nodes c.args.automatic left)) (sym (past_end c.args.tree.now.styles c.loop-at.at (omega (arith, c.loop-at-test.false, c.len-at-end.ensures)))) ∙ c.loop-at.invariant)
