-- The start of the part, what it holds and its end.
use Rattle.std.proofs.Common.{Bool, true, List, map, codes, sym, ◌∙◌}
use Rattle.std.specs.Str.{chars}
use Rattle.std.specs.String.{string_bytes}
use Rattle.doc_model.specs.declared.page_layout.PageLayout.{PageLayout}
use Rattle.doc_model.specs.declared.style.Style.{Style}
use Rattle.tree_text.specs.Writing.{content_text}
use Rattle.written_model.specs.Styles.{layout_element}
use Rattle.value_write.proofs.ChainLemmas.{four}
use Rattle.sheet_write.specs.Parts.{part_start, part_end, style_nodes}
use Rattle.sheet_write.proofs.PartLemmas.{there-automatic, automatic_part_text}
use Rattle.sheet_write.proofs.parts.push_automatic_part.Goals as goal

pub returns : goal.returns
unfolding chars
returns c =
    let tag = codes "office:automatic-styles" in
    let styles : List Style = c.args.styles.now in
    let layouts : List PageLayout = c.args.layouts.now in
    let holds : Bool = c.has_automatic_part-holds.result in
    four c.push_part_end.result (chars (string_bytes c.push_part_end.new.out)) (chars (string_bytes c.push_layouts.new.out)) (chars (string_bytes c.push_styles.new.out)) (chars (string_bytes c.push_part_start.new.out)) (chars (string_bytes c.args.out.now))
    (part_start tag holds) (content_text (style_nodes true styles)) (content_text (map layout_element layouts)) (part_end tag holds)
    c.in_ok-push_part_start.ensures c.in_ok-push_styles.ensures c.in_ok-push_layouts.ensures c.push_part_end.ensures
    (automatic_part_text styles layouts holds (c.has_automatic_part-holds.ensures ∙ sym (there-automatic styles layouts)))
