-- The start of the part, what it holds and its end.
use Rattle.std.proofs.Common.{Bool, false, List, map, codes, sym, ◌∙◌}
use Rattle.std.specs.Str.{chars}
use Rattle.std.specs.String.{string_bytes}
use Rattle.doc_model.specs.declared.list_style.ListStyle.{ListStyle}
use Rattle.doc_model.specs.declared.style.Props.{Props}
use Rattle.doc_model.specs.declared.style.Style.{Style}
use Rattle.tree_text.specs.Writing.{content_text}
use Rattle.written_model.specs.Styles.{default_style, outline_style, list_style_element}
use Rattle.sheet_write.specs.Parts.{part_start, part_end, style_nodes}
use Rattle.sheet_write.proofs.JoinLemmas.{six}
use Rattle.sheet_write.proofs.PartLemmas.{there-styles, styles_part_text}
use Rattle.sheet_write.proofs.parts.push_styles_part.Goals as goal

pub returns : goal.returns
unfolding chars
returns c =
    let tag = codes "office:styles" in
    let defaults : Props = c.args.defaults.now in
    let styles : List Style = c.args.styles.now in
    let outline : ListStyle = c.args.outline.now in
    let lists : List ListStyle = c.args.lists.now in
    let holds : Bool = c.has_styles_part-holds.result in
    six c.push_part_end.result (chars (string_bytes c.push_part_end.new.out)) (chars (string_bytes c.push_list_styles.new.out)) (chars (string_bytes c.push_outline.new.out)) (chars (string_bytes c.push_styles.new.out)) (chars (string_bytes c.push_default_style.new.out)) (chars (string_bytes c.push_part_start.new.out)) (chars (string_bytes c.args.out.now))
    (part_start tag holds) (content_text (default_style defaults)) (content_text (style_nodes false styles)) (content_text (outline_style outline)) (content_text (map list_style_element lists)) (part_end tag holds)
    c.in_ok-push_part_start.ensures c.in_ok-push_default_style.ensures c.in_ok-push_styles.ensures c.in_ok-push_outline.ensures c.in_ok-push_list_styles.ensures c.push_part_end.ensures
    (styles_part_text defaults styles outline lists holds (c.has_styles_part-holds.ensures ∙ sym (there-styles defaults styles outline lists)))
