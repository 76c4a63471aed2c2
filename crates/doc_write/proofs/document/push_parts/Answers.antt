-- The styles, the automatic styles and the master pages.
use Rattle.std.proofs.Common.{◌≡◌, ◌++◌, List, OnOk, codes, map, ap₂, ◌∙◌, subst}
use Rattle.std.specs.Str.{chars}
use Rattle.std.specs.String.{string_bytes}
use Rattle.doc_model.specs.declared.list_style.ListStyle.{ListStyle}
use Rattle.doc_model.specs.declared.page_layout.Master.{Master}
use Rattle.doc_model.specs.declared.page_layout.PageLayout.{PageLayout}
use Rattle.doc_model.specs.declared.style.Style.{Style}
use Rattle.sheet_write.specs.Parts.{styles_nodes, automatic_nodes}
use Rattle.tree_text.specs.Writing.{content_text}
use Rattle.value_write.proofs.ChainLemmas.{three}
use Rattle.written_model.specs.Elements.{part}
use Rattle.written_model.specs.Styles.{styles_part, automatic_part, masters_part, master_element}
use Rattle.doc_write.proofs.RootLemmas.{parts_text}
use Rattle.doc_write.proofs.document.push_parts.Goals as goal

pub returns : goal.returns
returns c =
    let doc = c.args.doc.now in
    let old = chars (string_bytes c.args.out.now) in
    let one = chars (string_bytes c.push_styles_part.new.out) in
    let two = chars (string_bytes c.push_automatic_part.new.out) in
    three c.push_masters_part.result (chars (string_bytes c.push_masters_part.new.out)) two one old
    (content_text (styles_part doc)) (content_text (automatic_part doc)) (content_text (masters_part doc))
    (c.in_ok-push_styles_part.ensures
    ∙ ap₂ (λ (styles : List Style) (lists : List ListStyle). old ++ content_text (part (codes "office:styles") (styles_nodes doc.defaults styles doc.outline lists))) c.get.ensures c.get-2.ensures)
    (c.in_ok-push_automatic_part.ensures
    ∙ ap₂ (λ (styles : List Style) (layouts : List PageLayout). one ++ content_text (part (codes "office:automatic-styles") (automatic_nodes styles layouts))) c.get-3.ensures c.get-4.ensures)
    (subst (λ (masters : List Master). OnOk c.push_masters_part.result (chars (string_bytes c.push_masters_part.new.out) ≡ two ++ content_text (part (codes "office:master-styles") (map master_element masters)))) c.get-5.ensures c.push_masters_part.ensures)
    (parts_text doc)
