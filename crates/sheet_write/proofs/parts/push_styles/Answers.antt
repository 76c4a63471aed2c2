-- One style more is out, and one less is left.
use Rattle.std.proofs.Common.{◌++◌, [], ◌∷◌, ℕ, List, sym, ◌∙◌, ap}
use Rattle.std.specs.Str.{chars}
use Rattle.std.specs.String.{string_bytes}
use Rattle.doc_model.specs.declared.style.Style.{Style}
use Rattle.element_text.proofs.AddedLemmas.{more}
use Rattle.tree_text.specs.Writing.{content_text}
use Rattle.sheet_write.specs.Parts.{style_nodes}
use Rattle.sheet_write.proofs.FrontLemmas.{front, rest}
use Rattle.sheet_write.proofs.PartLemmas.{among-cons}
use Rattle.sheet_write.proofs.parts.push_styles.Goals as goal

pub styles-preserved : goal.styles-preserved
styles-preserved c =
    let automatic = c.args.automatic in
    let style : Style = c.style-item.result in
    let after : List Style = rest c.styles.left.now in
    let old = chars (string_bytes c.styles.out) in
    let one = content_text (style_nodes automatic (style ∷ [])) in
    more (chars (string_bytes c.push_style_among.new.out)) old one c.in_ok-push_style_among.ensures (content_text (style_nodes automatic after))
    ∙ (ap (λ (text : List ℕ). old ++ text) (among-cons automatic style after)
    ∙ (ap (λ (styles : List Style). old ++ content_text (style_nodes automatic styles)) (sym (front c.styles.left.now style _ c.in-len1-up.len_at_least c.style-item.is))
    ∙ c.styles.invariant))
