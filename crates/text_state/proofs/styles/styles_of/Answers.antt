use Rattle.std.proofs.Common.{◌≡◌, ◌∙◌, None, ap, sym, subst, take}
use Rattle.doc_model.specs.declared.style.Style.{Style}
use Rattle.style_model.specs.Changes.{StyleSheet}
use Rattle.style_model.specs.Lineage.{style_named}
use Rattle.text_state.proofs.NewStyle.{new_style}
use Rattle.text_state.proofs.styles.styles_of.Goals as goal

pub put-requires-clause-new : goal.put-requires-clause-new
put-requires-clause-new c =
    let before = take c.loop-style.style-index c.args.styles.now in
    ap (λ styles. style_named styles c.in_ok-copy-2.field-0.family c.in_ok-copy-2.field-0.name) (ap (λ (sheet : StyleSheet). sheet.styles) c.loop-style.invariant)
    ∙ subst (λ (style : Style). style_named before style.family style.name ≡ None) (sym c.in_ok-copy-2.ensures)
    (new_style c.args.styles.now c.loop-style.style-index c.style-item.result c.loop-style-test.true c.style-item.is c.requires.names)
