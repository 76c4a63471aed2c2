use Rattle.std.proofs.Common.{◌∙◌, List, ap, sym, slice_set}
use Rattle.doc_model.specs.declared.style.Style.{Style}
use Rattle.doc_model.specs.declared.style.Props.{Props}
use Rattle.style_model.specs.Changes.{StyleSheet, with_style_prop}
use Rattle.style_tree.proofs.Noted.{changed_only}
use Rattle.style_tree.proofs.style_tree.StyleTree.set_prop.Goals as goal

pub returns-clause-ok : goal.returns-clause-ok
returns-clause-ok c =
    let styles = c.args.self.now.styles in
    let changed = changed_only styles c.args.family c.args.name.now c.in_ok-at.at c.get.result.now c.get.ensures c.in_ok-at.ensures.place c.in_ok-at.ensures.only (with_style_prop c.args.prop.now) in
    let same = ap (λ (props : Props). record c.in_ok-style.style { props = props }) c.in_ok-style-2.ensures ∙ ap (with_style_prop c.args.prop.now) c.in_ok-style.ensures in
    let sheet : List Style → StyleSheet = λ styles. record { defaults = c.args.self.now.defaults; styles = styles } in
    c.in_ok-replace.ensures.ok ∙ ap (λ style. sheet (slice_set styles c.in_ok-at.at style)) same ∙ ap sheet (sym changed)
