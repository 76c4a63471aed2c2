use Rattle.std.proofs.Common.{◌≡◌, ◌∙◌, List, Some, ap, sym, remove}
use Rattle.doc_model.specs.declared.style.Style.{Style}
use Rattle.doc_model.specs.declared.style.Props.{Props}
use Rattle.style_model.specs.Changes.{StyleSheet, without_style}
use Rattle.style_tree.proofs.Noted.{found_only, removed_only}
use Rattle.style_tree.proofs.style_tree.StyleTree.remove.Goals as goal

pub returns-in_ok-take_out-in-Some-clause-style : goal.returns-in_ok-take_out-in-Some-clause-style
returns-in_ok-take_out-in-Some-clause-style c =
    found_only c.args.self.now.styles c.args.family c.args.name.now c.in_ok-at.at c.get.result.now c.get.ensures c.in_ok-at.ensures.place c.in_ok-at.ensures.only ∙ ap Some (sym c.in_ok-style.ensures)

pub returns-in_ok-take_out-in-Some-clause-ok : goal.returns-in_ok-take_out-in-Some-clause-ok
returns-in_ok-take_out-in-Some-clause-ok c =
    let old : c.self.inside.styles ≡ c.args.self.now.styles = ap (λ (sheet : StyleSheet). sheet.styles) c.self.view_is in
    let left = removed_only c.args.self.now.styles c.args.family c.args.name.now c.in_ok-at.at c.get.result.now c.get.ensures c.in_ok-at.ensures.place c.in_ok-at.ensures.only in
    let sheet : Props → List Style → StyleSheet = λ defaults styles. record { defaults = defaults; styles = styles } in
    let defaults = ap (λ (sheet : StyleSheet). sheet.defaults) c.self.view_is in
    ap (sheet c.self.inside.defaults.value) (c.in_ok-take_out-in-Some.ensures.ok ∙ ap (λ styles. remove styles c.in_ok-at.at) old ∙ sym left) ∙ ap (λ defaults. sheet defaults (without_style c.args.family c.args.name.now c.args.self.now.styles)) defaults
