use Rattle.std.proofs.Common.{◌∙◌, ap, sym, subst, slice_get}
use Rattle.std.specs.Option.{option_and_then}
use Rattle.style_model.specs.Changes.{StyleSheet}
use Rattle.style_tree.specs.Index.{Says}
use Rattle.style_tree.proofs.Noted.{named_found}
use Rattle.style_tree.proofs.style_tree.StyleTree.place_of.Goals as goal

pub returns-clause-style : goal.returns-clause-style
returns-clause-style c =
    let styles = c.args.self.now.styles in
    let says : Says c.deref.result.now styles = subst (Says c.deref.result.now) (ap (λ (sheet : StyleSheet). sheet.styles) c.self.view_is) (subst (λ index. Says index c.self.inside.styles) (sym c.deref.ensures) c.self.invariant) in
    ap (option_and_then (λ place. slice_get styles place)) c.find.ensures ∙ named_found c.deref.result.now styles c.args.family c.args.name.now says
