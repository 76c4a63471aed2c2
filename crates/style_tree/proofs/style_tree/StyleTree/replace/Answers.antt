use Rattle.std.proofs.Common.{◌≡◌, ◌∙◌, Some, ap, sym, subst, slice_get, get_or}
use Rattle.std.proofs.lemmas.Option.{slice_get-get_or}
use Rattle.style_model.specs.Changes.{StyleSheet}
use Rattle.style_tree.specs.Index.{Says}
use Rattle.style_tree.proofs.Noted.{says_set}
use Rattle.style_tree.proofs.style_tree.StyleTree.replace.Goals as goal

pub invariant_of-self-2 : goal.invariant_of-self-2
invariant_of-self-2 c =
    let old : c.self.inside.styles ≡ c.args.self.now.styles = ap (λ (sheet : StyleSheet). sheet.styles) c.self.view_is in
    let was = get_or c.args.self.now.styles c.args.at c.args.style in
    let here : slice_get c.args.self.now.styles c.args.at ≡ Some was = slice_get-get_or c.args.self.now.styles c.args.at c.args.style c.requires.in_range in
    subst (Says c.self.inside.index.value) (sym c.in_ok-replace_in.ensures.ok) (says_set c.self.inside.index.value c.self.inside.styles c.args.at was c.args.style (ap (λ styles. slice_get styles c.args.at) old ∙ here) (c.requires.same was here) c.self.invariant)
