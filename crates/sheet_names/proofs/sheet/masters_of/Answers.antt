use Rattle.std.proofs.Common.{◌≡◌, ◌∙◌, List, map, ap, sym, subst}
use Rattle.std.specs.Result.{IfOk}
use Rattle.load_model.specs.declared.element.Element.{Element}
use Rattle.load_model.specs.declared.names.Tag.TheVariants as tag
use Rattle.load_model.specs.Left.{children}
use Rattle.sheet_kept.specs.Kept.{Keeps}
use Rattle.sheet_names.proofs.SheetLemmas.{lent_elements, held_elements}
use Rattle.sheet_names.proofs.sheet.masters_of.Goals as goal

pub returns : goal.returns
returns c =
    let all : map (λ one. one.element.now) c.as_slice.result.now ≡ children c.args.part.now =
    ap (map (λ one. one.element.now)) c.as_slice.ensures.value ∙ sym (lent_elements c.in_ok-held.held.items) ∙ ap (map (λ one. one.element)) c.in_ok-held.ensures ∙ held_elements c.args.part.now in
    subst (λ (elements : List Element). IfOk c.first_named.result (λ kept. Keeps tag.MasterPage elements kept)) all c.first_named.ensures
