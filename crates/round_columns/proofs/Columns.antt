-- The columns of a paragraph that has no page.
use Rattle.std.proofs.Common.{◌≡◌, ℕ, List, [], ◌∷◌, ◌++◌, Option, sym, ap, subst, ◌∙◌}
use Rattle.doc_model.specs.declared.paragraph.Par.{Par}
use Rattle.doc_model.specs.declared.document.Document.{Document}
use Rattle.format_model.specs.Keys.{Standing, body_row_pars, columns_with, columns_without_page, par_of, row_par, stated_in_force, up_to}
use Rattle.round_pars.specs.Pars.{AreNumbersDistinct}
use Rattle.round_columns.specs.declared.in_force.InForce.{InForce}
use Rattle.round_columns.specs.InForce.{IsInForce, master_behind}
use Rattle.round_columns.proofs.Apart.{Apart, body_rows_apart, up_to_own}

pub columns_here : (doc : Document) (before after : List Standing) (own one : Standing) (force : InForce) → AreNumbersDistinct doc → body_row_pars doc ≡ before ++ own ∷ after → par_of own ≡ row_par one
    → IsInForce doc (before ++ own ∷ []) force → force.columns ≡ columns_without_page doc one
columns_here doc before after own one force distinct split is_own is =
    let ones : up_to (par_of own) (body_row_pars doc) ≡ before ++ own ∷ [] =
    ap (up_to (par_of own)) split ∙ up_to_own before own after (subst (λ (ones : List Standing). Apart ones) split (body_rows_apart doc distinct)) in
    is.columns ∙ ap (columns_with doc) is.master ∙ ap (λ (ones : List Standing). columns_with doc (master_behind doc ones)) (sym ones)
    ∙ ap (λ (par : Par). columns_with doc (stated_in_force doc par)) is_own
