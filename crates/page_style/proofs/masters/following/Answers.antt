use Rattle.std.proofs.Common.{◌≡◌, ◌≢◌, ◌∙◌, ap, sym, length, refl, Some}
use Rattle.std.proofs.lemmas.Bool.{eqb-true, eqb-false}
use Rattle.std.proofs.lemmas.Option.{slice_get_read}
use Rattle.std.specs.List.{slice_get}
use Rattle.doc_model.specs.declared.page_layout.Master.{Master}
use Rattle.style_model.specs.Masters.{place_of_master}
use Rattle.page_style.proofs.Names.{itself, named, empty_text, some_text}
use Rattle.page_style.proofs.masters.following.Goals as goal

pub returns-then-is_empty : goal.returns-then-is_empty
returns-then-is_empty c =
    let there : slice_get c.args.masters.now c.args.place ≡ Some c.index-masters-place.result = slice_get_read _ _ _ _ refl c.requires c.index-masters-place.is in
    let none : length c.get-next.result.now ≡ 0 = eqb-true _ _ (sym c.if-is_empty.ensures) in
    itself c.args.masters.now c.args.place c.index-masters-place.result there (empty_text c.get-next.result.now _ (c.get-next.ensures ∙ ap (λ (m : Master). m.next) (sym c.index-masters-place.is)) none)

pub returns : goal.returns
returns c =
    let there : slice_get c.args.masters.now c.args.place ≡ Some c.index-masters-place.result = slice_get_read _ _ _ _ refl c.requires c.index-masters-place.is in
    let some : length c.get-next.result.now ≢ 0 = eqb-false _ _ (sym c.if-is_empty.ensures) in
    c.place_of.ensures ∙ ap (place_of_master c.args.masters.now) (c.get-next.ensures ∙ ap (λ (m : Master). m.next) (sym c.index-masters-place.is))
    ∙ named c.args.masters.now c.args.place c.index-masters-place.result there (some_text c.get-next.result.now _ c.get-next.utf8 (c.get-next.ensures ∙ ap (λ (m : Master). m.next) (sym c.index-masters-place.is)) some)
