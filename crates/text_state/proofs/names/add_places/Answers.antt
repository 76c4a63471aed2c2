use Rattle.std.proofs.Common.{◌∙◌, ◌∷◌, [], ◌++◌, List, ℕ, ap, sym, subst, take, arith}
use Rattle.std.proofs.lemmas.List.{take_more, take_all}
use Rattle.doc_model.specs.declared.paragraph.ParId.{ParId}
use Rattle.name_index.specs.Names.{of_kind}
use Rattle.name_index.specs.Scan.{given}
use Rattle.text_state.specs.NamePlaces.{Follows}
use Rattle.text_state.proofs.Followed.{follows_more}
use Rattle.text_state.proofs.names.add_places.Goals as goal

pub loop-place-preserved : goal.loop-place-preserved
loop-place-preserved c =
    let before = take c.loop-place.place-index c.args.places.now in
    subst (λ (places : List (List ℕ × ParId)). Follows c.args.index.now c.add_name.new.index (of_kind c.args.kind (given places)))
    (ap (λ (place : List ℕ × ParId). before ++ place ∷ []) c.place-item.is ∙ sym (take_more c.args.places.now c.loop-place.place-index c.place-item.result c.loop-place-test.true))
    (follows_more c.args.index.now c.loop-place.index c.add_name.new.index c.args.kind before c.place-item.result c.loop-place.invariant c.in_ok-add_name.ensures)

pub returns : goal.returns
returns c =
    subst (λ (places : List (List ℕ × ParId)). Follows c.args.index.now c.loop-place.index (of_kind c.args.kind (given places)))
    (take_all c.loop-place.place-index c.args.places.now (omega arith)) c.loop-place.invariant
