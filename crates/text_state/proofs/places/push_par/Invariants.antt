use Rattle.std.proofs.Common.{◌≡◌, ◌++◌, take}
use Rattle.std.specs.List.{flat_map}
use Rattle.doc_model.specs.declared.paragraph.Par.{out-Par}
use Rattle.text_state.specs.NamePlaces.{item_places}
use Rattle.text_state.proofs.places.push_par.Given as goal

abbrev pub invariant-loop-item : goal.invariant-loop-item
invariant-loop-item l = l.places.items ≡ l.fn.places.items ++ flat_map (item_places l.kind (out-Par l.par).id) (take l.item-index l.item-items)
