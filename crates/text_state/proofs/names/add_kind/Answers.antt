use Rattle.std.proofs.Common.{◌∙◌, subst}
use Rattle.std.specs.Prelude.{OnOk}
use Rattle.name_index.specs.Names.{of_kind}
use Rattle.name_index.specs.Scan.{given}
use Rattle.text_state.specs.NamePlaces.{Follows}
use Rattle.text_state.proofs.names.add_kind.Goals as goal

pub returns : goal.returns
returns c =
    subst (λ places. OnOk c.add_places.result (Follows c.args.index.now c.add_places.new.index (of_kind c.args.kind (given places))))
    (c.as_slice.ensures.value ∙ c.in_ok-places.ensures) c.add_places.ensures
