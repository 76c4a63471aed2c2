use Rattle.std.proofs.Common.{◌≡◌, ◌++◌, take}
use Rattle.std.specs.List.{flat_map}
use Rattle.name_index.specs.Scan.{in_block}
use Rattle.text_state.specs.NamePlaces.{first_place}
use Rattle.text_state.proofs.section_places.+push_those_of.Given as goal

abbrev pub invariant-push_section-loop-block : goal.invariant-push_section-loop-block
invariant-push_section-loop-block l = l.places.items ≡ l.fn.places.items ++ (first_place l.section ++ flat_map (λ block. (in_block block).sections) (take l.block-index l.block-items))
