use Rattle.std.proofs.Common.{◌≡◌, ◌++◌, take}
use Rattle.std.specs.List.{flat_map}
use Rattle.text_state.specs.NamePlaces.{block_places}
use Rattle.text_state.proofs.places.+push_block.Given as goal

abbrev pub invariant-push_section-loop-block : goal.invariant-push_section-loop-block
invariant-push_section-loop-block l = l.places.items ≡ l.fn.places.items ++ flat_map (block_places l.kind) (take l.block-index l.block-items)
