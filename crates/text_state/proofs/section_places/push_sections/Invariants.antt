use Rattle.std.proofs.Common.{◌≡◌, ◌++◌, take}
use Rattle.std.specs.List.{flat_map}
use Rattle.name_index.specs.Scan.{in_block}
use Rattle.text_state.proofs.section_places.push_sections.Given as goal

abbrev pub invariant-loop-block : goal.invariant-loop-block
invariant-loop-block l = l.places.items ≡ l.fn.places.items ++ flat_map (λ block. (in_block block).sections) (take l.block-index l.body)
