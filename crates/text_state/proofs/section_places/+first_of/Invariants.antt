use Rattle.std.proofs.Common.{◌≡◌, [], take}
use Rattle.std.specs.List.{flat_map}
use Rattle.name_index.specs.Scan.{in_block}
use Rattle.text_state.proofs.section_places.+first_of.Given as goal

abbrev pub invariant-first_of_section-loop-block : goal.invariant-first_of_section-loop-block
invariant-first_of_section-loop-block l = flat_map (λ block. (in_block block).numbers) (take l.block-index l.block-items) ≡ []
