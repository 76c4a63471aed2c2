use Rattle.std.proofs.Common.{◌≡◌, ◌++◌, map, take}
use Rattle.std.specs.List.{flat_map}
use Rattle.doc_model.specs.Reading.{block_paragraphs}
use Rattle.format_model.specs.Standing.{body_pars_in, within_section}
use Rattle.doc_texts.specs.declared.places.BodyPlace.{BodyPlace}
use Rattle.doc_texts.specs.Places.{body_par}
use Rattle.doc_texts.proofs.places.+push_block.Given as goal

abbrev pub invariant-push_section-loop-block : goal.invariant-push_section-loop-block
invariant-push_section-loop-block l =
    (map body_par l.places.items ≡ map body_par l.fn.places.items ++ map (within_section l.hidden) (flat_map body_pars_in (take l.block-index l.block-items)))
    × (map (λ (place : BodyPlace). place.par.now) l.places.items ≡ map (λ (place : BodyPlace). place.par.now) l.fn.places.items ++ flat_map block_paragraphs (take l.block-index l.block-items))
