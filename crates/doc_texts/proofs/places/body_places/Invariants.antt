use Rattle.std.proofs.Common.{◌≡◌, map, take}
use Rattle.std.specs.List.{flat_map}
use Rattle.doc_model.specs.Reading.{block_paragraphs}
use Rattle.format_model.specs.Standing.{body_pars_in}
use Rattle.doc_texts.specs.declared.places.BodyPlace.{BodyPlace}
use Rattle.doc_texts.specs.Places.{body_par}
use Rattle.doc_texts.proofs.places.body_places.Given as goal

abbrev pub invariant-loop-block : goal.invariant-loop-block
invariant-loop-block l =
    (map body_par l.places.items ≡ flat_map body_pars_in (take l.block-index l.body))
    × (map (λ (place : BodyPlace). place.par.now) l.places.items ≡ flat_map block_paragraphs (take l.block-index l.body))
