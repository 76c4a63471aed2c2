use Rattle.std.proofs.Common.{◌≡◌, ◌∙◌, ◌++◌, List, map, ap, sym, subst}
use Rattle.std.specs.Prelude.{OnOk}
use Rattle.std.specs.List.{flat_map}
use Rattle.doc_model.specs.declared.block.Block as block_type
use Rattle.doc_model.specs.declared.block.Block.{Block}
use Rattle.doc_model.specs.declared.block.Section.{out-Section}
use Rattle.doc_model.specs.declared.paragraph.Par.{Par}
use Rattle.doc_model.specs.Reading.{block_paragraphs}
use Rattle.format_model.specs.Standing.{BodyPar, body_pars_in, within_section}
use Rattle.doc_texts.specs.declared.places.BodyPlace.{BodyPlace}
use Rattle.doc_texts.specs.Places.{body_par}
use Rattle.doc_texts.proofs.Blocks.{section_placed, section_read, within_twice}
use Rattle.doc_texts.proofs.places.+push_block.Goals as goal

pub push_block-returns-in-Section-clause-placed : goal.push_block-returns-in-Section-clause-placed
unfolding block_type.roll-Block denote.Hole.Carrier.roll
push_block-returns-in-Section-clause-placed t c =
    let hidden = c.args.in_hidden_section in
    let section = c.in-Section.section in
    subst (λ (more : List BodyPar). OnOk c.push_section.result (map body_par c.push_section.new.places.items ≡ map body_par c.args.places.now.items ++ more))
    (sym (ap (λ (block : Block). map (within_section hidden) (body_pars_in block)) c.in-Section.is ∙ ap (map (within_section hidden)) (section_placed section)
    ∙ within_twice hidden (out-Section section).hidden (flat_map body_pars_in (out-Section section).blocks))) c.push_section.ensures.placed

pub push_block-returns-in-Section-clause-read : goal.push_block-returns-in-Section-clause-read
unfolding block_type.roll-Block denote.Hole.Carrier.roll
push_block-returns-in-Section-clause-read t c =
    subst (λ (more : List Par). OnOk c.push_section.result (map (λ (place : BodyPlace). place.par.now) c.push_section.new.places.items ≡ map (λ (place : BodyPlace). place.par.now) c.args.places.now.items ++ more))
    (sym (ap block_paragraphs c.in-Section.is ∙ section_read c.in-Section.section)) c.push_section.ensures.read
