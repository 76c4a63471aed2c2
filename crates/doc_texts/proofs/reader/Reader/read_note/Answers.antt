use Rattle.std.proofs.Common.{◌+◌, List, map, take, subst}
use Rattle.field_model.specs.declared.gathered.Gathered.TheVariants as place
use Rattle.field_model.specs.Gathered.{GatheredPar}
use Rattle.doc_texts.specs.Places.{placed_at}
use Rattle.doc_texts.specs.Behind.{all_behind}
use Rattle.doc_texts.specs.Holds.{HasRead}
use Rattle.doc_texts.proofs.Steps.{behind_more, take_item}
use Rattle.doc_texts.proofs.reader.Reader.read_note.Goals as goal

pub loop-par-preserved : goal.loop-par-preserved
loop-par-preserved c = λ before h.
    let lists = c.args.lists.now in
    let outline = c.args.outline.now in
    let pars = c.as_slice-par-items.result.now in
    let index = c.loop-par.par-index in
    let par = c.par-item.result in
    let placed = placed_at (place.Note c.args.number) in
    let behind = all_behind lists outline before (map placed (take index pars)) in
    subst (λ (all : List GatheredPar). HasRead lists all c.read_par.new.self)
    (behind_more lists outline before placed (take index pars) (take (index + 1) pars) par (take_item pars index par c.par-item.is c.loop-par-test.true))
    (c.in_ok-read_par.ensures behind (c.loop-par.invariant before h))
