use Rattle.std.proofs.Common.{◌+◌, List, take, subst}
use Rattle.std.specs.List.{flat_map}
use Rattle.field_model.specs.Gathered.{GatheredPar}
use Rattle.doc_texts.specs.declared.places.BodyPlace.{BodyPlace}
use Rattle.doc_texts.specs.Places.{with_notes}
use Rattle.doc_texts.specs.Behind.{all_behind}
use Rattle.doc_texts.specs.Holds.{HasRead}
use Rattle.doc_texts.proofs.Steps.{behind_flat, take_item}
use Rattle.doc_texts.proofs.reader.Reader.read_all.Goals as goal

pub loop-lent-preserved : goal.loop-lent-preserved
loop-lent-preserved c = λ before h.
    let lists = c.args.lists.now in
    let outline = c.args.outline.now in
    let places = c.args.places.now in
    let index = c.loop-lent.lent-index in
    let placed = λ (lent : BodyPlace). with_notes lent.par.now in
    let behind = all_behind lists outline before (flat_map placed (take index places)) in
    subst (λ (all : List GatheredPar). HasRead lists all c.read_with_notes.new.self)
    (behind_flat lists outline before placed (take index places) (take (index + 1) places) c.lent-item.result (take_item places index c.lent-item.result c.lent-item.is c.loop-lent-test.true))
    (c.in_ok-read_with_notes.ensures behind (c.loop-lent.invariant before h))
