use Rattle.std.proofs.Common.{ap, arith, length}
use Rattle.doc_model.specs.declared.block.Block.{Block}
use Rattle.idle_queue.proofs.PlainPlaces.{body_count, read_par, read_section}
use Rattle.idle_queue.proofs.places.par_at.Goals as goal

pub bounds-get-place : goal.bounds-get-place
bounds-get-place c = omega (arith, ap (length {A = Block}) c.get.ensures, body_count c.args.doc.now c.requires.plain, c.requires.within)

pub unreachable-requires : goal.unreachable-requires
unreachable-requires c =
    read_section c.args.doc.now c.requires.plain c.args.place c.in-Section.field-0 c.get.result.now c.index-get-place.result c.requires.within c.get.ensures c.index-get-place.is c.in-Section.is

pub returns : goal.returns
returns c =
    read_par c.args.doc.now c.requires.plain c.args.place c.in-Par.par c.get.result.now c.index-get-place.result c.requires.within c.get.ensures c.index-get-place.is c.in-Par.is
