-- The units of a segment end within it, and stand further on.
use Rattle.std.proofs.Common.{◌∙◌, length}
use Rattle.line_frames.proofs.LinesLemmas.{filled, EndShort-units_at, lines_of_segment-filled}
use Rattle.line_frames.proofs.lines.push_segment.Goals as goal

pub push_units-requires : goal.push_units-requires
push_units-requires c = rw (c.get.ensures ∙ c.in_ok-units.ensures) (EndShort-units_at c.args.from c.args.segment.now c.utf8.segment c.requires)

pub returns : goal.returns
returns c =
    let some = filled (length c.args.segment.now) c.is_empty.result c.is_empty.ensures c.if-is_empty.false in
    rw (lines_of_segment-filled c.args.key.now c.args.from c.args.segment.now some) (rw (c.get.ensures ∙ c.in_ok-units.ensures) at c.push_units.ensures)
