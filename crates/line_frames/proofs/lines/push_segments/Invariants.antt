use denote.Shadow.{shadow}
use denote.Text.{Utf8}
use Rattle.std.proofs.Common.{◌≡◌, ◌+◌, ◌++◌, length}
use Rattle.line_model.specs.Lines.{lines_of_segments, segments}
use Rattle.line_frames.proofs.lines.push_segments.Given as goal

abbrev pub decreases-segments : goal.decreases-segments
decreases-segments l = length l.rest

abbrev pub invariant-segments : goal.invariant-segments
invariant-segments l =
    (l.lines ++ lines_of_segments l.key l.from (segments l.rest) ≡ l.fn.lines ++ lines_of_segments l.key 0 (segments l.key.text))
    × (l.from + length l.rest ≡ length l.key.text) × shadow (Utf8 l.rest)
