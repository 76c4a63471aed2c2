-- One more line.
use Rattle.std.proofs.Common.{◌≡◌, ◌<◌, ◌+◌, ◌^◌, length, take, drop, ap, ◌∙◌, arith}
use Rattle.line_model.specs.Lines.{width, line_length, end_of}
use Rattle.line_frames.proofs.LinesLemmas.{lines-push, end_of-short, short-drop, filled}
use Rattle.line_frames.proofs.lines.push_units.Goals as goal

pub overflow_add-to : goal.overflow_add-to
overflow_add-to c =
    let by = c.args.from in
    let to : c.end_of.result ≡ end_of 0 (take c.line_length.result c.lines.rest.now) = c.end_of.ensures ∙ ap (end_of 0) c.split_at.ensures.front in
    let short : by + end_of 0 (take c.line_length.result c.lines.rest.now) < 2 ^ 32 = end_of-short by 0 c.line_length.result c.lines.rest.now (omega arith) c.lines.invariant.short in
    rw to (omega arith)

pub lines-preserved : goal.lines-preserved
lines-preserved c =
    let by = c.args.from in
    let rest = c.lines.rest.now in
    let n = c.line_length.result in
    let count : n ≡ line_length (width c.args.key.now c.lines.place) rest = c.line_length.ensures.value ∙ ap (λ w. line_length w rest) c.width.ensures in
    let to : c.end_of.result ≡ end_of 0 (take n rest) = c.end_of.ensures ∙ ap (end_of 0) c.split_at.ensures.front in
    let back : c.split_at.result.1.now ≡ drop n rest = c.split_at.ensures.back in
    record {
      so_far = rw c.in_ok-push.ensures.ok (rw to (rw back (lines-push c.args.key.now by c.lines.place n rest c.lines.lines _
          (filled (length rest) c.is_empty.result c.is_empty.ensures c.lines-test.true) count c.lines.invariant.so_far)));
      short = rw back (short-drop by n rest c.lines.invariant.short);
    }
