-- One more segment, and the last.
use Rattle.std.proofs.Common.{ap, length, ◌∷◌, length-append, arith, rules}
use Rattle.std.proofs.lemmas.Str.Pattern.{split_parts}
use Rattle.line_frames.proofs.LinesLemmas.{segments-push, segments-end}
use Rattle.line_frames.proofs.lines.push_segments.Goals as goal

pub segments-preserved : goal.segments-preserved
segments-preserved c =
    let at_break = split_parts 10 c.segments.rest.now c.split_once.result c.split_once.ensures.cases (omega arith) in
    let parts = rw c.in-Some.is at at_break in
    let segment = c.in-Some.segment.now in
    let more = c.in-Some.more.now in (
      rw c.in_ok-push_segment.ensures (segments-push c.args.key.now c.segments.from c.segments.rest.now segment more c.segments.lines _ parts.0 parts.1 c.segments.invariant.0),
      omega (arith, c.segments.invariant.1, ap length parts.0, length-append segment (10 ∷ more)),
      search rules,
    )

pub returns : goal.returns
returns c =
    let at_break = split_parts 10 c.segments.rest.now c.split_once.result c.split_once.ensures.cases (omega arith) in
    let none = rw c.in_default.is at at_break in
    rw (segments-end c.args.key.now c.segments.from c.segments.rest.now c.segments.lines _ none c.segments.invariant.0) at c.push_segment-2.ensures
