use Rattle.std.proofs.Common.{◌≡◌, length, rules, arith, ◌+◌}
use Rattle.field_model.specs.Cut.{kept_characters}
use Rattle.number_text.proofs.CutLemmas.{cut_none, cut_full}
use Rattle.field_model.specs.Shown.{quote}
use Rattle.field_walk.proofs.TextLemmas.{quote_pushed, quote_full}
use Rattle.field_walk.proofs.walk.Walk.push_pieces.Goals as goal

pub returns-then-is_full : goal.returns-then-is_full
returns-then-is_full c = λ all h. let full : length c.args.out.now ≡ kept_characters = search rules in cut_full c.args.out.now (quote all c.args.pieces.now) full

pub loop-piece-init : goal.loop-piece-init
loop-piece-init c = λ all h. cut_none c.args.out.now c.is_full.ensures.short

pub returns-then-is_full-2 : goal.returns-then-is_full-2
returns-then-is_full-2 c = λ all h.
    let full : length c.push_piece.new.out ≡ kept_characters = search rules in
    quote_full all c.args.pieces.now (c.loop-piece.piece-index + 1) c.args.out.now c.push_piece.new.out full (quote_pushed all c.args.pieces.now c.loop-piece.piece-index c.piece-item.result c.args.out.now c.loop-piece.out c.push_piece.new.out (omega arith) c.piece-item.is (c.loop-piece.invariant all h) (c.in_ok-push_piece.ensures all h))

pub loop-piece-preserved : goal.loop-piece-preserved
loop-piece-preserved c = λ all h. quote_pushed all c.args.pieces.now c.loop-piece.piece-index c.piece-item.result c.args.out.now c.loop-piece.out c.push_piece.new.out (omega arith) c.piece-item.is (c.loop-piece.invariant all h) (c.in_ok-push_piece.ensures all h)
