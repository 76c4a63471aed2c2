use Rattle.std.proofs.Common.{◌≡◌, length, rules, arith, refl, ◌+◌}
use Rattle.field_model.specs.Cut.{kept_characters}
use Rattle.number_text.proofs.CutLemmas.{cut_none, cut_full}
use Rattle.field_model.specs.Shown.{quote, up_to_gap}
use Rattle.field_walk.proofs.TextLemmas.{quote_pushed, gap_full, gap_more}
use Rattle.field_walk.proofs.walk.Walk.push_up_to_gap.Goals as goal

pub returns-then-is_full : goal.returns-then-is_full
returns-then-is_full c = λ all h. let full : length c.args.out.now ≡ kept_characters = search rules in cut_full c.args.out.now (quote all (up_to_gap c.args.pieces.now)) full

pub loop-piece-init : goal.loop-piece-init
loop-piece-init c = record { gap = refl; quoted = λ all h. cut_none c.args.out.now c.is_full.ensures.short }

pub returns-then-is_full-2 : goal.returns-then-is_full-2
returns-then-is_full-2 c = λ all h.
    let full : length c.push_piece.new.out ≡ kept_characters = search rules in
    gap_full all c.args.pieces.now (c.loop-piece.piece-index + 1) c.args.out.now c.push_piece.new.out full
    (gap_more c.args.pieces.now c.loop-piece.piece-index c.piece-item.result (omega arith) c.piece-item.is (search rules) c.loop-piece.invariant.gap)
    (quote_pushed all c.args.pieces.now c.loop-piece.piece-index c.piece-item.result c.args.out.now c.loop-piece.out c.push_piece.new.out (omega arith) c.piece-item.is (c.loop-piece.invariant.quoted all h) (c.in_ok-push_piece.ensures all h))

pub loop-piece-preserved : goal.loop-piece-preserved
loop-piece-preserved c = record {
  gap = gap_more c.args.pieces.now c.loop-piece.piece-index c.piece-item.result (omega arith) c.piece-item.is (search rules) c.loop-piece.invariant.gap;
  quoted = λ all h. quote_pushed all c.args.pieces.now c.loop-piece.piece-index c.piece-item.result c.args.out.now c.loop-piece.out c.push_piece.new.out (omega arith) c.piece-item.is (c.loop-piece.invariant.quoted all h) (c.in_ok-push_piece.ensures all h);
}
