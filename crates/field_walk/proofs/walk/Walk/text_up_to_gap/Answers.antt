use Rattle.std.proofs.Common.{ap, ◌∙◌, refl, chars, rules, arith}
use Rattle.std.proofs.lemmas.Str.{chars-nil}
use Rattle.field_walk.proofs.TextLemmas.{text_gap}
use Rattle.field_walk.proofs.walk.Walk.text_up_to_gap.Goals as goal

pub loop-piece-init : goal.loop-piece-init
loop-piece-init c = record { gap = refl; quoted = λ all h. ap chars c.new-text.ensures.bytes ∙ chars-nil }

pub returns-then-is_gap : goal.returns-then-is_gap
returns-then-is_gap c = λ all h. text_gap all c.args.pieces.now c.loop-piece.piece-index c.piece-item.result _ (omega arith) c.piece-item.is (search rules) c.loop-piece.invariant.gap (c.loop-piece.invariant.quoted all h)
