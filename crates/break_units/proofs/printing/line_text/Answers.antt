use Rattle.std.proofs.Common.{List, ℕ, sym, subst, IsUtf8, IsCharBoundary}
use Rattle.break_units.proofs.Places.{IsLineOf-key}
use Rattle.break_units.proofs.printing.line_text.Goals as goal

pub range-requires-clause-start_le_end : goal.range-requires-clause-start_le_end
range-requires-clause-start_le_end c =
    (IsLineOf-key c.args.key.now c.args.line.now (subst IsUtf8 c.get.ensures.text c.get.utf8) c.requires).grows

pub range-requires-clause-start_boundary : goal.range-requires-clause-start_boundary
range-requires-clause-start_boundary c = λ _.
    subst (λ (text : List ℕ). IsCharBoundary text c.args.line.now.from) (sym c.get.ensures.text)
    (IsLineOf-key c.args.key.now c.args.line.now (subst IsUtf8 c.get.ensures.text c.get.utf8) c.requires).start

pub range-requires-clause-end_boundary : goal.range-requires-clause-end_boundary
range-requires-clause-end_boundary c =
    subst (λ (text : List ℕ). IsCharBoundary text c.args.line.now.to) (sym c.get.ensures.text)
    (IsLineOf-key c.args.key.now c.args.line.now (subst IsUtf8 c.get.ensures.text c.get.utf8) c.requires).end
