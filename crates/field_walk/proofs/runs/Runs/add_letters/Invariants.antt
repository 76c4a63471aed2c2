use Rattle.std.proofs.Common.{◌≡◌, Bool, map}
use Rattle.field_model.specs.declared.gathered.Piece.TheVariants.{Char}
use Rattle.field_model.specs.Quotes.{pieces_and}
use Rattle.field_walk.specs.Lists.{run_in}
use Rattle.field_walk.proofs.runs.Runs.add_letters.Given as goal

abbrev pub invariant-loop-letter : goal.invariant-loop-letter
invariant-loop-letter l = (noted : Bool) → run_in l.self noted ≡ pieces_and noted l.in_note (run_in l.initial.self noted) (map Char l.yielded)
