use Rattle.std.proofs.Common.{◌≡◌, ◌++◌, drop, map, None}
use Rattle.paginate.proofs.notes.push_note_par.Given as goal

abbrev pub invariant-loop-line : goal.invariant-loop-line
invariant-loop-line l = l.rows ++ map (λ text. record { place = None; text = text }) (drop l.line-index l.more) ≡ l.initial.rows ++ map (λ text. record { place = None; text = text }) l.more
