use Rattle.std.proofs.Common.{◌≡◌, ◌-◌, arith}
use Rattle.field_walk.proofs.ForgetLemmas.{letter_forgot, asked_forgot}
use Rattle.field_walk.proofs.walk.Walk.forget_piece.Goals as goal

pub returns-clause-letter : goal.returns-clause-letter
returns-clause-letter c = λ letter all h.
    let count : c.saturating_sub-self.result ≡ c.args.self.now.count - 1 = omega arith in
    rw count (letter_forgot c.args.self.now all c.pop.new.self letter h c.pop.ensures)

pub returns-clause-asked : goal.returns-clause-asked
returns-clause-asked c = λ name all h.
    let count : c.saturating_sub-self.result ≡ c.args.self.now.count - 1 = omega arith in
    rw count (asked_forgot c.args.self.now all c.pop.new.self name h c.pop.ensures)
