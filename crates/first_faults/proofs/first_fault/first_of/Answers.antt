use Rattle.std.proofs.Common.{◌∙◌, cond, ap, sym, Some}
use Rattle.std.proofs.lemmas.Bool.{lt-ltb, le-ltb}
use Rattle.first_faults.proofs.LeastLemmas.{least_some}
use Rattle.first_faults.proofs.first_fault.first_of.Goals as goal

pub returns-then-other-offence : goal.returns-then-other-offence
returns-then-other-offence c = λ before known.
    let first = c.in-Some.offence in
    let other = c.args.other in
    sym (ap (λ b. Some (cond b other first)) (lt-ltb other.place first.place c.if-other-offence.true)) ∙ least_some first before other (sym c.in-Some.is ∙ known)

pub returns-else-other-offence : goal.returns-else-other-offence
returns-else-other-offence c = λ before known.
    let first = c.in-Some.offence in
    let other = c.args.other in
    sym (ap (λ b. Some (cond b other first)) (le-ltb other.place first.place c.if-other-offence.false)) ∙ least_some first before other (sym c.in-Some.is ∙ known)
