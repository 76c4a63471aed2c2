use Rattle.std.proofs.Common.{◌<◌, ◌++◌, ap, ◌∙◌, subst}
use Rattle.turn_lock.specs.Seats.{known}
use Rattle.turn_lock.specs.Numbers.{numbers_of}
use Rattle.turn_lock.proofs.Joined.{has_four}
use Rattle.turn_lock.proofs.tests.close_all.Goals as goal

pub close-requires-clause-all : goal.close-requires-clause-all
close-requires-clause-all c = let a = c.join.ensures.numbers in let b = c.join-2.ensures.numbers in let d = c.join-3.ensures.numbers in let q = c.requires.numbers in
    λ n l. has_four (known c.join-3.new.seat) (known c.args.zero).joined (known c.args.one) (known c.args.two) (known c.args.three) (d.0 ∙ (b.0 ∙ (a.0 ∙ q.0)))
    (d.2 ∙ ap (λ xs. xs ++ numbers_of (known c.args.three)) (b.2 ∙ ap (λ xs. xs ++ numbers_of (known c.args.two)) a.2)) q.1 q.2 q.3 n (subst (λ m. n < m) c.requires.seats.0 l)
