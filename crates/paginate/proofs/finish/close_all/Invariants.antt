use Rattle.std.proofs.Common.{◌≡◌, ℕ, ◌+◌, ◌<◌, ◌≤◌, ◌^◌, []}
use Rattle.paginate.specs.Reached.{size_of, Finishes}
use Rattle.paginate.specs.Standing.{left_of}
use Rattle.paginate.proofs.finish.close_all.Given as goal

abbrev pub invariant-pages : goal.invariant-pages
invariant-pages l = (most : ℕ) → l.fn.breaker.pages.items ≡ [] → l.fn.breaker.number ≤ most → 65535 ≤ most → most + size_of (left_of l.fn.breaker) l.fn.rows + 1 < 2 ^ 32
    → Finishes l.frames most (left_of l.fn.breaker) l.fn.breaker.heads l.fn.rows l.breaker l.rest

abbrev pub decreases-pages : goal.decreases-pages
decreases-pages l = size_of (left_of l.breaker) l.rest
