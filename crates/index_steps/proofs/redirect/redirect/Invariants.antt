use Rattle.std.proofs.Common.{take}
use Rattle.names_change.specs.Leading.{have_name, Redirects}
use Rattle.index_steps.proofs.redirect.redirect.Given as goal

abbrev pub invariant-loop-item : goal.invariant-loop-item
invariant-loop-item l = Redirects (λ kind name. have_name kind name (take l.item-index l.items)) l.from l.to l.fn.index l.index
