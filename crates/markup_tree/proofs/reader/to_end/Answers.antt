-- The end of the text, a stop, or one more construct that says nothing.
use Rattle.std.proofs.Common.{chars, refl, arith, rules}
use Rattle.markup_tree.specs.Stacks.{spot_after}
use Rattle.markup_parts.proofs.LiteralLemmas.{true_false}
use Rattle.markup_tree.proofs.ReaderLemmas.{on_silent}
use Rattle.markup_tree.proofs.WayLemmas.{stopped_fault}
use Rattle.markup_tree.proofs.reader.to_end.Goals as goal

pub returns-then-is_nothing-clause-read : goal.returns-then-is_nothing-clause-read
returns-then-is_nothing-clause-read c =
    record { spot = spot_after c.args.root (chars c.epilog.rest.now); reached = c.epilog.invariant.1; part = refl; ended = c.if-is_nothing.ensures.0 refl; events = refl }

pub returns-in-Err-clause-fault : goal.returns-in-Err-clause-fault
returns-in-Err-clause-fault c =
    stopped_fault (chars c.args.whole.now) (spot_after c.args.root (chars c.epilog.rest.now)) c.in-Err.fault c.epilog.invariant.1 (λ e. true_false (c.if-is_nothing.ensures.1 e.1) refl) c.in-Err.ensures.read c.stopped.ensures

pub epilog-preserved-in-Ok : goal.epilog-preserved-in-Ok
epilog-preserved-in-Ok c = (
  omega (arith, c.in-Ok.ensures.shorter, c.epilog.invariant.0),
  on_silent (chars c.args.whole.now) (chars c.epilog.rest.now) c.args.root c.in-Ok.ensures.read c.epilog.invariant.1,
  search rules,
)

pub epilog-preserved-in-Ok-2 : goal.epilog-preserved-in-Ok-2
epilog-preserved-in-Ok-2 c = (
  omega (arith, c.in-Ok.ensures.shorter, c.epilog.invariant.0),
  on_silent (chars c.args.whole.now) (chars c.epilog.rest.now) c.args.root c.in-Ok.ensures.read c.epilog.invariant.1,
  search rules,
)
