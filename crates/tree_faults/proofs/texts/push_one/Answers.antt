use Rattle.std.proofs.Common.{◌∙◌, sym}
use Rattle.tree_faults.proofs.PlaceLemmas.{goes_other, goes_first, goes_further}
use Rattle.tree_faults.proofs.texts.push_one.Goals as goal

pub returns-then-not-is : goal.returns-then-not-is
returns-then-not-is c = λ elements old goes. goes_other c.args.wanted elements c.args.element.now old c.args.places.now.items c.args.met goes (sym c.is.ensures ∙ c.if-not-is.true)

pub returns-then-not-met : goal.returns-then-not-met
returns-then-not-met c = λ elements old goes. goes_first c.args.wanted elements c.args.element.now old c.args.places.now.items c.args.met goes (sym c.is.ensures ∙ c.if-not-is.false) c.if-not-met.true

pub returns : goal.returns
returns c = λ elements old goes.
    goes_further c.args.wanted elements c.args.element.now old c.args.places.now.items c.args.met goes c.push.new.self.items (sym c.is.ensures ∙ c.if-not-is.false) c.if-not-met.false c.in_ok-push.ensures.items
