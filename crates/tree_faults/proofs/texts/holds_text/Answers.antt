use Rattle.std.proofs.Common.{◌∙◌, ap}
use Rattle.std.specs.Prelude.{is_some}
use Rattle.load_model.specs.declared.names.Tag.TheVariants as tag
use Rattle.load_model.specs.Left.{is, children}
use Rattle.tree_faults.proofs.PlaceLemmas.{some_any}
use Rattle.tree_faults.proofs.texts.holds_text.Goals as goal

pub returns-in-Some : goal.returns-in-Some
returns-in-Some c = ap is_some c.in-Some.ensures ∙ some_any (is tag.Text) (children c.args.element.now)

pub returns-in-None : goal.returns-in-None
returns-in-None c = ap is_some c.in-None.ensures ∙ some_any (is tag.Text) (children c.args.element.now)
