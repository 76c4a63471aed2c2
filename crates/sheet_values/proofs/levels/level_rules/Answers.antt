use Rattle.std.proofs.Common.{◌∙◌, sym}
use Rattle.load_model.specs.Left.{is}
use Rattle.load_model.specs.declared.names.Tag.TheVariants as tag
use Rattle.sheet_values.proofs.Steps.{else_is}
use Rattle.sheet_values.proofs.levels.level_rules.Goals as goal

pub returns-else-is : goal.returns-else-is
returns-else-is c = else_is (is tag.BulletLevel c.args.element.now) _ _ (sym c.is.ensures ∙ c.if-is.false)
