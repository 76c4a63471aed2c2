use Rattle.std.proofs.Common.{◌≡◌, map, drop}
use Rattle.std.specs.List.{find}
use Rattle.load_model.specs.declared.names.Tag.TheVariants as tag
use Rattle.load_model.specs.Left.{is}
use Rattle.sheet_names.proofs.sheet.first_outline.Given as goal

abbrev pub invariant-held : goal.invariant-held
invariant-held l = find (is tag.OutlineStyle) (map (λ one. one.element.now) (drop l.one-index l.held)) ≡ find (is tag.OutlineStyle) (map (λ one. one.element.now) l.held)
