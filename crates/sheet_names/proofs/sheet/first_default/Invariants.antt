use Rattle.std.proofs.Common.{◌≡◌, map, drop}
use Rattle.std.specs.List.{find}
use Rattle.load_model.specs.Styles.{is_default_style}
use Rattle.sheet_names.proofs.sheet.first_default.Given as goal

abbrev pub invariant-held : goal.invariant-held
invariant-held l = find is_default_style (map (λ one. one.element.now) (drop l.one-index l.held)) ≡ find is_default_style (map (λ one. one.element.now) l.held)
