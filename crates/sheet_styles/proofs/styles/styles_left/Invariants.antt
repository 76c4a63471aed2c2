use Rattle.std.proofs.Common.{◌≡◌, map, take}
use Rattle.element_parts.specs.Shown.{shown}
use Rattle.sheet_kept.specs.Held.{seen}
use Rattle.sheet_styles.specs.Read.{all_left}
use Rattle.sheet_styles.proofs.styles.styles_left.Given as goal

abbrev pub invariant-kept : goal.invariant-kept
invariant-kept l = l.total ≡ shown (all_left l.names (map seen (take l.one-index l.kept)))
