use Rattle.std.proofs.Common.{◌≡◌, ◌++◌, map, take}
use Rattle.sheet_kept.specs.Held.{seen}
use Rattle.sheet_styles.specs.Read.{styles_with}
use Rattle.sheet_styles.proofs.styles.add_styles.Given as goal

abbrev pub invariant-kept : goal.invariant-kept
invariant-kept l = l.styles ≡ l.initial.styles ++ styles_with l.names l.is_auto (map seen (take l.one-index l.kept))
