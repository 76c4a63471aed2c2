use Rattle.std.proofs.Common.{map, take}
use Rattle.sheet_kept.specs.Held.{seen}
use Rattle.sheet_names.specs.Keys.{KeepsStyles}
use Rattle.sheet_names.proofs.kept_styles.first_styles.Given as goal

abbrev pub invariant-held : goal.invariant-held
invariant-held l = KeepsStyles (map seen (take l.one-index l.held)) l.kept
