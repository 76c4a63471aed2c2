-- The names that a style name refers to.
use Rattle.std.specs.Prelude.{ℕ, List}
use Rattle.sheet_names.specs.Known.{of_family}
use Rattle.sheet_names.specs.declared.names.Names.{Names}
use Rattle.block_parts.specs.declared.rules.Reference.{Reference}
use Rattle.block_parts.specs.declared.rules.Reference.TheVariants as reference

-- the names that can be referred to
abbrev pub names_in : Reference → Names → List (List ℕ)
names_in (reference.Style of) names = of_family names.styles of
names_in reference.List names = names.lists
