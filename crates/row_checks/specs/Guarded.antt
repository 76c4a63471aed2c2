-- The sections that protect a row.
use Rattle.std.specs.Prelude.{List, Option, find, option_map}
use Rattle.doc_model.specs.declared.refusal.Refusal.{Refusal}
use Rattle.doc_model.specs.declared.refusal.Refusal.TheVariants.{Protected}
use Rattle.node_array.specs.declared.row.SectionHead.{SectionHead as RowHead}

-- the innermost protected one of some sections, the innermost of which stands first
abbrev pub protected_row : List RowHead → Option Refusal
protected_row heads = option_map (λ head. Protected head.name) (find (λ head. head.protected) heads)
