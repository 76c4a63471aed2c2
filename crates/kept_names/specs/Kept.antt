-- What is kept.
use Rattle.load_model.specs.Met.{Kept}
use Rattle.kept_names.specs.Places.{AreSame}

-- the same is kept
pub record IsSame (kept other : Kept) : Type 0 where
  pub sections : AreSame kept.sections other.sections
  pub marks : AreSame kept.marks other.marks
  pub notes : AreSame kept.notes other.notes
  pub references : AreSame kept.references other.references
