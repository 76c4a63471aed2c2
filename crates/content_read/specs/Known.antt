-- What is known as a text is read.
use Rattle.load_model.specs.Blocks.{Known as Model}
use Rattle.kept_names.specs.Kept.{IsSame}
use Rattle.sheet_names.specs.Known.{Knows}
use Rattle.content_read.specs.declared.known.Known.{Known}

-- the names that can be referred to, and the same is kept
pub record IsKnown (known : Known) (model : Model) : Type 0 where
  pub names : Knows known.names.now model.names
  pub kept : IsSame known.kept.now model.kept
