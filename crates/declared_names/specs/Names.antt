-- The names of one kind that are declared.
use Rattle.std.specs.Prelude.{◌≡◌, Bool, List, map}
use Rattle.std.specs.Str.{bytes_eq}
use Rattle.load_model.specs.Blocks as blocks
use Rattle.load_model.specs.Left.{firsts}
use Rattle.load_model.specs.Met.{Met}
use Rattle.met_read.specs.Read.{name_of}
use Rattle.declared_names.specs.declared.names.DeclaredNames.{DeclaredNames}
use Rattle.declared_names.specs.Kept.{AreStated}
use Rattle.declared_names.specs.Used.{fields_of, first_uses}

-- the first declaration of each name
abbrev pub first_declarations : List blocks.Declared → List blocks.Declared
first_declarations declarations = firsts (λ one other. bytes_eq one.name other.name) declarations

-- the first declarations are kept, and the first uses of other names
pub record IsDeclared (sequences : Bool) (declarations : List blocks.Declared) (things : List Met) (one : DeclaredNames) : Type 0 where
  pub kept_are : AreStated one.kept.items (first_declarations declarations)
  pub used_are : map name_of one.used.items ≡ first_uses (map (λ declared. declared.name) (first_declarations declarations)) (fields_of sequences things)
