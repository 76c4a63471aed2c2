-- Names that are used without a declaration.
use Rattle.std.specs.Prelude.{◌≡◌, ℕ, ◌++◌, not, Bool, true, false, List, map, filter, filter_map, Option, Some, None}
use Rattle.load_model.specs.Left.{is_one_of}
use Rattle.load_model.specs.Met.{Met, MetName, Sequence, Variable, first_of_each_name, sequences_met, variables_met}
use Rattle.met_read.specs.declared.things.MetName.{MetName as Read}
use Rattle.met_read.specs.Read.{name_of}

-- the field that counts by a sequence, or that of a variable
abbrev pub used_in : Bool → Met → Option MetName
used_in true (Sequence field) = Some field
used_in false (Variable field) = Some field
used_in _ _ = None

-- those of a kind
abbrev pub names_used : Bool → List Met → List MetName
names_used sequences met = filter_map (used_in sequences) met

-- the fields of a kind, by the definition's own words
abbrev pub fields_of : Bool → List Met → List MetName
fields_of true met = sequences_met met
fields_of false met = variables_met met

-- the first uses of names that aren't among those stated
abbrev pub first_uses : List (List ℕ) → List MetName → List MetName
first_uses stated uses = first_of_each_name (filter (λ used. not (is_one_of stated used.name)) uses)

-- these are the first uses, and the names are with the stated ones
pub record Uses (stated : List (List ℕ)) (uses : List MetName) (names : List (List ℕ)) (used : List Read) : Type 0 where
  pub names_are : names ≡ stated ++ map (λ one. one.name) (first_uses stated uses)
  pub used_are : map name_of used ≡ first_uses stated uses
