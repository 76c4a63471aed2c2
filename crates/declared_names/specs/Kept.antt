-- Declarations that are kept.
use Rattle.std.specs.Prelude.{◌≡◌, ℕ, List, map, chars}
use Rattle.std.specs.Str.{bytes_eq}
use Rattle.load_model.specs.Blocks as blocks
use Rattle.load_model.specs.Left.{firsts}
use Rattle.element_parts.specs.declared.left.LeftOut.{LeftOut}
use Rattle.element_parts.specs.Shown.{shown}
use Rattle.declared_names.specs.declared.stated.Stated.{Stated}
use Rattle.declared_names.specs.declared.stated.Kept.{Kept}

-- a declaration, with what is left out in it as it is shown
pub record Shown : Type 0 where
  pub place : ℕ
  pub name : List ℕ
  pub left : LeftOut

abbrev pub stated_of : Stated → Shown
stated_of one = record { place = one.place; name = chars one.name.now; left = one.left }

abbrev pub shown_declared : blocks.Declared → Shown
shown_declared declared = record { place = declared.place; name = declared.name; left = shown declared.left }

-- these declarations are stated
abbrev pub AreStated : List Stated → List blocks.Declared → Type 0
AreStated stated declarations = map stated_of stated ≡ map shown_declared declarations

-- the first of each name
abbrev pub firsts_of : List Shown → List Shown
firsts_of stated = firsts (λ one other. bytes_eq one.name other.name) stated

-- the first declarations of each name are kept, with their names
pub record Keeps (stated : List Shown) (kept : Kept) : Type 0 where
  pub kept_are : map stated_of kept.kept.items ≡ firsts_of stated
  pub names_are : kept.names ≡ map (λ one. one.name) (firsts_of stated)
