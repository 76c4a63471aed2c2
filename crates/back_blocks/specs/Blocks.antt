-- Sections that can be read back, and names as they are declared.
use Rattle.std.specs.Prelude.{◌≡◌, ◌≢◌, ℕ, Bool, List, [], ◌∷◌, map, Option, Some, None}
use Rattle.doc_model.specs.declared.block.Kind.TheVariants.{Plain}
use Rattle.doc_model.specs.declared.block.SectionSource.{SectionSource}
use Rattle.doc_model.specs.declared.style.Family.TheVariants as family
use Rattle.doc_model.specs.Parts.{SectionHead}
use Rattle.load_model.specs.Blocks.{ReadDeclarations}
use Rattle.load_model.specs.Left.{nothing}
use Rattle.load_model.specs.Styles.{Names, style_reference}
use Rattle.back_fields.specs.Fit.{IsName, IsNameOrNone}
use Rattle.back_paragraphs.specs.Paragraphs.{IsNoneOrGood}

-- the texts of a source can be read
abbrev pub IsSource : Option SectionSource → Type 0
IsSource None = Unit {0}
IsSource (Some source) = IsNameOrNone source.href × IsNameOrNone source.section

-- a plain section with a name and a block, whose style is there
pub record IsReadableSection (names : Names) (section : SectionHead) : Type 0 where
  pub kind : section.kind ≡ Plain
  pub name : IsName section.name
  pub style : IsNoneOrGood (style_reference names family.Section) section.style
  pub source : IsSource section.source
  pub some : section.blocks ≢ 0

-- the declarations of names, if there are any
abbrev pub declared_names : Bool → List (List ℕ) → List ReadDeclarations
declared_names sequences [] = []
declared_names sequences (name ∷ names) = record { sequences = sequences; declared = map (λ one. record { place = 0; name = one; left = nothing }) (name ∷ names); left = nothing } ∷ []
