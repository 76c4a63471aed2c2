-- The places of styles, by families and names.
use Rattle.std.specs.Prelude.{◌≡◌, ℕ, List, Option, is_none, chars, position, if◌then◌else◌}
use Rattle.std.specs.Borrow.{Bor}
use Rattle.std.specs.Map.{lookup}
use Rattle.std.specs.Str.{bytes_eq, IsUtf8}
use Rattle.indexmap.specs.IndexMap.{insert_entry}
use Rattle.doc_model.specs.declared.style.Family.{Family}
use Rattle.doc_model.specs.declared.style.Family.TheVariants as family
use Rattle.doc_model.specs.declared.style.Style.{Style}
use Rattle.style_model.specs.Lineage.{is_named}
use Rattle.style_loops.specs.declared.places.StylePlaces.{StylePlaces}

-- texts with their places
abbrev pub Entries : Type 0
Entries = List (Bor (List ℕ) × ℕ)

-- the place of a text
abbrev pub found : Entries → List ℕ → Option ℕ
found entries text = lookup (λ name. bytes_eq text name.now) entries

-- with the place of a text, where none is there yet
abbrev pub put : Entries → Bor (List ℕ) → ℕ → Entries
put entries name place = if is_none (found entries name.now) then insert_entry (λ one other. bytes_eq one.now other.now) entries name place else entries

-- those of a family
abbrev pub of_family : StylePlaces → Family → Entries
of_family places family.Paragraph = places.paragraph.entries
of_family places family.Text = places.text.entries
of_family places family.Section = places.section.entries

-- of each family and name the place of the first style is kept
abbrev pub Has : StylePlaces → List Style → Type 0
Has places styles = (of : Family) (text : List ℕ) → IsUtf8 text → found (of_family places of) text ≡ position (is_named of (chars text)) styles
