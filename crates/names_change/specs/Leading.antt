-- Which paragraphs the names of an edited document lead to, told by those that the names led to before.
use Rattle.std.specs.Prelude.{◌≡◌, ℕ, ◌==◌, ◌&&◌, if◌then◌else◌, Bool, false, List, Option, Some, None}
use Rattle.std.specs.List.{flat_map, list_any}
use Rattle.std.specs.Str.{bytes_eq}
use Rattle.doc_model.specs.declared.paragraph.Item.{Item}
use Rattle.doc_model.specs.declared.paragraph.ParId.{ParId}
use Rattle.name_index.specs.declared.names.NameKind.{NameKind}
use Rattle.name_index.specs.declared.names.Named.{Named}
use Rattle.name_index.specs.Names.{found}
use Rattle.names_change.specs.ItemNames.{item_names}

-- whether some items have a name
abbrev pub have_name : NameKind → List ℕ → List Item → Bool
have_name kind name items = list_any (bytes_eq name) (flat_map (item_names kind) items)

-- whether a name leads to this paragraph
abbrev pub leads_to : ParId → Option ParId → Bool
leads_to par None = false
leads_to par (Some other) = other.0 == par.0

-- some names that led to one paragraph lead to another, and all others lead where they did
abbrev pub Redirects : (NameKind → List ℕ → Bool) → ParId → ParId → List Named → List Named → Type 0
Redirects which from to old new = (kind : NameKind) (name : List ℕ) → found new kind name ≡ (if which kind name && leads_to from (found old kind name) then Some to else found old kind name)
