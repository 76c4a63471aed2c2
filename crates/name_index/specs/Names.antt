-- Lists of names with their kinds and paragraphs, and what is found in them.
use Rattle.std.specs.Prelude.{◌≡◌, ℕ, ◌&&◌, Bool, true, false, if◌then◌else◌, List, ◌++◌, map, find, Option}
use Rattle.std.specs.Option.{option_map}
use Rattle.std.specs.Str.{bytes_eq}
use Rattle.doc_model.specs.declared.paragraph.ParId.{ParId}
use Rattle.name_index.specs.declared.names.NameKind.{NameKind}
use Rattle.name_index.specs.declared.names.NameKind.TheVariants.{Bookmark, Section, Reference, Note}
use Rattle.name_index.specs.declared.names.Named.{Named}

-- whether two kinds are the same
abbrev pub is_same_kind : NameKind → NameKind → Bool
is_same_kind Bookmark Bookmark = true
is_same_kind Section Section = true
is_same_kind Reference Reference = true
is_same_kind Note Note = true
is_same_kind _ _ = false

-- whether two names are the same: in kind and in characters
abbrev pub is_same_name : NameKind → List ℕ → NameKind → List ℕ → Bool
is_same_name kind name other_kind other = is_same_kind kind other_kind && bytes_eq name other

-- the paragraph that a name leads to: that of the first one of its kind and characters, if there is one
abbrev pub found : List Named → NameKind → List ℕ → Option ParId
found names kind name = option_map (λ named. named.par) (find (λ named. is_same_name kind name named.kind named.name) names)

-- the same is found in both lists, whatever is looked for
abbrev pub Agree : List Named → List Named → Type 0
Agree names others = (kind : NameKind) (name : List ℕ) → found names kind name ≡ found others kind name

-- one name leads to the given paragraph, or nowhere, and all others lead where they did
abbrev pub Sets : List Named → List Named → NameKind → List ℕ → Option ParId → Type 0
Sets old new kind name par = (other_kind : NameKind) (other : List ℕ) → found new other_kind other ≡ (if is_same_name kind name other_kind other then par else found old other_kind other)

-- pairs of names of one kind and their paragraphs
abbrev pub of_kind : NameKind → List (List ℕ × ParId) → List Named
of_kind kind pairs = map (λ pair. record { kind = kind; name = pair.0; par = pair.1 }) pairs

-- the names of all four kinds
abbrev pub of_kinds : List (List ℕ × ParId) → List (List ℕ × ParId) → List (List ℕ × ParId) → List (List ℕ × ParId) → List Named
of_kinds bookmarks sections references notes = of_kind Bookmark bookmarks ++ (of_kind Section sections ++ (of_kind Reference references ++ of_kind Note notes))
