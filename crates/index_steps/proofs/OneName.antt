-- One name that is redirected.
use Rattle.std.proofs.Common.{◌≡◌, ℕ, ◌&&◌, Bool, true, false, List, [], ◌∷◌, ◌++◌, Some, refl, ap, ap₂, sym, ◌∙◌}
use Rattle.std.specs.Prelude.{if◌then◌else◌}
use Rattle.std.specs.List.{list_any}
use Rattle.std.specs.Str.{bytes_eq}
use Rattle.std.proofs.lemmas.Bool.{and_parts}
use Rattle.std.proofs.lemmas.Bool.Decides.{same_from_decides, Decides-like}
use Rattle.std.proofs.lemmas.Slice.Eq.{bytes_eq-Decides}
use Rattle.doc_model.specs.declared.paragraph.ParId.{ParId}
use Rattle.doc_model.specs.declared.paragraph.Item.{Item}
use Rattle.name_index.specs.declared.names.NameKind.{NameKind}
use Rattle.name_index.specs.declared.names.Named.{Named}
use Rattle.name_index.specs.Names.{is_same_kind, is_same_name, found, Sets}
use Rattle.names_change.specs.ItemNames.{item_names}
use Rattle.names_change.specs.Leading.{have_name, leads_to, Redirects}
use Rattle.names_change.proofs.ByKind.{equal_kinds}
use Rattle.names_change.proofs.Lead.{nothing_else, no_more}

found_alike : (names : List Named) (kind : NameKind) (name : List ℕ) (other_kind : NameKind) (other : List ℕ) → is_same_name kind name other_kind other ≡ true → found names other_kind other ≡ found names kind name
found_alike names kind name other_kind other same =
    let parts = and_parts (is_same_kind kind other_kind) (bytes_eq name other) same in
    ap₂ (λ (one : NameKind) (text : List ℕ). found names one text) (sym (equal_kinds kind other_kind parts.0)) (sym ((bytes_eq-Decides name other).0 parts.1))

-- a name that led to the paragraph
pub name_redirected : (kind : NameKind) (name : List ℕ) (from to : ParId) (old new : List Named) → leads_to from (found old kind name) ≡ true → Sets old new kind name (Some to)
    → Redirects (λ other_kind other. is_same_name kind name other_kind other) from to old new
name_redirected kind name from to old new leads sets other_kind other = sets other_kind other ∙ by_test (is_same_name kind name other_kind other) refl where
  by_test : (test : Bool) → is_same_name kind name other_kind other ≡ test
      → (if is_same_name kind name other_kind other then Some to else found old other_kind other)
      ≡ (if is_same_name kind name other_kind other && leads_to from (found old other_kind other) then Some to else found old other_kind other)
  by_test true is =
      ap (λ (b : Bool). if b then Some to else found old other_kind other) is
      ∙ sym (ap (λ (b : Bool). if b && leads_to from (found old other_kind other) then Some to else found old other_kind other) is
      ∙ ap (λ (b : Bool). if b then Some to else found old other_kind other) (ap (leads_to from) (found_alike old kind name other_kind other is) ∙ leads))
  by_test false is =
      ap (λ (b : Bool). if b then Some to else found old other_kind other) is ∙ sym (ap (λ (b : Bool). if b && leads_to from (found old other_kind other) then Some to else found old other_kind other) is)

-- a name that didn't
pub name_stays : (kind : NameKind) (name : List ℕ) (from to : ParId) (names : List Named) → leads_to from (found names kind name) ≡ false
    → Redirects (λ other_kind other. is_same_name kind name other_kind other) from to names names
name_stays kind name from to names none other_kind other = by_test (is_same_name kind name other_kind other) refl where
  by_test : (test : Bool) → is_same_name kind name other_kind other ≡ test
      → found names other_kind other ≡ (if is_same_name kind name other_kind other && leads_to from (found names other_kind other) then Some to else found names other_kind other)
  by_test true is =
      sym (ap (λ (b : Bool). if is_same_name kind name other_kind other && b then Some to else found names other_kind other) (ap (leads_to from) (found_alike names kind name other_kind other is) ∙ none)
      ∙ ap (λ (b : Bool). if b then Some to else found names other_kind other) (no_more (is_same_name kind name other_kind other)))
  by_test false is = sym (ap (λ (b : Bool). if b && leads_to from (found names other_kind other) then Some to else found names other_kind other) is)

-- the names of one item
either_text : (xs ys : List ℕ) → bytes_eq xs ys ≡ bytes_eq ys xs
either_text xs ys = same_from_decides (bytes_eq xs ys) (bytes_eq ys xs) (bytes_eq-Decides xs ys) (Decides-like (bytes_eq ys xs) (λ e. sym e) (λ e. sym e) (bytes_eq-Decides ys xs))

pub item_named : (item : Item) (own_kind : NameKind) (own : List ℕ) → ((kind : NameKind) → item_names kind item ≡ (if is_same_kind own_kind kind then own ∷ [] else []))
    → (kind : NameKind) (name : List ℕ) → have_name kind name (item ∷ []) ≡ is_same_name own_kind own kind name
item_named item own_kind own names kind name = ap (λ (some : List (List ℕ)). list_any (bytes_eq name) (some ++ [])) (names kind) ∙ by_test (is_same_kind own_kind kind) where
  by_test : (test : Bool) → list_any (bytes_eq name) ((if test then own ∷ [] else []) ++ []) ≡ (test && bytes_eq own name)
  by_test true = nothing_else (bytes_eq name own) ∙ either_text name own
  by_test false = refl

pub item_unnamed : (item : Item) → ((kind : NameKind) → item_names kind item ≡ []) → (kind : NameKind) (name : List ℕ) → have_name kind name (item ∷ []) ≡ false
item_unnamed item none kind name = ap (λ (some : List (List ℕ)). list_any (bytes_eq name) (some ++ [])) (none kind)

-- nothing is redirected
pub none_redirected : (which : NameKind → List ℕ → Bool) (from to : ParId) (names : List Named) → ((kind : NameKind) (name : List ℕ) → which kind name ≡ false) → Redirects which from to names names
none_redirected which from to names none kind name = sym (ap (λ (b : Bool). if b && leads_to from (found names kind name) then Some to else found names kind name) (none kind name))
