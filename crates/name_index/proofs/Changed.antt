-- How what is found changes with a list of names.
use Rattle.std.proofs.Common.{◌≡◌, ℕ, ◌&&◌, Bool, true, false, cond, not, List, [], ◌∷◌, ◌++◌, filter, refl, sym, ap, ap₂, ◌∙◌, Option, Some, None}
use Rattle.std.specs.List.{find}
use Rattle.std.specs.Option.{option_map}
use Rattle.std.specs.Str.{bytes_eq}
use Rattle.std.proofs.lemmas.Bool.{false≢true, and_parts}
use Rattle.std.proofs.lemmas.Bool.Decides.{same_from_decides, Decides-like}
use Rattle.std.proofs.lemmas.Slice.Eq.{bytes_eq-Decides}
use Rattle.doc_model.specs.declared.paragraph.ParId.{ParId}
use Rattle.name_index.specs.declared.names.NameKind.{NameKind}
use Rattle.name_index.specs.declared.names.NameKind.TheVariants.{Bookmark, Section, Reference, Note}
use Rattle.name_index.specs.declared.names.Named.{Named}
use Rattle.name_index.specs.Names.{is_same_kind, is_same_name, found, Agree, Sets}
use Rattle.name_index.proofs.Found.{or_else}

either_kind : (kind other : NameKind) → is_same_kind kind other ≡ is_same_kind other kind
either_kind Bookmark Bookmark = refl
either_kind Bookmark Section = refl
either_kind Bookmark Reference = refl
either_kind Bookmark Note = refl
either_kind Section Bookmark = refl
either_kind Section Section = refl
either_kind Section Reference = refl
either_kind Section Note = refl
either_kind Reference Bookmark = refl
either_kind Reference Section = refl
either_kind Reference Reference = refl
either_kind Reference Note = refl
either_kind Note Bookmark = refl
either_kind Note Section = refl
either_kind Note Reference = refl
either_kind Note Note = refl

equal_kinds : (kind other : NameKind) → is_same_kind kind other ≡ true → kind ≡ other
equal_kinds Bookmark Bookmark h = refl
equal_kinds Bookmark Section h = absurd (false≢true h)
equal_kinds Bookmark Reference h = absurd (false≢true h)
equal_kinds Bookmark Note h = absurd (false≢true h)
equal_kinds Section Bookmark h = absurd (false≢true h)
equal_kinds Section Section h = refl
equal_kinds Section Reference h = absurd (false≢true h)
equal_kinds Section Note h = absurd (false≢true h)
equal_kinds Reference Bookmark h = absurd (false≢true h)
equal_kinds Reference Section h = absurd (false≢true h)
equal_kinds Reference Reference h = refl
equal_kinds Reference Note h = absurd (false≢true h)
equal_kinds Note Bookmark h = absurd (false≢true h)
equal_kinds Note Section h = absurd (false≢true h)
equal_kinds Note Reference h = absurd (false≢true h)
equal_kinds Note Note h = refl

either_text : (xs ys : List ℕ) → bytes_eq xs ys ≡ bytes_eq ys xs
either_text xs ys = same_from_decides (bytes_eq xs ys) (bytes_eq ys xs) (bytes_eq-Decides xs ys) (Decides-like (bytes_eq ys xs) (λ e. sym e) (λ e. sym e) (bytes_eq-Decides ys xs))

-- the test of two names is the same either way, and tells that they are equal
either_way : (kind : NameKind) (name : List ℕ) (other_kind : NameKind) (other : List ℕ) → is_same_name kind name other_kind other ≡ is_same_name other_kind other kind name
either_way kind name other_kind other = ap₂ (λ a b. a && b) (either_kind kind other_kind) (either_text name other)

-- what is found of the one is found of the other, where they are the same
found_alike : (names : List Named) (kind : NameKind) (name : List ℕ) (other_kind : NameKind) (other : List ℕ) → is_same_name kind name other_kind other ≡ true
    → found names other_kind other ≡ found names kind name
found_alike names kind name other_kind other h =
    let parts = and_parts (is_same_kind kind other_kind) (bytes_eq name other) h in
    ap₂ (λ (one : NameKind) (text : List ℕ). found names one text) (sym (equal_kinds kind other_kind parts.0)) (sym ((bytes_eq-Decides name other).0 parts.1))

tested_alike : (kind : NameKind) (name : List ℕ) (third_kind : NameKind) (third : List ℕ) (other_kind : NameKind) (other : List ℕ) → is_same_name kind name other_kind other ≡ true
    → is_same_name third_kind third other_kind other ≡ is_same_name third_kind third kind name
tested_alike kind name third_kind third other_kind other h =
    let parts = and_parts (is_same_kind kind other_kind) (bytes_eq name other) h in
    ap₂ (λ (one : NameKind) (text : List ℕ). is_same_name third_kind third one text) (sym (equal_kinds kind other_kind parts.0)) (sym ((bytes_eq-Decides name other).0 parts.1))

-- what is found in a name and those behind it
found_cons : (named : Named) (names : List Named) (kind : NameKind) (name : List ℕ)
    → found (named ∷ names) kind name ≡ cond (is_same_name kind name named.kind named.name) (Some named.par) (found names kind name)
found_cons named names kind name = by_test (is_same_name kind name named.kind named.name) where
  by_test : (test : Bool) → option_map (λ (one : Named). one.par) (cond test (Some named) (find (λ (one : Named). is_same_name kind name one.kind one.name) names))
      ≡ cond test (Some named.par) (found names kind name)
  by_test true = refl
  by_test false = refl

-- what is found in one list and then another
found_append : (before behind : List Named) (kind : NameKind) (name : List ℕ) → found (before ++ behind) kind name ≡ or_else (found before kind name) (found behind kind name)
found_append [] behind kind name = refl
found_append (named ∷ before) behind kind name =
    found_cons named (before ++ behind) kind name
    ∙ by_test (found_append before behind kind name) (is_same_name kind name named.kind named.name)
    ∙ ap (λ said. or_else said (found behind kind name)) (sym (found_cons named before kind name)) where
      by_test : found (before ++ behind) kind name ≡ or_else (found before kind name) (found behind kind name) → (test : Bool)
          → cond test (Some named.par) (found (before ++ behind) kind name) ≡ or_else (cond test (Some named.par) (found before kind name)) (found behind kind name)
      by_test more true = refl
      by_test more false = more

none_before : (said other : Option ParId) → or_else said other ≡ None → said ≡ None
none_before (Some par) other h = h
none_before None other h = refl

pub added : (before behind : List Named) (named : Named) → found (before ++ behind) named.kind named.name ≡ None
    → Sets (before ++ behind) (before ++ named ∷ behind) named.kind named.name (Some named.par)
added before behind named none other_kind other =
    found_append before (named ∷ behind) other_kind other
    ∙ ap (λ said. or_else (found before other_kind other) said) (found_cons named behind other_kind other)
    ∙ ap (λ test. or_else (found before other_kind other) (cond test (Some named.par) (found behind other_kind other))) (either_way other_kind other named.kind named.name)
    ∙ by_test (is_same_name named.kind named.name other_kind other) refl
    ∙ ap (λ said. cond (is_same_name named.kind named.name other_kind other) (Some named.par) said) (sym (found_append before behind other_kind other)) where
      by_test : (test : Bool) → is_same_name named.kind named.name other_kind other ≡ test
          → or_else (found before other_kind other) (cond test (Some named.par) (found behind other_kind other))
          ≡ cond test (Some named.par) (or_else (found before other_kind other) (found behind other_kind other))
      by_test true h =
          let none_there : found before other_kind other ≡ None = found_alike before named.kind named.name other_kind other h
          ∙ none_before (found before named.kind named.name) (found behind named.kind named.name) (sym (found_append before behind named.kind named.name) ∙ none) in
          ap (λ said. or_else said (Some named.par)) none_there
      by_test false h = refl

pub repeated : (before behind : List Named) (named : Named) (par : ParId) → found before named.kind named.name ≡ Some par
    → Agree (before ++ behind) (before ++ named ∷ behind)
repeated before behind named par there other_kind other =
    found_append before behind other_kind other
    ∙ by_test (is_same_name named.kind named.name other_kind other) refl
    ∙ ap (λ test. or_else (found before other_kind other) (cond test (Some named.par) (found behind other_kind other))) (either_way named.kind named.name other_kind other)
    ∙ ap (λ said. or_else (found before other_kind other) said) (sym (found_cons named behind other_kind other))
    ∙ sym (found_append before (named ∷ behind) other_kind other) where
      by_test : (test : Bool) → is_same_name named.kind named.name other_kind other ≡ test
          → or_else (found before other_kind other) (found behind other_kind other) ≡ or_else (found before other_kind other) (cond test (Some named.par) (found behind other_kind other))
      by_test true h =
          let some_there : found before other_kind other ≡ Some par = found_alike before named.kind named.name other_kind other h ∙ there in
          ap (λ said. or_else said (found behind other_kind other)) some_there ∙ ap (λ said. or_else said (Some named.par)) (sym some_there)
      by_test false h = refl

-- the names but those of this kind and name
abbrev pub without : NameKind → List ℕ → List Named → List Named
without kind name names = filter (λ named. not (is_same_name kind name named.kind named.name)) names

pub dropped : (names : List Named) (kind : NameKind) (name : List ℕ) → Sets names (without kind name names) kind name None
dropped [] kind name other_kind other = by_test (is_same_name kind name other_kind other) where
  by_test : (test : Bool) → None ≡ cond test None (found [] other_kind other)
  by_test true = refl
  by_test false = refl
dropped (named ∷ names) kind name other_kind other =
    by_tests (dropped names kind name other_kind other) (is_same_name kind name named.kind named.name) refl (is_same_name kind name other_kind other) refl
    ∙ ap (λ said. cond (is_same_name kind name other_kind other) None said) (sym (found_cons named names other_kind other)) where
      by_tests : found (without kind name names) other_kind other ≡ cond (is_same_name kind name other_kind other) None (found names other_kind other)
          → (gone : Bool) → is_same_name kind name named.kind named.name ≡ gone → (same : Bool) → is_same_name kind name other_kind other ≡ same
          → found (cond (not gone) (named ∷ without kind name names) (without kind name names)) other_kind other
          ≡ cond same None (cond (is_same_name other_kind other named.kind named.name) (Some named.par) (found names other_kind other))
      by_tests more true g true s = more ∙ ap (λ test. cond test None (found names other_kind other)) s
      by_tests more true g false s =
          let other_test : is_same_name other_kind other named.kind named.name ≡ false = tested_alike kind name other_kind other named.kind named.name g ∙ either_way other_kind other kind name ∙ s in
          more ∙ ap (λ test. cond test None (found names other_kind other)) s ∙ ap (λ test. cond test (Some named.par) (found names other_kind other)) (sym other_test)
      by_tests more false g true s =
          let other_test : is_same_name other_kind other named.kind named.name ≡ false =
          either_way other_kind other named.kind named.name ∙ tested_alike kind name named.kind named.name other_kind other s ∙ either_way named.kind named.name kind name ∙ g in
          found_cons named (without kind name names) other_kind other ∙ ap (λ test. cond test (Some named.par) (found (without kind name names) other_kind other)) other_test
          ∙ more ∙ ap (λ test. cond test None (found names other_kind other)) s
      by_tests more false g false s =
          found_cons named (without kind name names) other_kind other
          ∙ ap (λ said. cond (is_same_name other_kind other named.kind named.name) (Some named.par) said) (more ∙ ap (λ test. cond test None (found names other_kind other)) s)

pub followed : (index later names others : List Named) (kind : NameKind) (name : List ℕ) (par : Option ParId)
    → Agree index names → Sets index later kind name par → Sets names others kind name par → Agree later others
followed index later names others kind name par agree first second other_kind other =
    first other_kind other ∙ ap (λ said. cond (is_same_name kind name other_kind other) par said) (agree other_kind other) ∙ sym (second other_kind other)
