-- Names of which those of one kind change.
use Rattle.std.proofs.Common.{◌≡◌, ℕ, ◌&&◌, Bool, true, false, not, cond, List, [], ◌∷◌, ◌++◌, filter, Option, Some, None, refl, ap, ap₂, sym, ◌∙◌, subst}
use Rattle.std.specs.Prelude.{if◌then◌else◌}
use Rattle.std.specs.List.{flat_map}
use Rattle.std.specs.Str.{bytes_eq}
use Rattle.std.proofs.lemmas.Bool.{false≢true}
use Rattle.std.proofs.lemmas.Slice.Eq.{bytes_eq-Decides}
use Rattle.doc_model.specs.declared.document.Document.{Document}
use Rattle.doc_model.specs.declared.paragraph.ParId.{ParId}
use Rattle.doc_model.specs.Reading.{block_paragraphs}
use Rattle.name_index.specs.declared.names.NameKind.{NameKind}
use Rattle.name_index.specs.declared.names.NameKind.TheVariants as kinds
use Rattle.name_index.specs.Names.{is_same_kind, is_same_name, Sets, of_kinds}
use Rattle.name_index.specs.Scan.{names_of_kind, section_names, bookmark_names, reference_names, note_names, names_of, given}
use Rattle.paragraph_rows.proofs.Lists.{twice}
use Rattle.names_change.proofs.Places.{text_places, block_places}
use Rattle.names_change.proofs.Places.{bookmarks_gathered, references_gathered, notes_gathered}
use Rattle.names_change.proofs.Lead.{Pairs, lead, none_found, found_leads}
use Rattle.names_change.proofs.Reading.{IsOfItems}

-- a document with the same paragraphs in its body
module _ (old new : Document) (same : flat_map block_paragraphs new.body ≡ flat_map block_paragraphs old.body) where
  places_same : (kind : NameKind) → flat_map (block_places kind) new.body ≡ flat_map (block_places kind) old.body
  places_same kind = sym (twice (text_places kind) block_paragraphs new.body) ∙ ap (flat_map (text_places kind)) same ∙ twice (text_places kind) block_paragraphs old.body

  pub items_same : (kind : NameKind) → IsOfItems kind → names_of_kind new kind ≡ names_of_kind old kind
  items_same kinds.Bookmark it = sym (bookmarks_gathered new) ∙ places_same kinds.Bookmark ∙ bookmarks_gathered old
  items_same kinds.Section it = absurd it
  items_same kinds.Reference it = sym (references_gathered new) ∙ places_same kinds.Reference ∙ references_gathered old
  items_same kinds.Note it = sym (notes_gathered new) ∙ places_same kinds.Note ∙ notes_gathered old

  pub all_same : section_names new ≡ section_names old → names_of new ≡ names_of old
  all_same sections =
      ap₂ (λ (b s : Pairs). of_kinds (given b) (given s) (given (reference_names new)) (given (note_names new))) (items_same kinds.Bookmark tt) sections
      ∙ ap₂ (λ (r n : Pairs). of_kinds (given (bookmark_names old)) (given (section_names old)) (given r) (given n)) (items_same kinds.Reference tt) (items_same kinds.Note tt)

-- kinds that are the same
pub equal_kinds : (kind other : NameKind) → is_same_kind kind other ≡ true → kind ≡ other
equal_kinds kinds.Bookmark kinds.Bookmark same = refl
equal_kinds kinds.Bookmark kinds.Section same = absurd (false≢true same)
equal_kinds kinds.Bookmark kinds.Reference same = absurd (false≢true same)
equal_kinds kinds.Bookmark kinds.Note same = absurd (false≢true same)
equal_kinds kinds.Section kinds.Bookmark same = absurd (false≢true same)
equal_kinds kinds.Section kinds.Section same = refl
equal_kinds kinds.Section kinds.Reference same = absurd (false≢true same)
equal_kinds kinds.Section kinds.Note same = absurd (false≢true same)
equal_kinds kinds.Reference kinds.Bookmark same = absurd (false≢true same)
equal_kinds kinds.Reference kinds.Section same = absurd (false≢true same)
equal_kinds kinds.Reference kinds.Reference same = refl
equal_kinds kinds.Reference kinds.Note same = absurd (false≢true same)
equal_kinds kinds.Note kinds.Bookmark same = absurd (false≢true same)
equal_kinds kinds.Note kinds.Section same = absurd (false≢true same)
equal_kinds kinds.Note kinds.Reference same = absurd (false≢true same)
equal_kinds kinds.Note kinds.Note same = refl

-- where names of other kinds stay
pub kind_sets_lead : (old new : Document) (of : NameKind) → ((kind : NameKind) → is_same_kind of kind ≡ false → names_of_kind new kind ≡ names_of_kind old kind)
    → (letter : ℕ) (letters : List ℕ) → lead (letter ∷ letters) (names_of_kind new of) ≡ lead (letter ∷ letters) (names_of_kind old of)
    → (kind : NameKind) → lead (letter ∷ letters) (names_of_kind new kind) ≡ lead (letter ∷ letters) (names_of_kind old kind)
kind_sets_lead old new of others letter letters own kind = by_same (is_same_kind of kind) refl where
  by_same : (test : Bool) → is_same_kind of kind ≡ test → lead (letter ∷ letters) (names_of_kind new kind) ≡ lead (letter ∷ letters) (names_of_kind old kind)
  by_same true same = subst (λ (one : NameKind). lead (letter ∷ letters) (names_of_kind new one) ≡ lead (letter ∷ letters) (names_of_kind old one)) (equal_kinds of kind same) own
  by_same false other = ap (lead (letter ∷ letters)) (others kind other)

-- a change of what one name leads to
pub kind_sets : (old new : Document) (of : NameKind) (name : List ℕ) (par : Option ParId) → ((kind : NameKind) → is_same_kind of kind ≡ false → names_of_kind new kind ≡ names_of_kind old kind)
    → (bytes_eq name [] ≡ true → par ≡ None) → ((other : List ℕ) → lead other (names_of_kind new of) ≡ cond (bytes_eq name other) par (lead other (names_of_kind old of)))
    → Sets (names_of old) (names_of new) of name par
kind_sets old new of name par others none own kind [] =
    none_found new kind ∙ by_tests (is_same_kind of kind) (bytes_eq name []) none ∙ ap (λ said. if is_same_name of name kind [] then par else said) (sym (none_found old kind)) where
      by_tests : (same test : Bool) → (test ≡ true → par ≡ None) → None ≡ (if same && test then par else None)
      by_tests true true is_none = sym (is_none refl)
      by_tests true false is_none = refl
      by_tests false test is_none = refl
kind_sets old new of name par others none own kind (letter ∷ letters) =
    found_leads new kind letter letters ∙ by_same (is_same_kind of kind) refl ∙ ap (λ said. if is_same_name of name kind (letter ∷ letters) then par else said) (sym (found_leads old kind letter letters)) where
      by_same : (test : Bool) → is_same_kind of kind ≡ test
          → lead (letter ∷ letters) (names_of_kind new kind) ≡ (if is_same_kind of kind && bytes_eq name (letter ∷ letters) then par else lead (letter ∷ letters) (names_of_kind old kind))
      by_same true same =
          subst (λ (one : NameKind). lead (letter ∷ letters) (names_of_kind new one) ≡ cond (bytes_eq name (letter ∷ letters)) par (lead (letter ∷ letters) (names_of_kind old one))) (equal_kinds of kind same) (own (letter ∷ letters))
          ∙ sym (ap (λ (b : Bool). if b && bytes_eq name (letter ∷ letters) then par else lead (letter ∷ letters) (names_of_kind old kind)) same)
      by_same false other =
          ap (lead (letter ∷ letters)) (others kind other)
          ∙ sym (ap (λ (b : Bool). if b && bytes_eq name (letter ∷ letters) then par else lead (letter ∷ letters) (names_of_kind old kind)) other)

-- a section's name
pub section_sets : (old new : Document) (name : List ℕ) (par : Option ParId) → ((kind : NameKind) → IsOfItems kind → names_of_kind new kind ≡ names_of_kind old kind) → (bytes_eq name [] ≡ true → par ≡ None)
    → ((other : List ℕ) → lead other (section_names new) ≡ cond (bytes_eq name other) par (lead other (section_names old)))
    → Sets (names_of old) (names_of new) kinds.Section name par
section_sets old new name par items none sections = kind_sets old new kinds.Section name par by_kind none sections where
  by_kind : (kind : NameKind) → is_same_kind kinds.Section kind ≡ false → names_of_kind new kind ≡ names_of_kind old kind
  by_kind kinds.Bookmark other = items kinds.Bookmark tt
  by_kind kinds.Section other = absurd (false≢true (sym other))
  by_kind kinds.Reference other = items kinds.Reference tt
  by_kind kinds.Note other = items kinds.Note tt

-- the names but those of this text
abbrev pub but : List ℕ → Pairs → Pairs
but name pairs = filter (λ pair. not (bytes_eq pair.0 name)) pairs

pub but_both : (name : List ℕ) (front behind : Pairs) → but name (front ++ behind) ≡ but name front ++ but name behind
but_both name [] behind = refl
but_both name (pair ∷ front) behind = by_test (bytes_eq pair.0 name) (but_both name front behind) where
  by_test : (test : Bool) → but name (front ++ behind) ≡ but name front ++ but name behind
      → cond (not test) (pair ∷ but name (front ++ behind)) (but name (front ++ behind)) ≡ cond (not test) (pair ∷ but name front) (but name front) ++ but name behind
  by_test true more = more
  by_test false more = ap (λ (some : Pairs). pair ∷ some) more

pub but_lead : (name other : List ℕ) (pairs : Pairs) → lead other (but name pairs) ≡ cond (bytes_eq name other) None (lead other pairs)
but_lead name other [] = by_test (bytes_eq name other) where
  by_test : (test : Bool) → lead other [] ≡ cond test None (lead other [])
  by_test true = refl
  by_test false = refl
but_lead name other (pair ∷ pairs) = by_tests (but_lead name other pairs) (bytes_eq pair.0 name) refl (bytes_eq name other) refl (bytes_eq other pair.0) refl where
  -- what equals one of two that differ differs from the other
  apart : bytes_eq pair.0 name ≡ true → bytes_eq name other ≡ false → bytes_eq other pair.0 ≡ true → ⊥
  apart gone differ there = false≢true (sym differ ∙ (bytes_eq-Decides name other).1 (sym (((bytes_eq-Decides other pair.0).0 there) ∙ ((bytes_eq-Decides pair.0 name).0 gone))))

  alike : bytes_eq pair.0 name ≡ false → bytes_eq name other ≡ true → bytes_eq other pair.0 ≡ true → ⊥
  alike kept same there = false≢true (sym kept ∙ (bytes_eq-Decides pair.0 name).1 (sym (((bytes_eq-Decides name other).0 same) ∙ ((bytes_eq-Decides other pair.0).0 there))))

  by_tests : lead other (but name pairs) ≡ cond (bytes_eq name other) None (lead other pairs)
      → (gone : Bool) → bytes_eq pair.0 name ≡ gone → (same : Bool) → bytes_eq name other ≡ same → (there : Bool) → bytes_eq other pair.0 ≡ there
      → lead other (cond (not gone) (pair ∷ but name pairs) (but name pairs)) ≡ cond same None (cond there (Some pair.1) (lead other pairs))
  by_tests more true g true s there t = more ∙ ap (λ (b : Bool). cond b None (lead other pairs)) s
  by_tests more true g false s true t = absurd (apart g s t)
  by_tests more true g false s false t = more ∙ ap (λ (b : Bool). cond b None (lead other pairs)) s
  by_tests more false g true s true t = absurd (alike g s t)
  by_tests more false g true s false t = ap (λ (b : Bool). cond b (Some pair.1) (lead other (but name pairs))) t ∙ more ∙ ap (λ (b : Bool). cond b None (lead other pairs)) s
  by_tests more false g false s true t = ap (λ (b : Bool). cond b (Some pair.1) (lead other (but name pairs))) t
  by_tests more false g false s false t = ap (λ (b : Bool). cond b (Some pair.1) (lead other (but name pairs))) t ∙ more ∙ ap (λ (b : Bool). cond b None (lead other pairs)) s
