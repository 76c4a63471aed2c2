-- What is found in the names of four kinds.
use Rattle.std.proofs.Common.{◌≡◌, ℕ, ◌&&◌, Bool, true, false, cond, List, [], ◌∷◌, ◌++◌, refl, sym, ap, subst, ◌∙◌, append-nil, Option, Some, None, Result, Ok, Err, OnOk}
use Rattle.std.specs.List.{find}
use Rattle.std.specs.Map.{lookup}
use Rattle.std.specs.Option.{option_map}
use Rattle.std.specs.Str.{bytes_eq}
use Rattle.std.proofs.lemmas.Bool.{false≢true, true≢false}
use Rattle.doc_model.specs.declared.paragraph.ParId.{ParId}
use Rattle.name_index.specs.declared.names.NameKind.{NameKind}
use Rattle.name_index.specs.declared.names.NameKind.TheVariants.{Bookmark, Section, Reference, Note}
use Rattle.name_index.specs.declared.names.Named.{Named}
use Rattle.name_index.specs.Names.{is_same_kind, is_same_name, found, Sets, of_kind, of_kinds}

-- names of one kind, with their paragraphs
abbrev pub Pairs : Type 0
Pairs = List (List ℕ × ParId)

-- the paragraph of a name among those of one kind
abbrev pub look : Pairs → List ℕ → Option ParId
look pairs name = lookup (bytes_eq name) pairs

-- the first of two that is there
abbrev pub or_else : Option ParId → Option ParId → Option ParId
or_else (Some par) other = Some par
or_else None other = other

or_else_none : (said : Option ParId) → or_else said None ≡ said
or_else_none (Some par) = refl
or_else_none None = refl

found_here : (kind other : NameKind) (pairs : Pairs) (rest : List Named) (name : List ℕ) → is_same_kind kind other ≡ true
    → found (of_kind other pairs ++ rest) kind name ≡ or_else (look pairs name) (found rest kind name)
found_here kind other [] rest name h = refl
found_here kind other (pair ∷ pairs) rest name h = by_test (found_here kind other pairs rest name h) (is_same_kind kind other) h (bytes_eq name pair.0) where
  by_test : found (of_kind other pairs ++ rest) kind name ≡ or_else (look pairs name) (found rest kind name) → (same : Bool) → same ≡ true → (test : Bool)
      → option_map (λ (named : Named). named.par) (cond (same && test) (Some (record { kind = other; name = pair.0; par = pair.1 }))
      (find (λ (named : Named). is_same_name kind name named.kind named.name) (of_kind other pairs ++ rest)))
      ≡ or_else (cond test (Some pair.1) (look pairs name)) (found rest kind name)
  by_test more true h true = refl
  by_test more true h false = more
  by_test more false h test = absurd (false≢true h)

found_behind : (kind other : NameKind) (pairs : Pairs) (rest : List Named) (name : List ℕ) → is_same_kind kind other ≡ false
    → found (of_kind other pairs ++ rest) kind name ≡ found rest kind name
found_behind kind other [] rest name h = refl
found_behind kind other (pair ∷ pairs) rest name h = by_test (found_behind kind other pairs rest name h) (is_same_kind kind other) h (bytes_eq name pair.0) where
  by_test : found (of_kind other pairs ++ rest) kind name ≡ found rest kind name → (same : Bool) → same ≡ false → (test : Bool)
      → option_map (λ (named : Named). named.par) (cond (same && test) (Some (record { kind = other; name = pair.0; par = pair.1 }))
      (find (λ (named : Named). is_same_name kind name named.kind named.name) (of_kind other pairs ++ rest)))
      ≡ found rest kind name
  by_test more true h test = absurd (true≢false h)
  by_test more false h test = more

-- the pairs of a kind
abbrev pub chosen : Pairs → Pairs → Pairs → Pairs → NameKind → Pairs
chosen bookmarks sections references notes Bookmark = bookmarks
chosen bookmarks sections references notes Section = sections
chosen bookmarks sections references notes Reference = references
chosen bookmarks sections references notes Note = notes

no_note : (kind : NameKind) (notes : Pairs) (name : List ℕ) → is_same_kind kind Note ≡ false → found (of_kind Note notes) kind name ≡ None
no_note kind notes name h = ap (λ names. found names kind name) (sym (append-nil (of_kind Note notes))) ∙ found_behind kind Note notes [] name h

found_note : (notes : Pairs) (name : List ℕ) → found (of_kind Note notes) Note name ≡ look notes name
found_note notes name = ap (λ names. found names Note name) (sym (append-nil (of_kind Note notes))) ∙ found_here Note Note notes [] name refl ∙ or_else_none (look notes name)

pub found_in_kinds : (bookmarks sections references notes : Pairs) (kind : NameKind) (name : List ℕ)
    → found (of_kinds bookmarks sections references notes) kind name ≡ look (chosen bookmarks sections references notes kind) name
found_in_kinds bookmarks sections references notes Bookmark name =
    found_here Bookmark Bookmark bookmarks (of_kind Section sections ++ (of_kind Reference references ++ of_kind Note notes)) name refl
    ∙ ap (or_else (look bookmarks name)) (found_behind Bookmark Section sections (of_kind Reference references ++ of_kind Note notes) name refl
    ∙ found_behind Bookmark Reference references (of_kind Note notes) name refl ∙ no_note Bookmark notes name refl)
    ∙ or_else_none (look bookmarks name)
found_in_kinds bookmarks sections references notes Section name =
    found_behind Section Bookmark bookmarks (of_kind Section sections ++ (of_kind Reference references ++ of_kind Note notes)) name refl
    ∙ found_here Section Section sections (of_kind Reference references ++ of_kind Note notes) name refl
    ∙ ap (or_else (look sections name)) (found_behind Section Reference references (of_kind Note notes) name refl ∙ no_note Section notes name refl)
    ∙ or_else_none (look sections name)
found_in_kinds bookmarks sections references notes Reference name =
    found_behind Reference Bookmark bookmarks (of_kind Section sections ++ (of_kind Reference references ++ of_kind Note notes)) name refl
    ∙ found_behind Reference Section sections (of_kind Reference references ++ of_kind Note notes) name refl
    ∙ found_here Reference Reference references (of_kind Note notes) name refl
    ∙ ap (or_else (look references name)) (no_note Reference notes name refl)
    ∙ or_else_none (look references name)
found_in_kinds bookmarks sections references notes Note name =
    found_behind Note Bookmark bookmarks (of_kind Section sections ++ (of_kind Reference references ++ of_kind Note notes)) name refl
    ∙ found_behind Note Section sections (of_kind Reference references ++ of_kind Note notes) name refl
    ∙ found_behind Note Reference references (of_kind Note notes) name refl
    ∙ found_note notes name

-- what is found changes as the pairs of one kind do
abbrev pub Changes : Pairs → Pairs → List ℕ → Option ParId → Type 0
Changes old new name par = (other : List ℕ) → look new other ≡ cond (bytes_eq name other) par (look old other)

pub sets_bookmark : (b s r n new : Pairs) (name : List ℕ) (par : Option ParId) → Changes b new name par → Sets (of_kinds b s r n) (of_kinds new s r n) Bookmark name par
sets_bookmark b s r n new name par h kind other =
    found_in_kinds new s r n kind other ∙ by_kind kind ∙ ap (λ said. cond (is_same_name Bookmark name kind other) par said) (sym (found_in_kinds b s r n kind other)) where
      by_kind : (kind : NameKind) → look (chosen new s r n kind) other ≡ cond (is_same_name Bookmark name kind other) par (look (chosen b s r n kind) other)
      by_kind Bookmark = h other
      by_kind Section = refl
      by_kind Reference = refl
      by_kind Note = refl

pub sets_section : (b s r n new : Pairs) (name : List ℕ) (par : Option ParId) → Changes s new name par → Sets (of_kinds b s r n) (of_kinds b new r n) Section name par
sets_section b s r n new name par h kind other =
    found_in_kinds b new r n kind other ∙ by_kind kind ∙ ap (λ said. cond (is_same_name Section name kind other) par said) (sym (found_in_kinds b s r n kind other)) where
      by_kind : (kind : NameKind) → look (chosen b new r n kind) other ≡ cond (is_same_name Section name kind other) par (look (chosen b s r n kind) other)
      by_kind Bookmark = refl
      by_kind Section = h other
      by_kind Reference = refl
      by_kind Note = refl

pub sets_reference : (b s r n new : Pairs) (name : List ℕ) (par : Option ParId) → Changes r new name par → Sets (of_kinds b s r n) (of_kinds b s new n) Reference name par
sets_reference b s r n new name par h kind other =
    found_in_kinds b s new n kind other ∙ by_kind kind ∙ ap (λ said. cond (is_same_name Reference name kind other) par said) (sym (found_in_kinds b s r n kind other)) where
      by_kind : (kind : NameKind) → look (chosen b s new n kind) other ≡ cond (is_same_name Reference name kind other) par (look (chosen b s r n kind) other)
      by_kind Bookmark = refl
      by_kind Section = refl
      by_kind Reference = h other
      by_kind Note = refl

pub sets_note : (b s r n new : Pairs) (name : List ℕ) (par : Option ParId) → Changes n new name par → Sets (of_kinds b s r n) (of_kinds b s r new) Note name par
sets_note b s r n new name par h kind other =
    found_in_kinds b s r new kind other ∙ by_kind kind ∙ ap (λ said. cond (is_same_name Note name kind other) par said) (sym (found_in_kinds b s r n kind other)) where
      by_kind : (kind : NameKind) → look (chosen b s r new kind) other ≡ cond (is_same_name Note name kind other) par (look (chosen b s r n kind) other)
      by_kind Bookmark = refl
      by_kind Section = refl
      by_kind Reference = refl
      by_kind Note = h other

pub on_ok : {T E : Type 0} {P Q : Type 0} (r : Result T E) → OnOk r P → (P → Q) → OnOk r Q
on_ok (Ok x) h f = f h
on_ok (Err e) h f = tt

-- the same of lists, kinds and names that are equal
pub sets_at : (was old new : List Named) (kind is : NameKind) (given name : List ℕ) (par : Option ParId) → was ≡ old → kind ≡ is → given ≡ name
    → Sets was new is given par → Sets old new kind name par
sets_at was old new kind is given name par e k n h =
    let of_old : List Named → Type 0 = λ names. Sets names new kind name par in
    let of_kind : NameKind → Type 0 = λ one. Sets was new one name par in
    let of_name : List ℕ → Type 0 = λ one. Sets was new is one par in
    subst of_old e (subst of_kind (sym k) (subst of_name n h))

-- what is looked for among the pairs of a kind is found in the index
pub found_at : (bookmarks sections references notes : Pairs) (names : List Named) (kind is : NameKind) (name : List ℕ) (said : Option ParId)
    → of_kinds bookmarks sections references notes ≡ names → kind ≡ is → said ≡ look (chosen bookmarks sections references notes is) name → said ≡ found names kind name
found_at bookmarks sections references notes names kind is name said e k h =
    h ∙ sym (found_in_kinds bookmarks sections references notes is name) ∙ ap (λ one. found (of_kinds bookmarks sections references notes) one name) (sym k) ∙ ap (λ all. found all kind name) e
