-- What is found among the names of a document is what a scan of it finds.
use Rattle.std.proofs.Common.{◌≡◌, ℕ, Bool, true, false, cond, List, [], ◌∷◌, refl, ◌∙◌, Some, None}
use Rattle.std.specs.List.{find}
use Rattle.std.specs.Option.{option_map}
use Rattle.std.specs.Str.{bytes_eq}
use Rattle.doc_model.specs.declared.document.Document.{Document}
use Rattle.doc_model.specs.declared.paragraph.ParId.{ParId}
use Rattle.name_index.specs.declared.names.NameKind.{NameKind}
use Rattle.name_index.specs.declared.names.NameKind.TheVariants.{Bookmark, Section, Reference, Note}
use Rattle.name_index.specs.Names.{found}
use Rattle.name_index.specs.Scan.{names_of_kind, scanned, given, names_of}
use Rattle.name_index.proofs.Found.{Pairs, look, chosen, found_in_kinds}

-- the empty name is not among those that are given
no_empty_name : (pairs : Pairs) → look (given pairs) [] ≡ None
no_empty_name [] = refl
no_empty_name (([], par) ∷ pairs) = no_empty_name pairs
no_empty_name ((letter ∷ letters, par) ∷ pairs) = no_empty_name pairs

looked_up : (pairs : Pairs) (c : ℕ) (cs : List ℕ) → look (given pairs) (c ∷ cs) ≡ option_map (λ (pair : List ℕ × ParId). pair.1) (find (λ (pair : List ℕ × ParId). bytes_eq (c ∷ cs) pair.0) pairs)
looked_up [] c cs = refl
looked_up (([], par) ∷ pairs) c cs = looked_up pairs c cs
looked_up ((letter ∷ letters, par) ∷ pairs) c cs = by_test (looked_up pairs c cs) (bytes_eq (c ∷ cs) (letter ∷ letters)) where
  by_test : look (given pairs) (c ∷ cs) ≡ option_map (λ (pair : List ℕ × ParId). pair.1) (find (λ (pair : List ℕ × ParId). bytes_eq (c ∷ cs) pair.0) pairs) → (test : Bool)
      → cond test (Some par) (look (given pairs) (c ∷ cs))
      ≡ option_map (λ (pair : List ℕ × ParId). pair.1) (cond test (Some (letter ∷ letters, par)) (find (λ (pair : List ℕ × ParId). bytes_eq (c ∷ cs) pair.0) pairs))
  by_test more true = refl
  by_test more false = more

of_doc : (doc : Document) (kind : NameKind) (name : List ℕ) → look (given (names_of_kind doc kind)) name ≡ scanned doc kind name
of_doc doc kind [] = no_empty_name (names_of_kind doc kind)
of_doc doc kind (letter ∷ letters) = looked_up (names_of_kind doc kind) letter letters

by_kind : (doc : Document) (kind : NameKind) (name : List ℕ)
    → look (chosen (given (names_of_kind doc Bookmark)) (given (names_of_kind doc Section)) (given (names_of_kind doc Reference)) (given (names_of_kind doc Note)) kind) name ≡ scanned doc kind name
by_kind doc Bookmark name = of_doc doc Bookmark name
by_kind doc Section name = of_doc doc Section name
by_kind doc Reference name = of_doc doc Reference name
by_kind doc Note name = of_doc doc Note name

pub found_is_scanned : (doc : Document) (kind : NameKind) (name : List ℕ) → found (names_of doc) kind name ≡ scanned doc kind name
found_is_scanned doc kind name =
    found_in_kinds (given (names_of_kind doc Bookmark)) (given (names_of_kind doc Section)) (given (names_of_kind doc Reference)) (given (names_of_kind doc Note)) kind name
    ∙ by_kind doc kind name
