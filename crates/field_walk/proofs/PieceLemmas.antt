-- Pieces added one after another.
use Rattle.std.proofs.Common.{◌≡◌, ℕ, Bool, true, false, List, [], ◌∷◌, ◌++◌, map, refl, ap, sym, ◌∙◌, append_assoc, append-nil}
use Rattle.std.proofs.lemmas.List.{map-append}
use Rattle.field_model.specs.declared.gathered.Piece.{Piece}
use Rattle.field_model.specs.declared.gathered.Piece.TheVariants.{Char}
use Rattle.field_model.specs.Quotes.{pieces_and}

-- nothing is added
pub none_added : (noted here : Bool) (before : List Piece) → before ≡ pieces_and noted here before []
none_added true true before = sym (append-nil before)
none_added true false before = refl
none_added false true before = refl
none_added false false before = sym (append-nil before)

-- a character is added behind others
pub letter_added : (noted here : Bool) (old between new : List Piece) (letters : List ℕ) (letter : ℕ) → between ≡ pieces_and noted here old (map Char letters) → new ≡ pieces_and noted here between (Char letter ∷ []) → new ≡ pieces_and noted here old (map Char (letters ++ letter ∷ []))
letter_added true true old between new letters letter e f = f ∙ ap (λ (ps : List Piece). ps ++ Char letter ∷ []) e ∙ append_assoc old (map Char letters) (Char letter ∷ []) ∙ ap (λ (ps : List Piece). old ++ ps) (sym (map-append Char letters (letter ∷ [])))
letter_added true false old between new letters letter e f = f ∙ e
letter_added false true old between new letters letter e f = f ∙ e
letter_added false false old between new letters letter e f = f ∙ ap (λ (ps : List Piece). ps ++ Char letter ∷ []) e ∙ append_assoc old (map Char letters) (Char letter ∷ []) ∙ ap (λ (ps : List Piece). old ++ ps) (sym (map-append Char letters (letter ∷ [])))
