-- One more item of a list.
use Rattle.std.proofs.Common.{◌≡◌, ℕ, ◌+◌, ◌<◌, List, [], ◌∷◌, ◌++◌, map, take, length, get_or, sym, ap, ◌∙◌, append-nil}
use Rattle.std.specs.List.{flat_map}
use Rattle.std.proofs.lemmas.List.{map-append, take_more}
use Rattle.std.proofs.lemmas.List.Concat.{flat_map-append}
use Rattle.doc_model.specs.declared.list_style.ListStyle.{ListStyle}
use Rattle.field_model.specs.Gathered.{GatheredPar}
use Rattle.doc_texts.specs.Places.{PlacedPar}
use Rattle.doc_texts.specs.Behind.{all_behind, gathered_behind}
use Rattle.doc_texts.proofs.Parts.{all_behind-append}

-- the first ones and the next
pub take_item : {X : Type 0} (xs : List X) (i : ℕ) (x : X) → x ≡ get_or xs i x → i < length xs → take (i + 1) xs ≡ take i xs ++ x ∷ []
take_item xs i x is inside = take_more xs i x inside ∙ ap (λ next. take i xs ++ next ∷ []) (sym is)

-- what they give
pub flat_more : {X Y : Type 0} (f : X → List Y) (front all : List X) (x : X) → all ≡ front ++ x ∷ [] → flat_map f front ++ f x ≡ flat_map f all
flat_more f front all x e =
    ap (λ more. flat_map f front ++ more) (sym (append-nil (f x))) ∙ sym (flat_map-append f front (x ∷ [])) ∙ ap (flat_map f) (sym e)

-- paragraphs, and the next behind them
pub behind_more : {X : Type 0} (lists : List ListStyle) (outline : ListStyle) (before : List GatheredPar) (f : X → PlacedPar) (front all : List X) (x : X) → all ≡ front ++ x ∷ []
    → gathered_behind lists outline (all_behind lists outline before (map f front)) (f x) ∷ all_behind lists outline before (map f front) ≡ all_behind lists outline before (map f all)
behind_more lists outline before f front all x e =
    sym (all_behind-append lists outline before (map f front) (f x ∷ [])) ∙ ap (all_behind lists outline before) (sym (map-append f front (x ∷ [])))
    ∙ ap (λ l. all_behind lists outline before (map f l)) (sym e)

-- and what the next gives
pub behind_flat : {X : Type 0} (lists : List ListStyle) (outline : ListStyle) (before : List GatheredPar) (f : X → List PlacedPar) (front all : List X) (x : X) → all ≡ front ++ x ∷ []
    → all_behind lists outline (all_behind lists outline before (flat_map f front)) (f x) ≡ all_behind lists outline before (flat_map f all)
behind_flat lists outline before f front all x e =
    sym (all_behind-append lists outline before (flat_map f front) (f x)) ∙ ap (all_behind lists outline before) (flat_more f front all x e)
