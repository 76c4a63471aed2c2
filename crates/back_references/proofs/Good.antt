-- References to names that are there.
use Rattle.std.proofs.Common.{◌≡◌, ◌≢◌, ℕ, ◌&&◌, ◌||◌, inl, inr, Bool, true, false, cond, List, [], ◌∷◌, map, filter, refl, ap, ap₂, ◌∙◌, bytes_eq, Some, None}
use Rattle.std.specs.List.{Any, list_any}
use Rattle.std.proofs.lemmas.List.Folds.{list_any-from_Any}
use Rattle.std.proofs.lemmas.Slice.Eq.{bytes_eq-Decides}
use Rattle.doc_model.specs.declared.document.Document.{Document}
use Rattle.doc_model.specs.declared.style.Family.{Family}
use Rattle.doc_model.specs.declared.style.Family.TheVariants as family
use Rattle.doc_model.specs.declared.style.Style.{Style}
use Rattle.doc_model.specs.Valid.{IsNoneOrGiven, IsNoneOrStyle}
use Rattle.style_model.specs.Lineage.{is_same_family}
use Rattle.load_model.specs.Left.{is_one_of}
use Rattle.load_model.specs.Styles.{Names, StyleName, reference, style_reference}
use Rattle.back_paragraphs.specs.Paragraphs.{IsNoneOrGood}
use Rattle.back_spans.specs.Spans.{IsTextStyle}

some_also : {X : Type 0} (P Q : X → Type 0) (xs : List X) → ((x : X) → P x → Q x) → Any P xs → Any Q xs
some_also P Q xs step any = (any.0, any.1, any.2, any.3, step any.1 any.4)

there_good : (given : List (List ℕ)) (name : List ℕ) → is_one_of given name ≡ true → reference given name ≡ Some name
there_good given name e = ap (λ (b : Bool). cond b (Some name) None) e

any_there : (given : List (List ℕ)) (name : List ℕ) → Any (λ other. other ≡ name) given → is_one_of given name ≡ true
any_there given name any =
    list_any-from_Any (λ (other : List ℕ). bytes_eq other name) given (some_also (λ other. other ≡ name) (λ other. bytes_eq other name ≡ true) given (λ other e. (bytes_eq-Decides other name).1 e) any)

pub given_good : (given : List (List ℕ)) (name : List ℕ) → IsNoneOrGiven given name → IsNoneOrGood (reference given) name
given_good given name (inl e) = inl e
given_good given name (inr any) = inr (there_good given name (any_there given name any))

-- styles of a family
same_family : (of : Family) → is_same_family of of ≡ true
same_family family.Paragraph = refl
same_family family.Text = refl
same_family family.Section = refl

abbrev called : Style → StyleName
called style = record { family = style.family; name = style.name }

abbrev is_style : Family → List ℕ → Style → Bool
is_style of name style = is_same_family style.family of && bytes_eq style.name name

abbrev names_in : Family → List StyleName → List (List ℕ)
names_in of styles = map (λ (style : StyleName). style.name) (filter (λ (style : StyleName). is_same_family style.family of) styles)

style_there : (styles : List Style) (of : Family) (name : List ℕ) → is_one_of (names_in of (map called styles)) name ≡ list_any (is_style of name) styles
style_there [] of name = refl
style_there (style ∷ styles) of name = by_family (is_same_family style.family of) ∙ ap (λ (b : Bool). (is_same_family style.family of && bytes_eq style.name name) || b) (style_there styles of name) where
  rest : List StyleName
  rest = filter (λ (one : StyleName). is_same_family one.family of) (map called styles)

  by_family : (b : Bool) → is_one_of (map (λ (one : StyleName). one.name) (cond b (called style ∷ rest) rest)) name ≡ ((b && bytes_eq style.name name) || is_one_of (map (λ (one : StyleName). one.name) rest) name)
  by_family true = refl
  by_family false = refl

any_style : (doc : Document) (of : Family) (name : List ℕ) → Any (λ style. (style.family ≡ of) × (style.name ≡ name)) doc.styles → list_any (is_style of name) doc.styles ≡ true
any_style doc of name any =
    list_any-from_Any (is_style of name) doc.styles
    (some_also (λ style. (style.family ≡ of) × (style.name ≡ name)) (λ style. is_style of name style ≡ true) doc.styles
    (λ style is. ap₂ (λ (a b : Bool). a && b) (ap (λ (one : Family). is_same_family one of) is.0 ∙ same_family of) ((bytes_eq-Decides style.name name).1 is.1)) any)

style_found : (names : Names) (doc : Document) (of : Family) (name : List ℕ) → names.styles ≡ map called doc.styles → Any (λ style. (style.family ≡ of) × (style.name ≡ name)) doc.styles → style_reference names of name ≡ Some name
style_found names doc of name e any =
    there_good (names_in of names.styles) name (ap (λ (styles : List StyleName). is_one_of (names_in of styles) name) e ∙ style_there doc.styles of name ∙ any_style doc of name any)

pub style_good : (names : Names) (doc : Document) (of : Family) (name : List ℕ) → names.styles ≡ map called doc.styles → IsNoneOrStyle doc of name → IsNoneOrGood (style_reference names of) name
style_good names doc of name e (inl none) = inl none
style_good names doc of name e (inr any) = inr (style_found names doc of name e any)

pub span_good : (names : Names) (doc : Document) (name : List ℕ) → names.styles ≡ map called doc.styles → name ≢ [] → IsNoneOrStyle doc family.Text name → IsTextStyle names name
span_good names doc name e some (inl none) = absurd (some none)
span_good names doc name e some (inr any) = style_found names doc family.Text name e any
