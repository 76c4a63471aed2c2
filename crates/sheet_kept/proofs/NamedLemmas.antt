-- Elements that are kept by their names.
use Rattle.std.proofs.Common.{◌≡◌, ℕ, Bool, true, false, cond, ◌&&◌, ◌||◌, List, [], ◌∷◌, ◌++◌, map, refl, sym, ap, ap₂, ◌∙◌, Option, Some, None, is_some}
use Rattle.std.specs.List.{list_any, filter_map, cons_option}
use Rattle.std.specs.Option.{option_map_or}
use Rattle.std.specs.Str.{bytes_eq}
use Rattle.std.proofs.lemmas.Bool.{false≢true}
use Rattle.std.proofs.lemmas.List.Elements.{filter_map-append}
use Rattle.std.proofs.lemmas.Slice.Eq.{bytes_eq-Decides}
use Rattle.load_model.specs.declared.element.Element.{Element}
use Rattle.load_model.specs.declared.names.Tag.{Tag}
use Rattle.load_model.specs.Left.{is, is_one_of}
use Rattle.load_model.specs.Styles.{name_of, have_same_name, named}
use Rattle.sheet_kept.specs.declared.named.Named.{Named}
use Rattle.sheet_kept.specs.Kept.{Keeps}
use Rattle.sheet_kept.proofs.Firsts.{first_passes, first_fails}

text_through : (xs ys zs : List ℕ) → bytes_eq xs ys ≡ true → bytes_eq ys zs ≡ true → bytes_eq xs zs ≡ true
text_through xs ys zs e f = ap (λ (one : List ℕ). bytes_eq one zs) ((bytes_eq-Decides xs ys).0 e) ∙ f

same_option : Option (List ℕ) → Option (List ℕ) → Bool
same_option one other = option_map_or (λ name. option_map_or (bytes_eq name) other false) one false

option_through : (one two three : Option (List ℕ)) → option_map_or (λ name. option_map_or (bytes_eq name) two false) one false ≡ true
    → option_map_or (λ name. option_map_or (bytes_eq name) three false) two false ≡ true → option_map_or (λ name. option_map_or (bytes_eq name) three false) one false ≡ true
option_through None two three e f = absurd (false≢true e)
option_through (Some one) None three e f = absurd (false≢true e)
option_through (Some one) (Some two) None e f = absurd (false≢true f)
option_through (Some one) (Some two) (Some three) e f = text_through one two three e f

pub name_through : (one two three : Element) → have_same_name one two ≡ true → have_same_name two three ≡ true → have_same_name one three ≡ true
name_through one two three e f = option_through (name_of one) (name_of two) (name_of three) e f

-- whether one of these elements has a name is whether it is one of their names
any_named : (elements : List Element) (element : Element) (name : List ℕ) → name_of element ≡ Some name → list_any (λ one. have_same_name one element) elements ≡ is_one_of (filter_map name_of elements) name
any_named [] element name e = refl
any_named (one ∷ elements) element name e = by_name (name_of one) (any_named elements element name e) where
  by_name : (own : Option (List ℕ)) → list_any (λ one. have_same_name one element) elements ≡ is_one_of (filter_map name_of elements) name
      → (option_map_or (λ text. option_map_or (bytes_eq text) (name_of element) false) own false || list_any (λ one. have_same_name one element) elements)
      ≡ is_one_of (cons_option own (filter_map name_of elements)) name
  by_name None more = more
  by_name (Some own) more = ap₂ (λ a b. a || b) (ap (λ other. option_map_or (bytes_eq own) other false) e) more

abbrev passes : Tag → Element → Bool
passes of_tag element = is of_tag element && is_some (name_of element)

not_passed : (of_tag : Tag) (element : Element) → is of_tag element ≡ false → passes of_tag element ≡ false
not_passed of_tag element e = ap (λ b. b && is_some (name_of element)) e

nameless : (of_tag : Tag) (element : Element) → name_of element ≡ None → passes of_tag element ≡ false
nameless of_tag element e = ap (λ name. is of_tag element && is_some name) e ∙ neither (is of_tag element) where
  neither : (b : Bool) → (b && false) ≡ false
  neither true = refl
  neither false = refl

passed : (of_tag : Tag) (element : Element) (name : List ℕ) → is of_tag element ≡ true → name_of element ≡ Some name → passes of_tag element ≡ true
passed of_tag element name e f = ap₂ (λ a b. a && is_some b) e f

keeps_same : (of_tag : Tag) (elements more : List Element) (kept : Named) → named (is of_tag) more ≡ named (is of_tag) elements → Keeps of_tag elements kept → Keeps of_tag more kept
keeps_same of_tag elements more kept e keeps = record {
  elements_are = keeps.elements_are ∙ sym e;
  names_are = keeps.names_are ∙ ap (filter_map name_of) (sym e);
}

module _ (of_tag : Tag) (elements : List Element) (element : Element) where
  pub keeps_other : (kept : Named) → is of_tag element ≡ false → Keeps of_tag elements kept → Keeps of_tag (elements ++ element ∷ []) kept
  keeps_other kept e keeps =
      keeps_same of_tag elements (elements ++ element ∷ []) kept (first_fails have_same_name name_through (passes of_tag) elements element (not_passed of_tag element e)) keeps

  pub keeps_nameless : (kept : Named) → None ≡ name_of element → Keeps of_tag elements kept → Keeps of_tag (elements ++ element ∷ []) kept
  keeps_nameless kept e keeps =
      keeps_same of_tag elements (elements ++ element ∷ []) kept (first_fails have_same_name name_through (passes of_tag) elements element (nameless of_tag element (sym e))) keeps

  module _ (name : List ℕ) (of : is of_tag element ≡ true) (states : Some name ≡ name_of element) where
    with_one : (is_there : Bool) → is_one_of (filter_map name_of (named (is of_tag) elements)) name ≡ is_there
        → named (is of_tag) (elements ++ element ∷ []) ≡ cond is_there (named (is of_tag) elements) (named (is of_tag) elements ++ element ∷ [])
    with_one is_there e =
        first_passes have_same_name name_through (passes of_tag) elements element (passed of_tag element name of (sym states))
        ∙ ap (λ b. cond b (named (is of_tag) elements) (named (is of_tag) elements ++ element ∷ [])) (any_named (named (is of_tag) elements) element name (sym states) ∙ e)

    pub keeps_known : (kept later : Named) → is_one_of kept.names name ≡ true → later.elements ≡ kept.elements → later.names ≡ kept.names
        → Keeps of_tag elements kept → Keeps of_tag (elements ++ element ∷ []) later
    keeps_known kept later e same_elements same_names keeps =
        let all : named (is of_tag) (elements ++ element ∷ []) ≡ named (is of_tag) elements = with_one true (ap (λ names. is_one_of names name) (sym keeps.names_are) ∙ e) in
        record {
          elements_are = ap (λ held. map (λ one. one.now) held.items) same_elements ∙ keeps.elements_are ∙ sym all;
          names_are = same_names ∙ keeps.names_are ∙ ap (filter_map name_of) (sym all);
        }

    pub keeps_new : (kept later : Named) → is_one_of kept.names name ≡ false → map (λ one. one.now) later.elements.items ≡ map (λ one. one.now) kept.elements.items ++ element ∷ []
        → later.names ≡ kept.names ++ name ∷ [] → Keeps of_tag elements kept → Keeps of_tag (elements ++ element ∷ []) later
    keeps_new kept later e more_elements more_names keeps =
        let all : named (is of_tag) (elements ++ element ∷ []) ≡ named (is of_tag) elements ++ element ∷ [] = with_one false (ap (λ names. is_one_of names name) (sym keeps.names_are) ∙ e) in
        record {
          elements_are = more_elements ∙ ap (λ all. all ++ element ∷ []) keeps.elements_are ∙ sym all;
          names_are = more_names ∙ ap (λ names. names ++ name ∷ []) keeps.names_are
              ∙ ap (λ own. filter_map name_of (named (is of_tag) elements) ++ cons_option own []) states
              ∙ sym (filter_map-append name_of (named (is of_tag) elements) (element ∷ []))
              ∙ ap (filter_map name_of) (sym all);
        }
