-- What a construct may say in each part of a document.
use Rattle.std.proofs.Common.{◌≡◌, ℕ, List, [], ◌∷◌, sym, subst, inl, inr, Option, Some, None, codes}
use Rattle.std.specs.Option.{option_map}
use Rattle.markup_parts.specs.Constructs.{IsComment}
use Rattle.markup_parts.specs.Outcomes.{Construct}
use Rattle.markup_tree.specs.Pieces.{Saying, Silent, Begins, Ends, Holds, Declares, Behind, ◌or◌, silent, line_ends, IsPlain, IsSpecial, IsElementTag, IsMarkup, IsConstruct}
use Rattle.markup_tree.specs.declared.part.Part.{Part}
use Rattle.markup_tree.specs.declared.part.Part.TheVariants.{Start, Before, Inside, After}

-- what fits a part: characters and end tags stand in the root alone, and a document type before it alone
abbrev pub Fits : Part → Saying → Type 0
Fits Inside Declares = ⊥
Fits Inside saying = Unit {0}
Fits After Silent = Unit {0}
Fits After saying = ⊥
Fits part (Ends name) = ⊥
Fits part (Holds characters) = ⊥
Fits part saying = Unit {0}

some_none : {A : Type 0} {x : A} → Some x ≡ None → ⊥
some_none e = cc

some_same : {A : Type 0} {x y : A} → Some x ≡ Some y → x ≡ y
some_same e = cc

-- what is said of a value
told_fits : {V : Type 0} (part : Part) (says : V → Saying) → ((value : V) → Fits part (says value)) → (value : Option V) (saying : Saying) → Some saying ≡ option_map says value → Fits part saying
told_fits part says fits None saying e = absurd (some_none e)
told_fits part says fits (Some value) saying e = subst (Fits part) (sym (some_same e)) (fits value)

-- what a construct behind a given text says
passed_fits : (part : Part) (Is : Construct Saying) → ((text : List ℕ) (saying : Saying) (after : List ℕ) → Is text (Some saying) after → Fits part saying)
    → (front text : List ℕ) (saying : Saying) (after : List ℕ) → Behind front Is (λ (s : Saying). s) text (Some saying) after → Fits part saying
passed_fits part Is fits front text saying after h = go h.value h.is h.saying_is where
  go : (value : Option Saying) → Is h.rest value after → Some saying ≡ option_map (λ (s : Saying). s) value → Fits part saying
  go None is e = absurd (some_none e)
  go (Some found) is e = subst (Fits part) (sym (some_same e)) (fits h.rest found after is)

silent_fits : (part : Part) → Fits part Silent
silent_fits Start = tt
silent_fits Before = tt
silent_fits Inside = tt
silent_fits After = tt

special_fits : (part : Part) (text : List ℕ) (saying : Saying) (after : List ℕ) → IsSpecial part text (Some saying) after → Fits part saying
special_fits Start text saying after h = told_fits Start (λ (unit : Unit {0}). Declares) (λ unit. tt) h.value saying h.saying_is
special_fits Before text saying after h = told_fits Before (λ (unit : Unit {0}). Declares) (λ unit. tt) h.value saying h.saying_is
special_fits Inside text saying after h = told_fits Inside (λ (body : List ℕ). Holds (line_ends body)) (λ body. tt) h.value saying h.saying_is
special_fits After text saying after h = absurd h

declared_fits : (part : Part) (text : List ℕ) (saying : Saying) (after : List ℕ) → (Behind (codes "--") IsComment silent or IsSpecial part) text (Some saying) after → Fits part saying
declared_fits part text saying after (inl h) = told_fits part silent (λ unit. silent_fits part) h.value saying h.saying_is
declared_fits part text saying after (inr h) = special_fits part text saying after h

element_fits : (part : Part) (text : List ℕ) (saying : Saying) (after : List ℕ) → IsElementTag part text (Some saying) after → Fits part saying
element_fits Start text saying after h = told_fits Start Begins (λ tag. tt) h.value saying h.saying_is
element_fits Before text saying after h = told_fits Before Begins (λ tag. tt) h.value saying h.saying_is
element_fits Inside text saying after (inl h) = told_fits Inside Ends (λ name. tt) h.value saying h.saying_is
element_fits Inside text saying after (inr h) = told_fits Inside Begins (λ tag. tt) h.value saying h.saying_is
element_fits After text saying after h = absurd h

markup_fits : (part : Part) (text : List ℕ) (saying : Saying) (after : List ℕ) → IsMarkup part text (Some saying) after → Fits part saying
markup_fits part text saying after (inl h) = passed_fits part (Behind (codes "--") IsComment silent or IsSpecial part) (declared_fits part) (codes "!") text saying after h
markup_fits part text saying after (inr (inl h)) = told_fits part silent (λ unit. silent_fits part) h.value saying h.saying_is
markup_fits part text saying after (inr (inr h)) = element_fits part text saying after h

plain_fits : (part : Part) (text : List ℕ) (saying : Saying) (after : List ℕ) → IsPlain part text (Some saying) after → Fits part saying
plain_fits Start text saying after h = subst (Fits Start) (sym (some_same h.3)) tt
plain_fits Before text saying after h = subst (Fits Before) (sym (some_same h.3)) tt
plain_fits After text saying after h = subst (Fits After) (sym (some_same h.3)) tt
plain_fits Inside text saying after (inl h) = told_fits Inside (λ (c : ℕ). Holds (c ∷ [])) (λ c. tt) h.value saying h.saying_is
plain_fits Inside text saying after (inr (inl h)) = subst (Fits Inside) (sym h.1) tt
plain_fits Inside text saying after (inr (inr h)) = told_fits Inside (λ (c : ℕ). Holds (c ∷ [])) (λ c. tt) h.0 saying h.3

pub construct_fits : (part : Part) (text : List ℕ) (saying : Saying) (after : List ℕ) → IsConstruct part text (Some saying) after → Fits part saying
construct_fits part text saying after (inl h) = passed_fits part (IsMarkup part) (markup_fits part) (codes "<") text saying after h
construct_fits part text saying after (inr h) = plain_fits part text saying after h
