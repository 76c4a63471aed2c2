-- Lists within others, of parts of a tree.
use Rattle.std.proofs.Common.{◌≡◌, ◌<◌, ◌≤◌, ℕ, not, Bool, true, false, cond, List, [], ◌∷◌, ◌++◌, map, refl, sym, ap, ◌∙◌, arith, Option, Some, None}
use Rattle.std.specs.Prelude.{AllPairs}
use Rattle.std.specs.List.{flat_map, filter, find}
use Rattle.std.specs.Option.{option_map_or, option_and_then}
use Rattle.std.proofs.lemmas.List.{map-append}
use Rattle.load_model.specs.declared.names.Tag.{Tag}
use Rattle.load_model.specs.declared.names.Tag.TheVariants as tag
use Rattle.load_model.specs.declared.element.Element.{Element, out-Element}
use Rattle.load_model.specs.Left.{children, is, first, firsts}
use Rattle.load_model.specs.Loaded.{body_of, text_of}
use Rattle.declared_names.specs.Merge.{IsRising}
use Rattle.tree_places.specs.Order.{places_in}
use Rattle.tree_places.proofs.Within.{Within, within_more, within_both, within_self, within_behind, within_front, within_append, within_through, within_filter, within_is, within_all, Pairs, pairs_of, pairs_within, pairs_weaker}
use Rattle.tree_places.proofs.Trees.{places_out}

-- the first ones stand within all
pub within_firsts : {X : Type 0} (same : X → X → Bool) (xs : List X) → Within (firsts same xs) xs
within_firsts same [] = tt
within_firsts same (x ∷ xs) =
    within_both x (filter (λ other. not (same x other)) (firsts same xs)) xs
    (within_through (filter (λ other. not (same x other)) (firsts same xs)) (firsts same xs) xs (within_filter (λ other. not (same x other)) (firsts same xs)) (within_firsts same xs))

-- what some of several things give
pub within_some : {X Y : Type 0} (f : X → List Y) (test : X → Bool) (xs : List X) → Within (flat_map f (filter test xs)) (flat_map f xs)
within_some f test [] = tt
within_some f test (x ∷ xs) = by_test (test x) (within_some f test xs) where
  by_test : (b : Bool) → Within (flat_map f (filter test xs)) (flat_map f xs) → Within (flat_map f (cond b (x ∷ filter test xs) (filter test xs))) (f x ++ flat_map f xs)
  by_test true h = within_append (f x) (f x) (flat_map f (filter test xs)) (flat_map f xs) (within_self (f x)) h
  by_test false h = within_behind (f x) (flat_map f (filter test xs)) (flat_map f xs) h

-- places that rise
not_more : (x y : ℕ) → x < y → x ≤ y
not_more x y l = omega (arith, l)

rising : (places : List ℕ) → Pairs (λ place other. place ≤ other) places → IsRising places
rising [] h = tt
rising (place ∷ places) h = (h.0, rising places h.1)

pub rise_within : (places all : List ℕ) → Within places all → AllPairs (λ place other. place < other) all → IsRising places
rise_within places all within h =
    rising places
    (pairs_weaker (λ place other. place < other) (λ place other. place ≤ other) not_more places
    (pairs_within (λ place other. place < other) places all within (pairs_of (λ place other. place < other) all h)))

-- what is told of the text stands within the places of the root
module _ (told : Element → List ℕ) (within : (element : Element) → Within (told element) (places_in element)) where
  found_within : (wanted : Tag) (elements : List Element) → Within (option_map_or told (first wanted elements) []) (flat_map places_in elements)
  found_within wanted [] = tt
  found_within wanted (element ∷ elements) = by_test (is wanted element) (found_within wanted elements) where
    by_test : (b : Bool) → Within (option_map_or told (find (is wanted) elements) []) (flat_map places_in elements)
        → Within (option_map_or told (cond b (Some element) (find (is wanted) elements)) []) (places_in element ++ flat_map places_in elements)
    by_test true h = within_front (told element) (places_in element) (flat_map places_in elements) (within element)
    by_test false h = within_behind (places_in element) (option_map_or told (find (is wanted) elements) []) (flat_map places_in elements) h

  pub child_within : (wanted : Tag) (element : Element) → Within (option_map_or told (first wanted (children element)) []) (places_in element)
  child_within wanted element =
      within_all (option_map_or told (first wanted (children element)) []) ((out-Element element).place ∷ flat_map places_in (children element)) (places_in element)
      (within_more (out-Element element).place (option_map_or told (first wanted (children element)) []) (flat_map places_in (children element)) (found_within wanted (children element)))
      (sym (places_out element))

module _ (told : Element → List ℕ) (within : (element : Element) → Within (told element) (places_in element)) where
  abbrev text_told : Element → List ℕ
  text_told body = option_map_or told (first tag.Text (children body)) []

  of_body : (body : Option Element) → option_map_or told (option_and_then (λ (one : Element). first tag.Text (children one)) body) [] ≡ option_map_or text_told body []
  of_body None = refl
  of_body (Some body) = refl

  pub text_within : (root : Element) → Within (option_map_or told (text_of root) []) (places_in root)
  text_within root =
      within_is (option_map_or told (text_of root) []) (option_map_or text_told (body_of root) []) (places_in root) (of_body (body_of root))
      (child_within text_told (child_within told within tag.Text) tag.Body root)

-- maps of lists that are joined
pub map_flat : {X Y Z : Type 0} (f : Y → Z) (g : X → List Y) (xs : List X) → map f (flat_map g xs) ≡ flat_map (λ x. map f (g x)) xs
map_flat f g [] = refl
map_flat {X} {Y} {Z} f g (x ∷ xs) = map-append f (g x) (flat_map g xs) ∙ ap (λ (more : List Z). map f (g x) ++ more) (map_flat f g xs)
