-- The sections of a text are nested.
use Rattle.std.proofs.Common.{◌≢◌, ◌<◌, inl, inr, ℕ, Bool, true, false, cond, List, [], ◌∷◌, ◌++◌, map, refl, sym, subst, arith, append-nil, append_assoc, Option, Some, None}
use Rattle.std.specs.Prelude.{find}
use Rattle.std.specs.List.{flat_map, AllByRecursion as Each}
use Rattle.std.specs.Option.{option_map_or, option_and_then}
use Rattle.load_model.specs.declared.names.Tag.{Tag}
use Rattle.load_model.specs.declared.names.Tag.TheVariants as tag
use Rattle.load_model.specs.declared.element.Element.{Element, out-Element}
use Rattle.load_model.specs.Left.{children, first, is}
use Rattle.load_model.specs.Loaded.{body_of, text_of, met_of}
use Rattle.load_model.specs.Met.{Met, MetSection, met_in, sections_met}
use Rattle.section_faults.specs.Nested.{IsNested, StandsIn}
use Rattle.section_faults.proofs.KeptLemmas.{place_of}
use Rattle.tree_places.proofs.Within.{Pairs, pairs_of, all_pairs, Within, within_self, within_more, within_behind, within_front, within_through, pairs_within}
use Rattle.tree_places.specs.Order.{places_in, IsInOrder}
use Rattle.tree_places.proofs.Trees.{places_out}
use Rattle.nested_sections.proofs.Good.{AllFrom, IsGood, good_none, every_nested}

-- places that rise are apart
differ : (place : ℕ) (sections : List MetSection) → Each (λ other. place < other) (map place_of sections) → Each (λ (section : MetSection). place ≢ section.place) sections
differ place [] h = tt
differ place (section ∷ sections) h = let l = h.0 in (λ e. omega (arith, l, e), differ place sections h.1)

are_apart : (sections : List MetSection) → Pairs (λ place other. place < other) (map place_of sections) → Pairs (λ (section other : MetSection). section.place ≢ other.place) sections
are_apart [] h = tt
are_apart (section ∷ sections) h = (differ section.place sections h.0, are_apart sections h.1)

one_inside : (before front : List MetSection) (section : MetSection) (behind : List MetSection) → AllFrom [] before (front ++ section ∷ behind) → StandsIn (before ++ front) section
one_inside before [] section behind h = subst (λ (some : List MetSection). StandsIn some section) (sym (append-nil before)) (elim h.0 [ inl none ↦ inl none | inr inside ↦ inside ])
one_inside before (one ∷ front) section behind h =
    subst (λ (some : List MetSection). StandsIn some section) (append_assoc before (one ∷ []) front) (one_inside (before ++ one ∷ []) front section behind h.1)

nested : (places : List ℕ) (met : List Met) → IsGood [] places met → Pairs (λ place other. place < other) places → IsNested met
nested places met good rise = record {
  apart = all_pairs (λ (section other : MetSection). section.place ≢ other.place) (sections_met met)
      (are_apart (sections_met met) (pairs_within (λ place other. place < other) (map place_of (sections_met met)) places good.there rise));
  inside = λ before section behind is. one_inside [] before section behind (subst (AllFrom [] []) is (good.inside []));
}

text_good : (text : Element) → IsGood [] (places_in text) (met_in text)
text_good text = (every_nested text).3 (record { text = 0; in_list = false; sections = [] })

pub text_nested : (text : Element) → IsInOrder text → IsNested (met_in text)
text_nested text rises = nested (places_in text) (met_in text) (text_good text) (pairs_of (λ place other. place < other) (places_in text) rises)

-- the places in the text of a file are some of those in the file
abbrev AreSome : List ℕ → Option Element → Type 0
AreSome places None = Unit {0}
AreSome places (Some element) = Within (places_in element) places

some_through : (some all : List ℕ) (element : Option Element) → Within some all → AreSome some element → AreSome all element
some_through some all None part h = tt
some_through some all (Some element) part h = within_through (places_in element) some all h part

first_some : (wanted : Tag) (elements : List Element) → AreSome (flat_map places_in elements) (first wanted elements)
first_some wanted [] = tt
first_some wanted (element ∷ elements) = by_test (is wanted element) (first_some wanted elements) where
  by_test : (b : Bool) → AreSome (flat_map places_in elements) (find (is wanted) elements) → AreSome (places_in element ++ flat_map places_in elements) (cond b (Some element) (find (is wanted) elements))
  by_test true rest = within_front (places_in element) (places_in element) (flat_map places_in elements) (within_self (places_in element))
  by_test false rest =
      some_through (flat_map places_in elements) (places_in element ++ flat_map places_in elements) (find (is wanted) elements)
      (within_behind (places_in element) (flat_map places_in elements) (flat_map places_in elements) (within_self (flat_map places_in elements))) rest

child_some : (wanted : Tag) (element : Element) → AreSome (places_in element) (first wanted (children element))
child_some wanted element =
    some_through (flat_map places_in (children element)) (places_in element) (first wanted (children element))
    (subst (λ (places : List ℕ). Within (flat_map places_in (children element)) places) (sym (places_out element))
    (within_more (out-Element element).place (flat_map places_in (children element)) (flat_map places_in (children element)) (within_self (flat_map places_in (children element)))))
    (first_some wanted (children element))

text_some : (places : List ℕ) (body : Option Element) → AreSome places body → AreSome places (option_and_then (λ (one : Element). first tag.Text (children one)) body)
text_some places None h = tt
text_some places (Some body) h = some_through (places_in body) places (first tag.Text (children body)) h (child_some tag.Text body)

file_good : (places : List ℕ) (text : Option Element) → AreSome places text → IsGood [] places (option_map_or met_in text [])
file_good places None h = good_none [] places [] refl
file_good places (Some text) h =
    let good = text_good text in
    record { inside = good.inside; there = within_through (map place_of (sections_met (met_in text))) (places_in text) places good.there h }

pub file_nested : (root : Element) → IsInOrder root → IsNested (met_of root)
file_nested root rises =
    nested (places_in root) (met_of root) (file_good (places_in root) (text_of root) (text_some (places_in root) (body_of root) (child_some tag.Body root)))
    (pairs_of (λ place other. place < other) (places_in root) rises)
