-- The places of what is named, and that whatever is kept by such a place is named.
use Rattle.std.proofs.Common.{◌≡◌, ◌<◌, ℕ, ◌⊎◌, ◌&&◌, ◌||◌, inl, inr, not, Bool, true, false, cond, List, [], ◌∷◌, ◌++◌, map, refl, sym, ap, ap₂, subst, ◌∙◌, is_some, arith}
use Rattle.std.specs.List.{flat_map, AllByRecursion as Each, list_all}
use mathlib.Core.Former.{this}
use Rattle.markup_nodes.specs.formers.nodes.Nodes.{the_former}
use Rattle.markup_nodes.specs.Node.{Node, Element, Char}
use Rattle.markup_nodes.specs.Nodes.{elems}
use Rattle.load_model.specs.declared.names.Key.TheVariants as key
use Rattle.load_model.specs.declared.names.Tag.{Tag}
use Rattle.load_model.specs.declared.names.Tag.TheVariants as tag
use Rattle.load_model.specs.declared.element.Attribute.{Attribute}
use Rattle.load_model.specs.declared.element.Element.{Element as Read, out-Element}
use Rattle.load_model.specs.declared.element.Element.TheOpen.{Element-F}
use Rattle.load_model.specs.declared.element.Element.TheFolds.{fold-Element, fold_out-Element}
use Rattle.load_model.specs.Left.{attributes_of, children, tag_of}
use Rattle.load_model.specs.Met.{Kept, is_at}
use Rattle.load_model.specs.Values as value
use Rattle.load_model.specs.Values.{stated}
use Rattle.tree_places.specs.Order.{places_in}
use Rattle.tree_places.proofs.Trees.{places_out}
use Rattle.tree_places.proofs.Within.{Pairs}
use Rattle.valid_text.proofs.Has.{Has, has_back, has_front, has_parts}
use Rattle.valid_text.proofs.Settled.{own_settled, settled, settled_out, within_note}
use Rattle.valid_text.proofs.Steps.{every}

abbrev pub At : ℕ → ℕ → Type 0
At place other = other ≡ place

-- the place of a section that has a name outside of notes, and of a mark that has one
abbrev pub own_section : Bool → Tag → ℕ → List Attribute → List ℕ
own_section within tag.Section place attributes = cond (not within && is_some (stated key.TextName value.name attributes)) (place ∷ []) []
own_section within _ place attributes = []

abbrev pub own_mark : Bool → Tag → ℕ → List Attribute → List ℕ
own_mark within tag.Bookmark place attributes = cond (is_some (stated key.TextName value.name attributes)) (place ∷ []) []
own_mark within tag.BookmarkStart place attributes = cond (is_some (stated key.TextName value.name attributes)) (place ∷ []) []
own_mark within tag.BookmarkEnd place attributes = cond (is_some (stated key.TextName value.name attributes)) (place ∷ []) []
own_mark within _ place attributes = []

-- places in their order
abbrev pub Ordered : List ℕ → Type 0
Ordered places = Pairs (λ place other. place < other) places

pub ordered_front : (xs ys : List ℕ) → Ordered (xs ++ ys) → Ordered xs
ordered_front [] ys h = tt
ordered_front (x ∷ xs) ys h = (front xs h.0, ordered_front xs ys h.1) where
  front : (more : List ℕ) → Each (λ other. x < other) (more ++ ys) → Each (λ other. x < other) more
  front [] each = tt
  front (one ∷ more) each = (each.0, front more each.1)

pub ordered_back : (xs ys : List ℕ) → Ordered (xs ++ ys) → Ordered ys
ordered_back [] ys h = h
ordered_back (x ∷ xs) ys h = ordered_back xs ys h.1

-- a place stands once
behind : (place q : ℕ) (places : List ℕ) → Each (λ other. place < other) places → Has (At q) places → place < q
behind place q [] each has = absurd has
behind place q (one ∷ places) each (inl is) = subst (λ (n : ℕ). place < n) is each.0
behind place q (one ∷ places) each (inr has) = behind place q places each.1 has

pub apart : (q : ℕ) (xs ys : List ℕ) → Ordered (xs ++ ys) → Has (At q) xs → Has (At q) ys → ⊥
apart q [] ys h has other = has
apart q (x ∷ xs) ys h (inl is) other = never (behind x q (xs ++ ys) h.0 (has_back (At q) xs ys other)) where
  never : x < q → ⊥
  never less = absurd (omega (arith, less, is))
apart q (x ∷ xs) ys h (inr has) other = apart q xs ys h.1 has other

module _ (own : Bool → Tag → ℕ → List Attribute → List ℕ) (only : (within : Bool) (which : Tag) (place : ℕ) (attributes : List Attribute) (q : ℕ) → Has (At q) (own within which place attributes) → place ≡ q) where
  -- the places in an element
  abbrev pub named_at : Read → Bool → List ℕ
  named_at = fold-Element (Bool → List ℕ) of_element where
    of_element : Element-F (Bool → List ℕ) → Bool → List ℕ
    of_element element within = own within element.tag element.place element.attributes ++ flat_map (λ one. one (within_note within element.tag)) (elems element.nodes)

  elems_named : (within : Bool) (nodes : List (Node Read)) → flat_map (λ (one : Bool → List ℕ). one within) (elems ((the_former this).map Read (Bool → List ℕ) named_at nodes)) ≡ flat_map (λ (one : Read). named_at one within) (elems nodes)
  elems_named within [] = refl
  elems_named within (Element element ∷ nodes) = ap (λ (more : List ℕ). named_at element within ++ more) (elems_named within nodes)
  elems_named within (Char c ∷ nodes) = elems_named within nodes

  abbrev pub named_with : Bool → Tag → ℕ → List Attribute → List Read → List ℕ
  named_with within which place attributes elements = own within which place attributes ++ flat_map (λ (one : Read). named_at one (within_note within which)) elements

  pub named_out : (element : Read) (within : Bool) → named_at element within ≡ named_with within (tag_of element) (out-Element element).place (attributes_of element) (children element)
  named_out element within =
      ap (λ (whole : Bool → List ℕ). whole within) (fold_out-Element (Bool → List ℕ) _ element)
      ∙ ap (λ (more : List ℕ). own within (tag_of element) (out-Element element).place (attributes_of element) ++ more) (elems_named (within_note within (tag_of element)) (out-Element element).nodes)

  -- they are places of the element
  abbrev AreInside : Read → Type 0
  AreInside element = (within : Bool) (q : ℕ) → Has (At q) (named_at element within) → Has (At q) (places_in element)

  all_inside : (elements : List Read) → Each AreInside elements → (within : Bool) (q : ℕ) → Has (At q) (flat_map (λ (one : Read). named_at one within) elements) → Has (At q) (flat_map places_in elements)
  all_inside [] each within q has = absurd has
  all_inside (element ∷ elements) each within q has = by_parts (has_parts (At q) (named_at element within) (flat_map (λ (one : Read). named_at one within) elements) has) (all_inside elements each.1 within q) where
    by_parts : Has (At q) (named_at element within) ⊎ Has (At q) (flat_map (λ (one : Read). named_at one within) elements) → (Has (At q) (flat_map (λ (one : Read). named_at one within) elements) → Has (At q) (flat_map places_in elements))
        → Has (At q) (places_in element ++ flat_map places_in elements)
    by_parts (inl has) more = has_front (At q) (places_in element) (flat_map places_in elements) (each.0 within q has)
    by_parts (inr has) more = has_back (At q) (places_in element) (flat_map places_in elements) (more has)

  one_inside : (element : Read) → Each AreInside (elems (out-Element element).nodes) → AreInside element
  one_inside element each within q has =
      subst (Has (At q)) (sym (places_out element))
      (by_parts (has_parts (At q) (own within (tag_of element) (out-Element element).place (attributes_of element)) (flat_map (λ (one : Read). named_at one (within_note within (tag_of element))) (children element)) (subst (Has (At q)) (named_out element within) has)))
    where
      by_parts : Has (At q) (own within (tag_of element) (out-Element element).place (attributes_of element)) ⊎ Has (At q) (flat_map (λ (one : Read). named_at one (within_note within (tag_of element))) (children element))
          → Has (At q) ((out-Element element).place ∷ flat_map places_in (children element))
      by_parts (inl has) = inl (only within (tag_of element) (out-Element element).place (attributes_of element) q has)
      by_parts (inr has) = inr (all_inside (children element) each (within_note within (tag_of element)) q has)

  pub inside : (element : Read) → AreInside element
  inside = every AreInside one_inside

  each_inside : (elements : List Read) → Each AreInside elements
  each_inside [] = tt
  each_inside (element ∷ elements) = (inside element, each_inside elements)

  -- whatever is kept is named
  module _ (kept : List ℕ) where
    abbrev pub Covers : Bool → Read → Type 0
    Covers within element = (q : ℕ) → Has (At q) (places_in element) → is_at kept q ≡ true → Has (At q) (named_at element within)

    abbrev pub CoversAll : Bool → List Read → Type 0
    CoversAll within elements = (q : ℕ) → Has (At q) (flat_map places_in elements) → is_at kept q ≡ true → Has (At q) (flat_map (λ (one : Read). named_at one within) elements)

    -- the first of some elements, and the others
    pub covers_first : (within : Bool) (element : Read) (elements : List Read) → Ordered (flat_map places_in (element ∷ elements)) → CoversAll within (element ∷ elements) → Covers within element
    covers_first within element elements ordered covers q has is =
        by_parts (has_parts (At q) (named_at element within) (flat_map (λ (one : Read). named_at one within) elements) (covers q (has_front (At q) (places_in element) (flat_map places_in elements) has) is)) where
          by_parts : Has (At q) (named_at element within) ⊎ Has (At q) (flat_map (λ (one : Read). named_at one within) elements) → Has (At q) (named_at element within)
          by_parts (inl found) = found
          by_parts (inr found) = absurd (apart q (places_in element) (flat_map places_in elements) ordered has (all_inside elements (each_inside elements) within q found))

    pub covers_rest : (within : Bool) (element : Read) (elements : List Read) → Ordered (flat_map places_in (element ∷ elements)) → CoversAll within (element ∷ elements) → CoversAll within elements
    covers_rest within element elements ordered covers q has is =
        by_parts (has_parts (At q) (named_at element within) (flat_map (λ (one : Read). named_at one within) elements) (covers q (has_back (At q) (places_in element) (flat_map places_in elements) has) is)) where
          by_parts : Has (At q) (named_at element within) ⊎ Has (At q) (flat_map (λ (one : Read). named_at one within) elements) → Has (At q) (flat_map (λ (one : Read). named_at one within) elements)
          by_parts (inl found) = absurd (apart q (places_in element) (flat_map places_in elements) ordered (inside element within q found) has)
          by_parts (inr found) = found

    -- what an element holds
    pub covers_inner : (within : Bool) (element : Read) → Ordered (places_in element) → Covers within element → CoversAll (within_note within (tag_of element)) (children element)
    covers_inner within element ordered covers q has is =
        let all : Ordered ((out-Element element).place ∷ flat_map places_in (children element)) = subst Ordered (places_out element) ordered in
        by_parts all (has_parts (At q) (own within (tag_of element) (out-Element element).place (attributes_of element)) (flat_map (λ (one : Read). named_at one (within_note within (tag_of element))) (children element))
        (subst (Has (At q)) (named_out element within) (covers q (subst (Has (At q)) (sym (places_out element)) (inr has)) is)))
      where
        never : (out-Element element).place ≡ q → (out-Element element).place < q → ⊥
        never is less = absurd (omega (arith, less, is))

        by_parts : Ordered ((out-Element element).place ∷ flat_map places_in (children element))
            → Has (At q) (own within (tag_of element) (out-Element element).place (attributes_of element)) ⊎ Has (At q) (flat_map (λ (one : Read). named_at one (within_note within (tag_of element))) (children element))
            → Has (At q) (flat_map (λ (one : Read). named_at one (within_note within (tag_of element))) (children element))
        by_parts all (inl found) = absurd (never (only within (tag_of element) (out-Element element).place (attributes_of element) q found) (behind (out-Element element).place q (flat_map places_in (children element)) all.0 has))
        by_parts all (inr found) = found

    -- the element itself
    pub covers_own : (within : Bool) (element : Read) → Ordered (places_in element) → Covers within element → is_at kept (out-Element element).place ≡ true
        → Has (At (out-Element element).place) (own within (tag_of element) (out-Element element).place (attributes_of element))
    covers_own within element ordered covers is =
        let place = (out-Element element).place in
        let all : Ordered ((out-Element element).place ∷ flat_map places_in (children element)) = subst Ordered (places_out element) ordered in
        by_parts all (has_parts (At place) (own within (tag_of element) place (attributes_of element)) (flat_map (λ (one : Read). named_at one (within_note within (tag_of element))) (children element))
        (subst (Has (At place)) (named_out element within) (covers place (subst (Has (At place)) (sym (places_out element)) (inl refl)) is)))
      where
        never : (out-Element element).place < (out-Element element).place → ⊥
        never less = absurd (omega (arith, less))

        by_parts : Ordered ((out-Element element).place ∷ flat_map places_in (children element))
            → Has (At (out-Element element).place) (own within (tag_of element) (out-Element element).place (attributes_of element)) ⊎ Has (At (out-Element element).place) (flat_map (λ (one : Read). named_at one (within_note within (tag_of element))) (children element))
            → Has (At (out-Element element).place) (own within (tag_of element) (out-Element element).place (attributes_of element))
        by_parts all (inl found) = found
        by_parts all (inr found) =
            absurd (never (behind (out-Element element).place (out-Element element).place (flat_map places_in (children element)) all.0 (all_inside (children element) (each_inside (children element)) (within_note within (tag_of element)) (out-Element element).place found)))

-- a place that stands under a test
one_of_cond : (b : Bool) (place q : ℕ) → Has (At q) (cond b (place ∷ []) []) → place ≡ q
one_of_cond true place q (inl is) = is
one_of_cond true place q (inr has) = absurd has
one_of_cond false place q has = absurd has

cond_holds : (b : Bool) (place q : ℕ) → Has (At q) (cond b (place ∷ []) []) → b ≡ true
cond_holds true place q has = refl
cond_holds false place q has = absurd has

pub only_section : (within : Bool) (which : Tag) (place : ℕ) (attributes : List Attribute) (q : ℕ) → Has (At q) (own_section within which place attributes) → place ≡ q
only_section within tag.Section place attributes q has = one_of_cond (not within && is_some (stated key.TextName value.name attributes)) place q has
only_section within _ place attributes q has = absurd has

pub only_mark : (within : Bool) (which : Tag) (place : ℕ) (attributes : List Attribute) (q : ℕ) → Has (At q) (own_mark within which place attributes) → place ≡ q
only_mark within tag.Bookmark place attributes q has = one_of_cond (is_some (stated key.TextName value.name attributes)) place q has
only_mark within tag.BookmarkStart place attributes q has = one_of_cond (is_some (stated key.TextName value.name attributes)) place q has
only_mark within tag.BookmarkEnd place attributes q has = one_of_cond (is_some (stated key.TextName value.name attributes)) place q has
only_mark within _ place attributes q has = absurd has

abbrev pub sections_at : Read → Bool → List ℕ
sections_at = named_at own_section only_section

abbrev pub marks_at : Read → Bool → List ℕ
marks_at = named_at own_mark only_mark

module _ (kept : Kept) where
  -- what is kept by its place is named
  or_holds : (b some : Bool) → (b ≡ true → some ≡ true) → (not b || some) ≡ true
  or_holds true some holds = holds refl
  or_holds false some holds = refl

  own_is : (within : Bool) (which : Tag) (place : ℕ) (attributes : List Attribute)
      → (is_at kept.sections place ≡ true → Has (At place) (own_section within which place attributes)) → (is_at kept.marks place ≡ true → Has (At place) (own_mark within which place attributes)) → own_settled kept within which place attributes ≡ true
  own_is within tag.Section place attributes sections marks =
      or_holds (is_at kept.sections place) (not within && is_some (stated key.TextName value.name attributes)) (λ is. cond_holds (not within && is_some (stated key.TextName value.name attributes)) place place (sections is))
  own_is within tag.Bookmark place attributes sections marks = or_holds (is_at kept.marks place) (is_some (stated key.TextName value.name attributes)) (λ is. cond_holds (is_some (stated key.TextName value.name attributes)) place place (marks is))
  own_is within tag.BookmarkStart place attributes sections marks = or_holds (is_at kept.marks place) (is_some (stated key.TextName value.name attributes)) (λ is. cond_holds (is_some (stated key.TextName value.name attributes)) place place (marks is))
  own_is within tag.BookmarkEnd place attributes sections marks = or_holds (is_at kept.marks place) (is_some (stated key.TextName value.name attributes)) (λ is. cond_holds (is_some (stated key.TextName value.name attributes)) place place (marks is))
  own_is within _ place attributes sections marks = refl

  abbrev IsSettledWhereCovered : Read → Type 0
  IsSettledWhereCovered element = (within : Bool) → Ordered (places_in element) → Covers own_section only_section kept.sections within element → Covers own_mark only_mark kept.marks within element → settled kept element within ≡ true

  all_settled : (elements : List Read) → Each IsSettledWhereCovered elements → (within : Bool) → Ordered (flat_map places_in elements)
      → CoversAll own_section only_section kept.sections within elements → CoversAll own_mark only_mark kept.marks within elements → list_all (λ (one : Bool → Bool). one within) (map (settled kept) elements) ≡ true
  all_settled [] each within ordered sections marks = refl
  all_settled (element ∷ elements) each within ordered sections marks =
      ap₂ (λ (a b : Bool). a && b)
      (each.0 within (ordered_front (places_in element) (flat_map places_in elements) ordered) (covers_first own_section only_section kept.sections within element elements ordered sections)
      (covers_first own_mark only_mark kept.marks within element elements ordered marks))
      (all_settled elements each.1 within (ordered_back (places_in element) (flat_map places_in elements) ordered) (covers_rest own_section only_section kept.sections within element elements ordered sections)
      (covers_rest own_mark only_mark kept.marks within element elements ordered marks))

  one_settled : (element : Read) → Each IsSettledWhereCovered (elems (out-Element element).nodes) → IsSettledWhereCovered element
  one_settled element each within ordered sections marks =
      let all : Ordered ((out-Element element).place ∷ flat_map places_in (children element)) = subst Ordered (places_out element) ordered in
      settled_out kept element within
      ∙ ap₂ (λ (a b : Bool). a && b)
      (own_is within (tag_of element) (out-Element element).place (attributes_of element) (covers_own own_section only_section kept.sections within element ordered sections) (covers_own own_mark only_mark kept.marks within element ordered marks))
      (all_settled (children element) each (within_note within (tag_of element)) all.1 (covers_inner own_section only_section kept.sections within element ordered sections) (covers_inner own_mark only_mark kept.marks within element ordered marks))

  each_covered : (elements : List Read) → Each IsSettledWhereCovered elements
  each_covered [] = tt
  each_covered (element ∷ elements) = (every IsSettledWhereCovered one_settled element, each_covered elements)

  -- elements in which whatever is kept is named
  pub covered_settled : (elements : List Read) (within : Bool) → Ordered (flat_map places_in elements) → CoversAll own_section only_section kept.sections within elements → CoversAll own_mark only_mark kept.marks within elements
      → list_all (λ (one : Bool → Bool). one within) (map (settled kept) elements) ≡ true
  covered_settled elements within ordered sections marks = all_settled elements (each_covered elements) within ordered sections marks
