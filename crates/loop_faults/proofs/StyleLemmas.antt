-- The styles of a file.
use Rattle.std.proofs.Common.{◌≡◌, ℕ, ◌≤◌, ◌&&◌, ◌||◌, not, Bool, true, false, cond, List, [], ◌∷◌, ◌++◌, length, map, refl, sym, ap, ap₂, ◌∙◌, arith, Option, Some, None, inl, inr}
use Rattle.std.specs.Prelude.{filter, option_to_list}
use Rattle.std.specs.List.{flat_map, list_any}
use Rattle.std.specs.Option.{option_map_or}
use Rattle.std.specs.Str.{bytes_eq}
use Rattle.std.proofs.lemmas.Bool.{false≢true, and_parts}
use Rattle.std.proofs.lemmas.List.{length-append}
use Rattle.std.proofs.lemmas.List.Elements.{filter-append}
use Rattle.doc_model.specs.declared.style.Family.{Family}
use Rattle.doc_model.specs.declared.style.Style.{Style}
use Rattle.load_model.specs.declared.element.Element.{Element}
use Rattle.load_model.specs.Offences.{place_if, place_of, places_of_loops}
use Rattle.load_model.specs.Styles.{InPart, StyleName, Names, family_of, name_of, style_in, style_of, styles, names_of, kept_styles, have_same_family, have_same_name}
use Rattle.style_model.specs.Lineage.{is_same_family, is_named, style_named, would_loop}
use Rattle.style_loops.specs.Loops.{AreDistinct, loops}
use Rattle.style_loops.proofs.PlaceLemmas.{bytes_same, bytes_self, family_self, family_same}
use Rattle.loop_faults.specs.Looped.{looped_at}
use Rattle.loop_faults.proofs.OnceLemmas.{In, in_front, in_behind, in_filter, in_flat_map, find_once, firsts_once, parted, each_one}

-- the name of a style by the family and name that it states
abbrev name_by : Option Family → Option (List ℕ) → List StyleName
name_by of name = flat_map (λ f. map (λ n. record { family = f; name = n }) (option_to_list name)) (option_to_list of)

or_none : (b : Bool) → (b || false) ≡ b
or_none true = refl
or_none false = refl

-- at most one style is made
single : (make : StyleName → Style) (test : Style → Bool) (of : Option Family) (name : Option (List ℕ))
    → length (filter test (map make (name_by of name))) ≡ cond (list_any test (map make (name_by of name))) 1 0
single make test None name = refl
single make test (Some of) None = refl
single make test (Some of) (Some name) = by_test (test (make (record { family = of; name = name }))) where
  by_test : (b : Bool) → length (cond b (make (record { family = of; name = name }) ∷ []) []) ≡ cond (b || false) 1 0
  by_test true = refl
  by_test false = refl

-- one that is named so is stated so
stated_so : (make : StyleName → Style) → ((one : StyleName) → (make one).family ≡ one.family) → ((one : StyleName) → (make one).name ≡ one.name) → (wanted : Family) (text : List ℕ) (of : Option Family) (name : Option (List ℕ))
    → list_any (is_named wanted text) (map make (name_by of name)) ≡ true → (of ≡ Some wanted) × (name ≡ Some text)
stated_so make mf mn wanted text None name e = absurd (false≢true e)
stated_so make mf mn wanted text (Some of) None e = absurd (false≢true e)
stated_so make mf mn wanted text (Some of) (Some name) e =
    let one : StyleName = record { family = of; name = name } in
    let both = and_parts (is_same_family (make one).family wanted) (bytes_eq (make one).name text) (sym (or_none (is_named wanted text (make one))) ∙ e) in
    (ap (λ (f : Family). Some f) (sym (mf one) ∙ family_same (make one).family wanted both.0), ap (λ (n : List ℕ). Some n) (sym (mn one) ∙ bytes_same (make one).name text both.1))

module _ (root : Element) where
  abbrev names : Names
  names = names_of root

  abbrev kept : List InPart
  kept = kept_styles root

  abbrev all : List Style
  all = styles names root

  abbrev make : InPart → StyleName → Style
  make in_part style = style_of names in_part.auto style.family style.name in_part.element

  module _ (of : Family) (text : List ℕ) where
    abbrev named_so : InPart → Bool
    named_so in_part = list_any (is_named of text) (style_in names in_part)

    states_so : (in_part : InPart) → named_so in_part ≡ true → (family_of in_part.element ≡ Some of) × (name_of in_part.element ≡ Some text)
    states_so in_part e = stated_so (make in_part) (λ one. refl) (λ one. refl) of text (family_of in_part.element) (name_of in_part.element) e

    same_so : (one other : InPart) → named_so one ≡ true → named_so other ≡ true → (have_same_family one.element other.element && have_same_name one.element other.element) ≡ true
    same_so one other e f =
        let a = states_so one e in
        let b = states_so other f in
        let families : have_same_family one.element other.element ≡ true =
        ap₂ (λ (x y : Option Family). option_map_or (λ own. option_map_or (is_same_family own) y false) x false) a.0 b.0 ∙ family_self of in
        let texts : have_same_name one.element other.element ≡ true =
        ap₂ (λ (x y : Option (List ℕ)). option_map_or (λ name. option_map_or (bytes_eq name) y false) x false) a.1 b.1 ∙ bytes_self text in
        ap₂ (λ x y. x && y) families texts

    count_half : (half : List InPart) → length (filter (is_named of text) (flat_map (style_in names) half)) ≡ length (filter named_so half)
    count_half half = each_one (style_in names) (is_named of text) (λ in_part. single (make in_part) (is_named of text) (family_of in_part.element) (name_of in_part.element)) half

    distinct_here : length (filter (is_named of text) all) ≤ 1
    distinct_here =
        let plain = filter (λ (in_part : InPart). not in_part.auto) kept in
        let auto = filter (λ (in_part : InPart). in_part.auto) kept in
        let size = ap (λ (some : List Style). length some) (filter-append (is_named of text) (flat_map (style_in names) plain) (flat_map (style_in names) auto)) in
        let sum = length-append (filter (is_named of text) (flat_map (style_in names) plain)) (filter (is_named of text) (flat_map (style_in names) auto)) in
        let one = count_half plain in
        let two = count_half auto in
        let parts = parted named_so (λ (in_part : InPart). in_part.auto) kept in
        let few : length (filter named_so kept) ≤ 1 = firsts_once _ named_so _ same_so in
        omega (arith, size, sum, one, two, parts, few)

  pub distinct : AreDistinct all
  distinct of text = distinct_here of text

  -- the style of a part is among all
  is_there : (in_part : InPart) (style : Style) → In in_part kept → In style (style_in names in_part) → In style all
  is_there in_part style here there = by_auto in_part.auto refl where
    by_auto : (b : Bool) → in_part.auto ≡ b → In style all
    by_auto true e =
        in_behind style (flat_map (style_in names) (filter (λ (one : InPart). not one.auto) kept)) (flat_map (style_in names) (filter (λ (one : InPart). one.auto) kept))
        (in_flat_map (style_in names) in_part style (filter (λ (one : InPart). one.auto) kept) (in_filter (λ (one : InPart). one.auto) in_part kept e here) there)
    by_auto false e =
        in_front style (flat_map (style_in names) (filter (λ (one : InPart). not one.auto) kept)) (flat_map (style_in names) (filter (λ (one : InPart). one.auto) kept))
        (in_flat_map (style_in names) in_part style (filter (λ (one : InPart). not one.auto) kept) (in_filter (λ (one : InPart). not one.auto) in_part kept (ap not e) here) there)

  place_once : (b : Bool) (place : ℕ) → place_if (b || false) place ≡ place_if b place ++ []
  place_once true place = refl
  place_once false place = refl

  abbrev loop_at : InPart → Style → List ℕ
  loop_at in_part style = place_if (would_loop all style.family style.name style.parent) (place_of in_part.element)

  -- what is told by the name of a style is what is told of the style
  by_name : (in_part : InPart) (of : Option Family) (name : Option (List ℕ)) → ((style : Style) → In style (map (make in_part) (name_by of name)) → In style all)
      → place_if (list_any (λ (one : StyleName). option_map_or (loops all) (style_named all one.family one.name) false) (name_by of name)) (place_of in_part.element) ≡ flat_map (loop_at in_part) (map (make in_part) (name_by of name))
  by_name in_part None name there = refl
  by_name in_part (Some of) None there = refl
  by_name in_part (Some of) (Some name) there =
      let style : Style = make in_part (record { family = of; name = name }) in
      let found : style_named all of name ≡ Some style =
      find_once (is_named of name) style all (distinct of name) (ap₂ (λ x y. x && y) (family_self of) (bytes_self name)) (there style (inl refl)) in
      ap (λ (o : Option Style). place_if (option_map_or (loops all) o false || false) (place_of in_part.element)) found ∙ place_once (loops all style) (place_of in_part.element)

  same_each : (f g : InPart → List ℕ) (some : List InPart) → ((in_part : InPart) → In in_part some → f in_part ≡ g in_part) → flat_map f some ≡ flat_map g some
  same_each f g [] same = refl
  same_each f g (one ∷ some) same = ap₂ (λ (here more : List ℕ). here ++ more) (same one (inl refl)) (same_each f g some (λ in_part h. same in_part (inr h)))

  pub loops_are : flat_map (looped_at all) kept ≡ places_of_loops root
  loops_are = same_each (looped_at all) (λ in_part. flat_map (loop_at in_part) (style_in names in_part)) kept
      (λ in_part here. by_name in_part (family_of in_part.element) (name_of in_part.element) (λ style there. is_there in_part style here there))
