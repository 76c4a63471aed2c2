-- Paragraphs of headers one behind another.
use Rattle.std.proofs.Common.{◌≡◌, ◌<◌, ◌≤◌, Bool, true, false, cond, List, [], ◌∷◌, ◌++◌, map, length, length-append, min, take, sym, ap, ◌∙◌, arith, nat_lt}
use Rattle.std.specs.List.{filter, flat_map}
use Rattle.std.proofs.lemmas.List.{append-nil, length-take, map-append, take-append-le, take_all}
use Rattle.std.proofs.lemmas.List.Elements.{filter-append}
use Rattle.load_model.specs.declared.element.Element.{Element}
use Rattle.load_model.specs.Headers.{is_paragraph}
use Rattle.load_model.specs.Offences.{Counted, too_long}
use Rattle.sheet_values.proofs.Steps.{flat_behind}

-- the first sixteen paragraphs, with one more element
last_of : (element : Element) (before : List Element) → filter is_paragraph (before ++ element ∷ []) ≡ filter is_paragraph before ++ cond (is_paragraph element) (element ∷ []) []
last_of element before = filter-append is_paragraph before (element ∷ [])

module _ (before found : List Element) (element : Element) (are : found ≡ take 16 (filter is_paragraph before)) where
  pub other_kept : is_paragraph element ≡ false → found ≡ take 16 (filter is_paragraph (before ++ element ∷ []))
  other_kept isnt =
      are ∙ ap (take 16) (sym (last_of element before ∙ ap (λ (b : Bool). filter is_paragraph before ++ cond b (element ∷ []) []) isnt ∙ append-nil (filter is_paragraph before)))

  count : length found ≡ min 16 (length (filter is_paragraph before))
  count = ap length are ∙ length-take 16 (filter is_paragraph before)

  pub full_kept : 16 ≤ length found → found ≡ take 16 (filter is_paragraph (before ++ element ∷ []))
  full_kept full =
      let enough : 16 ≤ length (filter is_paragraph before) = omega (arith, count) in
      are ∙ sym (ap (take 16) (last_of element before) ∙ take-append-le 16 (filter is_paragraph before) (cond (is_paragraph element) (element ∷ []) []) enough)

  pub one_kept : length found < 16 → is_paragraph element ≡ true → found ++ element ∷ [] ≡ take 16 (filter is_paragraph (before ++ element ∷ []))
  one_kept room is =
      let few : length (filter is_paragraph before) < 16 = omega (arith, count) in
      let all : take 16 (filter is_paragraph before) ≡ filter is_paragraph before = take_all 16 (filter is_paragraph before) (omega (arith, few)) in
      let longer : length (filter is_paragraph before ++ element ∷ []) ≤ 16 = omega (arith, length-append (filter is_paragraph before) (element ∷ []), few) in
      ap (λ (front : List Element). front ++ element ∷ []) (are ∙ all)
      ∙ sym (ap (take 16) (last_of element before ∙ ap (λ (b : Bool). filter is_paragraph before ++ cond b (element ∷ []) []) is) ∙ take_all 16 (filter is_paragraph before ++ element ∷ []) longer)

-- the places of those that are too long
pub long_append : (xs ys : List Counted) → too_long (xs ++ ys) ≡ too_long xs ++ too_long ys
long_append xs ys =
    ap (map (λ (par : Counted). par.place)) (filter-append (λ (par : Counted). nat_lt 32768 par.items) xs ys)
    ∙ map-append (λ (par : Counted). par.place) (filter (λ (par : Counted). nat_lt 32768 par.items) xs) (filter (λ (par : Counted). nat_lt 32768 par.items) ys)

pub long_behind : {X : Type 0} (f : X → Counted) (xs : List X) (x : X) → too_long (map f (xs ++ x ∷ [])) ≡ too_long (map f xs) ++ too_long (f x ∷ [])
long_behind f xs x = ap too_long (map-append f xs (x ∷ [])) ∙ long_append (map f xs) (f x ∷ [])

pub long_flat : {X : Type 0} (f : X → List Counted) (xs : List X) (x : X) → too_long (flat_map f (xs ++ x ∷ [])) ≡ too_long (flat_map f xs) ++ too_long (f x)
long_flat f xs x = ap too_long (flat_behind f xs x) ∙ long_append (flat_map f xs) (f x)
