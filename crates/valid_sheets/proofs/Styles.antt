-- Styles are apart by family and name, and those that aren't automatic stand first.
use Rattle.std.proofs.Common.{◌≡◌, ◌≢◌, ℕ, ◌&&◌, not, Bool, true, false, List, [], ◌∷◌, ◌++◌, map, filter, refl, sym, ap, ◌∙◌, Option, Some, None, option_to_list, bytes_eq}
use Rattle.std.specs.List.{flat_map, AllByRecursion as Each}
use Rattle.std.specs.Option.{option_map_or}
use Rattle.std.proofs.lemmas.Bool.{false≢true}
use Rattle.std.proofs.lemmas.Slice.Eq.{bytes_eq-Decides}
use Rattle.doc_model.specs.declared.style.Family.{Family}
use Rattle.doc_model.specs.declared.style.Family.TheVariants as family
use Rattle.doc_model.specs.declared.style.Style.{Style}
use Rattle.style_model.specs.Lineage.{is_same_family}
use Rattle.load_model.specs.declared.element.Element.{Element}
use Rattle.load_model.specs.Loaded.{draft_of}
use Rattle.load_model.specs.Styles.{InPart, Names, StyleName, family_of, have_same_family, have_same_name, kept_styles, name_of, names_of, style_in, style_name, style_of}
use Rattle.tree_places.proofs.Within.{Pairs, all_pairs, pairs_within, within_filter}
use Rattle.valid_sheets.specs.Sheets.{AreStylesNamed}
use Rattle.valid_sheets.proofs.Lists.{each_all, each_append, each_flat, each_map, each_passes, each_so, firsts_apart, pairs_across, pairs_all, pairs_append, pairs_flat, pairs_so}
use Rattle.valid_sheets.proofs.Names.{own_given, own_name}

-- the families and names that are stated
abbrev called : Option Family → List (List ℕ) → List StyleName
called of names = flat_map (λ (one : Family). map (λ (name : List ℕ). record { family = one; name = name }) names) (option_to_list of)

-- two styles of one family have different names
abbrev AreApart : Style → Style → Type 0
AreApart one other = one.family ≡ other.family → one.name ≢ other.name

turned : (one other : Style) → AreApart one other → AreApart other one
turned one other apart same name = apart (sym same) (sym name)

each_turned : {X : Type 0} (R S : X → X → Type 0) → ((x y : X) → R x y → S y x) → (xs ys : List X) → Each (λ x. Each (R x) ys) xs → Each (λ y. Each (S y) xs) ys
each_turned R S turn xs [] each = tt
each_turned {X} R S turn xs (y ∷ ys) each = (heads xs each, each_turned R S turn xs ys (tails xs each)) where
  heads : (xs : List X) → Each (λ x. Each (R x) (y ∷ ys)) xs → Each (S y) xs
  heads [] each = tt
  heads (x ∷ xs) each = (turn x y each.0.0, heads xs each.1)

  tails : (xs : List X) → Each (λ x. Each (R x) (y ∷ ys)) xs → Each (λ x. Each (R x) ys) xs
  tails [] each = tt
  tails (x ∷ xs) each = (each.0.1, tails xs each.1)

same_self : (one : Family) → is_same_family one one ≡ true
same_self family.Paragraph = refl
same_self family.Text = refl
same_self family.Section = refl

both_true : (a b : Bool) → a ≡ true → b ≡ true → (a && b) ≡ false → ⊥
both_true true true e f g = false≢true (sym g)
both_true true false e f g = cc
both_true false b e f g = cc

-- of different elements
module _ (made other_made : StyleName → Style) (family_made : (style : StyleName) → (made style).family ≡ style.family) (name_made : (style : StyleName) → (made style).name ≡ style.name)
    (family_other : (style : StyleName) → (other_made style).family ≡ style.family) (name_other : (style : StyleName) → (other_made style).name ≡ style.name) where
  apart_by : (of more : Option Family) (name next : Option (List ℕ))
      → (option_map_or (λ (own : Family). option_map_or (is_same_family own) more false) of false && option_map_or (λ (own : List ℕ). option_map_or (bytes_eq own) next false) name false) ≡ false
      → Each (λ one. Each (AreApart one) (map other_made (called more (option_to_list next)))) (map made (called of (option_to_list name)))
  apart_by None more name next e = tt
  apart_by (Some of) more None next e = tt
  apart_by (Some of) None (Some name) next e = (tt, tt)
  apart_by (Some of) (Some more) (Some name) None e = (tt, tt)
  apart_by (Some of) (Some more) (Some name) (Some next) e =
      let one : StyleName = record { family = of; name = name } in
      let other : StyleName = record { family = more; name = next } in (
        (
          λ same named. both_true (is_same_family of more) (bytes_eq name next)
              (ap (is_same_family of) (sym (sym (family_made one) ∙ same ∙ family_other other)) ∙ same_self of)
              ((bytes_eq-Decides name next).1 (sym (name_made one) ∙ named ∙ name_other other)) e,
          tt,
        ),
        tt,
      )

  alone : (of : Option Family) (name : Option (List ℕ)) → Pairs AreApart (map made (called of (option_to_list name)))
  alone None name = tt
  alone (Some of) None = tt
  alone (Some of) (Some name) = (tt, tt)

module _ (root : Element) where
  abbrev names : Names
  names = names_of root

  abbrev held : InPart → List Style
  held in_part = style_in names in_part

  abbrev made : InPart → StyleName → Style
  made in_part style = style_of names in_part.auto style.family style.name in_part.element

  abbrev Across : InPart → InPart → Type 0
  Across one other = Each (λ style. Each (AreApart style) (held other)) (held one)

  abbrev plain : List InPart
  plain = filter (λ in_part. not in_part.auto) (kept_styles root)

  abbrev automatic : List InPart
  automatic = filter (λ in_part. in_part.auto) (kept_styles root)

  kept_apart : Pairs Across (kept_styles root)
  kept_apart =
      pairs_so (λ one other. (have_same_family one.element other.element && have_same_name one.element other.element) ≡ false) Across
      (λ one other e. apart_by (made one) (made other) (λ style. refl) (λ style. refl) (λ style. refl) (λ style. refl) (family_of one.element) (family_of other.element) (name_of one.element) (name_of other.element) e)
      (kept_styles root) (firsts_apart _ _)

  own_apart : (in_part : InPart) → Pairs AreApart (held in_part)
  own_apart in_part = alone (made in_part) (made in_part) (λ style. refl) (λ style. refl) (λ style. refl) (λ style. refl) (family_of in_part.element) (name_of in_part.element)

  part_apart : (test : InPart → Bool) → Pairs AreApart (flat_map held (filter test (kept_styles root)))
  part_apart test =
      pairs_flat AreApart held (filter test (kept_styles root)) (each_all (λ in_part. Pairs AreApart (held in_part)) own_apart (filter test (kept_styles root)))
      (pairs_within Across (filter test (kept_styles root)) (kept_styles root) (within_filter test (kept_styles root)) kept_apart)

  across : Each (λ one. Each (AreApart one) (flat_map held automatic)) (flat_map held plain)
  across =
      let two = pairs_across Across (λ in_part. in_part.auto) (λ in_part. not in_part.auto) (λ one other is. each_turned AreApart AreApart turned (held one) (held other) is) (kept_styles root)
      (λ in_part is other. never in_part.auto is other) kept_apart in
      each_flat (λ one. Each (AreApart one) (flat_map held automatic)) held plain (each_so (λ one. Each (Across one) automatic) (λ one. Each (λ style. Each (AreApart style) (flat_map held automatic)) (held one)) (λ one more. joined one automatic more) plain two)
    where
      never : (b : Bool) → b ≡ true → not b ≡ true → ⊥
      never true e f = cc
      never false e f = cc

      add : (styles front behind : List Style) → Each (λ style. Each (AreApart style) front) styles → Each (λ style. Each (AreApart style) behind) styles → Each (λ style. Each (AreApart style) (front ++ behind)) styles
      add [] front behind one other = tt
      add (style ∷ styles) front behind one other = (each_append (AreApart style) front behind one.0 other.0, add styles front behind one.1 other.1)

      joined : (one : InPart) (others : List InPart) → Each (Across one) others → Each (λ style. Each (AreApart style) (flat_map held others)) (held one)
      joined one [] each = each_all (λ style. Unit {0}) (λ style. tt) (held one)
      joined one (other ∷ others) each = add (held one) (held other) (flat_map held others) each.0 (joined one others each.1)

  -- automatic or not
  abbrev InOrder : Style → Style → Type 0
  InOrder one other = other.auto ≡ false → one.auto ≡ false

  autos : (b : Bool) (parts : List InPart) → Each (λ in_part. in_part.auto ≡ b) parts → Each (λ style. style.auto ≡ b) (flat_map held parts)
  autos b parts each =
      each_flat (λ style. style.auto ≡ b) held parts
      (each_so (λ in_part. in_part.auto ≡ b) (λ in_part. Each (λ style. style.auto ≡ b) (held in_part))
      (λ in_part is. each_map (λ style. style.auto ≡ b) (made in_part) (style_name in_part.element) (each_all (λ style. in_part.auto ≡ b) (λ style. is) (style_name in_part.element))) parts each)

  not_auto : (b : Bool) → not b ≡ true → b ≡ false
  not_auto true e = cc
  not_auto false e = refl

  plain_autos : Each (λ style. style.auto ≡ false) (flat_map held plain)
  plain_autos = autos false plain (each_so (λ in_part. not in_part.auto ≡ true) (λ in_part. in_part.auto ≡ false) (λ in_part is. not_auto in_part.auto is) plain (each_passes (λ in_part. not in_part.auto) (kept_styles root)))

  in_order : Pairs InOrder (flat_map held plain ++ flat_map held automatic)
  in_order =
      pairs_append InOrder (flat_map held plain) (flat_map held automatic)
      (pairs_all (λ style. style.auto ≡ false) InOrder (λ one other is more e. is) (flat_map held plain) plain_autos)
      (pairs_all (λ style. style.auto ≡ true) InOrder (λ one other is more e. absurd (false≢true (sym e ∙ more))) (flat_map held automatic) (autos true automatic (each_passes (λ in_part. in_part.auto) (kept_styles root))))
      (each_so (λ style. style.auto ≡ false) (λ style. Each (InOrder style) (flat_map held automatic)) (λ style is. each_all (InOrder style) (λ other e. is) (flat_map held automatic)) (flat_map held plain) plain_autos)

  -- each style has a name
  one_given : (in_part : InPart) → Each (λ style. style.name ≢ []) (held in_part)
  one_given in_part =
      each_map (λ style. style.name ≢ []) (made in_part) (style_name in_part.element)
      (each_flat (λ (style : StyleName). style.name ≢ []) (λ (of : Family). map (λ (name : List ℕ). record { family = of; name = name }) (own_name in_part.element)) (option_to_list (family_of in_part.element))
      (each_all (λ (of : Family). Each (λ (style : StyleName). style.name ≢ []) (map (λ (name : List ℕ). record { family = of; name = name }) (own_name in_part.element)))
      (λ of. each_map (λ (style : StyleName). style.name ≢ []) (λ (name : List ℕ). record { family = of; name = name }) (own_name in_part.element) (own_given in_part.element)) (option_to_list (family_of in_part.element))))

  given_in : (parts : List InPart) → Each (λ style. style.name ≢ []) (flat_map held parts)
  given_in parts = each_flat (λ style. style.name ≢ []) held parts (each_all (λ in_part. Each (λ style. style.name ≢ []) (held in_part)) one_given parts)

  pub styles_named : AreStylesNamed (draft_of root)
  styles_named = record {
    styles_in_order = all_pairs InOrder (flat_map held plain ++ flat_map held automatic) in_order;
    style_names = all_pairs AreApart (flat_map held plain ++ flat_map held automatic)
        (pairs_append AreApart (flat_map held plain) (flat_map held automatic) (part_apart (λ in_part. not in_part.auto)) (part_apart (λ in_part. in_part.auto)) across);
    style_names_given = each_append (λ style. style.name ≢ []) (flat_map held plain) (flat_map held automatic) (given_in plain) (given_in automatic);
  }
