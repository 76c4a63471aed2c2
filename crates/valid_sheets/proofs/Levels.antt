-- The levels of lists and of the outline are valid.
use Rattle.std.proofs.Common.{◌≡◌, ℕ, ◌<◌, ◌==◌, ◌&&◌, ◌||◌, Bool, true, false, List, [], ◌∷◌, map, filter, arith, refl, sym, ap, subst, ◌∙◌, eqb-true, eq-eqb, Option, Some, None, option_to_list, is_some}
use Rattle.std.specs.List.{AllByRecursion as Each}
use Rattle.std.specs.Option.{option_map_or}
use Rattle.std.proofs.lemmas.Bool.{false≢true}
use Rattle.markup_nodes.specs.Node.{Node, Element as Inner, Char as Letter}
use Rattle.markup_nodes.specs.Nodes.{elems}
use Rattle.doc_model.specs.Chars.{IsLegal}
use Rattle.doc_model.specs.declared.list_style.ListLevel.{ListLevel}
use Rattle.doc_model.specs.declared.list_style.ListStyle.{ListStyle}
use Rattle.doc_model.specs.Valid.{AreLevels, IsLevel, IsNumberLevel}
use Rattle.load_model.specs.declared.names.Key.TheVariants as key
use Rattle.load_model.specs.declared.names.Tag.TheVariants as tag
use Rattle.load_model.specs.declared.element.Attribute.{Attribute}
use Rattle.load_model.specs.declared.element.Element.{Element, out-Element}
use Rattle.load_model.specs.Left.{attributes_of, children, is}
use Rattle.load_model.specs.Loaded.{draft_of}
use Rattle.load_model.specs.Styles.{InPart, in_parts, is_level, kept_levels, kept_lists, kept_outline, level_of, level_with, levels, parts_of_kind, style_parts}
use Rattle.load_model.specs.Values as value
use Rattle.load_model.specs.Values.{stated, stated_or}
use Rattle.legal_trees.specs.Legal.{IsLegalNode, IsLegalTree}
use Rattle.legal_trees.proofs.Trees.{attributes_legal, nodes_legal}
use Rattle.tree_places.proofs.Within.{Pairs, all_pairs, pairs_within, within_filter}
use Rattle.valid_sheets.specs.Sheets.{AreListsValid}
use Rattle.valid_sheets.proofs.Lists.{each_all, each_filter, each_firsts, each_flat, each_found, each_map, each_passes, each_so, each_with, firsts_apart, pairs_each, pairs_flat, pairs_so}
use Rattle.valid_sheets.proofs.Names.{own_name}
use Rattle.valid_sheets.proofs.Stated.{each_stated, is_stated, some_same}

-- what a legal element holds is legal
inner_legal : (nodes : List (Node Element)) → Each IsLegalNode nodes → Each IsLegalTree (elems nodes)
inner_legal [] each = tt
inner_legal (Inner element ∷ nodes) each = (each.0, inner_legal nodes each.1)
inner_legal (Letter c ∷ nodes) each = inner_legal nodes each.1

pub children_legal : (element : Element) → IsLegalTree element → Each IsLegalTree (children element)
children_legal element legal = inner_legal (out-Element element).nodes (nodes_legal element legal)

pub parts_legal : (root : Element) → IsLegalTree root → Each (λ (in_part : InPart). IsLegalTree in_part.element) (in_parts root)
parts_legal root legal =
    each_flat (λ (in_part : InPart). IsLegalTree in_part.element) (λ part. map (λ element. record { auto = is tag.AutomaticStyles part; element = element }) (children part)) (style_parts root)
    (each_so IsLegalTree (λ part. Each (λ (in_part : InPart). IsLegalTree in_part.element) (map (λ element. record { auto = is tag.AutomaticStyles part; element = element }) (children part)))
    (λ part own. each_map (λ (in_part : InPart). IsLegalTree in_part.element) (λ element. record { auto = is tag.AutomaticStyles part; element = element }) (children part) (children_legal part own))
    (style_parts root) (each_firsts IsLegalTree _ _ (each_filter IsLegalTree _ (children root) (children_legal root legal))))

pub held_legal : (root : Element) → IsLegalTree root → (of_kind : Element → Bool) → Each IsLegalTree (parts_of_kind of_kind root)
held_legal root legal of_kind =
    each_filter IsLegalTree of_kind (map (λ in_part. in_part.element) (in_parts root)) (each_map IsLegalTree (λ in_part. in_part.element) (in_parts root) (parts_legal root legal))

-- ten numbers that rise
rising : Pairs (λ (one other : ℕ). one < other) (1 ∷ 2 ∷ 3 ∷ 4 ∷ 5 ∷ 6 ∷ 7 ∷ 8 ∷ 9 ∷ 10 ∷ [])
rising = ((omega arith, (omega arith, (omega arith, (omega arith, (omega arith, (omega arith, (omega arith, (omega arith, (omega arith, tt))))))))), ((omega arith, (omega arith, (omega arith, (omega arith, (omega arith, (omega arith, (omega arith, (omega arith, tt)))))))), ((omega arith, (omega arith, (omega arith, (omega arith, (omega arith, (omega arith, (omega arith, tt))))))), ((omega arith, (omega arith, (omega arith, (omega arith, (omega arith, (omega arith, tt)))))), ((omega arith, (omega arith, (omega arith, (omega arith, (omega arith, tt))))), ((omega arith, (omega arith, (omega arith, (omega arith, tt)))), ((omega arith, (omega arith, (omega arith, tt))), ((omega arith, (omega arith, tt)), ((omega arith, tt), (tt, tt))))))))))

-- each level has its number
number_is : (level : ℕ) (element : Element) → (level_with level element).level ≡ level
number_is level element = by_kind (is tag.BulletLevel element) refl where
  by_kind : (b : Bool) → is tag.BulletLevel element ≡ b → (level_with level element).level ≡ level
  by_kind true e = rw e refl
  by_kind false e = rw e refl

pairs_map : {X Y : Type 0} (R : Y → Y → Type 0) (f : X → Y) (xs : List X) → Pairs (λ x y. R (f x) (f y)) xs → Pairs R (map f xs)
pairs_map R f [] pairs = tt
pairs_map R f (x ∷ xs) pairs = (each_map (R (f x)) f xs pairs.0, pairs_map R f xs pairs.1)

-- no two kept levels have one number
never_two : (n : ℕ) (one other : Option ℕ) → option_map_or (λ (given : ℕ). given == n) one false ≡ true → option_map_or (λ (given : ℕ). given == n) other false ≡ true
    → option_map_or (λ (level : ℕ). option_map_or (λ (given : ℕ). given == level) other false) one false ≡ false → ⊥
never_two n None other e f g = false≢true e
never_two n (Some i) None e f g = false≢true f
never_two n (Some i) (Some j) e f g = false≢true (sym g ∙ eq-eqb j i (eqb-true j n f ∙ sym (eqb-true i n e)))

abbrev Rises : ListLevel → ListLevel → Type 0
Rises one other = one.level < other.level

module _ (of_kind : Element → Bool) (list : Element) where
  abbrev numbered : ℕ → List Element
  numbered n = filter (λ element. option_map_or (λ (given : ℕ). given == n) (level_of element) false) (kept_levels of_kind list)

  abbrev at : ℕ → List ListLevel
  at n = map (level_with n) (numbered n)

  alone : (n : ℕ) → Pairs Rises (at n)
  alone n =
      pairs_map Rises (level_with n) (numbered n)
      (pairs_each (λ element. option_map_or (λ (given : ℕ). given == n) (level_of element) false ≡ true)
      (λ one other. option_map_or (λ (level : ℕ). option_map_or (λ (given : ℕ). given == level) (level_of other) false) (level_of one) false ≡ false)
      (λ one other. Rises (level_with n one) (level_with n other))
      (λ one other e f g. absurd (never_two n (level_of one) (level_of other) e f g)) (numbered n)
      (each_passes (λ element. option_map_or (λ (given : ℕ). given == n) (level_of element) false) (kept_levels of_kind list))
      (pairs_within (λ one other. option_map_or (λ (level : ℕ). option_map_or (λ (given : ℕ). given == level) (level_of other) false) (level_of one) false ≡ false) (numbered n) (kept_levels of_kind list)
      (within_filter (λ element. option_map_or (λ (given : ℕ). given == n) (level_of element) false) (kept_levels of_kind list)) (firsts_apart _ _)))

  across : (n m : ℕ) → n < m → Each (λ one. Each (Rises one) (at m)) (at n)
  across n m l =
      each_map (λ one. Each (Rises one) (at m)) (level_with n) (numbered n) (each_all (λ element. Each (Rises (level_with n element)) (at m))
      (λ element. each_map (Rises (level_with n element)) (level_with m) (numbered m) (each_all (λ other. Rises (level_with n element) (level_with m other))
      (λ other. subst (λ (i : ℕ). i < (level_with m other).level) (sym (number_is n element)) (subst (λ (j : ℕ). n < j) (sym (number_is m other)) l)) (numbered m))) (numbered n))

  pub levels_rise : Pairs Rises (levels of_kind list)
  levels_rise = pairs_flat Rises at (1 ∷ 2 ∷ 3 ∷ 4 ∷ 5 ∷ 6 ∷ 7 ∷ 8 ∷ 9 ∷ 10 ∷ []) (each_all (λ n. Pairs Rises (at n)) alone (1 ∷ 2 ∷ 3 ∷ 4 ∷ 5 ∷ 6 ∷ 7 ∷ 8 ∷ 9 ∷ 10 ∷ []))
      (pairs_so (λ (one other : ℕ). one < other) (λ n m. Each (λ one. Each (Rises one) (at m)) (at n)) across (1 ∷ 2 ∷ 3 ∷ 4 ∷ 5 ∷ 6 ∷ 7 ∷ 8 ∷ 9 ∷ 10 ∷ []) rising)

  -- what holds of each level that can be read holds of all
  pub of_levels : (P : ListLevel → Type 0) → ((n : ℕ) (element : Element) → IsLegalTree element → of_kind element ≡ true → P (level_with n element)) → IsLegalTree list → Each P (levels of_kind list)
  of_levels P all legal =
      let kept = kept_levels of_kind list in
      let legals = each_firsts IsLegalTree _ _ (each_filter IsLegalTree (λ element. of_kind element && is_some (level_of element)) (children list) (children_legal list legal)) in
      let kinds = each_firsts (λ element. of_kind element ≡ true) _ _ (each_so (λ element. (of_kind element && is_some (level_of element)) ≡ true) (λ element. of_kind element ≡ true) (λ element is. first_true (of_kind element) (is_some (level_of element)) is)
      (filter (λ element. of_kind element && is_some (level_of element)) (children list)) (each_passes (λ element. of_kind element && is_some (level_of element)) (children list))) in
      let both = each_with IsLegalTree (λ element. of_kind element ≡ true) (λ element. IsLegalTree element × (of_kind element ≡ true)) (λ element one other. (one, other)) kept legals kinds in
      each_flat P at (1 ∷ 2 ∷ 3 ∷ 4 ∷ 5 ∷ 6 ∷ 7 ∷ 8 ∷ 9 ∷ 10 ∷ []) (each_all (λ n. Each P (at n))
      (λ n. each_map P (level_with n) (numbered n) (each_so (λ element. IsLegalTree element × (of_kind element ≡ true)) (λ element. P (level_with n element)) (λ element is. all n element is.0 is.1) (numbered n)
      (each_filter (λ element. IsLegalTree element × (of_kind element ≡ true)) (λ element. option_map_or (λ (given : ℕ). given == n) (level_of element) false) kept both))) (1 ∷ 2 ∷ 3 ∷ 4 ∷ 5 ∷ 6 ∷ 7 ∷ 8 ∷ 9 ∷ 10 ∷ []))
    where
      first_true : (a b : Bool) → (a && b) ≡ true → a ≡ true
      first_true true b e = refl
      first_true false b e = absurd (false≢true e)

-- what labels a level is legal
first_two : (a b : Bool) → (a || b) ≡ true → a ≡ false → b ≡ true
first_two true b e f = absurd (false≢true (sym f))
first_two false b e f = e

second_true : (a b : Bool) → (a && b) ≡ true → b ≡ true
second_true true b e = e
second_true false b e = absurd (false≢true e)

legal_one : (text : List ℕ) (c : ℕ) → Each IsLegal text → value.one_character text ≡ Some c → IsLegal c
legal_one [] c legal e = cc
legal_one (one ∷ []) c legal e = subst IsLegal (some_same one c e) legal.0
legal_one (one ∷ other ∷ more) c legal e = cc

legal_any : (text given : List ℕ) → Each IsLegal text → value.any_text text ≡ Some given → Each IsLegal given
legal_any text given legal e = subst (Each IsLegal) (some_same text given e) legal

stated_legal : (found : Option ℕ) → is_some found ≡ true → Each IsLegal (option_to_list found) → IsLegal (option_map_or (λ c. c) found 0)
stated_legal None some legal = absurd (false≢true some)
stated_legal (Some c) some legal = legal.0

module _ (element : Element) (legal : IsLegalTree element) where
  attributes : List Attribute
  attributes = attributes_of element

  prefix_legal : Each IsLegal (stated_or key.NumberPrefix value.any_text [] (attributes_of element))
  prefix_legal = is_stated (Each IsLegal) (Each IsLegal) value.any_text legal_any key.NumberPrefix [] (attributes_of element) tt (attributes_legal element legal)

  suffix_legal : Each IsLegal (stated_or key.NumberSuffix value.any_text [] (attributes_of element))
  suffix_legal = is_stated (Each IsLegal) (Each IsLegal) value.any_text legal_any key.NumberSuffix [] (attributes_of element) tt (attributes_legal element legal)

  bullet_legal : is_some (stated key.BulletChar value.one_character (attributes_of element)) ≡ true → IsLegal (stated_or key.BulletChar value.one_character 0 (attributes_of element))
  bullet_legal some = stated_legal (stated key.BulletChar value.one_character (attributes_of element)) some (each_stated (Each IsLegal) IsLegal value.one_character legal_one key.BulletChar (attributes_of element) (attributes_legal element legal))

  -- a bullet has its character
  pub level_legal : (n : ℕ) → (is tag.BulletLevel element ≡ true → is_some (stated key.BulletChar value.one_character (attributes_of element)) ≡ true) → IsLevel (level_with n element)
  level_legal n some = by_kind (is tag.BulletLevel element) refl where
    by_kind : (b : Bool) → is tag.BulletLevel element ≡ b → IsLevel (level_with n element)
    by_kind true e = rw e (bullet_legal (some e))
    by_kind false e = rw e (prefix_legal, suffix_legal)

  pub number_level : (n : ℕ) → is tag.BulletLevel element ≡ false → IsNumberLevel (level_with n element)
  number_level n e = rw e tt

-- an element of one tag is of no other
one_tag : (element : Element) → is tag.NumberLevel element ≡ true → is tag.BulletLevel element ≡ true → ⊥
one_tag element e f = false≢true (ap (λ n. n == 18) (sym (eqb-true _ 17 e)) ∙ f)

no_bullet : (element : Element) → is tag.OutlineLevel element ≡ true → is tag.BulletLevel element ≡ false
no_bullet element e = ap (λ n. n == 18) (eqb-true _ 19 e)

bullet_some : (element : Element) → is_level element ≡ true → is tag.BulletLevel element ≡ true → is_some (stated key.BulletChar value.one_character (attributes_of element)) ≡ true
bullet_some element level bullet = by_number (is tag.NumberLevel element) refl level where
  by_number : (b : Bool) → is tag.NumberLevel element ≡ b → (b || (is tag.BulletLevel element && is_some (stated key.BulletChar value.one_character (attributes_of element)))) ≡ true
      → is_some (stated key.BulletChar value.one_character (attributes_of element)) ≡ true
  by_number true e level = absurd (one_tag element e bullet)
  by_number false e level = second_true (is tag.BulletLevel element) (is_some (stated key.BulletChar value.one_character (attributes_of element))) level

-- lists, and the outline
pub list_levels : (list : Element) → IsLegalTree list → AreLevels (levels is_level list)
list_levels list legal = (of_levels is_level list IsLevel (λ n element own level. level_legal element own n (bullet_some element level)) legal, all_pairs Rises (levels is_level list) (levels_rise is_level list))

outline_levels : (list : Element) → IsLegalTree list → AreLevels (levels (is tag.OutlineLevel) list) × Each IsNumberLevel (levels (is tag.OutlineLevel) list)
outline_levels list legal = (
  (of_levels (is tag.OutlineLevel) list IsLevel (λ n element own level. level_legal element own n (λ bullet. absurd (false≢true (sym (no_bullet element level) ∙ bullet)))) legal, all_pairs Rises (levels (is tag.OutlineLevel) list) (levels_rise (is tag.OutlineLevel) list)),
  of_levels (is tag.OutlineLevel) list IsNumberLevel (λ n element own level. number_level element own n (no_bullet element level)) legal,
)

no_levels : AreLevels []
no_levels = (tt, all_pairs Rises [] tt)

pub lists_valid : (root : Element) → IsLegalTree root → AreListsValid (draft_of root)
lists_valid root legal =
    let held = held_legal root legal (λ element. true) in
    let lists = each_firsts IsLegalTree _ _ (each_filter IsLegalTree _ (parts_of_kind (λ element. true) root) held) in
    let of_outline = outline_by (kept_outline root) (each_found IsLegalTree (is tag.OutlineStyle) (parts_of_kind (λ element. true) root) held) in
    record {
      lists = each_flat (λ (list : ListStyle). AreLevels list.levels) (λ element. map (λ name. record { name = name; levels = levels is_level element }) (own_name element)) (kept_lists root)
          (each_so IsLegalTree (λ element. Each (λ (list : ListStyle). AreLevels list.levels) (map (λ name. record { name = name; levels = levels is_level element }) (own_name element)))
          (λ element own. each_map (λ (list : ListStyle). AreLevels list.levels) (λ name. record { name = name; levels = levels is_level element }) (own_name element) (each_all (λ name. AreLevels (levels is_level element)) (λ name. list_levels element own) (own_name element)))
          (kept_lists root) lists);
      outline = (refl, of_outline.0, of_outline.1);
    }
  where
    outline_by : (found : Option Element) → Each IsLegalTree (option_to_list found) → AreLevels (option_map_or (levels (is tag.OutlineLevel)) found []) × Each IsNumberLevel (option_map_or (levels (is tag.OutlineLevel)) found [])
    outline_by None each = (no_levels, tt)
    outline_by (Some list) each = outline_levels list each.0
