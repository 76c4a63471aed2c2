-- Styles that are kept by their families and names.
use Rattle.std.proofs.Common.{◌≡◌, ℕ, Bool, true, false, cond, ◌&&◌, ◌||◌, List, [], ◌∷◌, ◌++◌, map, refl, sym, ap, ap₂, ◌∙◌, Option, Some, None, is_some}
use Rattle.std.specs.List.{list_any, filter, flat_map}
use Rattle.std.specs.Option.{option_map_or, option_to_list}
use Rattle.std.specs.Str.{bytes_eq}
use Rattle.std.proofs.lemmas.Bool.{false≢true}
use Rattle.std.proofs.lemmas.Grind.{flat_map-append}
use Rattle.std.proofs.lemmas.List.{append-nil, map-append}
use Rattle.std.proofs.lemmas.List.Elements.{filter-append}
use Rattle.doc_model.specs.declared.style.Family.{Family}
use Rattle.doc_model.specs.declared.style.Family.TheVariants as family
use Rattle.style_model.specs.Lineage.{is_same_family}
use Rattle.load_model.specs.declared.names.Tag.TheVariants as tag
use Rattle.load_model.specs.Left.{is, is_one_of}
use Rattle.load_model.specs.Styles.{InPart, StyleName, family_of, name_of, style_name, have_same_family, have_same_name}
use Rattle.sheet_kept.specs.Held.{seen}
use Rattle.sheet_kept.proofs.Firsts.{first_passes, first_fails}
use Rattle.sheet_kept.proofs.NamedLemmas.{name_through}
use Rattle.sheet_names.specs.declared.kept_styles.KeptStyles.{KeptStyles}
use Rattle.sheet_names.specs.Known.{of_family, names_with, with_name}
use Rattle.sheet_names.specs.Keys.{is_style, same_style, styles_among, names_among, KeepsStyles}

pub same_family : (left right : Family) → is_same_family left right ≡ true → left ≡ right
same_family family.Paragraph family.Paragraph e = refl
same_family family.Text family.Text e = refl
same_family family.Section family.Section e = refl
same_family family.Paragraph family.Text e = absurd (false≢true e)
same_family family.Paragraph family.Section e = absurd (false≢true e)
same_family family.Text family.Paragraph e = absurd (false≢true e)
same_family family.Text family.Section e = absurd (false≢true e)
same_family family.Section family.Paragraph e = absurd (false≢true e)
same_family family.Section family.Text e = absurd (false≢true e)

pub own_family : (of : Family) → is_same_family of of ≡ true
own_family family.Paragraph = refl
own_family family.Text = refl
own_family family.Section = refl

abbrev alike : Option Family → Option Family → Bool
alike one other = option_map_or (λ own. option_map_or (is_same_family own) other false) one false

alike_through : (one two three : Option Family) → alike one two ≡ true → alike two three ≡ true → alike one three ≡ true
alike_through None two three e f = absurd (false≢true e)
alike_through (Some one) None three e f = absurd (false≢true e)
alike_through (Some one) (Some two) None e f = absurd (false≢true f)
alike_through (Some one) (Some two) (Some three) e f = ap (λ of. is_same_family of three) (same_family one two e) ∙ f

both_true : (left right : Bool) → (left && right) ≡ true → (left ≡ true) × (right ≡ true)
both_true true right e = (refl, e)
both_true false right e = absurd (false≢true e)

style_through : (one two three : InPart) → same_style one two ≡ true → same_style two three ≡ true → same_style one three ≡ true
style_through one two three e f =
    let first = both_true (have_same_family one.element two.element) (have_same_name one.element two.element) e in
    let second = both_true (have_same_family two.element three.element) (have_same_name two.element three.element) f in
    ap₂ (λ a b. a && b) (alike_through (family_of one.element) (family_of two.element) (family_of three.element) first.0 second.0) (name_through one.element two.element three.element first.1 second.1)

neither : (b : Bool) → (b && false) ≡ false
neither true = refl
neither false = refl

-- the family and name that are stated, as a list of one at most
abbrev stated_pair : Option Family → Option (List ℕ) → List StyleName
stated_pair own name = flat_map (λ of. map (λ text. record { family = of; name = text }) (option_to_list name)) (option_to_list own)

-- whether a style of this family and name is there is whether its name is one of those of the family
any_style : (styles : List InPart) (one : InPart) (of : Family) (name : List ℕ) → family_of one.element ≡ Some of → name_of one.element ≡ Some name
    → list_any (λ style. same_style style one) styles ≡ is_one_of (names_with of (names_among styles)) name
any_style [] one of name e f = refl
any_style (style ∷ styles) one of name e f =
    ap (λ b. b || list_any (λ other. same_style other one) styles) (ap₂ (λ a b. option_map_or (λ own. option_map_or (is_same_family own) a false) (family_of style.element) false && option_map_or (λ own. option_map_or (bytes_eq own) b false) (name_of style.element) false) e f)
    ∙ by_stated (family_of style.element) (name_of style.element) (any_style styles one of name e f) where
      by_stated : (own : Option Family) (text : Option (List ℕ)) → list_any (λ other. same_style other one) styles ≡ is_one_of (names_with of (names_among styles)) name
          → ((option_map_or (λ given. option_map_or (is_same_family given) (Some of) false) own false && option_map_or (λ given. option_map_or (bytes_eq given) (Some name) false) text false) || list_any (λ other. same_style other one) styles)
          ≡ is_one_of (names_with of (stated_pair own text ++ names_among styles)) name
      by_stated None text more = more
      by_stated (Some own) None more = ap (λ b. b || list_any (λ other. same_style other one) styles) (neither (is_same_family own of)) ∙ more
      by_stated (Some own) (Some text) more = by_test (is_same_family own of) where
        by_test : (b : Bool) → ((b && bytes_eq text name) || list_any (λ other. same_style other one) styles)
            ≡ is_one_of (map (λ (given : StyleName). given.name) (cond b (record { family = own; name = text } ∷ filter (λ given. is_same_family given.family of) (names_among styles)) (filter (λ given. is_same_family given.family of) (names_among styles)))) name
        by_test true = ap (λ b. bytes_eq text name || b) more
        by_test false = more

-- the names with those of one more style
names_behind : (styles : List InPart) (one : InPart) (own of : Family) (name : List ℕ) → family_of one.element ≡ Some own → name_of one.element ≡ Some name
    → names_with of (names_among (styles ++ one ∷ [])) ≡ names_with of (names_among styles) ++ cond (is_same_family own of) (name ∷ []) []
names_behind styles one own of name e f =
    ap (names_with of) (flat_map-append (λ in_part. style_name in_part.element) styles (one ∷ []) ∙ ap₂ (λ a b. names_among styles ++ (stated_pair a b ++ [])) e f)
    ∙ ap (map (λ style. style.name)) (filter-append (λ style. is_same_family style.family of) (names_among styles) (record { family = own; name = name } ∷ []))
    ∙ map-append (λ style. style.name) (filter (λ style. is_same_family style.family of) (names_among styles)) (filter (λ style. is_same_family style.family of) (record { family = own; name = name } ∷ []))
    ∙ ap (λ more. names_with of (names_among styles) ++ more) (by_test (is_same_family own of)) where
      by_test : (b : Bool) → map (λ (style : StyleName). style.name) (cond b (record { family = own; name = name } ∷ []) []) ≡ cond b (name ∷ []) []
      by_test true = refl
      by_test false = refl

module _ (held : List InPart) (one : InPart) where
  keeps_same : (kept : KeptStyles) → is_style one ≡ false → KeepsStyles held kept → KeepsStyles (held ++ one ∷ []) kept
  keeps_same kept e keeps =
      let all : styles_among (held ++ one ∷ []) ≡ styles_among held = first_fails same_style style_through is_style held one e in
      record {
        styles_are = keeps.styles_are ∙ sym all;
        names_are = λ of. keeps.names_are of ∙ ap (λ styles. names_with of (names_among styles)) (sym all);
      }

  pub keeps_other : (kept : KeptStyles) → is tag.Style one.element ≡ false → KeepsStyles held kept → KeepsStyles (held ++ one ∷ []) kept
  keeps_other kept e keeps = keeps_same kept (ap (λ b. b && is_some (family_of one.element) && is_some (name_of one.element)) e) keeps

  pub keeps_unnamed : (kept : KeptStyles) → style_name one.element ≡ [] → KeepsStyles held kept → KeepsStyles (held ++ one ∷ []) kept
  keeps_unnamed kept e keeps = keeps_same kept (by_stated (family_of one.element) (name_of one.element) e) keeps where
    by_stated : (own : Option Family) (name : Option (List ℕ)) → stated_pair own name ≡ [] → (is tag.Style one.element && is_some own && is_some name) ≡ false
    by_stated None name e = by_test (is tag.Style one.element) where
      by_test : (b : Bool) → (b && false && is_some name) ≡ false
      by_test true = refl
      by_test false = refl
    by_stated (Some own) None e = by_test (is tag.Style one.element) where
      by_test : (b : Bool) → (b && true && false) ≡ false
      by_test true = refl
      by_test false = refl
    by_stated (Some own) (Some name) e = absurd (cc)

  module _ (own : Family) (name : List ℕ) (of_tag : is tag.Style one.element ≡ true) (states_family : family_of one.element ≡ Some own) (states_name : name_of one.element ≡ Some name) where
    passed : is_style one ≡ true
    passed = ap (λ b. b && is_some (family_of one.element) && is_some (name_of one.element)) of_tag ∙ ap₂ (λ a b. is_some a && is_some b) states_family states_name

    with_one : (is_there : Bool) → is_one_of (names_with own (names_among (styles_among held))) name ≡ is_there
        → styles_among (held ++ one ∷ []) ≡ cond is_there (styles_among held) (styles_among held ++ one ∷ [])
    with_one is_there e =
        first_passes same_style style_through is_style held one passed
        ∙ ap (λ b. cond b (styles_among held) (styles_among held ++ one ∷ [])) (any_style (styles_among held) one own name states_family states_name ∙ e)

    pub keeps_known : (kept later : KeptStyles) → is_one_of (of_family kept.names own) name ≡ true → later.styles ≡ kept.styles
        → ((of : Family) → of_family later.names of ≡ cond (is_same_family own of) (with_name (of_family kept.names of) name) (of_family kept.names of))
        → KeepsStyles held kept → KeepsStyles (held ++ one ∷ []) later
    keeps_known kept later e same_styles names keeps =
        let all : styles_among (held ++ one ∷ []) ≡ styles_among held = with_one true (ap (λ all. is_one_of all name) (sym (keeps.names_are own)) ∙ e) in
        record {
          styles_are = ap (λ styles. map seen styles.items) same_styles ∙ keeps.styles_are ∙ sym all;
          names_are = λ of. names of ∙ by_test of (is_same_family own of) refl ∙ keeps.names_are of ∙ ap (λ styles. names_with of (names_among styles)) (sym all);
        } where
          by_test : (of : Family) (b : Bool) → is_same_family own of ≡ b → cond (is_same_family own of) (with_name (of_family kept.names of) name) (of_family kept.names of) ≡ of_family kept.names of
          by_test of false f = ap (λ b. cond b (with_name (of_family kept.names of) name) (of_family kept.names of)) f
          by_test of true f =
              ap (λ b. cond b (with_name (of_family kept.names of) name) (of_family kept.names of)) f
              ∙ ap (λ b. cond b (of_family kept.names of) (of_family kept.names of ++ name ∷ [])) (ap (λ other. is_one_of (of_family kept.names other) name) (sym (same_family own of f)) ∙ e)

    pub keeps_new : (kept later : KeptStyles) → is_one_of (of_family kept.names own) name ≡ false → map seen later.styles.items ≡ map seen kept.styles.items ++ one ∷ []
        → ((of : Family) → of_family later.names of ≡ cond (is_same_family own of) (with_name (of_family kept.names of) name) (of_family kept.names of))
        → KeepsStyles held kept → KeepsStyles (held ++ one ∷ []) later
    keeps_new kept later e more_styles names keeps =
        let all : styles_among (held ++ one ∷ []) ≡ styles_among held ++ one ∷ [] = with_one false (ap (λ all. is_one_of all name) (sym (keeps.names_are own)) ∙ e) in
        record {
          styles_are = more_styles ∙ ap (λ styles. styles ++ one ∷ []) keeps.styles_are ∙ sym all;
          names_are = λ of.
              names of ∙ by_test of (is_same_family own of) refl ∙ ap (λ some. some ++ cond (is_same_family own of) (name ∷ []) []) (keeps.names_are of)
              ∙ sym (ap (λ styles. names_with of (names_among styles)) all ∙ names_behind (styles_among held) one own of name states_family states_name);
        } where
          by_test : (of : Family) (b : Bool) → is_same_family own of ≡ b
              → cond (is_same_family own of) (with_name (of_family kept.names of) name) (of_family kept.names of) ≡ of_family kept.names of ++ cond (is_same_family own of) (name ∷ []) []
          by_test of false f =
              ap (λ b. cond b (with_name (of_family kept.names of) name) (of_family kept.names of)) f ∙ sym (append-nil (of_family kept.names of))
              ∙ ap (λ b. of_family kept.names of ++ cond b (name ∷ []) []) (sym f)
          by_test of true f =
              ap (λ b. cond b (with_name (of_family kept.names of) name) (of_family kept.names of)) f
              ∙ ap (λ b. cond b (of_family kept.names of) (of_family kept.names of ++ name ∷ [])) (ap (λ other. is_one_of (of_family kept.names other) name) (sym (same_family own of f)) ∙ e)
              ∙ ap (λ b. of_family kept.names of ++ cond b (name ∷ []) []) (sym f)
