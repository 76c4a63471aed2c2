-- No style of a valid document is its own ancestor, so none of the tree is.
use Rattle.std.proofs.Common.{◌≡◌, ◌≢◌, ℕ, zero, suc, ◌||◌, not, Bool, true, false, List, [], ◌∷◌, length, map, filter, refl, sym, ap, ◌∙◌, subst, Option, Some, None}
use Rattle.std.specs.List.{flat_map, list_any, Any, AllByRecursion as Each}
use Rattle.std.specs.Option.{option_map_or}
use Rattle.std.specs.Str.{bytes_eq}
use Rattle.std.proofs.lemmas.Bool.{false≢true, and_parts}
use Rattle.std.proofs.lemmas.Slice.Eq.{bytes_eq-Decides}
use Rattle.doc_model.specs.declared.document.Document.{Document}
use Rattle.doc_model.specs.declared.style.Family.{Family}
use Rattle.doc_model.specs.declared.style.Family.TheVariants as family
use Rattle.doc_model.specs.declared.style.Style.{Style}
use Rattle.doc_model.specs.Valid.{IsValid, Leads}
use Rattle.style_model.specs.Lineage.{is_same_family, is_named, style_named, lineage_of, would_loop}
use Rattle.load_model.specs.declared.element.Element.{Element}
use Rattle.load_model.specs.Offences.{place_if, place_of, places_of_loops}
use Rattle.load_model.specs.Styles.{InPart, kept_styles, names_of, style_in, styles}
use Rattle.back_spans.proofs.Runs.{each_both}
use Rattle.back_valid.proofs.Lists.{each_also, each_part}
use Rattle.back_offences.proofs.Lists.{at_one, each_halves, each_there, found_there, none_flat}

-- one family is the other where the test says so
family_same : (one other : Family) → is_same_family one other ≡ true → one ≡ other
family_same family.Paragraph family.Paragraph e = refl
family_same family.Paragraph family.Text e = absurd (false≢true e)
family_same family.Paragraph family.Section e = absurd (false≢true e)
family_same family.Text family.Paragraph e = absurd (false≢true e)
family_same family.Text family.Text e = refl
family_same family.Text family.Section e = absurd (false≢true e)
family_same family.Section family.Paragraph e = absurd (false≢true e)
family_same family.Section family.Text e = absurd (false≢true e)
family_same family.Section family.Section e = refl

or_none : (b : Bool) → b ≡ (b || false)
or_none true = refl
or_none false = refl

-- from a style on, its ancestors lead to another
module _ (all : List Style) (given : Each (λ style. style.name ≢ []) all) (style : Style) (called : style.name ≢ []) where
  abbrev Found : Style → Type 0
  Found from = (chain : List Style) × Each (λ parent. Any (λ other. other ≡ parent) all) chain × Leads from chain style

  abbrev is_it : List ℕ → Bool
  is_it met = bytes_eq met style.name

  abbrev meets : ℕ → Style → Bool
  meets most from = list_any is_it (from.parent ∷ map (λ one. one.parent) (lineage_of most all style.family from.parent))

  -- the style is the parent
  here : (from : Style) → from.family ≡ style.family → is_it from.parent ≡ true → Found from
  here from same is = ([], tt, (sym same, sym ((bytes_eq-Decides from.parent style.name).0 is), called))

  -- a style that is found by its name leads on
  further : (from next : Style) → from.family ≡ style.family → style_named all style.family from.parent ≡ Some next → (next.family ≡ style.family → Found next) → Found from
  further from next same is rest =
      let found = found_there (is_named style.family from.parent) all next is in
      let both = and_parts (is_same_family next.family style.family) (bytes_eq next.name from.parent) found.0 in
      let own = family_same next.family style.family both.0 in
      let more = rest own in
      (next ∷ more.0, (found.1, more.1), ((own ∙ sym same, (bytes_eq-Decides next.name from.parent).0 both.1, at_one (λ one. one.name ≢ []) all next found.1 given), more.2))

  leads : (most : ℕ) (from : Style) → from.family ≡ style.family → meets most from ≡ true → Found from
  leads zero from same met = here from same (or_none (is_it from.parent) ∙ met)
  leads (suc most) from same met = by_own (is_it from.parent) refl met (leads most) where
    by_next : (found : Option Style) → style_named all style.family from.parent ≡ found
        → list_any is_it (map (λ one. one.parent) (option_map_or (λ one. one ∷ lineage_of most all style.family one.parent) found [])) ≡ true
        → ((next : Style) → next.family ≡ style.family → meets most next ≡ true → Found next) → Found from
    by_next None is met later = absurd (false≢true met)
    by_next (Some next) is met later = further from next same is (λ own. later next own met)

    by_own : (b : Bool) → is_it from.parent ≡ b → (b || list_any is_it (map (λ one. one.parent) (lineage_of (suc most) all style.family from.parent))) ≡ true
        → ((next : Style) → next.family ≡ style.family → meets most next ≡ true → Found next) → Found from
    by_own true is met later = here from same is
    by_own false is met later = by_next (style_named all style.family from.parent) refl met later

-- no style of a valid document would loop
abbrev LoopsNot : List Style → Style → Type 0
LoopsNot all style = would_loop all style.family style.name style.parent ≡ false

loops_not : (doc : Document) → IsValid doc → (style : Style) → Any (λ other. other ≡ style) doc.styles → LoopsNot doc.styles style
loops_not doc valid style there = by_test (would_loop doc.styles style.family style.name style.parent) refl where
  by_test : (b : Bool) → would_loop doc.styles style.family style.name style.parent ≡ b → LoopsNot doc.styles style
  by_test true is =
      let found = leads doc.styles valid.style_names_given style (at_one (λ one. one.name ≢ []) doc.styles style there valid.style_names_given) (length doc.styles) style refl is in
      absurd (valid.style_loops style found.0 there found.1 found.2)
  by_test false is = is

-- so none of a tree with these styles does
pub no_loops : (doc : Document) (root : Element) → IsValid doc → styles (names_of root) root ≡ doc.styles → places_of_loops root ≡ []
no_loops doc root valid same =
    let all = styles (names_of root) root in
    let kept = kept_styles root in
    let none : Each (LoopsNot all) all = subst (λ (some : List Style). Each (LoopsNot some) some) (sym same) (each_there (LoopsNot doc.styles) doc.styles (loops_not doc valid)) in
    let both = each_both (LoopsNot all) (flat_map (style_in (names_of root)) (filter (λ (one : InPart). not one.auto) kept)) (flat_map (style_in (names_of root)) (filter (λ (one : InPart). one.auto) kept)) none in
    let parts : Each (λ in_part. Each (LoopsNot all) (style_in (names_of root) in_part)) kept =
    each_halves (λ in_part. Each (LoopsNot all) (style_in (names_of root) in_part)) (λ in_part. in_part.auto) kept
    (each_part (LoopsNot all) (style_in (names_of root)) (filter (λ (one : InPart). not one.auto) kept) both.0)
    (each_part (LoopsNot all) (style_in (names_of root)) (filter (λ (one : InPart). one.auto) kept) both.1) in
    none_flat _ kept
    (each_also (λ in_part. Each (LoopsNot all) (style_in (names_of root) in_part)) (λ in_part. flat_map (loop_at all in_part) (style_in (names_of root) in_part) ≡ [])
    (λ in_part is. none_flat (loop_at all in_part) (style_in (names_of root) in_part)
    (each_also (LoopsNot all) (λ style. loop_at all in_part style ≡ []) (λ style loops. ap (λ (b : Bool). place_if b (place_of in_part.element)) loops) (style_in (names_of root) in_part) is)) kept parts)
  where
    loop_at : List Style → InPart → Style → List ℕ
    loop_at all in_part style = place_if (would_loop all style.family style.name style.parent) (place_of in_part.element)
