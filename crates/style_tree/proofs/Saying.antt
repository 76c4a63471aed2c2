-- What an index says of a list, kept as styles come and go.
use Rattle.std.proofs.Common.{◌≡◌, ℕ, ◌≤◌, Bool, true, false, cond, ◌&&◌, if◌then◌else◌, List, [], ◌∷◌, length, find, Option, Some, None, zero, suc, refl, ap, sym, subst, ◌∙◌, slice_get, insert, remove, true≢false, arith}
use Rattle.std.specs.Option.{option_map}
use Rattle.std.proofs.lemmas.Option.{none-some}
use Rattle.std.proofs.lemmas.Map.Made.{lookup-map_values}
use Rattle.std.specs.Map.{lookup}
use Rattle.std.specs.Str.{bytes_eq}
use Rattle.std.specs.Cmp.Lexicographic.{bytes_decides}
use Rattle.doc_model.specs.declared.style.Family.{Family}
use Rattle.doc_model.specs.declared.style.Family.TheVariants as family
use Rattle.doc_model.specs.declared.style.Style.{Style}
use Rattle.style_model.specs.Lineage.{is_same_family, is_named, style_named}
use Rattle.style_tree.specs.declared.index.Index.{Index}
use Rattle.style_tree.specs.declared.places.Shift.{Shift}
use Rattle.style_tree.specs.declared.places.Shift.TheVariants.{Open, Close}
use Rattle.style_tree.specs.Index.{Says, SameIndex, Notes, place_in, entries_of, shifted, shifted_entries}
use Rattle.style_tree.proofs.Marks.{some_same, Marks, mark_within, open_before, open_last, open_marks, close_marks}

-- an index without entries says that there is no style
pub says_nothing : (index : Index) → ((of : Family) → entries_of of index ≡ []) → Says index []
says_nothing index empty of name place = (λ e. absurd (none-some place (sym (ap (lookup (bytes_eq name)) (empty of)) ∙ e)), λ e. absurd (none-some true e))

pub same_family : (left right : Family) → is_same_family left right ≡ true → left ≡ right
same_family family.Paragraph family.Paragraph e = refl
same_family family.Text family.Text e = refl
same_family family.Section family.Section e = refl
same_family family.Paragraph family.Text e = absurd (true≢false (sym e))
same_family family.Paragraph family.Section e = absurd (true≢false (sym e))
same_family family.Text family.Paragraph e = absurd (true≢false (sym e))
same_family family.Text family.Section e = absurd (true≢false (sym e))
same_family family.Section family.Paragraph e = absurd (true≢false (sym e))
same_family family.Section family.Text e = absurd (true≢false (sym e))

both_true : (left right : Bool) → (left && right) ≡ true → (left ≡ true) × (right ≡ true)
both_true true right e = (refl, e)
both_true false right e = absurd (true≢false (sym e))

-- a style that is so named has this family and name
pub named_is : (of : Family) (name : List ℕ) (style : Style) → is_named of name style ≡ true → (style.family ≡ of) × (style.name ≡ name)
named_is of name style e =
    let both = both_true (is_same_family style.family of) (bytes_eq style.name name) e in
    (same_family style.family of both.0, (bytes_decides style.name name).0 both.1)

-- where no item is found, none is at any place
pub nowhere : {X : Type 0} (test : X → Bool) (xs : List X) → find test xs ≡ None → (place : ℕ) → option_map test (slice_get xs place) ≡ Some true → ⊥
nowhere test [] none place mark = none-some true mark
nowhere {X} test (x ∷ xs) none place mark = by (test x) refl (nowhere test xs) place mark
  where
    by : (here : Bool) → test x ≡ here → (find test xs ≡ None → (place : ℕ) → option_map test (slice_get xs place) ≡ Some true → ⊥) → (place : ℕ) → option_map test (slice_get (x ∷ xs) place) ≡ Some true → ⊥
    by true h rest place mark = none-some x (sym none ∙ ap (λ here. cond here (Some x) (find test xs)) h)
    by false h rest zero mark = true≢false (sym (some_same (test x) true mark) ∙ h)
    by false h rest (suc place) mark = rest (sym (ap (λ here. cond here (Some x) (find test xs)) h) ∙ none) place mark

-- a look-up after a shift
shift_found : (shift : Shift) (old new : Index) (of : Family) (name : List ℕ) → entries_of of new ≡ shifted_entries shift (entries_of of old) → place_in new of name ≡ option_map (shifted shift) (place_in old of name)
shift_found shift old new of name e = ap (lookup (bytes_eq name)) e ∙ lookup-map_values (shifted shift) (bytes_eq name) (entries_of of old)

-- a style whose name is new isn't noted
is_new_name : (first : Index) (styles : List Style) (style : Style) (of : Family) (name : List ℕ) → style_named styles style.family style.name ≡ None → Says first styles → is_named of name style ≡ true → place_in first of name ≡ None
is_new_name first styles style of name none says h = by_place (place_in first of name) refl
  where
    by_place : (note : Option ℕ) → place_in first of name ≡ note → place_in first of name ≡ None
    by_place None e = e
    by_place (Some place) e =
        let named = named_is of name style h in
        let mark = (says of name place).0 e in
        absurd (nowhere (is_named style.family style.name) styles none place (subst (λ of. option_map (is_named of style.name) (slice_get styles place) ≡ Some true) (sym named.0) (subst (λ name. option_map (is_named of name) (slice_get styles place) ≡ Some true) (sym named.1) mark)))

-- at the end of the list a shift moves no place
unshifted : {X : Type 0} (test : X → Bool) (xs : List X) (note : Option ℕ) → Marks test xs note → (here : Bool) → option_map (shifted (Open (length xs) (length xs))) (if here then Some (length xs) else note) ≡ (if here then Some (length xs) else note)
unshifted test xs given marks true = ap Some (open_last (length xs) (length xs) (omega arith))
unshifted test xs None marks false = refl
unshifted test xs (Some place) marks false = ap Some (open_before (length xs) (length xs) place (mark_within test xs place ((marks place).0 refl)))

module _ (first old added new : Index) (styles : List Style) (at : ℕ) (style : Style) where
  -- a style comes in
  pub says_opened : at ≤ length styles → style_named styles style.family style.name ≡ None → Says first styles → SameIndex first old → Notes old style.family style.name (Some (length styles)) added → ((of : Family) → entries_of of new ≡ shifted_entries (Open at (length styles)) (entries_of of added)) → Says new (insert styles at style)
  says_opened within none says same notes shifts of name =
      let test = is_named of name in
      let is : place_in new of name ≡ option_map (shifted (Open at (length styles))) (if test style then Some (length styles) else place_in first of name)
      = shift_found (Open at (length styles)) added new of name (shifts of) ∙ ap (option_map (shifted (Open at (length styles)))) (notes of name ∙ ap (λ given. if test style then Some (length styles) else given) (ap (lookup (bytes_eq name)) (same of)))
      in subst (λ note. Marks test (insert styles at style) note) (sym is) (open_marks test styles at style (place_in first of name) within (says of name) (is_new_name first styles style of name none says))

  -- a style comes in at the end, where no place is shifted
  pub says_added : at ≡ length styles → style_named styles style.family style.name ≡ None → Says first styles → SameIndex first old → Notes old style.family style.name (Some (length styles)) added → Says added (insert styles at style)
  says_added last none says same notes of name =
      let test = is_named of name in
      let is : place_in added of name ≡ (if test style then Some (length styles) else place_in first of name)
      = notes of name ∙ ap (λ given. if test style then Some (length styles) else given) (ap (lookup (bytes_eq name)) (same of))
      in
      let here : Marks test (insert styles (length styles) style) (if test style then Some (length styles) else place_in first of name)
      = subst (λ note. Marks test (insert styles (length styles) style) note) (unshifted test styles (place_in first of name) (says of name) (test style)) (open_marks test styles (length styles) style (place_in first of name) (omega arith) (says of name) (is_new_name first styles style of name none says))
      in subst (λ place. Marks test (insert styles place style) (place_in added of name)) (sym last) (subst (λ note. Marks test (insert styles (length styles) style) note) (sym is) here)

  -- a style goes
  pub says_closed : slice_get styles at ≡ Some style → Says old styles → Notes old style.family style.name None added → ((of : Family) → entries_of of new ≡ shifted_entries (Close at) (entries_of of added)) → Says new (remove styles at)
  says_closed here says notes shifts of name =
      let test = is_named of name in
      let is : place_in new of name ≡ option_map (shifted (Close at)) (if test style then None else place_in old of name)
      = shift_found (Close at) added new of name (shifts of) ∙ ap (option_map (shifted (Close at))) (notes of name)
      in subst (λ note. Marks test (remove styles at) note) (sym is) (close_marks test styles at style (place_in old of name) here (says of name))
