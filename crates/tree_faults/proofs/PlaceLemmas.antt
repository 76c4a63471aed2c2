-- Places of elements.
use Rattle.std.proofs.Common.{◌≡◌, ℕ, zero, suc, ◌+◌, ◌<◌, ◌&&◌, ◌||◌, Bool, true, false, cond, List, [], ◌∷◌, ◌++◌, map, take, drop, get_or, length, refl, sym, ap, ap₂, ◌∙◌, append-nil, append_assoc, Option, Some}
use Rattle.std.specs.Prelude.{filter, find, slice_get, option_to_list, is_some}
use Rattle.std.specs.List.{list_any}
use Rattle.std.specs.Option.{option_map}
use Rattle.std.proofs.lemmas.List.{map-append, take_more}
use Rattle.std.proofs.lemmas.List.Elements.{filter-append}
use Rattle.std.proofs.lemmas.List.Folds.{list_any-append}
use Rattle.markup_nodes.specs.declared.nodes.Turn.{Turn}
use Rattle.markup_nodes.specs.Nodes.{turns_of}
use Rattle.element_parts.proofs.Inner.{elems_of_turns}
use Rattle.load_model.specs.declared.element.Element.{Element, out-Element}
use Rattle.load_model.specs.declared.names.Tag.{Tag}
use Rattle.load_model.specs.declared.names.Tag.TheVariants as tag
use Rattle.load_model.specs.Left.{is, children}
use Rattle.load_model.specs.Offences.{further, place_of}
use Rattle.load_model.specs.Styles.{InPart}
use Rattle.sheet_kept.specs.declared.held.InPart.{InPart as Lent}
use Rattle.sheet_kept.specs.Held.{seen}
use Rattle.tree_faults.specs.Texts.{Goes, has_text}

-- the one behind so many
pub beyond_at : {X : Type 0} (f : X → ℕ) (count : ℕ) (xs : List X) → option_to_list (option_map f (slice_get xs count)) ≡ take 1 (drop count (map f xs))
beyond_at f zero [] = refl
beyond_at f (suc count) [] = refl
beyond_at f zero (x ∷ xs) = refl
beyond_at f (suc count) (x ∷ xs) = beyond_at f count xs

pub map_twice : {X Y Z : Type 0} (f : Y → Z) (g : X → Y) (xs : List X) → map (λ x. f (g x)) xs ≡ map f (map g xs)
map_twice f g [] = refl
map_twice f g (x ∷ xs) = ap (λ more. f (g x) ∷ more) (map_twice f g xs)

-- whether one passes that is among those that pass another test
pub any_filter : {X : Type 0} (p q : X → Bool) (xs : List X) → list_any (λ x. p x && q x) xs ≡ list_any q (filter p xs)
any_filter p q [] = refl
any_filter p q (x ∷ xs) = by_test (p x) (any_filter p q xs) where
  by_test : (b : Bool) → list_any (λ x. p x && q x) xs ≡ list_any q (filter p xs) → ((b && q x) || list_any (λ x. p x && q x) xs) ≡ list_any q (cond b (x ∷ filter p xs) (filter p xs))
  by_test true e = ap (λ b. q x || b) e
  by_test false e = e

pub any_map : {X Y : Type 0} (p : Y → Bool) (f : X → Y) (xs : List X) → list_any (λ x. p (f x)) xs ≡ list_any p (map f xs)
any_map p f [] = refl
any_map p f (x ∷ xs) = ap (λ b. p (f x) || b) (any_map p f xs)

pub some_any : {X : Type 0} (p : X → Bool) (xs : List X) → is_some (find p xs) ≡ list_any p xs
some_any p [] = refl
some_any p (x ∷ xs) = by_test (p x) (some_any p xs) where
  by_test : (b : Bool) → is_some (find p xs) ≡ list_any p xs → is_some (cond b (Some x) (find p xs)) ≡ (b || list_any p xs)
  by_test true e = refl
  by_test false e = e

-- one more element, of which it is said whether it is of the tag, and whether one was there before
further_more : (wanted : Tag) (some : List Element) (one : Element) → further wanted (some ++ one ∷ []) ≡ further wanted some ++ cond (list_any (is wanted) some) (filter (is wanted) (one ∷ [])) []
further_more wanted some one = ap (drop 1) (filter-append (is wanted) some (one ∷ [])) ∙ by_first some where
  alone : (b : Bool) → drop 1 (cond b (one ∷ []) []) ≡ []
  alone true = refl
  alone false = refl

  by_first : (some : List Element) → drop 1 (filter (is wanted) some ++ filter (is wanted) (one ∷ [])) ≡ drop 1 (filter (is wanted) some) ++ cond (list_any (is wanted) some) (filter (is wanted) (one ∷ [])) []
  by_first [] = alone (is wanted one)
  by_first (x ∷ some) = by_test (is wanted x) (by_first some) where
    by_test : (b : Bool) → drop 1 (filter (is wanted) some ++ filter (is wanted) (one ∷ [])) ≡ drop 1 (filter (is wanted) some) ++ cond (list_any (is wanted) some) (filter (is wanted) (one ∷ [])) []
        → drop 1 (cond b (x ∷ filter (is wanted) some) (filter (is wanted) some) ++ filter (is wanted) (one ∷ []))
        ≡ drop 1 (cond b (x ∷ filter (is wanted) some) (filter (is wanted) some)) ++ cond (b || list_any (is wanted) some) (filter (is wanted) (one ∷ [])) []
    by_test true e = refl
    by_test false e = e

pub goes_none : (wanted : Tag) (old : List ℕ) → Goes wanted [] old old false
goes_none wanted old = record { places = sym (append-nil old); any = refl }

module _ (wanted : Tag) (elements : List Element) (one : Element) (old new : List ℕ) (met : Bool) (goes : Goes wanted elements old new met) where
  any_one : (b : Bool) → is wanted one ≡ b → list_any (is wanted) (elements ++ one ∷ []) ≡ (met || (b || false))
  any_one b e = list_any-append (is wanted) elements (one ∷ []) ∙ ap₂ (λ a b. a || (b || false)) (sym goes.any) e

  none_more : further wanted (elements ++ one ∷ []) ≡ further wanted elements → new ≡ old ++ map place_of (further wanted (elements ++ one ∷ []))
  none_more same = goes.places ∙ ap (λ (some : List Element). old ++ map place_of some) (sym same)

  pub goes_other : is wanted one ≡ false → Goes wanted (elements ++ one ∷ []) old new met
  goes_other e = record {
    places = none_more (further_more wanted elements one ∙ ap (λ b. further wanted elements ++ cond (list_any (is wanted) elements) (cond b (one ∷ []) []) []) e ∙ both (list_any (is wanted) elements) ∙ append-nil (further wanted elements));
    any = or_none met ∙ sym (any_one false e);
  } where
    both : (b : Bool) → further wanted elements ++ cond b [] [] ≡ further wanted elements ++ []
    both true = refl
    both false = refl

    or_none : (b : Bool) → b ≡ (b || (false || false))
    or_none true = refl
    or_none false = refl

  pub goes_first : is wanted one ≡ true → met ≡ false → Goes wanted (elements ++ one ∷ []) old new true
  goes_first e none = record {
    places = none_more (further_more wanted elements one ∙ ap (λ b. further wanted elements ++ cond b (filter (is wanted) (one ∷ [])) []) (sym goes.any ∙ none) ∙ append-nil (further wanted elements));
    any = sym (any_one true e ∙ or_true met);
  } where
    or_true : (b : Bool) → (b || (true || false)) ≡ true
    or_true true = refl
    or_true false = refl

  pub goes_further : (later : List ℕ) → is wanted one ≡ true → met ≡ true → later ≡ new ++ place_of one ∷ [] → Goes wanted (elements ++ one ∷ []) old later true
  goes_further later e before pushed = record {
    places = pushed ∙ ap (λ (places : List ℕ). places ++ place_of one ∷ []) goes.places ∙ append_assoc old (map place_of (further wanted elements)) (place_of one ∷ [])
        ∙ ap (λ (places : List ℕ). old ++ places) (sym (map-append place_of (further wanted elements) (one ∷ [])))
        ∙ ap (λ (some : List Element). old ++ map place_of some) (sym (further_more wanted elements one ∙ ap₂ (λ a b. further wanted elements ++ cond a (cond b (one ∷ []) []) []) (sym goes.any ∙ before) e));
    any = sym (any_one true e ∙ ap (λ b. b || (true || false)) before);
  }

-- one turn more
pub turns_more : (turns : List (Turn Element)) (at : ℕ) (turn : Turn Element) → at < length turns → turn ≡ get_or turns at turn
    → map (λ turn. turn.elem) (take at turns) ++ turn.elem ∷ [] ≡ map (λ (turn : Turn Element). turn.elem) (take (at + 1) turns)
turns_more turns at turn l is =
    ap (λ (one : Turn Element). map (λ (turn : Turn Element). turn.elem) (take at turns) ++ one.elem ∷ []) is
    ∙ sym (map-append (λ (turn : Turn Element). turn.elem) (take at turns) (get_or turns at turn ∷ []))
    ∙ ap (map (λ (turn : Turn Element). turn.elem)) (sym (take_more turns at turn l))

-- whether one of them is a body with a text
pub text_there : (turns : List (Turn Element)) → list_any (λ (turn : Turn Element). is tag.Body turn.elem && list_any (is tag.Text) (children turn.elem)) turns ≡ has_text (map (λ (turn : Turn Element). turn.elem) turns)
text_there turns =
    any_map (λ (one : Element). is tag.Body one && list_any (is tag.Text) (children one)) (λ (turn : Turn Element). turn.elem) turns
    ∙ any_filter (is tag.Body) (λ (one : Element). list_any (is tag.Text) (children one)) (map (λ (turn : Turn Element). turn.elem) turns)

-- the place of the element behind so many
pub places_at : {X : Type 0} (element_of : X → Element) (count : ℕ) (xs some : List X) (elements : List Element) (place : Option ℕ) → place ≡ option_map (λ x. place_of (element_of x)) (slice_get some count)
    → some ≡ xs → map element_of xs ≡ elements → option_to_list place ≡ take 1 (drop count (map place_of elements))
places_at element_of count xs some elements place is same all =
    ap option_to_list is ∙ beyond_at (λ x. place_of (element_of x)) count some ∙ ap (λ ys. take 1 (drop count (map (λ x. place_of (element_of x)) ys))) same
    ∙ ap (λ (places : List ℕ). take 1 (drop count places)) (map_twice place_of element_of xs ∙ ap (map place_of) all)

pub parts_at : (count : ℕ) (xs some : List Lent) (parts : List InPart) (place : Option ℕ) → place ≡ option_map (λ (one : Lent). place_of one.element.now) (slice_get some count)
    → some ≡ xs → map seen xs ≡ parts → option_to_list place ≡ take 1 (drop count (map (λ (in_part : InPart). place_of in_part.element) parts))
parts_at count xs some parts place is same all =
    ap option_to_list is ∙ beyond_at (λ (one : Lent). place_of one.element.now) count some ∙ ap (λ (ys : List Lent). take 1 (drop count (map (λ (one : Lent). place_of one.element.now) ys))) same
    ∙ ap (λ (places : List ℕ). take 1 (drop count places)) (map_twice (λ (in_part : InPart). place_of in_part.element) seen xs ∙ ap (map (λ (in_part : InPart). place_of in_part.element)) all)

pub missing_is : (root : Element) (turns : List (Turn Element)) → turns ≡ turns_of (out-Element root).nodes
    → list_any (λ (turn : Turn Element). is tag.Body turn.elem && list_any (is tag.Text) (children turn.elem)) turns ≡ has_text (children root)
missing_is root turns e = text_there turns ∙ ap has_text (ap (map (λ (turn : Turn Element). turn.elem)) e ∙ elems_of_turns (out-Element root).nodes)
