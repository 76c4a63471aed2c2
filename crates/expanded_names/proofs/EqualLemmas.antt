-- Whether expanded names stand twice.
use Rattle.std.proofs.Common.{◌≡◌, ℕ, ◌+◌, ◌<◌, ◌&&◌, ◌||◌, Bool, true, false, List, [], ◌∷◌, ◌++◌, length, map, take, drop, get_or, refl, sym, ap, ap₂, ◌∙◌, arith, Option, Some, None, zero, suc, Bor, cond, append_assoc, append-nil}
use Rattle.std.proofs.lemmas.List.{map-append}
use Rattle.std.proofs.lemmas.List.Elements.{filter_map-append}
use Rattle.std.specs.List.{list_any, filter_map, cons_option, AllByRecursion as Each}
use Rattle.std.specs.Str.{bytes_eq, IsUtf8, chars}
use Rattle.std.proofs.lemmas.Bool.{false≢true}
use Rattle.load_model.specs.Names.{Expanded, is_same_name, has_twice}
use Rattle.expanded_names.proofs.Texts.{same_as_characters, either_text}

-- a pair of texts, and the expanded name that it is
abbrev pub Texts : Type 0
Texts = Bor (List ℕ) × Bor (List ℕ)

abbrev pub name_of : Texts → Expanded
name_of texts = record { namespace = chars texts.0.now; local_name = chars texts.1.now }

abbrev pub AreTexts : Texts → Type 0
AreTexts texts = IsUtf8 texts.0.now × IsUtf8 texts.1.now

abbrev pub are_same : Texts → Texts → Bool
are_same one other = bytes_eq one.0.now other.0.now && bytes_eq one.1.now other.1.now

same_texts : (one other : Texts) → AreTexts one → AreTexts other → are_same one other ≡ is_same_name (name_of one) (name_of other)
same_texts one other u v = ap₂ (λ a b. a && b) (same_as_characters one.0.now other.0.now u.0 v.0) (same_as_characters one.1.now other.1.now u.1 v.1)

pub any_same : (one : Texts) (seen : List Texts) → AreTexts one → Each AreTexts seen → list_any (are_same one) seen ≡ list_any (is_same_name (name_of one)) (map name_of seen)
any_same one [] u v = refl
any_same one (other ∷ seen) u v = ap₂ (λ a b. a || b) (same_texts one other u v.0) (any_same one seen u v.1)

either_name : (one other : Expanded) → is_same_name one other ≡ is_same_name other one
either_name one other = ap₂ (λ a b. a && b) (either_text one.namespace other.namespace) (either_text one.local_name other.local_name)

any_behind : (test : Expanded → Bool) (names : List Expanded) (name : Expanded) → list_any test (names ++ name ∷ []) ≡ (list_any test names || test name)
any_behind test [] name = by_test (test name) where
  by_test : (b : Bool) → (b || false) ≡ (false || b)
  by_test true = refl
  by_test false = refl
any_behind test (one ∷ names) name = ap (λ b. test one || b) (any_behind test names name) ∙ grouped (test one) (list_any test names) (test name) where
  grouped : (a b c : Bool) → (a || (b || c)) ≡ ((a || b) || c)
  grouped true b c = refl
  grouped false b c = refl

mixed : (a b c d : Bool) → ((a || b) || (c || d)) ≡ ((a || c) || (b || d))
mixed true b c d = refl
mixed false true true d = refl
mixed false true false d = refl
mixed false false c d = refl

pub twice_behind : (names : List Expanded) (name : Expanded) → has_twice (names ++ name ∷ []) ≡ (has_twice names || list_any (is_same_name name) names)
twice_behind [] name = refl
twice_behind (one ∷ names) name =
    ap₂ (λ a b. a || b) (any_behind (is_same_name one) names name ∙ ap (λ b. list_any (is_same_name one) names || b) (either_name one name)) (twice_behind names name)
    ∙ mixed (list_any (is_same_name one) names) (is_same_name name one) (has_twice names) (list_any (is_same_name name) names)

any_front : (test : Expanded → Bool) (names more : List Expanded) → list_any test names ≡ true → list_any test (names ++ more) ≡ true
any_front test [] more h = absurd (false≢true h)
any_front test (one ∷ names) more h = by_test (test one) h (any_front test names more) where
  by_test : (b : Bool) → (b || list_any test names) ≡ true → (list_any test names ≡ true → list_any test (names ++ more) ≡ true) → (b || list_any test (names ++ more)) ≡ true
  by_test true h go = refl
  by_test false h go = go h

pub twice_front : (names more : List Expanded) → has_twice names ≡ true → has_twice (names ++ more) ≡ true
twice_front [] more h = absurd (false≢true h)
twice_front (one ∷ names) more h = by_test (list_any (is_same_name one) names) refl h (twice_front names more) where
  by_test : (b : Bool) → list_any (is_same_name one) names ≡ b → (b || has_twice names) ≡ true → (has_twice names ≡ true → has_twice (names ++ more) ≡ true)
      → (list_any (is_same_name one) (names ++ more) || has_twice (names ++ more)) ≡ true
  by_test true e h go = ap (λ b. b || has_twice (names ++ more)) (any_front (is_same_name one) names more e)
  by_test false e h go = ap (λ b. list_any (is_same_name one) (names ++ more) || b) (go h) ∙ or_true (list_any (is_same_name one) (names ++ more)) where
    or_true : (b : Bool) → (b || true) ≡ true
    or_true true = refl
    or_true false = refl

pub each_behind : {X : Type 0} (P : X → Type 0) (xs : List X) (x : X) → Each P xs → P x → Each P (xs ++ x ∷ [])
each_behind P [] x h p = (p, tt)
each_behind P (y ∷ ys) x h p = (h.0, each_behind P ys x h.1 p)

or_true : (b : Bool) → (b || true) ≡ true
or_true true = refl
or_true false = refl

-- a list cut at an item
cut_at : {X : Type 0} (xs : List X) (i : ℕ) (x : X) → i < length xs → x ≡ get_or xs i x → xs ≡ take i xs ++ x ∷ drop (suc i) xs
cut_at [] i x l e = absurd (omega (arith, l))
cut_at (y ∷ ys) zero x l e = ap (λ one. one ∷ ys) (sym e)
cut_at (y ∷ ys) (suc i) x l e = ap (λ more. y ∷ more) (cut_at ys i x (omega (arith, l)) e)

take_one_more : {X : Type 0} (xs : List X) (i : ℕ) (x : X) → i < length xs → x ≡ get_or xs i x → take (suc i) xs ≡ take i xs ++ x ∷ []
take_one_more [] i x l e = absurd (omega (arith, l))
take_one_more (y ∷ ys) zero x l e = ap (λ one. one ∷ []) (sym e)
take_one_more (y ∷ ys) (suc i) x l e = ap (λ more. y ∷ more) (take_one_more ys i x (omega (arith, l)) e)

module _ {X : Type 0} (f : X → Option Expanded) (xs : List X) (i : ℕ) (x : X) (inside : i < length xs) (is : x ≡ get_or xs i x) where
  pub names_with : (name : Expanded) → f x ≡ Some name → filter_map f (take (i + 1) xs) ≡ filter_map f (take i xs) ++ name ∷ []
  names_with name e =
      let next : i + 1 ≡ suc i = omega arith in
      ap (λ k. filter_map f (take k xs)) next ∙ ap (filter_map f) (take_one_more xs i x inside is) ∙ filter_map-append f (take i xs) (x ∷ [])
      ∙ ap (λ o. filter_map f (take i xs) ++ cons_option o []) e

  pub names_without : f x ≡ None → filter_map f (take (i + 1) xs) ≡ filter_map f (take i xs)
  names_without e =
      let next : i + 1 ≡ suc i = omega arith in
      ap (λ k. filter_map f (take k xs)) next ∙ ap (filter_map f) (take_one_more xs i x inside is) ∙ filter_map-append f (take i xs) (x ∷ [])
      ∙ ap (λ o. filter_map f (take i xs) ++ cons_option o []) e ∙ append-nil (filter_map f (take i xs))

  pub equal_found : (seen : List Texts) (texts : Texts) → f x ≡ Some (name_of texts) → map name_of seen ≡ filter_map f (take i xs) → Each AreTexts seen → AreTexts texts
      → list_any (are_same texts) seen ≡ true → has_twice (filter_map f xs) ≡ true
  equal_found seen texts e names u v h =
      let any : list_any (is_same_name (name_of texts)) (map name_of seen) ≡ true = sym (any_same texts seen v u) ∙ h in
      let twice : has_twice (map name_of seen ++ name_of texts ∷ []) ≡ true =
      twice_behind (map name_of seen) (name_of texts) ∙ ap (λ b. has_twice (map name_of seen) || b) any ∙ or_true (has_twice (map name_of seen)) in
      let parts : filter_map f xs ≡ (map name_of seen ++ name_of texts ∷ []) ++ filter_map f (drop (suc i) xs) =
      ap (filter_map f) (cut_at xs i x inside is) ∙ filter_map-append f (take i xs) (x ∷ drop (suc i) xs)
      ∙ ap (λ o. filter_map f (take i xs) ++ cons_option o (filter_map f (drop (suc i) xs))) e
      ∙ ap (λ (front : List Expanded). front ++ (name_of texts ∷ filter_map f (drop (suc i) xs))) (sym names)
      ∙ sym (append_assoc (map name_of seen) (name_of texts ∷ []) (filter_map f (drop (suc i) xs))) in
      ap has_twice parts ∙ twice_front (map name_of seen ++ name_of texts ∷ []) (filter_map f (drop (suc i) xs)) twice

-- one more name that wasn't seen
pub once_more : (seen : List Texts) (texts : Texts) → Each AreTexts seen → AreTexts texts → has_twice (map name_of seen) ≡ false → list_any (are_same texts) seen ≡ false
    → has_twice (map name_of (seen ++ texts ∷ [])) ≡ false
once_more seen texts u v once h =
    ap has_twice (map-append name_of seen (texts ∷ [])) ∙ twice_behind (map name_of seen) (name_of texts)
    ∙ ap₂ (λ a b. a || b) once (sym (any_same texts seen v u) ∙ h)

pub put_behind : (seen later : List Texts) (texts : Texts) → later ≡ cond (list_any (are_same texts) seen) seen (seen ++ texts ∷ []) → list_any (are_same texts) seen ≡ false → later ≡ seen ++ texts ∷ []
put_behind seen later texts e h = e ∙ ap (λ b. cond b seen (seen ++ texts ∷ [])) h
