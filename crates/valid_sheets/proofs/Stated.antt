-- What attributes state.
use Rattle.std.proofs.Common.{◌≡◌, ◌≢◌, ℕ, ◌≤◌, inl, inr, ◌||◌, not, Bool, true, false, cond, List, [], ◌∷◌, length, find, refl, sym, ◌∙◌, subst, Option, Some, None, option_to_list, if◌then◌else◌}
use Rattle.std.specs.Prelude.{nat_le, ◌&&◌}
use Rattle.std.specs.List.{AllByRecursion as Each}
use Rattle.std.specs.Option.{option_and_then, option_map, option_map_or}
use Rattle.std.specs.Str.{bytes_eq}
use Rattle.std.specs.Str.Parse.{digits_value}
use Rattle.std.proofs.lemmas.Bool.{false≢true, leb-true}
use Rattle.std.proofs.lemmas.Slice.Eq.{bytes_eq-Decides}
use Rattle.load_model.specs.declared.names.Key.{Key}
use Rattle.load_model.specs.declared.element.Attribute.{Attribute}
use Rattle.load_model.specs.Left.{is_one_of}
use Rattle.load_model.specs.Styles.{reference}
use Rattle.load_model.specs.Values as value
use Rattle.load_model.specs.Values.{is_same_key, is_number, value_of, stated, stated_or}
use Rattle.valid_sheets.proofs.Lists.{Has, each_all}

pub some_same : {X : Type 0} (x y : X) → Some x ≡ Some y → x ≡ y
some_same x y e = cc

pub none_some : {X : Type 0} (y : X) → None ≡ Some y → ⊥
none_some y e = cc

-- the text of an attribute, if there is one
abbrev text_of : Option Attribute → Option (List ℕ)
text_of found = option_map_or (λ (attribute : Attribute). Some attribute.text) found None

-- what is read of a text of which something is known
module _ {X : Type 0} (Known : List ℕ → Type 0) (P : X → Type 0) (read : List ℕ → Option X) (so : (text : List ℕ) (x : X) → Known text → read text ≡ Some x → P x) where
  of_text : (text : List ℕ) → Known text → (value : Option X) → read text ≡ value → Each P (option_to_list value)
  of_text text known None e = tt
  of_text text known (Some x) e = (so text x known e, tt)

  of_attribute : (test : Attribute → Bool) (attributes : List Attribute) → Each (λ attribute. Known attribute.text) attributes
      → Each P (option_to_list (option_and_then read (option_map_or (λ (attribute : Attribute). Some attribute.text) (find test attributes) None)))
  of_attribute test [] each = tt
  of_attribute test (one ∷ more) each = by_test (test one) (of_attribute test more each.1) where
    by_test : (b : Bool) → Each P (option_to_list (option_and_then read (text_of (find test more)))) → Each P (option_to_list (option_and_then read (text_of (cond b (Some one) (find test more)))))
    by_test true rest = of_text one.text each.0 (read one.text) refl
    by_test false rest = rest

  mapped : (wanted : Key) (found : Option Attribute) → Each P (option_to_list (option_and_then read (option_map_or (λ (attribute : Attribute). Some attribute.text) found None)))
      → Each P (option_to_list (option_and_then read (option_map (λ (attribute : Attribute). attribute.text) found)))
  mapped wanted None each = each
  mapped wanted (Some one) each = each

  pub each_stated : (wanted : Key) (attributes : List Attribute) → Each (λ attribute. Known attribute.text) attributes → Each P (option_to_list (stated wanted read attributes))
  each_stated wanted attributes each = mapped wanted (find (λ (attribute : Attribute). is_same_key attribute.key wanted) attributes) (of_attribute (λ attribute. is_same_key attribute.key wanted) attributes each)

  or_otherwise : (otherwise : X) → P otherwise → (value : Option X) → Each P (option_to_list value) → P (option_map_or (λ x. x) value otherwise)
  or_otherwise otherwise is None each = is
  or_otherwise otherwise is (Some x) each = each.0

  pub is_stated : (wanted : Key) (otherwise : X) (attributes : List Attribute) → P otherwise → Each (λ attribute. Known attribute.text) attributes → P (stated_or wanted read otherwise attributes)
  is_stated wanted otherwise attributes is each = or_otherwise otherwise is (stated wanted read attributes) (each_stated wanted attributes each)

-- where nothing is known of the texts
abbrev pub Anything : List ℕ → Type 0
Anything text = Unit {0}

pub anything : (attributes : List Attribute) → Each (λ attribute. Anything attribute.text) attributes
anything attributes = each_all (λ (attribute : Attribute). Anything attribute.text) (λ attribute. tt) attributes

-- a good reference names something that is there
pub one_there : (given : List (List ℕ)) (name : List ℕ) → is_one_of given name ≡ true → Has (λ other. other ≡ name) given
one_there [] name e = absurd (false≢true e)
one_there (other ∷ given) name e = by_test (bytes_eq other name) refl e (one_there given name) where
  by_test : (b : Bool) → bytes_eq other name ≡ b → (b || is_one_of given name) ≡ true → (is_one_of given name ≡ true → Has (λ other. other ≡ name) given) → Has (λ other. other ≡ name) (other ∷ given)
  by_test true is e rest = inl ((bytes_eq-Decides other name).0 is)
  by_test false is e rest = inr (rest e)

pub reference_there : (given : List (List ℕ)) (text name : List ℕ) → reference given text ≡ Some name → Has (λ other. other ≡ name) given
reference_there given text name e = by_test (is_one_of given text) refl e where
  by_test : (b : Bool) → is_one_of given text ≡ b → (if b then Some text else None) ≡ Some name → Has (λ other. other ≡ name) given
  by_test true is e = subst (λ (one : List ℕ). Has (λ other. other ≡ one) given) (some_same text name e) (one_there given text is)
  by_test false is e = absurd (none_some name e)

-- a name is not empty, and is short
abbrev pub IsNameOf : List ℕ → List ℕ → Type 0
IsNameOf text name = (text ≡ name) × (name ≢ []) × (length name ≤ 1024)

pub name_read : (text name : List ℕ) → value.name text ≡ Some name → IsNameOf text name
name_read text name e = by_test (bytes_eq text []) (nat_le (length text) 1024) refl refl e where
  by_test : (empty short : Bool) → bytes_eq text [] ≡ empty → nat_le (length text) 1024 ≡ short → (if empty || not short then None else Some text) ≡ Some name → IsNameOf text name
  by_test true true bare few e = absurd (none_some name e)
  by_test true false bare few e = absurd (none_some name e)
  by_test false false bare few e = absurd (none_some name e)
  by_test false true bare few e =
      let same = some_same text name e in
      (same, λ none. false≢true (sym bare ∙ (bytes_eq-Decides text []).1 (same ∙ none)), subst (λ (one : List ℕ). length one ≤ 1024) same (leb-true (length text) 1024 few))

-- a number is in its range
pub number_read : (least greatest : ℕ) (text : List ℕ) (n : ℕ) → value.number least greatest text ≡ Some n → (least ≤ n) × (n ≤ greatest)
number_read least greatest text n e = by_test (is_number text) (nat_le least (digits_value 10 text)) (nat_le (digits_value 10 text) greatest) refl refl e where
  by_test : (digits some few : Bool) → nat_le least (digits_value 10 text) ≡ some → nat_le (digits_value 10 text) greatest ≡ few
      → (if digits && some && few then Some (digits_value 10 text) else None) ≡ Some n → (least ≤ n) × (n ≤ greatest)
  by_test true true true a b e =
      let same = some_same (digits_value 10 text) n e in
      let low = leb-true least (digits_value 10 text) a in
      let high = leb-true (digits_value 10 text) greatest b in
      (subst (λ (m : ℕ). least ≤ m) same low, subst (λ (m : ℕ). m ≤ greatest) same high)
  by_test true true false a b e = absurd (none_some n e)
  by_test true false true a b e = absurd (none_some n e)
  by_test true false false a b e = absurd (none_some n e)
  by_test false true true a b e = absurd (none_some n e)
  by_test false true false a b e = absurd (none_some n e)
  by_test false false true a b e = absurd (none_some n e)
  by_test false false false a b e = absurd (none_some n e)
