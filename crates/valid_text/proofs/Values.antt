-- What attributes of legal characters state.
use Rattle.std.proofs.Common.{◌≡◌, ◌≢◌, ℕ, ◌≤◌, ◌&&◌, not, nat_le, Bool, true, false, cond, List, [], ◌∷◌, find, length, Option, Some, None, option_map, refl, subst, arith}
use Rattle.std.specs.Option.{option_and_then, option_map_or}
use Rattle.std.specs.List.{AllByRecursion as Each}
use Rattle.std.specs.Str.Parse.{digits_value}
use Rattle.std.proofs.lemmas.Bool.{and_parts, leb-true}
use Rattle.doc_model.specs.Chars.{IsLegal}
use Rattle.load_model.specs.declared.names.Key.{Key}
use Rattle.load_model.specs.declared.element.Attribute.{Attribute}
use Rattle.load_model.specs.Fields.{own_name}
use Rattle.load_model.specs.Values as value
use Rattle.load_model.specs.Values.{is_number, is_same_key, stated, stated_or, value_of}
use Rattle.valid_text.specs.Texts.{IsGoodName}

abbrev pub AreLegal : List Attribute → Type 0
AreLegal attributes = Each (λ attribute. Each IsLegal attribute.text) attributes

some_same : {A : Type 0} {x y : A} → Some x ≡ Some y → x ≡ y
some_same e = cc

none_some : {A : Type 0} {x : A} → None ≡ Some x → ⊥
none_some e = cc

-- the value of an attribute is legal
pub value_legal : (wanted : Key) (attributes : List Attribute) → AreLegal attributes → (text : List ℕ) → value_of wanted attributes ≡ Some text → Each IsLegal text
value_legal wanted [] legal text e = absurd (none_some e)
value_legal wanted (attribute ∷ attributes) legal text e = by_test (is_same_key attribute.key wanted) (value_legal wanted attributes legal.1 text) e where
  by_test : (b : Bool) → (value_of wanted attributes ≡ Some text → Each IsLegal text) → option_map (λ (attribute : Attribute). attribute.text) (cond b (Some attribute) (find (λ (one : Attribute). is_same_key one.key wanted) attributes)) ≡ Some text → Each IsLegal text
  by_test true more e = subst (Each IsLegal) (some_same e) legal.0
  by_test false more e = more e

-- what is stated is read from a legal value
pub stated_holds : {X : Type 0} (P : X → Type 0) (wanted : Key) (read : List ℕ → Option X) (attributes : List Attribute) → AreLegal attributes
    → ((text : List ℕ) (x : X) → Each IsLegal text → read text ≡ Some x → P x) → (x : X) → stated wanted read attributes ≡ Some x → P x
stated_holds {X = X} P wanted read attributes legal holds x e = by_value (value_of wanted attributes) refl e where
  by_value : (found : Option (List ℕ)) → value_of wanted attributes ≡ found → option_and_then read found ≡ Some x → P x
  by_value None is e = absurd (none_some e)
  by_value (Some text) is e = holds text x (value_legal wanted attributes legal text is) e

-- what is stated, whatever its characters
pub stated_is : {X : Type 0} (P : X → Type 0) (wanted : Key) (read : List ℕ → Option X) (attributes : List Attribute) → ((text : List ℕ) (x : X) → read text ≡ Some x → P x) → (x : X) → stated wanted read attributes ≡ Some x → P x
stated_is {X = X} P wanted read attributes holds x e = by_value (value_of wanted attributes) e where
  by_value : (found : Option (List ℕ)) → option_and_then read found ≡ Some x → P x
  by_value None e = absurd (none_some e)
  by_value (Some text) e = holds text x e

-- or what holds otherwise
pub stated_or_holds : {X : Type 0} (P : X → Type 0) (wanted : Key) (read : List ℕ → Option X) (otherwise : X) (attributes : List Attribute) → AreLegal attributes
    → P otherwise → ((text : List ℕ) (x : X) → Each IsLegal text → read text ≡ Some x → P x) → P (stated_or wanted read otherwise attributes)
stated_or_holds {X = X} P wanted read otherwise attributes legal other holds = by_stated (stated wanted read attributes) refl where
  by_stated : (found : Option X) → stated wanted read attributes ≡ found → P (option_map_or (λ value. value) found otherwise)
  by_stated None is = other
  by_stated (Some x) is = stated_holds P wanted read attributes legal holds x is

pub empty_good : IsGoodName []
empty_good = (tt, omega arith)

-- names
pub name_short : (text name : List ℕ) → value.name text ≡ Some name → (name ≢ []) × (length name ≤ 1024)
name_short [] name e = absurd (none_some e)
name_short (c ∷ cs) name e = by_length (nat_le (length (c ∷ cs)) 1024) refl e where
  by_length : (b : Bool) → nat_le (length (c ∷ cs)) 1024 ≡ b → cond (not b) None (Some (c ∷ cs)) ≡ Some name → (name ≢ []) × (length name ≤ 1024)
  by_length true is e = subst (λ (found : List ℕ). (found ≢ []) × (length found ≤ 1024)) (some_same e) ((λ none. cc), leb-true (length (c ∷ cs)) 1024 is)
  by_length false is e = absurd (none_some e)

pub name_good : (text name : List ℕ) → Each IsLegal text → value.name text ≡ Some name → IsGoodName name × (name ≢ [])
name_good [] name legal e = absurd (none_some e)
name_good (c ∷ cs) name legal e = by_length (nat_le (length (c ∷ cs)) 1024) refl e where
  by_length : (b : Bool) → nat_le (length (c ∷ cs)) 1024 ≡ b → cond (not b) None (Some (c ∷ cs)) ≡ Some name → IsGoodName name × (name ≢ [])
  by_length true is e = subst (λ (found : List ℕ). IsGoodName found × (found ≢ [])) (some_same e) ((legal, leb-true (length (c ∷ cs)) 1024 is), λ none. cc)
  by_length false is e = absurd (none_some e)

pub name_or_none_good : (text name : List ℕ) → Each IsLegal text → value.name_or_none text ≡ Some name → IsGoodName name
name_or_none_good text name legal e = by_length (nat_le (length text) 1024) refl e where
  by_length : (b : Bool) → nat_le (length text) 1024 ≡ b → cond b (Some text) None ≡ Some name → IsGoodName name
  by_length true is e = subst IsGoodName (some_same e) (legal, leb-true (length text) 1024 is)
  by_length false is e = absurd (none_some e)

pub own_good : (is_first : Bool) (text name : List ℕ) → Each IsLegal text → own_name is_first text ≡ Some name → IsGoodName name
own_good is_first [] name legal e = subst IsGoodName (some_same e) empty_good
own_good true (c ∷ cs) name legal e = (name_good (c ∷ cs) name legal e).0
own_good false (c ∷ cs) name legal e = absurd (none_some e)

-- numbers in a range
pub number_good : (least greatest : ℕ) (text : List ℕ) (n : ℕ) → value.number least greatest text ≡ Some n → (least ≤ n) × (n ≤ greatest)
number_good least greatest text n e = by_test (is_number text && nat_le least (digits_value 10 text) && nat_le (digits_value 10 text) greatest) refl e where
  in_range : (is_number text && nat_le least (digits_value 10 text) && nat_le (digits_value 10 text) greatest) ≡ true → (least ≤ digits_value 10 text) × (digits_value 10 text ≤ greatest)
  in_range is =
      let parts = and_parts (is_number text && nat_le least (digits_value 10 text)) (nat_le (digits_value 10 text) greatest) is in
      let both = and_parts (is_number text) (nat_le least (digits_value 10 text)) parts.0 in
      (leb-true least (digits_value 10 text) both.1, leb-true (digits_value 10 text) greatest parts.1)

  by_test : (b : Bool) → (is_number text && nat_le least (digits_value 10 text) && nat_le (digits_value 10 text) greatest) ≡ b → cond b (Some (digits_value 10 text)) None ≡ Some n → (least ≤ n) × (n ≤ greatest)
  by_test true is e = subst (λ (m : ℕ). (least ≤ m) × (m ≤ greatest)) (some_same e) (in_range is)
  by_test false is e = absurd (none_some e)

pub level_good : (text : List ℕ) (level : ℕ) → value.level text ≡ Some level → (1 ≤ level) × (level ≤ 10)
level_good text level e = number_good 1 10 text level e

pub heading_good : (text : List ℕ) (level : ℕ) → value.heading_level text ≡ Some level → level ≤ 10
heading_good text level e = by_test (is_number text && nat_le 1 (digits_value 10 text)) e where
  by_size : (b : Bool) → nat_le (digits_value 10 text) 10 ≡ b → cond b (digits_value 10 text) 10 ≤ 10
  by_size true is = leb-true (digits_value 10 text) 10 is
  by_size false is = omega arith

  by_test : (b : Bool) → cond b (Some (cond (nat_le (digits_value 10 text) 10) (digits_value 10 text) 10)) None ≡ Some level → level ≤ 10
  by_test true e = subst (λ (m : ℕ). m ≤ 10) (some_same e) (by_size (nat_le (digits_value 10 text) 10) refl)
  by_test false e = absurd (none_some e)
