-- Attributes that may be stated, as they are written and read: each stands under its key, or isn't there.
use Rattle.std.proofs.Common.{◌≡◌, ℕ, ◌&&◌, not, Bool, true, false, cond, List, [], ◌∷◌, ◌++◌, map, filter, find, length, refl, ap, ap₂, sym, ◌∙◌, Option, Some, None, option_map, option_to_list, is_some}
use Rattle.std.specs.List.{flat_map, AllByRecursion as Each}
use Rattle.std.specs.Option.{option_and_then, option_or}
use Rattle.std.proofs.lemmas.List.{map-append}
use Rattle.std.proofs.lemmas.Grind.{flat_map-append}
use Rattle.markup_nodes.specs.declared.words.Attr.{Attr}
use Rattle.load_model.specs.declared.names.Key.{Key}
use Rattle.load_model.specs.declared.names.Key.TheVariants as key
use Rattle.load_model.specs.declared.element.Attribute.{Attribute}
use Rattle.load_model.specs.Values.{Rule, is_same_key, value_of, stated, is_read, attributes_left}
use Rattle.written_model.specs.Elements.{attribute, unless_empty, where_stated}
use Rattle.back_names.specs.Named.{key_named, named_attribute}

-- an attribute by its key, if it is stated
pub record Slot : Type 0 where
  pub key : Key
  pub text : Option (List ℕ)

abbrev pub slot : Key → Option (List ℕ) → Slot
slot which text = record { key = which; text = text }

abbrev pub own : Key → Option (List ℕ) → List Attribute
own which None = []
own which (Some text) = record { key = which; text = text } ∷ []

-- the attributes that some of them state
abbrev pub stated_of : List Slot → List Attribute
stated_of slots = flat_map (λ one. own one.key one.text) slots

-- what is found under a key
abbrev pub look_up : Key → List Slot → Option (List ℕ)
look_up wanted [] = None
look_up wanted (one ∷ more) = cond (is_same_key one.key wanted) (option_or one.text (look_up wanted more)) (look_up wanted more)

or_none : {X : Type 0} (one : Option X) → option_or one None ≡ one
or_none None = refl
or_none (Some x) = refl

same_both : {X : Type 0} (test : Bool) (x : X) → x ≡ cond test x x
same_both true x = refl
same_both false x = refl

found_first : (wanted which : Key) (text : Option (List ℕ)) (more : List Attribute) (rest : Option (List ℕ)) → value_of wanted more ≡ rest
    → value_of wanted (own which text ++ more) ≡ cond (is_same_key which wanted) (option_or text rest) rest
found_first wanted which None more rest e = e ∙ same_both (is_same_key which wanted) rest
found_first wanted which (Some text) more rest e = by_key (is_same_key which wanted) where
  by_key : (same : Bool) → option_map (λ (one : Attribute). one.text) (cond same (Some (record { key = which; text = text })) (find (λ one. is_same_key one.key wanted) more)) ≡ cond same (Some text) rest
  by_key true = refl
  by_key false = e

pub looked_up : (wanted : Key) (slots : List Slot) → value_of wanted (stated_of slots) ≡ look_up wanted slots
looked_up wanted [] = refl
looked_up wanted (one ∷ more) = found_first wanted one.key one.text (stated_of more) (look_up wanted more) (looked_up wanted more)

-- what is stated under a key that stands once
pub stated_in : {X : Type 0} (wanted : Key) (read : List ℕ → Option X) (slots : List Slot) (text : Option (List ℕ)) → look_up wanted slots ≡ option_or text None
    → stated wanted read (stated_of slots) ≡ option_and_then read text
stated_in wanted read slots text e = ap (option_and_then read) (looked_up wanted slots ∙ e ∙ or_none text)

pub not_stated : {X : Type 0} (wanted : Key) (read : List ℕ → Option X) (slots : List Slot) → look_up wanted slots ≡ None → stated wanted read (stated_of slots) ≡ None
not_stated wanted read slots e = ap (option_and_then read) (looked_up wanted slots ∙ e)

-- a value is read back where it is in its range
module _ {X : Type 0} (read : List ℕ → Option X) (text : X → List ℕ) (Holds : X → Type 0) (back : (x : X) → Holds x → read (text x) ≡ Some x) where
  pub value_back : (one : Option X) → Each Holds (option_to_list one) → option_and_then read (option_map text one) ≡ one
  value_back None holds = refl
  value_back (Some x) holds = back x holds.0

  pub value_good : (one : Option X) → Each Holds (option_to_list one) → Each (λ said. is_some (read said) ≡ true) (option_to_list (option_map text one))
  value_good None holds = tt
  value_good (Some x) holds = (ap is_some (back x holds.0), tt)

  pub value_stated : (wanted : Key) (slots : List Slot) (one : Option X) → look_up wanted slots ≡ option_or (option_map text one) None → Each Holds (option_to_list one) → stated wanted read (stated_of slots) ≡ one
  value_stated wanted slots one e holds = stated_in wanted read slots (option_map text one) e ∙ value_back one holds

-- a slot of which nothing is left out by some rules
abbrev pub IsGood : List Rule → Slot → Type 0
IsGood rules one = Each (λ text. is_read rules (record { key = one.key; text = text }) ≡ true) (option_to_list one.text)

none_first : (rules : List Rule) (which : Key) (text : Option (List ℕ)) (more : List Attribute) → IsGood rules (slot which text) → attributes_left rules more ≡ 0 → attributes_left rules (own which text ++ more) ≡ 0
none_first rules which None more good e = e
none_first rules which (Some text) more good e =
    ap (λ (read : Bool). length (cond (not read && not (is_same_key which key.Uncounted)) ((record { key = which; text = text }) ∷ others) others)) good.0 ∙ e where
      others : List Attribute
      others = filter (λ one. not (is_read rules one) && not (is_same_key one.key key.Uncounted)) more

pub none_left : (rules : List Rule) (slots : List Slot) → Each (IsGood rules) slots → attributes_left rules (stated_of slots) ≡ 0
none_left rules [] good = refl
none_left rules (one ∷ more) good = none_first rules one.key one.text (stated_of more) good.0 (none_left rules more good.1)

-- attributes as they are written, with the slot that they are named as
pub record Piece : Type 0 where
  pub attrs : List Attr
  pub slot : Slot
  pub same : map named_attribute attrs ≡ own slot.key slot.text

-- one that is always written, one that is where a value is stated, and one that is where its text isn't empty
abbrev pub needed : (name : List ℕ) (which : Key) (text : List ℕ) → key_named name ≡ which → Piece
needed name which text is = record { attrs = attribute name text ∷ []; slot = slot which (Some text); same = ap (λ (one : Key). (record { key = one; text = text }) ∷ []) is }

abbrev pub optional : {X : Type 0} (name : List ℕ) (which : Key) (text : X → List ℕ) (one : Option X) → key_named name ≡ which → Piece
optional {X} name which text one is = record { attrs = where_stated name text one; slot = slot which (option_map text one); same = by_value one } where
  by_value : (given : Option X) → map named_attribute (where_stated name text given) ≡ own which (option_map text given)
  by_value None = refl
  by_value (Some x) = ap (λ (one : Key). (record { key = one; text = text x }) ∷ []) is

-- a text that isn't empty
abbrev pub some_text : List ℕ → Option (List ℕ)
some_text [] = None
some_text (c ∷ cs) = Some (c ∷ cs)

abbrev pub not_empty : (name : List ℕ) (which : Key) (text : List ℕ) → key_named name ≡ which → Piece
not_empty name which text is = record { attrs = unless_empty name text; slot = slot which (some_text text); same = by_text text } where
  by_text : (given : List ℕ) → map named_attribute (unless_empty name given) ≡ own which (some_text given)
  by_text [] = refl
  by_text (c ∷ cs) = ap (λ (one : Key). (record { key = one; text = c ∷ cs }) ∷ []) is

-- pieces one after another, of which the last stands in front
abbrev pub all_attrs : List Piece → List Attr
all_attrs [] = []
all_attrs (piece ∷ before) = all_attrs before ++ piece.attrs

abbrev pub all_slots : List Piece → List Slot
all_slots [] = []
all_slots (piece ∷ before) = all_slots before ++ piece.slot ∷ []

alone : (which : Key) (text : Option (List ℕ)) → own which text ≡ stated_of (slot which text ∷ [])
alone which None = refl
alone which (Some text) = refl

pub all_named : (pieces : List Piece) → map named_attribute (all_attrs pieces) ≡ stated_of (all_slots pieces)
all_named [] = refl
all_named (piece ∷ before) =
    map-append named_attribute (all_attrs before) piece.attrs ∙ ap₂ (λ (one other : List Attribute). one ++ other) (all_named before) (piece.same ∙ alone piece.slot.key piece.slot.text)
    ∙ sym (flat_map-append (λ one. own one.key one.text) (all_slots before) (piece.slot ∷ []))
