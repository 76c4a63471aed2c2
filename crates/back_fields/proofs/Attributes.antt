-- Attributes as they are named, and that none is left out.
use Rattle.std.proofs.Common.{◌≡◌, ℕ, ◌&&◌, not, Bool, true, cond, List, [], ◌∷◌, ◌++◌, map, filter, length, ap, ap₂, ◌∙◌}
use Rattle.markup_nodes.specs.declared.words.Attr.{Attr}
use Rattle.load_model.specs.declared.names.Key.{Key}
use Rattle.load_model.specs.declared.names.Key.TheVariants as key
use Rattle.load_model.specs.declared.element.Attribute.{Attribute}
use Rattle.load_model.specs.Blocks.{left_by}
use Rattle.load_model.specs.Left.{nothing, only_attributes}
use Rattle.load_model.specs.Values.{Rule, is_read, is_same_key}
use Rattle.written_model.specs.Elements.{attribute, unless_empty}
use Rattle.back_names.specs.Named.{key_named, named_attribute}

-- an attribute by its key
abbrev pub at : Key → List ℕ → Attribute
at which text = record { key = which; text = text }

-- one that is there where its value isn't empty, in front of others
abbrev pub at_unless : Key → List ℕ → List Attribute → List Attribute
at_unless which [] more = more
at_unless which (c ∷ cs) more = at which (c ∷ cs) ∷ more

-- attributes as they are named
pub named_first : (name text : List ℕ) (which : Key) (attrs : List Attr) (attributes : List Attribute) → key_named name ≡ which → map named_attribute attrs ≡ attributes
    → map named_attribute (attribute name text ∷ attrs) ≡ at which text ∷ attributes
named_first name text which attrs attributes is are = ap₂ (λ (one : Key) (more : List Attribute). at one text ∷ more) is are

pub named_unless : (name text : List ℕ) (which : Key) (attrs : List Attr) (attributes : List Attribute) → key_named name ≡ which → map named_attribute attrs ≡ attributes
    → map named_attribute (unless_empty name text ++ attrs) ≡ at_unless which text attributes
named_unless name [] which attrs attributes is are = are
named_unless name (c ∷ cs) which attrs attributes is are = named_first name (c ∷ cs) which attrs attributes is are

-- an attribute that is read isn't left out
pub left_first : (rules : List Rule) (one : Attribute) (more : List Attribute) → is_read rules one ≡ true → left_by rules more ≡ nothing → left_by rules (one ∷ more) ≡ nothing
left_first rules one more is none = ap (λ (read : Bool). only_attributes (length (cond (not read && not (is_same_key one.key key.Uncounted)) (one ∷ others) others))) is ∙ none where
  others : List Attribute
  others = filter (λ attribute. not (is_read rules attribute) && not (is_same_key attribute.key key.Uncounted)) more

pub left_unless : (rules : List Rule) (which : Key) (text : List ℕ) (more : List Attribute) → is_read rules (at which text) ≡ true → left_by rules more ≡ nothing → left_by rules (at_unless which text more) ≡ nothing
left_unless rules which [] more is none = none
left_unless rules which (c ∷ cs) more is none = left_first rules (at which (c ∷ cs)) more is none
