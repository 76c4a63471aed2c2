-- What is read one after another, with sources and declarations, and attributes that may be absent.
use Rattle.std.proofs.Common.{◌≡◌, ℕ, Bool, true, false, cond, List, [], ◌∷◌, ◌++◌, map, refl, ap, ◌∙◌, Some, option_map}
use Rattle.std.specs.List.{flat_map, find, fold}
use Rattle.markup_nodes.specs.declared.words.Attr.{Attr}
use Rattle.markup_nodes.specs.declared.tree.Elem.{Elem}
use Rattle.markup_nodes.specs.Node.{Node, Element}
use Rattle.markup_nodes.specs.Nodes.{elems}
use Rattle.doc_model.specs.declared.block.Block.{Block}
use Rattle.load_model.specs.declared.names.Key.{Key}
use Rattle.load_model.specs.declared.element.Attribute.{Attribute}
use Rattle.load_model.specs.Blocks.{Gives, Lists, ReadBlocks, ReadDeclarations, ReadSource, joined_blocks, left_by}
use Rattle.load_model.specs.Left.{both, nothing}
use Rattle.load_model.specs.Styles.{Names}
use Rattle.load_model.specs.Values.{Rule, is_read, is_same_key, value_of}
use Rattle.written_model.specs.Elements.{where_true}
use Rattle.back_names.specs.Named.{key_named, named_attribute}
use Rattle.back_fields.specs.Given.{given}
use Rattle.back_fields.proofs.Attributes.{at, at_unless, left_first, named_first}
use Rattle.back_paragraphs.specs.Paragraphs.{parts_of}

-- these are read, with nothing left out
abbrev pub all_read : List Block → List ReadSource → List ReadDeclarations → ReadBlocks
all_read blocks sources declarations = record { blocks = blocks; sources = sources; declarations = declarations; left = nothing }

-- a node that is read so
pub record IsParts (names : Names) (lists : Lists) (node : Node Elem) (read : ReadBlocks) : Type 0 where
  pub gives : Gives
  pub is : given names node ≡ Element gives
  pub read_is : gives.blocks lists ≡ read

module _ (first : ReadBlocks) (more : List ReadBlocks) (b c : List Block) (s t : List ReadSource) (d e : List ReadDeclarations) where
  joined_more : first ≡ all_read b s d → joined_blocks more ≡ all_read c t e → joined_blocks (first ∷ more) ≡ all_read (b ++ c) (s ++ t) (d ++ e)
  joined_more one other = ap with_first one ∙ ap with_more other where
    with_first : ReadBlocks → ReadBlocks
    with_first read = record {
      blocks = read.blocks ++ flat_map (λ (part : ReadBlocks). part.blocks) more;
      sources = read.sources ++ flat_map (λ (part : ReadBlocks). part.sources) more;
      declarations = read.declarations ++ flat_map (λ (part : ReadBlocks). part.declarations) more;
      left = fold both (both nothing read.left) (map (λ (part : ReadBlocks). part.left) more);
    }

    with_more : ReadBlocks → ReadBlocks
    with_more read = record { blocks = b ++ read.blocks; sources = s ++ read.sources; declarations = d ++ read.declarations; left = read.left }

module _ (names : Names) (lists : Lists) (node : Node Elem) (nodes : List (Node Elem)) (b c : List Block) (s t : List ReadSource) (d e : List ReadDeclarations) where
  pub parts_first : IsParts names lists node (all_read b s d) → parts_of names lists nodes ≡ all_read c t e → parts_of names lists (node ∷ nodes) ≡ all_read (b ++ c) (s ++ t) (d ++ e)
  parts_first one other =
      ap (λ (first : Node Gives). joined_blocks (map (λ (gives : Gives). gives.blocks lists) (elems (first ∷ map (given names) nodes)))) one.is
      ∙ joined_more (one.gives.blocks lists) (map (λ (gives : Gives). gives.blocks lists) (elems (map (given names) nodes))) b c s t d e one.read_is other

-- an attribute that is there where this holds
abbrev pub at_true : Key → List ℕ → Bool → List Attribute → List Attribute
at_true which text false more = more
at_true which text true more = at which text ∷ more

pub named_true : (name text : List ℕ) (which : Key) (holds : Bool) (attrs : List Attr) (attributes : List Attribute) → key_named name ≡ which → map named_attribute attrs ≡ attributes
    → map named_attribute (where_true name text holds ++ attrs) ≡ at_true which text holds attributes
named_true name text which false attrs attributes is are = are
named_true name text which true attrs attributes is are = named_first name text which attrs attributes is are

pub left_true : (rules : List Rule) (which : Key) (text : List ℕ) (holds : Bool) (more : List Attribute) → is_read rules (at which text) ≡ true → left_by rules more ≡ nothing → left_by rules (at_true which text holds more) ≡ nothing
left_true rules which text false more is none = none
left_true rules which text true more is none = left_first rules (at which text) more is none

-- others than the wanted one are passed
pub past_unless : (which wanted : Key) (text : List ℕ) (more : List Attribute) → is_same_key which wanted ≡ false → value_of wanted (at_unless which text more) ≡ value_of wanted more
past_unless which wanted [] more e = refl
past_unless which wanted (c ∷ cs) more e =
    ap (λ (b : Bool). option_map (λ (one : Attribute). one.text) (cond b (Some (at which (c ∷ cs))) (find (λ attribute. is_same_key attribute.key wanted) more))) e

pub past_true : (which wanted : Key) (text : List ℕ) (holds : Bool) (more : List Attribute) → is_same_key which wanted ≡ false → value_of wanted (at_true which text holds more) ≡ value_of wanted more
past_true which wanted text false more e = refl
past_true which wanted text true more e = ap (λ (b : Bool). option_map (λ (one : Attribute). one.text) (cond b (Some (at which text)) (find (λ attribute. is_same_key attribute.key wanted) more))) e
