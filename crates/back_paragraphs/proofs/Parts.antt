-- Blocks that are read one after another, and attributes that name a style.
use Rattle.std.proofs.Common.{◌≡◌, ℕ, List, [], ◌∷◌, ◌++◌, map, refl, ap, ap₂, ◌∙◌, inl, inr, codes, Option, is_some}
use Rattle.std.specs.List.{flat_map, fold}
use Rattle.std.specs.Option.{option_map_or}
use Rattle.markup_nodes.specs.declared.words.Attr.{Attr}
use Rattle.markup_nodes.specs.declared.tree.Elem.{Elem}
use Rattle.markup_nodes.specs.Node.{Node, Element}
use Rattle.markup_nodes.specs.Nodes.{elems}
use Rattle.doc_model.specs.declared.block.Block.{Block}
use Rattle.load_model.specs.declared.names.Key.TheVariants as key
use Rattle.load_model.specs.declared.names.Tag.{Tag}
use Rattle.load_model.specs.declared.element.Attribute.{Attribute}
use Rattle.load_model.specs.Blocks.{Gives, Lists, ReadBlocks, joined_blocks, left_by}
use Rattle.load_model.specs.Left.{both, nothing}
use Rattle.load_model.specs.Styles.{Names}
use Rattle.load_model.specs.Values.{Rule, rule, stated_or}
use Rattle.written_model.specs.Elements.{element, unless_empty}
use Rattle.back_names.specs.Named.{tag_named, key_named, named_attribute}
use Rattle.back_fields.specs.Given.{all_kept, given}
use Rattle.back_fields.proofs.Attributes.{at, at_unless, left_first, named_first}
use Rattle.back_fields.proofs.Opened.{gives_with, element_given}
use Rattle.back_paragraphs.specs.Paragraphs.{IsNoneOrGood, parts_of, whole_blocks}

-- an element of this name and these attributes
pub gives_at : (names : Names) (called : List ℕ) (attrs : List Attr) (nodes : List (Node Elem)) (which : Tag) (attributes : List Attribute) → tag_named called ≡ which → map named_attribute attrs ≡ attributes
    → given names (element called attrs nodes) ≡ Element (gives_with (all_kept names) which attributes (map (given names) nodes))
gives_at names called attrs nodes which attributes is are =
    element_given names called attrs nodes ∙ ap₂ (λ (one : Tag) (all : List Attribute). Element (gives_with (all_kept names) one all (map (given names) nodes))) is are

-- a node that is read as these blocks
pub record IsBlocks (names : Names) (lists : Lists) (node : Node Elem) (blocks : List Block) : Type 0 where
  pub gives : Gives
  pub is : given names node ≡ Element gives
  pub read : gives.blocks lists ≡ whole_blocks blocks

-- one more in front
pub joined_more : (first : ReadBlocks) (more : List ReadBlocks) (blocks others : List Block) → first ≡ whole_blocks blocks → joined_blocks more ≡ whole_blocks others → joined_blocks (first ∷ more) ≡ whole_blocks (blocks ++ others)
joined_more first more blocks others one other = ap with_first one ∙ ap with_more other where
  with_first : ReadBlocks → ReadBlocks
  with_first read = record {
    blocks = read.blocks ++ flat_map (λ (part : ReadBlocks). part.blocks) more;
    sources = read.sources ++ flat_map (λ (part : ReadBlocks). part.sources) more;
    declarations = read.declarations ++ flat_map (λ (part : ReadBlocks). part.declarations) more;
    left = fold both (both nothing read.left) (map (λ (part : ReadBlocks). part.left) more);
  }

  with_more : ReadBlocks → ReadBlocks
  with_more read = record read { blocks = blocks ++ read.blocks }

pub part_first : (names : Names) (lists : Lists) (node : Node Elem) (nodes : List (Node Elem)) (blocks others : List Block) → IsBlocks names lists node blocks → parts_of names lists nodes ≡ whole_blocks others
    → parts_of names lists (node ∷ nodes) ≡ whole_blocks (blocks ++ others)
part_first names lists node nodes blocks others one other =
    ap (λ (first : Node Gives). joined_blocks (map (λ (gives : Gives). gives.blocks lists) (elems (first ∷ map (given names) nodes)))) one.is
    ∙ joined_more (one.gives.blocks lists) (map (λ (gives : Gives). gives.blocks lists) (elems (map (given names) nodes))) blocks others one.read other

-- an attribute that names a style
pub style_attributes : (style : List ℕ) → key_named (codes "text:style-name") ≡ key.StyleName → map named_attribute (unless_empty (codes "text:style-name") style) ≡ at_unless key.StyleName style []
style_attributes [] is = refl
style_attributes (c ∷ cs) is = named_first (codes "text:style-name") (c ∷ cs) key.StyleName [] [] is refl

pub style_stated : (read : List ℕ → Option (List ℕ)) (style otherwise : List ℕ) (more : List Attribute) → IsNoneOrGood read style → (style ≡ [] → stated_or key.StyleName read otherwise more ≡ [])
    → stated_or key.StyleName read otherwise (at_unless key.StyleName style more) ≡ style
style_stated read [] otherwise more good none = none refl
style_stated read (c ∷ cs) otherwise more (inl e) none = cc
style_stated read (c ∷ cs) otherwise more (inr e) none = ap (λ (found : Option (List ℕ)). option_map_or (λ value. value) found otherwise) e

pub style_left : (read : List ℕ → Option (List ℕ)) (rules : List Rule) (style : List ℕ) (more : List Attribute) → IsNoneOrGood read style → left_by (rule key.StyleName read ∷ rules) more ≡ nothing
    → left_by (rule key.StyleName read ∷ rules) (at_unless key.StyleName style more) ≡ nothing
style_left read rules [] more good none = none
style_left read rules (c ∷ cs) more (inl e) none = cc
style_left read rules (c ∷ cs) more (inr e) none = left_first (rule key.StyleName read ∷ rules) (at key.StyleName (c ∷ cs)) more (ap is_some e) none
