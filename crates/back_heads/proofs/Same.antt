-- Nodes that are read alike in headers and in paragraphs.
use Rattle.std.specs.List.{AllByRecursion as Each}
use Rattle.std.proofs.Common.{◌≡◌, ℕ, zero, suc, false, List, [], ◌∷◌, map, codes, decimal, refl, ap, ap₂, sym, ◌∙◌}
use Rattle.markup_nodes.specs.declared.words.Attr.{Attr}
use Rattle.markup_nodes.specs.declared.tree.Elem.{Elem}
use Rattle.markup_nodes.specs.Node.{Node}
use Rattle.load_model.specs.declared.names.Tag.{Tag}
use Rattle.load_model.specs.declared.names.Tag.TheVariants as tag
use Rattle.load_model.specs.declared.element.Attribute.{Attribute}
use Rattle.load_model.specs.Blocks.{Around, ReadContent, content_of, element_content, joined_content, node_content}
use Rattle.load_model.specs.Headers as head
use Rattle.load_model.specs.Headers.{Within}
use Rattle.load_model.specs.Styles.{Names}
use Rattle.written_model.specs.Content.{spaces_element}
use Rattle.written_model.specs.Elements.{attribute, empty_element}
use Rattle.back_names.specs.Named.{tag_named, named_attribute}
use Rattle.back_fields.specs.Given.{all_kept, given}
use Rattle.back_fields.proofs.Opened.{element_given}
use Rattle.back_items.proofs.Keys as named
use Rattle.back_heads.proofs.Inside.{head_given, within_named}

-- outside of all spans and notes
abbrev pub bare : Around
bare = record { spans = []; in_note = false }

-- a node gives the same in a header and in a paragraph
abbrev pub IsSame : Node Elem → Type 0
IsSame node = (names : Names) → head.node_content names (head_given node) ≡ node_content bare (given names node)

-- an empty element of this kind does, whatever its attributes
abbrev pub IsSameKind : Tag → Type 0
IsSameKind which = (names : Names) (attributes : List Attribute) → head.element_content which attributes [] names ≡ element_content (all_kept names) which 0 attributes [] bare

pub element_same : (called : List ℕ) (attrs : List Attr) (which : Tag) → tag_named called ≡ which → IsSameKind which → IsSame (empty_element called attrs)
element_same called attrs which is same names =
    ap (λ (held : Within). held.content names) (within_named called attrs [])
    ∙ ap (λ (one : Tag). head.element_content one (map named_attribute attrs) [] names) is
    ∙ same names (map named_attribute attrs)
    ∙ sym (ap (λ (one : Tag). element_content (all_kept names) one 0 (map named_attribute attrs) [] bare) is)
    ∙ sym (ap (node_content bare) (element_given names called attrs []))

-- spaces are
pub spaces_same : (count : ℕ) → IsSame (spaces_element count)
spaces_same zero = element_same (codes "text:s") (attribute (codes "text:c") (decimal zero) ∷ []) tag.Spaces named.spaces_tag (λ names attributes. refl)
spaces_same (suc zero) = element_same (codes "text:s") [] tag.Spaces named.spaces_tag (λ names attributes. refl)
spaces_same (suc (suc more)) = element_same (codes "text:s") (attribute (codes "text:c") (decimal (suc (suc more))) ∷ []) tag.Spaces named.spaces_tag (λ names attributes. refl)

-- all nodes of a list
pub all_same : (names : Names) (nodes : List (Node Elem)) → Each IsSame nodes → head.content_of names (map head_given nodes) ≡ content_of bare (map (given names) nodes)
all_same names nodes each = ap joined_content (contents nodes each) where
  contents : (some : List (Node Elem)) → Each IsSame some → map (head.node_content names) (map head_given some) ≡ map (node_content bare) (map (given names) some)
  contents [] each = refl
  contents (node ∷ more) each = ap₂ (λ (one : ReadContent) (others : List ReadContent). one ∷ others) (each.0 names) (contents more each.1)
