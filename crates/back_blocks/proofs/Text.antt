-- A text with its declarations is read back.
use Rattle.std.proofs.Common.{◌≡◌, ℕ, ◌-◌, ◌&&◌, Bool, true, false, cond, List, [], ◌∷◌, ◌++◌, map, filter, length, codes, refl, ap, ap₂, ◌∙◌, append_assoc, append-nil, arith, Option, is_some}
use Rattle.std.specs.List.{AllByRecursion as Each}
use Rattle.std.specs.Option.{option_map_or}
use Rattle.markup_nodes.specs.declared.words.Attr.{Attr}
use Rattle.markup_nodes.specs.declared.tree.Elem.{Elem}
use Rattle.markup_nodes.specs.Node.{Node}
use Rattle.markup_nodes.specs.Nodes.{elems}
use Rattle.doc_model.specs.declared.block.Block.{Block}
use Rattle.doc_model.specs.declared.document.Document.{Document}
use Rattle.doc_model.specs.Parts.{sections}
use Rattle.doc_model.specs.Reading.{body_paragraphs}
use Rattle.load_model.specs.declared.names.Key.TheVariants as key
use Rattle.load_model.specs.declared.names.Tag.{Tag}
use Rattle.load_model.specs.declared.names.Tag.TheVariants as tag
use Rattle.load_model.specs.declared.element.Attribute.{Attribute}
use Rattle.load_model.specs.Blocks.{Declared, Gives, ReadBlocks, ReadDeclarations, declaration_blocks, left_by}
use Rattle.load_model.specs.Left.{Left, both, is_same_tag, nothing, only_elements}
use Rattle.load_model.specs.Styles.{Names}
use Rattle.load_model.specs.Values as value
use Rattle.load_model.specs.Values.{rule, stated, stated_or}
use Rattle.written_model.specs.Blocks.{block_element, note_element}
use Rattle.written_model.specs.Elements.{attribute, element, empty_element}
use Rattle.written_model.specs.Written.{sequence_declarations, variable_declarations}
use Rattle.back_names.specs.Named.{tag_named, named_attribute}
use Rattle.back_fields.specs.Fit.{IsName}
use Rattle.back_fields.specs.Given.{all_kept, given}
use Rattle.back_fields.proofs.Attributes.{at, left_first, named_first}
use Rattle.back_fields.proofs.Keys as field_name
use Rattle.back_fields.proofs.Opened.{gives_with}
use Rattle.back_values.proofs.Texts.{name_back}
use Rattle.back_paragraphs.specs.Paragraphs.{IsReadablePar, outside, parts_of}
use Rattle.back_paragraphs.proofs.Parts.{gives_at}
use Rattle.back_blocks.specs.Blocks.{IsReadableSection, declared_names}
use Rattle.back_blocks.proofs.Joins.{IsParts, all_read, parts_first}
use Rattle.back_blocks.proofs.Keys as named
use Rattle.back_blocks.proofs.Sections.{blocks_read}

-- declarations of one kind, each by an element of this tag with an attribute that isn't counted
module _ (names : Names) (sequences : Bool) (which : Tag) (same : is_same_tag which which ≡ true) (uncounted : List ℕ) where
  abbrev own : List ℕ → List Attribute
  own name = at key.Uncounted uncounted ∷ at key.TextName name ∷ []

  abbrev gives_one : List ℕ → Gives
  gives_one name = gives_with (all_kept names) which (own name) []

  abbrev is_named : Gives → Bool
  is_named one = is_same_tag one.tag which && is_some (stated key.TextName value.name one.attributes)

  abbrev declared_by : Gives → Declared
  declared_by one = record { place = one.place; name = stated_or key.TextName value.name [] one.attributes; left = both (left_by (rule key.TextName value.name ∷ []) one.attributes) (only_elements one.children) }

  abbrev kept_one : List ℕ → Declared
  kept_one name = record { place = 0; name = name; left = nothing }

  all_named : (list : List (List ℕ)) → Each IsName list → filter is_named (map gives_one list) ≡ map gives_one list
  all_named [] each = refl
  all_named (name ∷ list) each =
      ap₂ (λ (tagged good : Bool). cond (tagged && good) (gives_one name ∷ filter is_named (map gives_one list)) (filter is_named (map gives_one list))) same (ap is_some (name_back name each.0.0 each.0.1))
      ∙ ap (λ (more : List Gives). gives_one name ∷ more) (all_named list each.1)

  one_declared : (name : List ℕ) → IsName name → declared_by (gives_one name) ≡ kept_one name
  one_declared name is =
      ap₂ (λ (found : Option (List ℕ)) (left : Left). made found left) (name_back name is.0 is.1)
      (left_first (rule key.TextName value.name ∷ []) (at key.TextName name) [] (ap is_some (name_back name is.0 is.1)) refl) where
        made : Option (List ℕ) → Left → Declared
        made found left = record { place = 0; name = option_map_or (λ value. value) found []; left = both left nothing }

  all_declared : (list : List (List ℕ)) → Each IsName list → map declared_by (map gives_one list) ≡ map kept_one list
  all_declared [] each = refl
  all_declared (name ∷ list) each = ap₂ (λ (one : Declared) (more : List Declared). one ∷ more) (one_declared name each.0) (all_declared list each.1)

  declarations_read : (list : List (List ℕ)) → Each IsName list → declaration_blocks sequences which [] (map gives_one list) ≡ all_read [] [] (record { sequences = sequences; declared = map kept_one list; left = nothing } ∷ [])
  declarations_read list each =
      ap (λ (named : List Gives). made (map declared_by named) (length (map gives_one list) - length named)) (all_named list each)
      ∙ ap₂ made (all_declared list each) (none (length (map gives_one list))) where
        made : List Declared → ℕ → ReadBlocks
        made declared count = all_read [] [] (record { sequences = sequences; declared = declared; left = both nothing (only_elements count) } ∷ [])

        none : (n : ℕ) → n - n ≡ 0
        none n = omega arith

  -- the elements of declarations
  module _ (called part_called : List ℕ) (attrs : List ℕ → List Attr) (is : tag_named called ≡ which) (named : (name : List ℕ) → map named_attribute (attrs name) ≡ own name) where
    abbrev written : List ℕ → Node Elem
    written name = empty_element called (attrs name)

    all_given : (list : List (List ℕ)) → elems (map (given names) (map written list)) ≡ map gives_one list
    all_given [] = refl
    all_given (name ∷ list) =
        ap (λ (first : Node Gives). elems (first ∷ map (given names) (map written list))) (gives_at names called (attrs name) [] which (own name) is (named name))
        ∙ ap (λ (more : List Gives). gives_one name ∷ more) (all_given list)

    part_read : (part : Tag) (list : List (List ℕ)) → Each IsName list → tag_named part_called ≡ part
        → ((gives : List Gives) → (nodes : List (Node Gives)) → elems nodes ≡ gives → (gives_with (all_kept names) part [] nodes).blocks (outside false) ≡ declaration_blocks sequences which [] gives)
        → IsParts names (outside false) (element part_called [] (map written list)) (all_read [] [] (record { sequences = sequences; declared = map kept_one list; left = nothing } ∷ []))
    part_read part list each tagged reads = record {
      gives = gives_with (all_kept names) part [] (map (given names) (map written list));
      is = gives_at names part_called [] (map written list) part [] tagged refl;
      read_is = reads (map gives_one list) (map (given names) (map written list)) (all_given list) ∙ declarations_read list each;
    }

module _ (names : Names) where
  variables_read : (list : List (List ℕ)) → Each IsName list → (nodes : List (Node Elem)) (blocks : List Block) (more : List ReadDeclarations) → parts_of names (outside false) nodes ≡ all_read blocks [] more
      → parts_of names (outside false) (variable_declarations list ++ nodes) ≡ all_read blocks [] (declared_names false list ++ more)
  variables_read [] each nodes blocks more e = e
  variables_read (name ∷ list) each nodes blocks more e =
      parts_first names (outside false) (element (codes "text:variable-decls") [] (map one (name ∷ list))) nodes [] blocks [] []
      (declared_names false (name ∷ list)) more
      (part_read names false tag.VariableDeclaration refl (codes "string") (codes "text:variable-decl") (codes "text:variable-decls") attrs named.variable_tag are_named tag.VariableDeclarations (name ∷ list) each named.variables_tag
      (λ gives nodes is. ap (declaration_blocks false tag.VariableDeclaration []) is))
      e where
        attrs : List ℕ → List Attr
        attrs name = attribute (codes "office:value-type") (codes "string") ∷ attribute (codes "text:name") name ∷ []

        one : List ℕ → Node Elem
        one name = empty_element (codes "text:variable-decl") (attrs name)

        are_named : (name : List ℕ) → map named_attribute (attrs name) ≡ at key.Uncounted (codes "string") ∷ at key.TextName name ∷ []
        are_named name =
            named_first (codes "office:value-type") (codes "string") key.Uncounted (attribute (codes "text:name") name ∷ []) (at key.TextName name ∷ []) named.value_type_key (named_first (codes "text:name") name key.TextName [] [] field_name.name_key refl)

  sequences_read : (list : List (List ℕ)) → Each IsName list → (nodes : List (Node Elem)) (blocks : List Block) (more : List ReadDeclarations) → parts_of names (outside false) nodes ≡ all_read blocks [] more
      → parts_of names (outside false) (sequence_declarations list ++ nodes) ≡ all_read blocks [] (declared_names true list ++ more)
  sequences_read [] each nodes blocks more e = e
  sequences_read (name ∷ list) each nodes blocks more e =
      parts_first names (outside false) (element (codes "text:sequence-decls") [] (map one (name ∷ list))) nodes [] blocks [] []
      (declared_names true (name ∷ list)) more
      (part_read names true tag.SequenceDeclaration refl (codes "0") (codes "text:sequence-decl") (codes "text:sequence-decls") attrs named.sequence_tag are_named tag.SequenceDeclarations (name ∷ list) each named.sequences_tag
      (λ gives nodes is. ap (declaration_blocks true tag.SequenceDeclaration []) is))
      e where
        attrs : List ℕ → List Attr
        attrs name = attribute (codes "text:display-outline-level") (codes "0") ∷ attribute (codes "text:name") name ∷ []

        one : List ℕ → Node Elem
        one name = empty_element (codes "text:sequence-decl") (attrs name)

        are_named : (name : List ℕ) → map named_attribute (attrs name) ≡ at key.Uncounted (codes "0") ∷ at key.TextName name ∷ []
        are_named name =
            named_first (codes "text:display-outline-level") (codes "0") key.Uncounted (attribute (codes "text:name") name ∷ []) (at key.TextName name ∷ []) named.outline_shown_key (named_first (codes "text:name") name key.TextName [] [] field_name.name_key refl)

  pub text_read : (doc : Document) → Each (IsReadablePar names false note_element) (body_paragraphs doc) → Each (IsReadableSection names) (sections doc) → Each IsName doc.variables → Each IsName doc.sequences
      → parts_of names (outside false) (variable_declarations doc.variables ++ sequence_declarations doc.sequences ++ map block_element doc.body) ≡ all_read doc.body [] (declared_names false doc.variables ++ declared_names true doc.sequences)
  text_read doc pars held variables sequences =
      ap (parts_of names (outside false)) (append_assoc (variable_declarations doc.variables) (sequence_declarations doc.sequences) (map block_element doc.body))
      ∙ variables_read doc.variables variables (sequence_declarations doc.sequences ++ map block_element doc.body) doc.body (declared_names true doc.sequences)
      (sequences_read doc.sequences sequences (map block_element doc.body) doc.body [] (blocks_read names doc.body pars held) ∙ ap (all_read doc.body []) (append-nil (declared_names true doc.sequences)))
