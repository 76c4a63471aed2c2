-- A whole text.
use Rattle.std.proofs.Common.{◌≡◌, ℕ, true, false, List, [], ◌∷◌, ◌++◌, map, codes, refl, sym, ap, ◌∙◌}
use Rattle.std.specs.List.{AllByRecursion as Each}
use Rattle.markup_nodes.specs.declared.tree.Elem.{Elem, out-Elem}
use Rattle.markup_nodes.specs.declared.tree.Elem.TheOpen.{Elem-F}
use Rattle.markup_nodes.specs.declared.tree.Elem.TheViews.{out-roll-Elem}
use Rattle.markup_nodes.specs.Node.{Node, Element, Char}
use Rattle.doc_model.specs.Alike.{unnumbered}
use Rattle.doc_model.specs.declared.document.Document.{Document}
use Rattle.doc_model.specs.Parts.{all_fields}
use Rattle.doc_model.specs.Valid.{IsValid}
use Rattle.load_model.specs.declared.names.Tag.{Tag}
use Rattle.load_model.specs.declared.names.Tag.TheVariants as tag
use Rattle.load_model.specs.declared.element.Element.{Element as Read}
use Rattle.load_model.specs.Blocks.{Gives, Known, ReadBlocks, gives_of, no_blocks}
use Rattle.load_model.specs.Left.{nothing}
use Rattle.load_model.specs.Met.{kept_of, met_in}
use Rattle.load_model.specs.Styles.{Names}
use Rattle.written_model.specs.Blocks.{block_element}
use Rattle.written_model.specs.Elements.{element, part, where_true}
use Rattle.written_model.specs.Styles.{automatic_part, masters_part, styles_part}
use Rattle.written_model.specs.Written.{sequence_declarations, text_element, variable_declarations, written}
use Rattle.back_names.specs.Named.{named, named_node, placeless, tag_named}
use Rattle.back_names.proofs.Parts.{elem_of}
use Rattle.back_blocks.proofs.Keys as block_name
use Rattle.back_blocks.proofs.Text.{text_read}
use Rattle.back_blocks.proofs.Unnumbered.{numbers_unwritten}
use Rattle.back_fields.specs.Given.{all_kept}
use Rattle.back_fields.proofs.Opened.{element_given}
use Rattle.back_kept.proofs.Everything as kept
use Rattle.back_met.proofs.Readable.{heads_named, pars_named}
use Rattle.back_paragraphs.specs.Paragraphs.{outside, parts_of}
use Rattle.back_sheet_places.proofs.Bare.{fold_bare}
use Rattle.back_text.specs.Written.{read_as}
use Rattle.back_text.proofs.Blocks.{AreBlocks, all_stand}
use Rattle.back_text.proofs.Stood.{both_stand, one_stands, standing_of, stood}
use Rattle.back_text_places.specs.Bare.{bare_blocks}
use Rattle.back_text_places.specs.Standing.{Standing, standing}
use Rattle.back_text_places.proofs.Steps.{stands_with}
use Rattle.back_text_places.proofs.Texts.{text_same}
use Rattle.back_valid.specs.Found.{AreNamesOf, IsAdjusted}
use Rattle.back_valid.proofs.Assembled.{paragraphs_readable, sections_readable, sequences_named, variables_named}

-- what the text holds
abbrev text_nodes : Document → List (Node Elem)
text_nodes doc = variable_declarations doc.variables ++ sequence_declarations doc.sequences ++ map block_element doc.body

-- a text without numbers is written alike
abbrev inner_nodes : Node Elem → List (Node Elem)
inner_nodes (Element elem) = (out-Elem elem).nodes
inner_nodes (Char c) = []

abbrev first_node : List (Node Elem) → Node Elem
first_node [] = Char 0
first_node (node ∷ nodes) = node

abbrev last_node : List (Node Elem) → Node Elem
last_node [] = Char 0
last_node (node ∷ []) = node
last_node (node ∷ other ∷ nodes) = last_node (other ∷ nodes)

last_behind : (nodes : List (Node Elem)) (node : Node Elem) → last_node (nodes ++ node ∷ []) ≡ node
last_behind [] node = refl
last_behind (one ∷ []) node = refl
last_behind (one ∷ other ∷ nodes) node = last_behind (other ∷ nodes) node

abbrev found_nodes : Elem → List (Node Elem)
found_nodes root = inner_nodes (first_node (inner_nodes (last_node (out-Elem root).nodes)))

nodes_found : (doc : Document) → found_nodes (written doc) ≡ text_nodes doc
nodes_found doc =
    ap (λ (x : Elem-F Elem). inner_nodes (first_node (inner_nodes (last_node x.nodes)))) (out-roll-Elem _)
    ∙ ap (λ (node : Node Elem). inner_nodes (first_node (inner_nodes node))) (last_behind (styles_part doc ++ automatic_part doc ++ masters_part doc) (element (codes "office:body") [] (text_element doc ∷ [])))
    ∙ ap (λ (x : Elem-F Elem). inner_nodes (first_node x.nodes)) (out-roll-Elem _) ∙ ap (λ (x : Elem-F Elem). x.nodes) (out-roll-Elem _)

nodes_same : (doc : Document) → text_nodes doc ≡ text_nodes (unnumbered doc)
nodes_same doc = sym (nodes_found doc) ∙ ap found_nodes (sym (numbers_unwritten doc)) ∙ nodes_found (unnumbered doc)

-- it stands in place
part_stands : (called : List ℕ) (nodes : List (Node Elem)) (which : Tag) → tag_named called ≡ which → ((attributes : List _) (held : List Standing) → (stands_with which attributes held).blocks true ≡ true) → AreBlocks true (part called nodes)
part_stands called [] which is stands = refl
part_stands called (node ∷ nodes) which is stands = one_stands (λ (one : Standing). one.blocks true) called [] (node ∷ nodes) which is (stands [] (stood (node ∷ nodes)))

nodes_stand : (doc : Document) → IsValid doc → AreBlocks true (text_nodes doc)
nodes_stand doc valid =
    both_stand (λ (one : Standing). one.blocks true) (variable_declarations doc.variables ++ sequence_declarations doc.sequences) (map block_element doc.body)
    (both_stand (λ (one : Standing). one.blocks true) (variable_declarations doc.variables) (sequence_declarations doc.sequences)
    (part_stands (codes "text:variable-decls") _ tag.VariableDeclarations block_name.variables_tag (λ attributes held. refl)) (part_stands (codes "text:sequence-decls") _ tag.SequenceDeclarations block_name.sequences_tag (λ attributes held. refl)))
    (all_stand doc.body (pars_named doc valid) (heads_named doc valid))

abbrev inside_of : Node Gives → ReadBlocks
inside_of (Element gives) = gives.inside (outside false)
inside_of (Char c) = no_blocks nothing

pub text_back : (doc : Document) (names : Names) (text : Read) → IsValid doc → AreNamesOf doc names → Each IsAdjusted (all_fields doc) → Element (placeless text) ≡ named_node (text_element doc)
    → bare_blocks false ((gives_of (record { names = names; kept = kept_of (met_in text) }) text).inside (outside false)) ≡ read_as doc
text_back doc names text valid are adjusted e =
    let known : Known = record { names = names; kept = kept_of (met_in text) } in
    let attrs = where_true (codes "text:global") (codes "true") doc.global in
    let nodes = text_nodes doc in
    let same : placeless text ≡ named (elem_of 0 (codes "office:text") attrs nodes) = cc in
    let stands : (standing text).inside true ≡ true =
    ap (λ (one : Standing). one.inside true) (sym (fold_bare _ (λ place tag attributes nodes. refl) text) ∙ ap standing same ∙ standing_of (codes "office:text") attrs nodes (tag_named (codes "office:text")) refl) ∙ nodes_stand doc valid in
    sym (text_same known text stands (kept.all_kept doc text valid e))
    ∙ ap (λ (read : Read). (gives_of (all_kept names) read).inside (outside false)) same
    ∙ ap inside_of (element_given names (codes "office:text") attrs nodes)
    ∙ ap (parts_of names (outside false)) (nodes_same doc)
    ∙ text_read names (unnumbered doc) (paragraphs_readable names doc are valid adjusted) (sections_readable names doc are valid) (variables_named doc valid) (sequences_named doc valid)
