-- The text of the root, and of the document round what it holds.
use Rattle.std.proofs.Common.{◌≡◌, ℕ, Bool, true, List, [], ◌∷◌, ◌++◌, codes, refl, ap, sym, ◌∙◌, append_assoc}
use Rattle.std.proofs.lemmas.List.{append-nil}
use Rattle.std.proofs.lemmas.Grind.{flat_map-append}
use Rattle.std.specs.List.{flat_map}
use Rattle.markup_nodes.specs.Node.{Node}
use Rattle.markup_nodes.specs.declared.words.Attr.{Attr}
use Rattle.markup_nodes.specs.declared.tree.Elem.{Elem}
use Rattle.doc_model.specs.declared.document.Document.{Document}
use Rattle.spelling_model.specs.Spelling.{is_there}
use Rattle.tree_text.specs.Writing.{attr_text, tag_text, end_text, child_text, content_text, declaration, document_text}
use Rattle.value_write.proofs.ElementLemmas.{attributes_join}
use Rattle.paragraph_write.specs.Around.{tag_close, element_close}
use Rattle.paragraph_write.proofs.AroundLemmas.{element_around, two_groups}
use Rattle.written_model.specs.Elements.{element}
use Rattle.written_model.specs.Styles.{styles_part, automatic_part, masters_part}
use Rattle.written_model.specs.Written.{written}
use Rattle.doc_write.specs.Root.{root_attributes, document_start, document_end, document_parts, body_element}

-- six texts, each with nothing behind it
six_texts : (a b c d e f : List ℕ) → (a ++ []) ++ ((b ++ []) ++ ((c ++ []) ++ ((d ++ []) ++ ((e ++ []) ++ (f ++ []))))) ≡ a ++ (b ++ (c ++ (d ++ (e ++ (f ++ [])))))
six_texts a b c d e f = simp append-nil

-- six attributes one by one
pub six_attributes : (a b c d e f : Attr)
    → flat_map attr_text (a ∷ []) ++ (flat_map attr_text (b ∷ []) ++ (flat_map attr_text (c ∷ []) ++ (flat_map attr_text (d ∷ []) ++ (flat_map attr_text (e ∷ []) ++ flat_map attr_text (f ∷ [])))))
    ≡ flat_map attr_text (a ∷ b ∷ c ∷ d ∷ e ∷ f ∷ [])
six_attributes a b c d e f = six_texts (attr_text a) (attr_text b) (attr_text c) (attr_text d) (attr_text e) (attr_text f)

-- two attributes behind others
pub two_behind : (name : List ℕ) (attrs : List Attr) (a b : Attr) (end : List ℕ)
    → tag_text name [] ++ (flat_map attr_text attrs ++ (flat_map attr_text (a ∷ []) ++ (flat_map attr_text (b ∷ []) ++ end))) ≡ tag_text name (attrs ++ a ∷ b ∷ []) ++ end
two_behind name attrs a b end =
    ap (λ (t : List ℕ). tag_text name [] ++ (flat_map attr_text attrs ++ t)) (attributes_join (a ∷ []) (b ∷ []) end) ∙ two_groups name attrs (a ∷ b ∷ []) end

-- the parts, one after another
pub parts_text : (doc : Document) → content_text (styles_part doc) ++ (content_text (automatic_part doc) ++ content_text (masters_part doc)) ≡ content_text (document_parts doc)
parts_text doc =
    let styles = styles_part doc in
    let automatic = automatic_part doc in
    let masters = masters_part doc in
    sym (flat_map-append child_text (styles ++ automatic) masters
    ∙ (ap (λ (t : List ℕ). t ++ content_text masters) (flat_map-append child_text styles automatic)
    ∙ append_assoc (content_text styles) (content_text automatic) (content_text masters)))

-- a node behind others
there_last : (nodes : List (Node Elem)) (node : Node Elem) → is_there (nodes ++ node ∷ []) ≡ true
there_last [] node = refl
there_last (other ∷ nodes) node = refl

content_last : (nodes : List (Node Elem)) (node : Node Elem) → content_text (nodes ++ node ∷ []) ≡ content_text nodes ++ child_text node
content_last nodes node = flat_map-append child_text nodes (node ∷ []) ∙ ap (λ (t : List ℕ). content_text nodes ++ t) (append-nil (child_text node))

-- an element whose last node is this one
held_last : (name : List ℕ) (attrs : List Attr) (nodes : List (Node Elem)) (node : Node Elem)
    → child_text (element name attrs (nodes ++ node ∷ [])) ≡ tag_text name attrs ++ (codes ">" ++ ((content_text nodes ++ child_text node) ++ end_text name))
held_last name attrs nodes node =
    element_around name attrs (nodes ++ node ∷ [])
    ∙ (ap (λ (holds : Bool). tag_text name attrs ++ (tag_close holds ++ (content_text (nodes ++ node ∷ []) ++ element_close name holds))) (there_last nodes node)
    ∙ ap (λ (t : List ℕ). tag_text name attrs ++ (codes ">" ++ (t ++ end_text name))) (content_last nodes node))

-- the pieces of a document
regroup : (first line tag close parts body end behind : List ℕ)
    → ((first ++ line) ++ (tag ++ close)) ++ (parts ++ (body ++ (end ++ behind))) ≡ first ++ (line ++ ((tag ++ (close ++ ((parts ++ body) ++ end))) ++ behind))
regroup first line tag close parts body end behind = simp append_assoc

-- the document
pub document_around : (doc : Document)
    → document_start doc.global ++ (content_text (document_parts doc) ++ (child_text (body_element doc) ++ document_end)) ≡ document_text (written doc)
document_around doc =
    let name = codes "office:document" in
    let attrs = root_attributes doc.global in
    let parts = document_parts doc in
    let body = body_element doc in
    regroup declaration (codes "\n") (tag_text name attrs) (codes ">") (content_text parts) (child_text body) (end_text name) (codes "\n")
    ∙ ap (λ (t : List ℕ). declaration ++ (codes "\n" ++ (t ++ codes "\n"))) (sym (held_last name attrs parts body))
