-- What is left out in a note, part by part.
use Rattle.std.proofs.Common.{◌≡◌, ℕ, ◌-◌, arith, Bool, true, false, cond, List, [], ◌∷◌, ◌++◌, map, length, refl, sym, ap, ap₂, ◌∙◌}
use Rattle.std.specs.List.{filter}
use Rattle.std.proofs.lemmas.List.{length-map, map-append}
use Rattle.std.proofs.lemmas.List.Elements.{filter-append}
use Rattle.markup_nodes.specs.Node.{Node, Element as Inner, Char}
use Rattle.markup_nodes.specs.Nodes.{elems, turns_of}
use Rattle.markup_nodes.specs.declared.nodes.Turn.{Turn}
use Rattle.load_model.specs.declared.names.Tag.TheVariants as tag
use Rattle.load_model.specs.declared.element.Element.{Element, out-Element}
use Rattle.load_model.specs.Blocks.{left_by}
use Rattle.element_parts.specs.Shown.{shown}
use Rattle.element_parts.specs.declared.left.LeftOut.{LeftOut}
use Rattle.load_model.specs.Left.{Left, both, all_of, attributes_of, is, only_elements}
use Rattle.block_parts.specs.Notes.{attributes_in, bodies, citations, is_citation, left_in}
use Rattle.block_parts.proofs.LeftLemmas.{all_joined}

-- elements by their turns
pub elems_turns : (nodes : List (Node Element)) → elems nodes ≡ map (λ (turn : Turn Element). turn.elem) (turns_of nodes)
elems_turns [] = refl
elems_turns (Inner element ∷ nodes) = ap (λ (more : List Element). element ∷ more) (elems_turns nodes)
elems_turns (Char c ∷ nodes) = elems_turns nodes

filtered_step : (b : Bool) (turn : Turn Element) (turns : List (Turn Element)) (elements : List Element) → map (λ (one : Turn Element). one.elem) turns ≡ elements
    → map (λ (one : Turn Element). one.elem) (cond b (turn ∷ turns) turns) ≡ cond b (turn.elem ∷ elements) elements
filtered_step true turn turns elements e = ap (λ (more : List Element). turn.elem ∷ more) e
filtered_step false turn turns elements e = e

filtered : (turns : List (Turn Element)) → map (λ (one : Turn Element). one.elem) (filter (λ (one : Turn Element). is tag.NoteCitation one.elem) turns) ≡ citations (map (λ (one : Turn Element). one.elem) turns)
filtered [] = refl
filtered (turn ∷ turns) = filtered_step (is tag.NoteCitation turn.elem) turn (filter (λ (one : Turn Element). is tag.NoteCitation one.elem) turns) (citations (map (λ (one : Turn Element). one.elem) turns)) (filtered turns)

-- how many citations there are
pub citations_count : (turns : List (Turn Element)) → length (filter (λ (one : Turn Element). is tag.NoteCitation one.elem) turns) ≡ length (citations (map (λ (one : Turn Element). one.elem) turns))
citations_count turns = sym (length-map (filter (λ (one : Turn Element). is tag.NoteCitation one.elem) turns) (λ (one : Turn Element). one.elem)) ∙ ap length (filtered turns)

pub attributes_joined : (some others : List Element) → attributes_in (some ++ others) ≡ both (attributes_in some) (attributes_in others)
attributes_joined some others =
    ap all_of (map-append (λ (element : Element). left_by [] (attributes_of element)) some others)
    ∙ all_joined (map (λ (element : Element). left_by [] (attributes_of element)) some) (map (λ (element : Element). left_by [] (attributes_of element)) others)

-- one more element
pub attributes_behind : (elements : List Element) (element : Element) → attributes_in (citations (elements ++ element ∷ [])) ≡ both (attributes_in (citations elements)) (attributes_in (citations (element ∷ [])))
attributes_behind elements element =
    ap attributes_in (filter-append (is tag.NoteCitation) elements (element ∷ [])) ∙ attributes_joined (citations elements) (citations (element ∷ []))

-- what is left out in a note, by its turns
pub left_by_turns : (nodes : List (Node Element)) (read : List Element) (turns : List (Turn Element)) (count some cited others : ℕ) (one rest all : LeftOut) → turns ≡ turns_of nodes → read ≡ bodies (elems nodes)
    → count ≡ length (elems nodes) → some ≡ length read → cited ≡ length (filter is_citation turns) → others ≡ (count - some) - cited
    → one ≡ shown (only_elements others) → rest ≡ shown (attributes_in (read ++ citations (map (λ (turn : Turn Element). turn.elem) turns)))
    → ((a b : Left) → one ≡ shown a → rest ≡ shown b → all ≡ shown (both a b)) → all ≡ shown (left_in (elems nodes))
left_by_turns nodes read turns count some cited others one rest all turns_are read_is count_is some_is cited_is others_are one_is rest_is joined =
    let elements : elems nodes ≡ map (λ (turn : Turn Element). turn.elem) turns = elems_turns nodes ∙ ap (map (λ (turn : Turn Element). turn.elem)) (sym turns_are) in
    let held : citations (map (λ (turn : Turn Element). turn.elem) turns) ≡ citations (elems nodes) = ap citations (sym elements) in
    let cites : cited ≡ length (citations (elems nodes)) = cited_is ∙ citations_count turns ∙ ap length held in
    let bodied : some ≡ length (bodies (elems nodes)) = some_is ∙ ap length read_is in
    joined (only_elements others) (attributes_in (read ++ citations (map (λ (turn : Turn Element). turn.elem) turns))) one_is rest_is
    ∙ ap₂ (λ (n : ℕ) (elements : List Element). shown (both (only_elements n) (attributes_in elements))) (omega (arith, others_are, count_is, bodied, cites)) (ap₂ (λ (a b : List Element). a ++ b) read_is held)
