-- The text round what it holds.
use Rattle.std.proofs.Common.{◌≡◌, ℕ, Bool, List, [], ◌∷◌, ◌++◌, codes, map, refl, ap, sym, ◌∙◌, append_assoc}
use Rattle.std.specs.Prelude.{◌||◌}
use Rattle.std.proofs.lemmas.Grind.{flat_map-append}
use Rattle.doc_model.specs.declared.block.Block.{Block}
use Rattle.doc_model.specs.declared.document.Document.{Document}
use Rattle.spelling_model.specs.Spelling.{is_there}
use Rattle.tree_text.specs.Writing.{tag_text, child_text, content_text}
use Rattle.written_model.specs.Elements.{where_true}
use Rattle.written_model.specs.Blocks.{block_element}
use Rattle.written_model.specs.Written.{variable_declarations, sequence_declarations, text_element}
use Rattle.paragraph_write.specs.Around.{tag_close, element_close}
use Rattle.paragraph_write.proofs.AroundLemmas.{element_around}
use Rattle.paragraph_write.proofs.ParagraphLemmas.{holds_mapped}
use Rattle.text_write.specs.Held.{held, holds_something, text_start}

holds_parts : (variables sequences : List (List ℕ)) (body : List Block)
    → is_there (variable_declarations variables ++ sequence_declarations sequences ++ map block_element body) ≡ ((is_there variables || is_there sequences) || is_there body)
holds_parts [] [] body = holds_mapped block_element body
holds_parts [] (name ∷ names) body = refl
holds_parts (name ∷ names) [] body = refl
holds_parts (name ∷ names) (other ∷ others) body = refl

-- the declarations and the blocks, one after another
pub held_text : (doc : Document)
    → content_text (variable_declarations doc.variables) ++ (content_text (sequence_declarations doc.sequences) ++ content_text (map block_element doc.body)) ≡ content_text (held doc)
held_text doc =
    let variables = variable_declarations doc.variables in
    let sequences = sequence_declarations doc.sequences in
    let body = map block_element doc.body in
    sym (flat_map-append child_text (variables ++ sequences) body
    ∙ (ap (λ (t : List ℕ). t ++ content_text body) (flat_map-append child_text variables sequences)
    ∙ append_assoc (content_text variables) (content_text sequences) (content_text body)))

-- the text
pub text_around : (doc : Document) → text_start doc.global (holds_something doc) ++ (content_text (held doc) ++ element_close (codes "office:text") (holds_something doc)) ≡ child_text (text_element doc)
text_around doc =
    let name = codes "office:text" in
    let attrs = where_true (codes "text:global") (codes "true") doc.global in
    sym (element_around name attrs (held doc)
    ∙ (ap (λ (holds : Bool). tag_text name attrs ++ (tag_close holds ++ (content_text (held doc) ++ element_close name holds))) (holds_parts doc.variables doc.sequences doc.body)
    ∙ sym (append_assoc (tag_text name attrs) (tag_close (holds_something doc)) (content_text (held doc) ++ element_close name (holds_something doc)))))
