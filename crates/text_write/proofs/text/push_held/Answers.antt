use Rattle.std.proofs.Common.{◌≡◌, ◌++◌, ℕ, List, OnOk, map, ap, ◌∙◌, subst}
use Rattle.std.specs.Str.{chars}
use Rattle.std.specs.String.{string_bytes}
use Rattle.doc_model.specs.declared.block.Block.{Block}
use Rattle.tree_text.specs.Writing.{content_text}
use Rattle.written_model.specs.Blocks.{block_element}
use Rattle.written_model.specs.Written.{variable_declarations, sequence_declarations}
use Rattle.value_write.proofs.ChainLemmas.{three}
use Rattle.text_write.proofs.HeldLemmas.{held_text}
use Rattle.text_write.proofs.text.push_held.Goals as goal

pub returns : goal.returns
returns c =
    let doc = c.args.doc.now in
    let old = chars (string_bytes c.args.out.now) in
    let one = chars (string_bytes c.push_variables.new.out) in
    let two = chars (string_bytes c.push_sequences.new.out) in
    three c.push_blocks.result (chars (string_bytes c.push_blocks.new.out)) two one old
    (content_text (variable_declarations doc.variables)) (content_text (sequence_declarations doc.sequences)) (content_text (map block_element doc.body))
    (c.in_ok-push_variables.ensures ∙ ap (λ (names : List (List ℕ)). old ++ content_text (variable_declarations names)) c.get.ensures)
    (c.in_ok-push_sequences.ensures ∙ ap (λ (names : List (List ℕ)). one ++ content_text (sequence_declarations names)) c.get-2.ensures)
    (subst (λ (blocks : List Block). OnOk c.push_blocks.result (chars (string_bytes c.push_blocks.new.out) ≡ two ++ content_text (map block_element blocks))) c.get-3.ensures c.push_blocks.ensures)
    (held_text doc)
