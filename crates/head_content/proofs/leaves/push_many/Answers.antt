use Rattle.std.proofs.Common.{◌∙◌, ◌+◌, [], ◌∷◌, ap}
use Rattle.std.specs.Prelude.{replicate}
use Rattle.std.proofs.lemmas.List.{replicate_more}
use Rattle.doc_model.specs.declared.paragraph.Item.{Item}
use Rattle.head_content.specs.Reading.{followed, letter_item, only_items}
use Rattle.head_content.proofs.ReadingLemmas.{adds_is, adds_then, items_behind}
use Rattle.head_content.proofs.leaves.push_many.Goals as goal

pub spaces-preserved : goal.spaces-preserved
spaces-preserved c =
    let space : Item = letter_item 0x20 in
    let at = c.spaces._at in
    adds_is c.args.read.now c.push_letter.new.self (followed (only_items (replicate at space)) (only_items (space ∷ []))) (only_items (replicate (at + 1) space))
    (items_behind (replicate at space) (space ∷ []) ∙ ap only_items (replicate_more at space))
    (adds_then c.args.read.now c.spaces.read c.push_letter.new.self (only_items (replicate at space)) (only_items (space ∷ [])) c.spaces.invariant c.in_ok-push_letter.ensures)
