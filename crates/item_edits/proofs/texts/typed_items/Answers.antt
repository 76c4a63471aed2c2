use Rattle.std.proofs.Common.{◌≡◌, ℕ, List, map, chars, ap, sym, ◌∙◌}
use Rattle.std.proofs.lemmas.List.{map-id}
use Rattle.std.proofs.lemmas.Iterator.{YieldsList-from_chars}
use Rattle.std.proofs.lemmas.Iterator.Consumers.{YieldsList-end}
use Rattle.edit_rules.specs.Texts.{typed_item}
use Rattle.item_edits.proofs.texts.typed_items.Goals as goal

pub returns : goal.returns
returns c =
    let end = YieldsList-end (YieldsList-from_chars c.get.result.now c.get.utf8 cc) c.loop-letter.yielded _ c.loop-letter.yielded_by _ _ c.in-None.is c.next.ensures.steps in
    let all : c.loop-letter.yielded ≡ chars c.get.result.now = sym (map-id c.loop-letter.yielded) ∙ end.0 in
    c.loop-letter.invariant ∙ ap (λ (letters : List ℕ). map (typed_item c.args.spans.now) letters) (all ∙ c.get.ensures)
