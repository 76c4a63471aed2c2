use Rattle.std.proofs.Common.{◌≡◌, ◌∙◌, ◌++◌, ◌∷◌, [], ℕ, List, map, ap, sym, chars}
use Rattle.std.proofs.lemmas.List.{map-append, map-id}
use Rattle.std.proofs.lemmas.Iterator.{YieldsList-from_chars}
use Rattle.std.proofs.lemmas.Iterator.Consumers.{YieldsList-end}
use Rattle.doc_model.specs.declared.paragraph.Item.{Item}
use Rattle.head_content.specs.Reading.{followed, letter_item, only_items, spaced_letter, spaced_letters}
use Rattle.head_content.proofs.ReadingLemmas.{adds_is, adds_then, items_behind}
use Rattle.head_content.proofs.head_items.HeadItems.push_spaced.Goals as goal

pub loop-letter-preserved : goal.loop-letter-preserved
loop-letter-preserved c =
    let before : List ℕ = c.loop-letter.yielded in
    let letter : ℕ = c.in-Some.letter in
    let items : List ℕ → List Item = map (λ (one : ℕ). letter_item (spaced_letter one)) in
    adds_is c.args.self.now c.push_letter.new.self (followed (spaced_letters before) (only_items (letter_item c.spaced.result ∷ []))) (spaced_letters (before ++ letter ∷ []))
    (ap (λ (one : ℕ). followed (spaced_letters before) (only_items (letter_item one ∷ []))) c.spaced.ensures ∙ items_behind (items before) (items (letter ∷ []))
    ∙ ap only_items (sym (map-append (λ (one : ℕ). letter_item (spaced_letter one)) before (letter ∷ []))))
    (adds_then c.args.self.now c.loop-letter.self c.push_letter.new.self (spaced_letters before) (only_items (letter_item c.spaced.result ∷ [])) c.loop-letter.invariant c.in_ok-push_letter.ensures)

pub returns : goal.returns
returns c =
    let end = YieldsList-end (YieldsList-from_chars c.args.text.now c.utf8.text cc) c.loop-letter.yielded _ c.loop-letter.yielded_by _ _ c.in-None.is c.next.ensures.steps in
    let all : c.loop-letter.yielded ≡ chars c.args.text.now = sym (map-id c.loop-letter.yielded) ∙ end.0 in
    adds_is c.args.self.now c.loop-letter.self (spaced_letters c.loop-letter.yielded) (spaced_letters (chars c.args.text.now)) (ap spaced_letters all) c.loop-letter.invariant
