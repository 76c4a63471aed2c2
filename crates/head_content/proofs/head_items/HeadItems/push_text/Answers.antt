use Rattle.std.proofs.Common.{◌≡◌, ◌∙◌, ◌++◌, ◌∷◌, [], ℕ, List, ap, sym, chars}
use Rattle.std.proofs.lemmas.List.{map-id}
use Rattle.std.proofs.lemmas.Iterator.{YieldsList-from_chars}
use Rattle.std.proofs.lemmas.Iterator.Consumers.{YieldsList-end}
use Rattle.load_model.specs.Content.{raw_character}
use Rattle.head_content.specs.Reading.{followed, letters, one_raw}
use Rattle.head_content.proofs.ReadingLemmas.{adds_is, adds_then, letters_behind}
use Rattle.head_content.proofs.head_items.HeadItems.push_text.Goals as goal

pub loop-letter-preserved : goal.loop-letter-preserved
loop-letter-preserved c =
    let before : List ℕ = c.loop-letter.yielded in
    let letter : ℕ = c.in-Some.letter in
    adds_is c.args.self.now c.push_char.new.self (followed (letters before) (one_raw (raw_character c.none-spans.result letter))) (letters (before ++ letter ∷ []))
    (ap (λ (spans : List (List ℕ)). followed (letters before) (one_raw (raw_character spans letter))) c.none-spans.ensures ∙ letters_behind before letter)
    (adds_then c.args.self.now c.loop-letter.self c.push_char.new.self (letters before) (one_raw (raw_character c.none-spans.result letter)) c.loop-letter.invariant c.in_ok-push_char.ensures)

pub returns : goal.returns
returns c =
    let end = YieldsList-end (YieldsList-from_chars c.args.text.now c.utf8.text cc) c.loop-letter.yielded _ c.loop-letter.yielded_by _ _ c.in-None.is c.next.ensures.steps in
    let all : c.loop-letter.yielded ≡ chars c.args.text.now = sym (map-id c.loop-letter.yielded) ∙ end.0 in
    adds_is c.args.self.now c.loop-letter.self (letters c.loop-letter.yielded) (letters (chars c.args.text.now)) (ap letters all) c.loop-letter.invariant
