use Rattle.std.proofs.Common.{◌≡◌, ◌++◌, ◌∷◌, [], ◌∙◌, ℕ, List, chars, string_bytes, ap, ap₂, sym, append_assoc}
use Rattle.std.proofs.lemmas.Iterator.{YieldsList-from_chars}
use Rattle.std.proofs.lemmas.Iterator.Consumers.{YieldsList-end}
use Rattle.std.proofs.lemmas.List.{map-id}
use Rattle.load_model.specs.Content.{spaced}
use Rattle.element_texts.proofs.LetterLemmas.{spaced_more}
use Rattle.element_texts.proofs.texts.push_spaced.Goals as goal

pub loop-c-preserved : goal.loop-c-preserved
loop-c-preserved c =
    let before : List ℕ = chars (string_bytes c.args.text.now) in
    c.in_ok-push_letter.ensures ∙ ap₂ (λ (front : List ℕ) (letter : ℕ). front ++ letter ∷ []) c.loop-c.invariant c.space_for.ensures
    ∙ append_assoc before (spaced c.loop-c.yielded) (spaced (c.in-Some.c ∷ [])) ∙ ap (λ (more : List ℕ). before ++ more) (sym (spaced_more c.loop-c.yielded c.in-Some.c))

pub returns : goal.returns
returns c =
    let end = YieldsList-end (YieldsList-from_chars c.args.run.now c.utf8.run cc) c.loop-c.yielded _ c.loop-c.yielded_by _ _ c.in-None.is c.next.ensures.steps in
    let all : c.loop-c.yielded ≡ chars c.args.run.now = sym (map-id c.loop-c.yielded) ∙ end.0 in
    c.loop-c.invariant ∙ ap (λ (letters : List ℕ). chars (string_bytes c.args.text.now) ++ spaced letters) all
