use Rattle.std.proofs.Common.{◌≡◌, ◌∙◌, ◌++◌, not, true, false, ap, sym, append-nil}
use Rattle.load_model.specs.Left.{children}
use Rattle.load_model.specs.Offences.{place_if, place_of}
use Rattle.tree_faults.specs.Texts.{has_text}
use Rattle.tree_faults.proofs.PlaceLemmas.{missing_is}
use Rattle.tree_faults.proofs.texts.push_missing.Goals as goal

pub returns-then-has_text : goal.returns-then-has_text
returns-then-has_text c =
    let root = c.args.root.now in
    let old = c.args.places.now.items in
    let yes : has_text (children root) ≡ true = sym (missing_is root c.turns.result.now c.turns.ensures) ∙ sym c.has_text.ensures ∙ c.if-has_text.true in
    sym (append-nil old) ∙ ap (λ b. old ++ place_if (not b) (place_of root)) (sym yes)

pub returns : goal.returns
returns c =
    let root = c.args.root.now in
    let old = c.args.places.now.items in
    let no : has_text (children root) ≡ false = sym (missing_is root c.turns.result.now c.turns.ensures) ∙ sym c.has_text.ensures ∙ c.if-has_text.false in
    c.in_ok-push.ensures.items ∙ ap (λ b. old ++ place_if (not b) (place_of root)) (sym no)
