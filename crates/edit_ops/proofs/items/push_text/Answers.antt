use Rattle.std.proofs.Common.{◌≡◌, ◌++◌, ◌∙◌, ℕ, List, map, chars, ap, sym}
use Rattle.std.proofs.lemmas.Iterator.{YieldsList-from_chars}
use Rattle.std.proofs.lemmas.Iterator.Consumers.{YieldsList-end}
use Rattle.std.proofs.lemmas.List.{map-id}
use Rattle.doc_model.specs.Plain.{plain_item}
use Rattle.edit_ops.proofs.items.push_text.Goals as goal

pub returns : goal.returns
returns c =
    let end = YieldsList-end (YieldsList-from_chars c.args.text.now c.utf8.text cc) c.letters.yielded _ c.letters.yielded_by _ _ c.in-None.is c.next.ensures.steps in
    let all : c.letters.yielded ≡ chars c.args.text.now = sym (map-id c.letters.yielded) ∙ end.0 in
    c.letters.invariant ∙ ap (λ (letters : List ℕ). c.args.items.now ++ map plain_item letters) all
