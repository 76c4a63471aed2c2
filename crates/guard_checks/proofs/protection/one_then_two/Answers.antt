use Rattle.std.proofs.Common.{◌≡◌, ◌∷◌, [], ap, sym, ◌∙◌, Option, None}
use Rattle.std.specs.Option.{option_or}
use Rattle.doc_model.specs.declared.document.Document.{Document}
use Rattle.doc_model.specs.declared.refusal.Refusal.{Refusal}
use Rattle.edit_checks.specs.Firsts.{first_absent}
use Rattle.guard_checks.specs.Among.{protected_of}
use Rattle.guard_checks.proofs.Chosen.{ok_map}
use Rattle.guard_checks.proofs.protection.one_then_two.Goals as goal

pub returns-in-None : goal.returns-in-None
returns-in-None c =
    ok_map c.of_two.result
    (λ (why : Option Refusal). (doc : Document) → doc.body ≡ c.args.rows.now → first_absent doc (c.args.one ∷ c.args.other ∷ []) ≡ None → why ≡ protected_of doc (c.args.one.0 ∷ c.args.other.0 ∷ []))
    (λ (why : Option Refusal). (doc : Document) → doc.body ≡ c.args.rows.now → first_absent doc (c.args.first ∷ []) ≡ None → first_absent doc (c.args.one ∷ c.args.other ∷ []) ≡ None → why ≡ option_or (protected_of doc (c.args.first.0 ∷ [])) (protected_of doc (c.args.one.0 ∷ c.args.other.0 ∷ [])))
    (λ why known doc same one others.
    known doc same others ∙ ap (λ (o : Option Refusal). option_or o (protected_of doc (c.args.one.0 ∷ c.args.other.0 ∷ []))) (sym c.in-None.is ∙ c.in_ok-why.ensures doc same one))
    c.of_two.ensures
