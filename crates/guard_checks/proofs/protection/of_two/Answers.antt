use Rattle.std.proofs.Common.{◌≡◌, ◌∷◌, [], ◌∙◌, sym, Option, None}
use Rattle.std.specs.Option.{option_or}
use Rattle.doc_model.specs.declared.document.Document.{Document}
use Rattle.doc_model.specs.declared.refusal.Refusal.{Refusal}
use Rattle.edit_checks.specs.Firsts.{first_absent}
use Rattle.guard_checks.specs.Among.{protected_of}
use Rattle.guard_checks.proofs.Chosen.{ok_map, only_live, two_chosen, two_turned}
use Rattle.level_walks.proofs.Live.{rest_live}
use Rattle.guard_checks.proofs.protection.of_two.Goals as goal

pub returns-then-is_before : goal.returns-then-is_before
returns-then-is_before c =
    ok_map c.one_by_one.result
    (λ (why : Option Refusal). (doc : Document) → doc.body ≡ c.args.rows.now → first_absent doc (c.args.one ∷ []) ≡ None → first_absent doc (c.args.other ∷ []) ≡ None → why ≡ option_or (protected_of doc (c.args.one.0 ∷ [])) (protected_of doc (c.args.other.0 ∷ [])))
    (λ (why : Option Refusal). (doc : Document) → doc.body ≡ c.args.rows.now → first_absent doc (c.args.one ∷ c.args.other ∷ []) ≡ None → why ≡ protected_of doc (c.args.one.0 ∷ c.args.other.0 ∷ []))
    (λ why known doc same named.
    known doc same (only_live doc c.args.one (c.args.other ∷ []) named) (rest_live doc c.args.one (c.args.other ∷ []) named)
    ∙ sym (two_chosen doc c.args.rows.now same c.requires.flat c.requires.apart c.args.one c.args.other c.is_before.result named c.is_before.ensures c.if-is_before.true))
    c.one_by_one.ensures

pub returns-else-is_before : goal.returns-else-is_before
returns-else-is_before c =
    ok_map c.one_by_one-else-is_before.result
    (λ (why : Option Refusal). (doc : Document) → doc.body ≡ c.args.rows.now → first_absent doc (c.args.other ∷ []) ≡ None → first_absent doc (c.args.one ∷ []) ≡ None → why ≡ option_or (protected_of doc (c.args.other.0 ∷ [])) (protected_of doc (c.args.one.0 ∷ [])))
    (λ (why : Option Refusal). (doc : Document) → doc.body ≡ c.args.rows.now → first_absent doc (c.args.one ∷ c.args.other ∷ []) ≡ None → why ≡ protected_of doc (c.args.one.0 ∷ c.args.other.0 ∷ []))
    (λ why known doc same named.
    known doc same (rest_live doc c.args.one (c.args.other ∷ []) named) (only_live doc c.args.one (c.args.other ∷ []) named)
    ∙ sym (two_turned doc c.args.rows.now same c.requires.flat c.requires.apart c.args.one c.args.other c.is_before.result named c.is_before.ensures c.if-is_before.false))
    c.one_by_one-else-is_before.ensures
