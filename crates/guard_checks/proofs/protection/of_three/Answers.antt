use Rattle.std.proofs.Common.{◌≡◌, ◌∷◌, [], ◌∙◌, sym, Option, None}
use Rattle.std.specs.Option.{option_or}
use Rattle.doc_model.specs.declared.document.Document.{Document}
use Rattle.doc_model.specs.declared.refusal.Refusal.{Refusal}
use Rattle.edit_checks.specs.Firsts.{first_absent}
use Rattle.guard_checks.specs.Among.{protected_of}
use Rattle.guard_checks.proofs.Chosen.{early_live, ok_map, one_chosen, only_live, other_chosen, other_live, third_chosen}
use Rattle.level_walks.proofs.Live.{rest_live}
use Rattle.guard_checks.proofs.protection.of_three.Goals as goal

pub returns-then-is_first : goal.returns-then-is_first
returns-then-is_first c =
    ok_map c.one_then_two.result
    (λ (why : Option Refusal). (doc : Document) → doc.body ≡ c.args.rows.now → first_absent doc (c.args.one ∷ []) ≡ None → first_absent doc (c.args.other ∷ c.args.third ∷ []) ≡ None → why ≡ option_or (protected_of doc (c.args.one.0 ∷ [])) (protected_of doc (c.args.other.0 ∷ c.args.third.0 ∷ [])))
    (λ (why : Option Refusal). (doc : Document) → doc.body ≡ c.args.rows.now → first_absent doc (c.args.one ∷ c.args.other ∷ c.args.third ∷ []) ≡ None → why ≡ protected_of doc (c.args.one.0 ∷ c.args.other.0 ∷ c.args.third.0 ∷ []))
    (λ why known doc same named.
    known doc same (only_live doc c.args.one (c.args.other ∷ c.args.third ∷ []) named) (rest_live doc c.args.one (c.args.other ∷ c.args.third ∷ []) named)
    ∙ sym (one_chosen doc c.args.rows.now same c.requires.flat c.requires.apart c.args.one c.args.other c.args.third named c.is_first.result c.is_first.ensures c.if-is_first.true))
    c.one_then_two.ensures

pub returns-then-is_before : goal.returns-then-is_before
returns-then-is_before c =
    ok_map c.one_then_two-then-is_before.result
    (λ (why : Option Refusal). (doc : Document) → doc.body ≡ c.args.rows.now → first_absent doc (c.args.other ∷ []) ≡ None → first_absent doc (c.args.one ∷ c.args.third ∷ []) ≡ None → why ≡ option_or (protected_of doc (c.args.other.0 ∷ [])) (protected_of doc (c.args.one.0 ∷ c.args.third.0 ∷ [])))
    (λ (why : Option Refusal). (doc : Document) → doc.body ≡ c.args.rows.now → first_absent doc (c.args.one ∷ c.args.other ∷ c.args.third ∷ []) ≡ None → why ≡ protected_of doc (c.args.one.0 ∷ c.args.other.0 ∷ c.args.third.0 ∷ []))
    (λ why known doc same named.
    known doc same (only_live doc c.args.other (c.args.third ∷ []) (rest_live doc c.args.one (c.args.other ∷ c.args.third ∷ []) named)) (other_live doc c.args.one c.args.other c.args.third named)
    ∙ sym (other_chosen doc c.args.rows.now same c.requires.flat c.requires.apart c.args.one c.args.other c.args.third named c.is_first.result c.is_first.ensures c.is_before.result c.is_before.ensures c.if-is_first.false c.if-is_before.true))
    c.one_then_two-then-is_before.ensures

pub returns : goal.returns
returns c =
    ok_map c.one_then_two-2.result
    (λ (why : Option Refusal). (doc : Document) → doc.body ≡ c.args.rows.now → first_absent doc (c.args.third ∷ []) ≡ None → first_absent doc (c.args.one ∷ c.args.other ∷ []) ≡ None → why ≡ option_or (protected_of doc (c.args.third.0 ∷ [])) (protected_of doc (c.args.one.0 ∷ c.args.other.0 ∷ [])))
    (λ (why : Option Refusal). (doc : Document) → doc.body ≡ c.args.rows.now → first_absent doc (c.args.one ∷ c.args.other ∷ c.args.third ∷ []) ≡ None → why ≡ protected_of doc (c.args.one.0 ∷ c.args.other.0 ∷ c.args.third.0 ∷ []))
    (λ why known doc same named.
    known doc same (rest_live doc c.args.other (c.args.third ∷ []) (rest_live doc c.args.one (c.args.other ∷ c.args.third ∷ []) named)) (early_live doc c.args.one c.args.other c.args.third named)
    ∙ sym (third_chosen doc c.args.rows.now same c.requires.flat c.requires.apart c.args.one c.args.other c.args.third named c.is_first.result c.is_first.ensures c.is_before.result c.is_before.ensures c.if-is_first.false c.if-is_before.false))
    c.one_then_two-2.ensures
