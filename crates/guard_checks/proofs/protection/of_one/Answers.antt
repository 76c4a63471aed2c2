use Rattle.std.proofs.Common.{◌≡◌, ◌≢◌, ◌∷◌, [], inl, refl, Option, None}
use Rattle.doc_model.specs.declared.document.Document.{Document}
use Rattle.doc_model.specs.declared.edit.EditOp.{EditOp}
use Rattle.doc_model.specs.declared.edit.EditOp.TheVariants.{Split}
use Rattle.doc_model.specs.declared.refusal.Refusal.{Refusal}
use Rattle.edit_checks.specs.Alone.{GuardsAlone}
use Rattle.edit_checks.specs.Firsts.{first_absent}
use Rattle.edit_rules.specs.Places.{live_paragraph}
use Rattle.edit_rules.specs.Refusals.{protected}
use Rattle.level_walks.proofs.Live.{first_live}
use Rattle.guard_checks.specs.Among.{protected_of}
use Rattle.guard_checks.proofs.Chosen.{ok_map}
use Rattle.guard_checks.proofs.protection.of_one.Goals as goal

pub returns : goal.returns
returns c =
    ok_map c.protected_paragraph.result
    (λ (why : Option Refusal). (doc : Document) (op : EditOp) → doc.body ≡ c.args.rows.now → live_paragraph doc c.args.par ≢ None → GuardsAlone doc op c.args.par → why ≡ protected doc op)
    (λ (why : Option Refusal). (doc : Document) → doc.body ≡ c.args.rows.now → first_absent doc (c.args.par ∷ []) ≡ None → why ≡ protected_of doc (c.args.par.0 ∷ []))
    (λ why known doc same named. known doc (Split c.args.par 0) same (first_live doc c.args.par [] named) (inl refl)) c.protected_paragraph.ensures
