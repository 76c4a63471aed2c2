use Rattle.std.proofs.Common.{◌∙◌, ap, inl, inr, refl}
use Rattle.load_model.specs.Names.{resolved}
use Rattle.doc_load.specs.Outcomes.{outcome_of}
use Rattle.doc_load.specs.Parts.{answer_of}
use Rattle.doc_load.proofs.FaultLemmas.{first_is_least}
use Rattle.doc_load.proofs.loading.load_tree.Goals as goal

pub returns-in-Ok : goal.returns-in-Ok
returns-in-Ok c = inl (c.answer.ensures ∙ ap answer_of (c.in-Ok.ensures ∙ ap (outcome_of (resolved c.args.tree.root)) (first_is_least c.args.tree.root)))

pub returns-in-Err : goal.returns-in-Err
returns-in-Err c = inr refl
