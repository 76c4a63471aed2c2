use Rattle.std.proofs.Common.{◌∙◌, ap, ap₂, arith, length, sym}
use Rattle.std.specs.Prelude.{option_to_list}
use Rattle.doc_model.specs.Reading.{paragraphs}
use Rattle.doc_model.specs.declared.document.Document.{Document}
use Rattle.doc_model.specs.declared.report.Report.{Report}
use Rattle.load_model.specs.Loaded.{draft_of}
use Rattle.doc_load.specs.Outcomes.{outcome_of}
use Rattle.doc_load.specs.declared.outcome.Outcome.TheVariants as outcome
use Rattle.doc_load.proofs.FaultLemmas.{as_many_paragraphs, few_paragraphs, least_alone}
use Rattle.doc_load.proofs.outcome.outcome_of_parts.Goals as goal

pub number-requires : goal.number-requires
number-requires c =
    let root = c.args.root.now in
    let none = sym (c.in_ok-told.ensures (option_to_list c.args.first) (least_alone c.args.first)) ∙ c.in-None.is in
    let few = few_paragraphs (option_to_list c.args.first) root none in
    let many = ap (λ (doc : Document). length (paragraphs doc)) (c.draft.ensures c.requires.parts c.requires.text) ∙ as_many_paragraphs (draft_of root) in
    omega (arith, few, many)

pub returns-in_ok-doc-in-None : goal.returns-in_ok-doc-in-None
returns-in_ok-doc-in-None c = λ before known.
    let root = c.args.root.now in
    ap₂ (λ (doc : Document) (report : Report). outcome.Loaded doc report) (c.in_ok-doc-in-None.ensures root (c.draft.ensures c.requires.parts c.requires.text) c.requires.ordered) (c.report-report.ensures c.requires.parts c.requires.text)
    ∙ ap (outcome_of root) (sym c.in-None.is ∙ c.in_ok-told.ensures before known)

pub returns-in-Some : goal.returns-in-Some
returns-in-Some c = λ before known. ap (outcome_of c.args.root.now) (sym c.in-Some.is ∙ c.in_ok-told.ensures before known)
