use Rattle.std.proofs.Common.{ℕ, List, ◌∙◌, ap, ap₂, map, sym, subst}
use Rattle.std.specs.Prelude.{AllPairs, ◌≢◌}
use Rattle.std.proofs.lemmas.Result.{IfOk-weaker}
use Rattle.doc_model.specs.Alike.{in_document}
use Rattle.doc_model.specs.Reading.{number_of, paragraphs}
use Rattle.doc_model.specs.declared.document.Document.{Document}
use Rattle.draft_numbers.proofs.DraftLemmas.{numbered_alike, numbers_alike}
use Rattle.load_model.specs.Loaded.{draft_of, numbered}
use Rattle.doc_load.proofs.document.number.Goals as goal

pub returns : goal.returns
returns c = IfOk-weaker c.number_paragraphs.result _ _ (λ doc told root is ordered.
    let numbers = ap (λ (draft : Document). map number_of (paragraphs draft)) is ∙ numbers_alike (draft_of root) in
    told (subst (λ (all : List ℕ). AllPairs (λ number other. number ≢ other) all) (sym numbers) ordered.numbers)
    ∙ ap₂ (λ (all : List ℕ) (draft : Document). in_document (numbered all) draft) numbers is
    ∙ numbered_alike (map number_of (paragraphs (draft_of root))) (draft_of root)) c.number_paragraphs.ensures
