use Rattle.std.proofs.Common.{◌∙◌, ap, arith, List, [], ◌∷◌, ◌++◌}
use Rattle.doc_model.specs.declared.page.Page.{Page}
use Rattle.idle_queue.proofs.Settled.{rows_more, rows_whole}
use Rattle.idle_queue.proofs.agenda.Agenda.pages.Goals as goal

pub paragraphs-preserved : goal.paragraphs-preserved
paragraphs-preserved c =
    rows_more c.args.doc.now c.paragraphs.place c.paragraphs.rows c.push_rows.new.rows (omega (arith, c.paragraph_count-place-end.ensures.count)) c.paragraphs.invariant c.in_ok-push_rows.ensures

pub returns : goal.returns
returns c =
    c.in_ok-push.ensures.ok
    ∙ ap (λ (front : List Page). front ++ record { index = 1; number = 1; rows = c.paragraphs.rows } ∷ []) c.new-pages.ensures
    ∙ rows_whole c.args.doc.now c.paragraphs.place c.paragraphs.rows (omega (arith, c.paragraph_count-place-end.ensures.count)) c.paragraphs.invariant
