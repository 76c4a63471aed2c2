use Rattle.std.proofs.Common.{◌∙◌, sym, subst, ap, ℕ, List, map}
use Rattle.doc_model.specs.Reading.{paragraphs, number_of}
use Rattle.round_model.specs.Idle.{Live, Idle}
use Rattle.round_model.specs.Reached.{IsReached}
use Rattle.round_model.specs.Stops.{full_debt}
use Rattle.idle_queue.proofs.Starts.{fresh, fresh_live, reached_start}
use Rattle.idle_queue.proofs.agenda.Agenda.start.Goals as goal

pub returns-clause-start : goal.returns-clause-start
returns-clause-start c =
    let live_of : List Live → ℕ → Idle = λ live debt. record { epoch = c.args.version; live = live; debt = debt } in
    ap (λ (live : List Live). live_of live c.full_debt.result)
    (c.in_ok-live.ensures ∙ fresh_live c.args.doc.now c.requires c.args.version c.paragraph_count-count.result c.paragraph_count-count.ensures.count)
    ∙ ap (λ (debt : ℕ). live_of (map (λ par. fresh c.args.version (number_of par)) (paragraphs c.args.doc.now)) debt) (c.full_debt.ensures ∙ ap full_debt c.paragraph_count-count.ensures.count)

pub returns-clause-reached : goal.returns-clause-reached
returns-clause-reached c = subst (λ (idle : Idle). IsReached c.args.doc.now idle) (sym (returns-clause-start c)) (reached_start c.args.doc.now c.args.version c.requires)
