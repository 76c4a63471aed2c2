use Rattle.std.proofs.Common.{List, length}
use Rattle.doc_model.specs.declared.page_layout.Master.{Master}
use Rattle.doc_model.specs.declared.page_layout.PageLayout.{PageLayout}
use Rattle.page_model.specs.declared.placed.ParRows.{ParRows}
use Rattle.paginate.specs.Placed.{pending, HasPlaced}
use Rattle.paginate.proofs.plan.Plan.place_one.Given as goal

abbrev pub invariant-pages : goal.invariant-pages
invariant-pages l = (masters : List Master) (layouts : List PageLayout) (pars : List ParRows) → HasPlaced masters layouts pars l.fn.self → HasPlaced masters layouts pars l.self

abbrev pub decreases-pages : goal.decreases-pages
decreases-pages l = length (pending l.self)
