use Rattle.std.proofs.Common.{◌≡◌, ◌∙◌, ap, ap₂, sym, ℕ, arith, List, length}
use Rattle.doc_model.specs.declared.paragraph.ParId.{ParId}
use Rattle.doc_model.specs.declared.page_layout.Master.{Master}
use Rattle.page_model.specs.BodyRows.{rows_of_par, set_of_par}
use Rattle.paginate.proofs.PlanLemmas.{same-placed, adds-placed, on_ok, set-length}
use Rattle.paginate.proofs.plan.Plan.place_one.Goals as goal

pub pages-preserved : goal.pages-preserved
pages-preserved c = λ masters layouts pars placed. c.close_one.ensures.stays masters layouts pars (c.pages.invariant masters layouts pars placed)

pub rows_of_par-requires : goal.rows_of_par-requires
rows_of_par-requires c =
    let long : length c.in_ok-set.set.items ≡ length (set_of_par c.args.par.now) = ap (λ (ids : List ParId). length ids) c.in_ok-set.ensures in
    omega (arith, long, set-length c.args.par.now, c.in_ok-set.set.ok, c.in_ok-set.set.small, c.len.ensures)

pub returns-clause-ok : goal.returns-clause-ok
returns-clause-ok c = λ masters layouts pars placed few.
    let closed = c.close_one.ensures.stays masters layouts pars (c.pages.invariant masters layouts pars placed) in
    let dropped = same-placed masters layouts pars c.close_one.new.self c.drop_closed.new.self closed
    (record {
      same_masters = c.drop_closed.ensures.same_masters;
      same_frames = c.drop_closed.ensures.same_frames;
      same_set = c.drop_closed.ensures.same_set;
      same_pending = c.drop_closed.ensures.same_pending;
      same_breaker = c.drop_closed.ensures.same_breaker;
      same_finished = c.drop_closed.ensures.same_finished;
    }) in
    let masters_is : c.get.result.now ≡ c.drop_closed.new.self.masters = c.get.ensures ∙ sym c.drop_closed.ensures.same_masters in
    let same_length = ap (λ (ids : List ParId). length ids) c.drop_closed.ensures.same_set in
    let place_is : c.len.result ≡ length c.drop_closed.new.self.set.items = omega (arith, c.len.ensures, c.close_one.new.self.set.ok, same_length) in
    let rows_are : c.in_ok-rows.rows.items ≡ rows_of_par c.drop_closed.new.self.masters (length c.drop_closed.new.self.set.items) c.args.par.now =
    c.in_ok-rows.ensures ∙ ap₂ (λ (ms : List Master) (n : ℕ). rows_of_par ms n c.args.par.now) masters_is place_is in
    on_ok c.add.result c.add.ensures.ok
    (λ adds. adds-placed masters layouts pars c.args.par.now c.drop_closed.new.self c.add.new.self c.in_ok-set.set.items c.in_ok-rows.rows.items dropped adds c.in_ok-set.ensures rows_are few)
