use Rattle.std.proofs.Common.{◌≡◌, ◌+◌, ◌<◌, ◌^◌, ◌++◌, ◌∙◌, List, ap, ap₂, refl, arith, length, map, drop}
use Rattle.std.proofs.lemmas.List.{length-append, length-map}
use Rattle.doc_model.specs.declared.paragraph.ParId.{ParId}
use Rattle.page_model.specs.declared.row.Row.{Row}
use Rattle.page_model.specs.Frames.{frames_of}
use Rattle.page_model.specs.Pages.{Left}
use Rattle.page_model.specs.Table.{table_of}
use Rattle.paginate.specs.declared.breaker.Closed.{Closed}
use Rattle.paginate.specs.Marks.{closed_entry, looked_up}
use Rattle.paginate.specs.Placed.{pending}
use Rattle.paginate.specs.Reached.{size_of, IsDone}
use Rattle.paginate.specs.Standing.{left_of}
use Rattle.paginate.proofs.EndLemmas.{from_on}
use Rattle.paginate.proofs.FinishLemmas.{bodies-all, count-all, done-same, entries-all, pars-all, table-same}
use Rattle.paginate.proofs.TableLemmas.{table_pars}
use Rattle.paginate.proofs.plan.Plan.finish.Goals as goal

pub returns-clause-ok : goal.returns-clause-ok
returns-clause-ok c = λ masters layouts pars placed.
    let plan = c.args.self.now in
    let branch = c.in_ok-breaker.breaker in
    let new = c.close_all.new.breaker in
    let most = 65535 + length placed.reaches.pages in
    let is_rest = from_on plan.from c.deref.result.now ∙ ap (λ (l : List Row). drop plan.from l) c.deref.ensures.value in
    let same_left : left_of branch ≡ left_of plan.breaker = c.in_ok-breaker.ensures.0 in
    let same_number = ap (λ (l : Left). l.number) same_left in
    let same_size = ap₂ size_of same_left is_rest in
    let reached = c.in_ok-close_all.ensures most c.in_ok-breaker.ensures.2 (omega (arith, same_number, placed.reaches.numbered)) (omega arith)
    (omega (arith, same_size, placed.reaches.counted, placed.few)) in
    let done : IsDone (frames_of masters layouts) (left_of plan.breaker) plan.breaker.heads (pending plan) new =
    done-same plan.frames (frames_of masters layouts) (left_of branch) (left_of plan.breaker) branch.heads plan.breaker.heads _ (pending plan) new
    placed.has_frames same_left c.in_ok-breaker.ensures.1 is_rest reached in
    let few = count-all masters layouts pars plan new placed done in
    let first = c.deref-2.ensures.value in
    let second = c.deref-3.ensures.value in
    let entries = c.in_ok-table.ensures.entries ∙ ap₂ (λ (a b : List Closed). map closed_entry a ++ map closed_entry b) first second ∙ entries-all masters layouts pars plan new placed done in
    let short : length c.deref-2.result.now + length c.deref-3.result.now + 1 < 2 ^ 32 =
    omega (arith, few, ap (λ (l : List Closed). length l) first, ap (λ (l : List Closed). length l) second) in
    let found = c.in_ok-table.ensures.pars short
    ∙ table_pars c.deref-2.result.now c.deref-3.result.now c.as_slice-set.result.now
    ∙ ap₂ (λ (a b : List Closed). looked_up (a ++ b) 0 c.as_slice-set.result.now) first second
    ∙ ap (λ (ids : List ParId). looked_up (plan.breaker.pages.items ++ new.pages.items) 0 ids) c.as_slice-set.ensures.value
    ∙ pars-all masters layouts pars plan new placed done in (
      table-same c.in_ok-table.table (table_of masters layouts pars) entries found,
      record {
        finished = refl;
        has_masters = placed.has_masters;
        short = omega (arith, few, length-map (plan.breaker.pages.items ++ c.into_pages.result.items) (λ (closed : Closed). closed.body), length-append plan.breaker.pages.items c.into_pages.result.items, ap (λ (l : List Closed). length l) c.into_pages.ensures);
        has_bodies = ap (λ (l : List Closed). map (λ (closed : Closed). closed.body) (plan.breaker.pages.items ++ l)) c.into_pages.ensures ∙ bodies-all masters layouts pars plan new placed done;
      },
    )
