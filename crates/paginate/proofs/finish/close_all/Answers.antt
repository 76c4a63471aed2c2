use Rattle.std.proofs.Common.{◌+◌, ◌<◌, ◌^◌, ◌∙◌, List, ap, sym, subst, arith}
use Rattle.page_model.specs.declared.row.Row.{Row}
use Rattle.page_model.specs.Pages.{is_over}
use Rattle.paginate.specs.Reached.{Finishes}
use Rattle.paginate.specs.Standing.{left_of}
use Rattle.paginate.proofs.FinishLemmas.{finishes-more, finishes-last, smaller}
use Rattle.paginate.proofs.finish.close_all.Goals as goal

pub returns-then-is_over : goal.returns-then-is_over
returns-then-is_over c = λ most none small large total.
    let so_far = c.pages.invariant most none small large total in
    let short : c.pages.breaker.number + 1 < 2 ^ 32 = omega (arith, so_far.numbered, so_far.counted, total) in
    let over = ap (λ (rows : List Row). is_over (left_of c.close.new.self) rows) (sym c.split_at.ensures.back) ∙ sym c.is_over.ensures ∙ c.if-is_over.true in
    finishes-last c.args.frames.now most (left_of c.args.breaker.now) c.args.breaker.now.heads c.args.rows.now c.pages.breaker c.close.new.self c.pages.rest.now c.in_ok-count.count
    so_far (c.in_ok-count.ensures.ok short) over

pub pages-smaller : goal.pages-smaller
pages-smaller c =
    smaller c.args.frames.now c.pages.breaker c.close.new.self c.pages.rest.now c.split_at.result.1.now c.in_ok-count.count c.requires
    c.in_ok-count.ensures.counted c.in_ok-count.ensures.carried c.split_at.ensures.back (sym c.is_over.ensures ∙ c.if-is_over.false)

pub pages-preserved : goal.pages-preserved
pages-preserved c = λ most none small large total.
    let so_far = c.pages.invariant most none small large total in
    let short : c.pages.breaker.number + 1 < 2 ^ 32 = omega (arith, so_far.numbered, so_far.counted, total) in
    let over = ap (λ (rows : List Row). is_over (left_of c.close.new.self) rows) (sym c.split_at.ensures.back) ∙ sym c.is_over.ensures ∙ c.if-is_over.false in
    subst (λ (rows : List Row). Finishes c.args.frames.now most (left_of c.args.breaker.now) c.args.breaker.now.heads c.args.rows.now c.close.new.self rows) (sym c.split_at.ensures.back)
    (finishes-more c.args.frames.now most (left_of c.args.breaker.now) c.args.breaker.now.heads c.args.rows.now c.pages.breaker c.close.new.self c.pages.rest.now c.in_ok-count.count
    large c.requires so_far (c.in_ok-count.ensures.ok short) over)
