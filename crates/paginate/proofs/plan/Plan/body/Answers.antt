use Rattle.std.proofs.Common.{◌≡◌, ◌∙◌, ◌-◌, ap, sym, arith, Some, length, ℕ, get_or, ◌++◌}
use Rattle.std.proofs.lemmas.List.{length-append, length-map}
use Rattle.paginate.specs.declared.breaker.Closed.{Closed}
use Rattle.paginate.proofs.FinishLemmas.{get-behind}
use Rattle.paginate.proofs.plan.Plan.body.Goals as goal

pub returns-else-place-closed : goal.returns-else-place-closed
returns-else-place-closed c =
    let pages = c.args.self.now.breaker.pages.items in
    let last = c.args.self.now.last.items in
    let same : c.args.n - 1 - c.len-closed.result ≡ c.args.n - 1 - length pages = omega (arith, c.len-closed.ensures, c.args.self.now.breaker.pages.ok) in
    get-behind pages last (c.args.n - 1) c.index-else-place-closed.result.now
    (omega (arith, c.len-closed.ensures, c.args.self.now.breaker.pages.ok))
    (omega (arith, c.requires.there, c.requires.within, length-map (pages ++ last) (λ (closed : Closed). closed.body), length-append pages last))
    ∙ ap (λ (n : ℕ). Some (get_or last n c.index-else-place-closed.result.now).body) (sym same)
    ∙ ap (λ (closed : Closed). Some closed.body) (sym c.index-else-place-closed.ensures)
