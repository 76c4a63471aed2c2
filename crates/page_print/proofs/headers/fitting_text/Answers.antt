use Rattle.std.proofs.Common.{ℕ, sym, ap, subst, ◌∙◌, IsCharBoundary}
use Rattle.line_model.specs.Lines.{end_of}
use Rattle.page_print.specs.Headers.{fitting}
use Rattle.page_print.proofs.Fitting.{fitting-boundary}
use Rattle.page_print.proofs.headers.fitting_text.Goals as goal

pub range-requires-clause-end_boundary : goal.range-requires-clause-end_boundary
range-requires-clause-end_boundary c =
    let units = c.get.ensures ∙ c.in_ok-units.ensures in
    subst (λ (place : ℕ). IsCharBoundary c.args.text.now place) (sym (c.fitting_end-end.ensures ∙ ap (λ units. end_of 0 (fitting c.args.columns units)) units))
    (fitting-boundary c.args.columns c.args.text.now c.utf8.text)
