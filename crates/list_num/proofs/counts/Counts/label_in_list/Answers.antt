use Rattle.std.proofs.Common.{ℕ, List, [], ◌∷◌, ◌++◌, Some, refl, ap, ◌∙◌, cond}
use Rattle.std.specs.HashMap.{get}
use Rattle.std.specs.Map.{lookup}
use Rattle.std.specs.Str.{bytes_eq}
use Rattle.field_model.specs.Labels.{levels_of}
use Rattle.list_num.specs.declared.counts.StyleCounts.{StyleCounts}
use Rattle.list_num.proofs.Entering.{have-same, on_err}
use Rattle.list_num.proofs.Placing.{counters-kept, counters-next, label-placed, levels_named-list, places-other, styles-next}
use Rattle.list_num.proofs.counts.Counts.label_in_list.Goals as goal

pub returns-in_err-style-clause-err : goal.returns-in_err-style-clause-err
returns-in_err-style-clause-err c before counted = on_err c.from_residual.result (c.style_counts.ensures.kept before counted)

pub returns-in_err-counters-clause-err : goal.returns-in_err-counters-clause-err
returns-in_err-counters-clause-err c before counted = on_err c.from_residual-in_err-counters.result (c.style_counts.ensures.kept before counted)

pub returns-in_err-label-clause-err : goal.returns-in_err-label-clause-err
returns-in_err-label-clause-err c before counted = on_err c.from_residual-in_err-label.result (c.style_counts.ensures.kept before counted)

pub returns-in_err-name-clause-err : goal.returns-in_err-name-clause-err
returns-in_err-name-clause-err c before counted = on_err c.from_residual-in_err-name.result (c.style_counts.ensures.kept before counted)

pub returns-in_err-insert-clause-err : goal.returns-in_err-insert-clause-err
returns-in_err-insert-clause-err c before counted = on_err c.from_residual-in_err-insert.result
    (have-same c.args.lists.now before c.style_counts.new.self _ refl refl (λ name. ap (lookup (bytes_eq name)) c.in_err-insert.ensures.err) (c.style_counts.ensures.kept before counted))

pub returns-clause-label : goal.returns-clause-label
returns-clause-label c outline before head is counted =
    let style = c.in_ok-style.ensures.style before counted in
    let kept = c.style_counts.ensures.kept before counted in
    c.in_ok-label.ensures
    ∙ label-placed c.args.lists.now outline before head c.args.place.now c.levels_at.result.now c.in_ok-counters.counters is
    (c.levels_at.ensures ∙ ap levels_of style.place ∙ levels_named-list c.args.lists.now outline c.args.place.now.style c.requires.named)
    (counters-next c.args.place.now.style before head c.args.place.now c.in_ok-style.style.counters c.in_ok-counters.counters is refl style.counters c.in_ok-counters.ensures)

pub returns-clause-counted : goal.returns-clause-counted
returns-clause-counted c before head is counted =
    let style = c.in_ok-style.ensures.style before counted in
    let kept = c.style_counts.ensures.kept before counted in
    let next : StyleCounts = record { at = c.in_ok-style.style.at; counters = c.in_ok-counters.counters } in
    record {
      outline = counters-kept [] before (before ++ head ∷ []) c.style_counts.new.self.outline (places-other [] before head c.args.place.now is c.requires.named) kept.outline;
      styles = styles-next c.args.lists.now c.style_counts.new.self.known before head c.args.place.now next (λ name. get bytes_eq c.style_counts.new.self.lists name) (λ name. get bytes_eq c.insert.new.self name) is kept.styles
          (record { counters = counters-next c.args.place.now.style before head c.args.place.now c.in_ok-style.style.counters c.in_ok-counters.counters is refl style.counters c.in_ok-counters.ensures; place = style.place })
          (λ name. c.in_ok-insert.ensures.updates.0 name ∙ ap (λ (key : List ℕ). cond (bytes_eq key name) (Some next) (get bytes_eq c.style_counts.new.self.lists name)) c.in_ok-name.ensures);
    }
