use Rattle.std.proofs.Common.{◌∙◌, []}
use Rattle.field_walk.proofs.ShowLemmas.{show_both, between_all}
use Rattle.field_walk.proofs.walk.Walk.show_par.Goals as goal

pub returns : goal.returns
returns c = λ all h.
    show_both all c.args.table.now c.args.par.now c.slice.result.0.now c.slice.result.1.now c.args.items.now c.new-shown.result c.show_items.new.shown c.show_items-2.new.shown c.new-shown.ensures (c.slice.ensures ∙ between_all c.len.result c.args.items.now c.len.ensures)
    (c.in_ok-seen.ensures.shown all [] h c.none_seen.ensures)
    (c.in_ok-_all.ensures.shown all c.slice.result.0.now h (c.in_ok-seen.ensures.seen [] c.none_seen.ensures))
