use Rattle.std.proofs.Common.{◌++◌, [], ◌∷◌, List, take, subst, sym, ap, ◌∙◌, arith, append_assoc}
use Rattle.std.proofs.lemmas.List.{take_all}
use Rattle.doc_model.specs.declared.paragraph.Item.{Item}
use Rattle.field_model.specs.Shown.{shown_behind}
use Rattle.field_walk.specs.Seen.{HasSeen}
use Rattle.field_walk.proofs.ShowLemmas.{item_taken, show_pushed}
use Rattle.field_walk.proofs.walk.Walk.show_items.Goals as goal

pub loop-item-preserved : goal.loop-item-preserved
loop-item-preserved c = record {
  seen = λ front s. subst (λ (items : List Item). HasSeen c.args.par.now c.in_ok-now.now items)
      (append_assoc front (take c.loop-item.item-index c.args.items.now) (c.item-item.result ∷ []) ∙ ap (λ (items : List Item). front ++ items) (sym (item_taken c.args.items.now c.loop-item.item-index c.item-item.result (omega arith) c.item-item.is)))
      (c.in_ok-now.ensures c.args.par.now (front ++ take c.loop-item.item-index c.args.items.now) (c.loop-item.invariant.seen front s));
  shown = λ all front h s. show_pushed all c.args.table.now c.args.par.now front c.args.items.now c.loop-item.item-index c.item-item.result c.args.shown.now c.loop-item.shown c.show_item.new.shown (omega arith) c.item-item.is
      (c.loop-item.invariant.shown all front h s)
      (c.in_ok-show_item.ensures all (front ++ take c.loop-item.item-index c.args.items.now) h (c.loop-item.invariant.seen front s));
}

pub returns-clause-seen : goal.returns-clause-seen
returns-clause-seen c = λ front s. subst (λ (items : List Item). HasSeen c.args.par.now c.loop-item.now (front ++ items)) (take_all c.loop-item.item-index c.args.items.now (omega arith)) (c.loop-item.invariant.seen front s)

pub returns-clause-shown : goal.returns-clause-shown
returns-clause-shown c = λ all front h s. c.loop-item.invariant.shown all front h s ∙ ap (λ (items : List Item). c.args.shown.now ++ shown_behind all c.args.table.now c.args.par.now front items) (take_all c.loop-item.item-index c.args.items.now (omega arith))
