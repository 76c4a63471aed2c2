use Rattle.std.proofs.Common.{◌∙◌, ap, List}
use Rattle.std.specs.Prelude.{map}
use Rattle.doc_model.specs.declared.paragraph.Item.{Item}
use Rattle.text_state.specs.PartRows.{item_rows}
use Rattle.text_state.proofs.Opened.{note_open, par_open, closed, opened}
use Rattle.text_state.proofs.body_rows.+push_par.Goals as goal

pub push_note-returns : goal.push_note-returns
push_note-returns t c = closed _ _ _ _ _ _ _ _ c.in_ok-push.ensures.items c.in_ok-push_pars.ensures c.in_ok-push-2.ensures.items (note_open c.args.note.now)

pub push_par-returns : goal.push_par-returns
push_par-returns t c = opened c.push_texts.result _ _ _ _ _ _ c.in_ok-push.ensures.items c.push_texts.ensures
    (par_open c.args.par.now c.in_ok-style.style c.in_ok-list.list c.in_ok-items.items c.in_ok-style.ensures c.in_ok-list.ensures (c.in_ok-items.ensures ∙ ap (λ (items : List Item). map (λ item. (item_rows item).0) items) c.as_slice.ensures))
