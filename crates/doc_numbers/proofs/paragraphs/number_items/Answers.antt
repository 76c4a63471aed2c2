use Rattle.std.proofs.Common.{◌≡◌, false, List, length, ap, sym, ◌∙◌, arith}
use Rattle.std.specs.List.{list_any}
use Rattle.doc_model.specs.declared.paragraph.Par.{Par}
use Rattle.doc_model.specs.Alike.{in_note}
use Rattle.load_model.specs.Loaded.{numbered}
use Rattle.doc_numbers.specs.Numbering.{note_pars, is_note}
use Rattle.doc_numbers.proofs.NumberLemmas.{goes_more}
use Rattle.doc_numbers.proofs.ParLemmas.{no_notes}
use Rattle.doc_numbers.proofs.paragraphs.number_items.Goals as goal

pub returns-then-not-has_note-clause-counted : goal.returns-then-not-has_note-clause-counted
returns-then-not-has_note-clause-counted c =
    let none : list_any is_note c.args.items ≡ false = ap (list_any is_note) (sym c.as_slice.ensures) ∙ sym c.has_note.ensures ∙ c.if-not-has_note.true in
    let empty = ap (λ (pars : List Par). length pars) (no_notes (λ par. par) c.args.items none).0 in
    omega (arith, empty)

pub returns-then-not-has_note-clause-numbered : goal.returns-then-not-has_note-clause-numbered
returns-then-not-has_note-clause-numbered c = λ numbers follow.
    let none : list_any is_note c.args.items ≡ false = ap (list_any is_note) (sym c.as_slice.ensures) ∙ sym c.has_note.ensures ∙ c.if-not-has_note.true in
    sym (no_notes (numbered numbers) c.args.items none).1

pub left-preserved : goal.left-preserved
left-preserved c =
    goes_more note_pars (λ numbers. in_note (numbered numbers)) c.args.items c.args.last.now c.left.done.items c.push.new.self.items c.left.left c.pop.new.self c.in-Some.item c.in_ok-number_item.field-0 c.left.last c.number_item.new.last
    c.in-Some.ensures c.left.invariant c.in_ok-push.ensures.items c.in_ok-number_item.ensures.counted c.in_ok-number_item.ensures.numbered
