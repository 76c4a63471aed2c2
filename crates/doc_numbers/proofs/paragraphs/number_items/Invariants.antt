use Rattle.std.proofs.Common.{length}
use Rattle.doc_model.specs.declared.paragraph.Item.{Item}
use Rattle.doc_model.specs.Alike.{in_note}
use Rattle.load_model.specs.Loaded.{numbered}
use Rattle.doc_numbers.specs.Numbering.{note_pars}
use Rattle.doc_numbers.proofs.NumberLemmas.{Goes}
use Rattle.doc_numbers.proofs.paragraphs.number_items.Given as goal

abbrev pub invariant-left : goal.invariant-left
invariant-left l = Goes Item note_pars (λ numbers. in_note (numbered numbers)) l.fn.items l.done.items l.left l.fn.last l.last

abbrev pub decreases-left : goal.decreases-left
decreases-left l = length l.left
