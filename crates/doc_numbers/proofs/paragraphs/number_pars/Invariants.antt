use Rattle.std.proofs.Common.{length}
use Rattle.doc_model.specs.declared.paragraph.Par.{Par}
use Rattle.load_model.specs.Loaded.{numbered}
use Rattle.doc_numbers.proofs.NumberLemmas.{Goes, alone}
use Rattle.doc_numbers.proofs.paragraphs.number_pars.Given as goal

abbrev pub invariant-left : goal.invariant-left
invariant-left l = Goes Par alone (λ numbers. numbered numbers) l.fn.pars l.done.items l.left l.fn.last l.last

abbrev pub decreases-left : goal.decreases-left
decreases-left l = length l.left
