use Rattle.load_model.specs.Blocks.{one_element}
use Rattle.text_read.proofs.WalkLemmas.{enlists_left}
use Rattle.text_read.proofs.steps.leave_out.Goals as goal

pub returns : goal.returns
returns c = λ at. enlists_left at c.args.into.now c.leave_out.new.self one_element (c.leave_out.ensures at.in_note one_element c.elements.ensures)
