use Rattle.std.proofs.Common.{◌∙◌, sym}
use Rattle.load_model.specs.Left.{attributes_of}
use Rattle.text_read.proofs.StepLemmas.{begun_so, ended_so, list_begun, list_ended}
use Rattle.text_read.proofs.steps.end_list.Goals as goal

pub returns-then-not-begins : goal.returns-then-not-begins
returns-then-not-begins c = λ at names old more stands enters from.
    ended_so at old c.args.into.now _ more (sym (c.begins.ensures at stands) ∙ c.if-not-begins.true) (list_ended at names (attributes_of c.args.element.now) old c.args.into.now more enters)

pub returns : goal.returns
returns c = λ at names old more stands enters from.
    begun_so at old c.begin_counting.new.self _ more (sym (c.begins.ensures at stands) ∙ c.if-not-begins.false)
    (list_begun at names (attributes_of c.args.element.now) old c.args.into.now more enters c.begin_counting.new.self (c.begin_counting.ensures at.in_note old more enters.adds from))
