use Rattle.std.proofs.Common.{◌∙◌, sym}
use Rattle.read_values.proofs.Names.{only_one, more_than_one}
use Rattle.read_values.proofs.texts.one_character.Goals as goal

pub returns-in-None : goal.returns-in-None
returns-in-None c = only_one c.args.text.now c.next.new.self.rest.now c.in_ok-letter.letter c.utf8.text (sym c.chars-letters.ensures.rest ∙ c.in_ok-letter.ensures.steps.0) c.in-None.ensures.steps.0.0

pub returns-in-Some : goal.returns-in-Some
returns-in-Some c = more_than_one c.args.text.now c.next.new.self.rest.now c.next-2.new.self.rest.now c.in_ok-letter.letter c.in-Some.field-0 c.utf8.text (sym c.chars-letters.ensures.rest ∙ c.in_ok-letter.ensures.steps.0) c.in-Some.ensures.steps.0
