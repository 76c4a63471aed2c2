use Rattle.nested_sections.proofs.Texts.{text_nested, file_nested}
use Rattle.nested_sections.proofs.laws.sections_are_nested.Goals as goal

pub returns : goal.returns
returns c = record { text = text_nested; file = file_nested }
