use Rattle.container_facts.proofs.Texts.{text_of_body, text_of_note}
use Rattle.container_facts.proofs.laws.texts_are_containers.Goals as goal

pub returns : goal.returns
returns c = record { body = text_of_body; note = text_of_note }
