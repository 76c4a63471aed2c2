use Rattle.back_parts.proofs.Files.{global_back, text_found, attributes_whole, root_whole, body_whole}
use Rattle.back_parts.proofs.laws.files_are_read_back.Goals as goal

pub returns-clause-global : goal.returns-clause-global
returns-clause-global c = global_back

pub returns-clause-text : goal.returns-clause-text
returns-clause-text c = text_found

pub returns-clause-attributes : goal.returns-clause-attributes
returns-clause-attributes c = attributes_whole

pub returns-clause-root : goal.returns-clause-root
returns-clause-root c = root_whole

pub returns-clause-body : goal.returns-clause-body
returns-clause-body c = body_whole
