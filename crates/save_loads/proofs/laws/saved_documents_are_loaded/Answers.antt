use Rattle.save_loads.proofs.Again.{loaded_again}
use Rattle.save_loads.proofs.laws.saved_documents_are_loaded.Goals as goal

pub returns : goal.returns
returns c = loaded_again
