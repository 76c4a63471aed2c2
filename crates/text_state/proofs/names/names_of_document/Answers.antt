use Rattle.text_state.proofs.Followed.{all_four}
use Rattle.text_state.proofs.names.names_of_document.Goals as goal

pub returns : goal.returns
returns c = all_four _ _ _ _ _ _ _ _ _ c.new-index.ensures c.in_ok-add_kind.ensures c.in_ok-add_kind-2.ensures c.in_ok-add_kind-3.ensures c.in_ok-add_kind-4.ensures
