use Rattle.row_facts.proofs.Containers.{container_opens}
use Rattle.row_facts.proofs.laws.containers_are_open.Goals as goal

pub returns : goal.returns
returns c = container_opens
