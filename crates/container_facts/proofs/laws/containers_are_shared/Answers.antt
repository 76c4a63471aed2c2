use Rattle.container_facts.proofs.Shared.{one_container, stands_among}
use Rattle.container_facts.proofs.laws.containers_are_shared.Goals as goal

pub returns : goal.returns
returns c = record { one = λ doc first other apart live. one_container doc apart first other live; among = λ doc first last other apart order. stands_among doc apart first last other order }
