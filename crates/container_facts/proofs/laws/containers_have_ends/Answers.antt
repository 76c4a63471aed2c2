use Rattle.container_facts.proofs.Fronts.{front_told}
use Rattle.container_facts.proofs.Wholes.{all_held, whole}
use Rattle.container_facts.proofs.laws.containers_have_ends.Goals as goal

pub returns : goal.returns
returns c = record {
  whole = λ doc first last apart order. whole doc apart first last order;
  all = λ doc first last apart order front ends. all_held doc apart first last order front ends;
  front = front_told;
}
