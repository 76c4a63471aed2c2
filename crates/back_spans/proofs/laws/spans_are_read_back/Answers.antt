use Rattle.back_spans.proofs.Runs.{nodes_read}
use Rattle.back_spans.proofs.laws.spans_are_read_back.Goals as goal

pub returns : goal.returns
returns c = nodes_read
