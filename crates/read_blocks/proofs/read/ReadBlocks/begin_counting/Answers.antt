use Rattle.std.proofs.Common.{refl}
use Rattle.block_parts.specs.declared.begins.Begins.TheVariants as begins
use Rattle.read_blocks.proofs.BeginLemmas.{begun_in_front}
use Rattle.read_blocks.proofs.read.ReadBlocks.begin_counting.Goals as goal

pub returns : goal.returns
returns c = λ in_note old more adds from. begun_in_front in_note begins.Counting old c.args.self.now _ more c.args.from adds from c.begin_at.ensures refl refl refl
