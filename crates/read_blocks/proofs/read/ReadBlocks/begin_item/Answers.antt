use Rattle.std.proofs.Common.{◌∙◌, refl, sym}
use Rattle.load_model.specs.Blocks.{is_directly_in}
use Rattle.block_parts.specs.declared.begins.Begins.TheVariants as begins
use Rattle.read_blocks.proofs.BeginLemmas.{begun_nowhere, begun_somewhere}
use Rattle.read_blocks.proofs.read.ReadBlocks.begin_item.Goals as goal

pub returns-in-Some : goal.returns-in-Some
returns-in-Some c = λ in_note old more level adds e.
    begun_somewhere in_note begins.Item (is_directly_in level) old c.args.self.now _ more adds c.in-Some.at (sym c.in-Some.is ∙ e) c.begin_at.ensures refl refl refl

pub returns-in-None : goal.returns-in-None
returns-in-None c = λ in_note old more level adds e. begun_nowhere in_note begins.Item (is_directly_in level) old c.args.self.now c.args.self.now more adds (sym c.in-None.is ∙ e) refl
