use Rattle.std.proofs.Common.{[], ◌∷◌}
use Rattle.load_model.specs.declared.names.Key.TheVariants as key
use Rattle.load_model.specs.Blocks.{left_by}
use Rattle.load_model.specs.Left.{nothing, attributes_of}
use Rattle.load_model.specs.Values as value
use Rattle.load_model.specs.Values.{rule}
use Rattle.doc_load.proofs.left.attributes_in.Goals as goal

pub returns-in-Some : goal.returns-in-Some
returns-in-Some c =
    rw c.in-Some.is (c.both.ensures nothing (left_by (rule key.Global value.truth ∷ []) (attributes_of c.in-Some.text.now)) c.nothing.ensures c.attributes_out.ensures)
