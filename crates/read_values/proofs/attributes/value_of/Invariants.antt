use Rattle.std.proofs.Common.{◌≡◌, drop}
use Rattle.load_model.specs.Values as values
use Rattle.read_values.proofs.attributes.value_of.Given as goal

abbrev pub invariant-attributes : goal.invariant-attributes
invariant-attributes l = values.value_of l.wanted (drop l.attribute-index l.attributes) ≡ values.value_of l.wanted l.attributes
