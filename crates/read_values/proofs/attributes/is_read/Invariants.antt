use Rattle.std.proofs.Common.{◌≡◌, drop, map}
use Rattle.load_model.specs.Values as values
use Rattle.read_values.specs.Readings.{rule_of}
use Rattle.read_values.proofs.attributes.is_read.Given as goal

abbrev pub invariant-rules : goal.invariant-rules
invariant-rules l = values.is_read (map rule_of (drop l.rule-index l.rules)) l.attribute ≡ values.is_read (map rule_of l.rules) l.attribute
