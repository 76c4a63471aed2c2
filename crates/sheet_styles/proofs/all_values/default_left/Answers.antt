use Rattle.std.proofs.Common.{[], ◌∷◌}
use Rattle.doc_model.specs.declared.style.Family.TheVariants as family
use Rattle.load_model.specs.declared.names.Key.TheVariants as key
use Rattle.load_model.specs.Left.{nothing, only_attributes, attributes_of}
use Rattle.load_model.specs.Styles.{properties_left, default_left}
use Rattle.load_model.specs.Values as value
use Rattle.load_model.specs.Values.{rule, attributes_left}
use Rattle.sheet_styles.proofs.all_values.default_left.Goals as goal

pub returns-in-Some : goal.returns-in-Some
returns-in-Some c =
    rw c.in-Some.is (c.both.ensures nothing (default_left c.in-Some.element.now) c.nothing.ensures
    (c.both-own.ensures (only_attributes (attributes_left (rule key.Family value.family_of_text ∷ []) (attributes_of c.in-Some.element.now))) (properties_left family.Paragraph c.in-Some.element.now)
    c.attributes_out-own.ensures c.properties_left.ensures))
