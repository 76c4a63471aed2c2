use Rattle.std.proofs.Common.{◌∙◌, ap, ap₂}
use Rattle.load_model.specs.Styles.{properties, part_attributes}
use Rattle.sheet_styles.proofs.properties.part_properties.Goals as goal

pub returns : goal.returns
returns c =
    c.properties.ensures
    ∙ ap₂ properties (c.part_attributes.ensures ∙ ap part_attributes c.paragraph_part.ensures) (c.part_attributes-2.ensures ∙ ap part_attributes c.text_part.ensures)
