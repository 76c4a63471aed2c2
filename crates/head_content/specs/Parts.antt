-- What elements are where the content of a header is read.
use Rattle.std.specs.Prelude.{◌||◌, if◌then◌else◌}
use Rattle.load_model.specs.declared.names.Tag.{Tag}
use Rattle.load_model.specs.declared.names.Tag.TheVariants as tag
use Rattle.load_model.specs.Fields.{is_field, is_header_field}
use Rattle.load_model.specs.Headers.{is_not_kept}
use Rattle.load_model.specs.Met.{is_dropped}
use Rattle.head_content.specs.declared.parts.Part.{Part}
use Rattle.head_content.specs.declared.parts.Part.TheVariants as part

-- what an element of a tag is
abbrev pub part_of : Tag → Part
part_of tag.Span = part.Span
part_of tag.Spaces = part.Spaces
part_of tag.Tab = part.Tab
part_of tag.LineBreak = part.Break
part_of which =
    if is_header_field which then part.Field
    else if is_field which then part.StoredText
    else if is_not_kept which || is_dropped which then part.Dropped
    else part.Passed
