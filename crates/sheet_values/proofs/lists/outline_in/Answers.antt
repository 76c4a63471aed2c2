use Rattle.std.proofs.Common.{ℕ, List, [], ap₂}
use Rattle.doc_model.specs.declared.list_style.ListLevel.{ListLevel}
use Rattle.doc_model.specs.declared.list_style.ListStyle.{ListStyle}
use Rattle.load_model.specs.declared.names.Tag.TheVariants as tag
use Rattle.load_model.specs.Left.{is, nothing, only_attributes, attributes_of}
use Rattle.load_model.specs.Styles.{levels_left, outline_left}
use Rattle.load_model.specs.Values.{attributes_left}
use Rattle.sheet_values.proofs.lists.outline_in.Goals as goal

abbrev style_with : List ℕ → List ListLevel → ListStyle
style_with name levels = record { name = name; levels = levels }

pub returns : goal.returns
returns c = record {
  style_is = ap₂ style_with c.none.ensures c.in_ok-read.ensures.levels_are;
  left_is = c.both-2.ensures nothing (outline_left c.args.element.now) c.nothing.ensures
      (c.both.ensures (only_attributes (attributes_left [] (attributes_of c.args.element.now))) (levels_left (is tag.OutlineLevel) c.args.element.now) c.attributes_out.ensures c.in_ok-read.ensures.left_is);
}
