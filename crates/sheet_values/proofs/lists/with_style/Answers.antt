use Rattle.std.proofs.Common.{◌∙◌, ◌++◌, ◌∷◌, [], List, map, ap, sym}
use Rattle.std.specs.List.{flat_map}
use Rattle.std.specs.Option.{option_to_list}
use Rattle.doc_model.specs.declared.list_style.ListLevel.{ListLevel}
use Rattle.doc_model.specs.declared.list_style.ListStyle.{ListStyle}
use Rattle.load_model.specs.declared.names.Key.TheVariants as key
use Rattle.load_model.specs.Left.{all_of, only_attributes, attributes_of}
use Rattle.load_model.specs.Styles.{name_of, is_level, levels_left, list_left}
use Rattle.load_model.specs.Values as value
use Rattle.load_model.specs.Values.{rule, attributes_left}
use Rattle.sheet_values.specs.Read.{styles_in}
use Rattle.sheet_values.proofs.Steps.{flat_behind, left_behind}
use Rattle.sheet_values.proofs.lists.with_style.Goals as goal

pub returns : goal.returns
returns c = λ before are.
    let styles_of : List ListLevel → List ListStyle = λ levels. map (λ name. record { name = name; levels = levels }) (option_to_list (name_of c.args.element.now)) in
    record {
      styles_are = c.in_ok-add_style.ensures ∙ ap (λ all. all ++ styles_of c.in_ok-read.read.levels) are.styles_are ∙ ap (λ levels. flat_map styles_in before ++ styles_of levels) c.in_ok-read.ensures.levels_are ∙ sym (flat_behind styles_in before c.args.element.now);
      left_is = left_behind list_left before c.args.element.now _ (c.both.ensures (all_of (map list_left before)) (list_left c.args.element.now) are.left_is
          (c.both-own.ensures (only_attributes (attributes_left (rule key.Name value.name ∷ []) (attributes_of c.args.element.now))) (levels_left is_level c.args.element.now) c.attributes_out.ensures c.in_ok-read.ensures.left_is));
    }
