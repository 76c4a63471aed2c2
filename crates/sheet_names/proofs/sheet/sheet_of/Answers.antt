use Rattle.std.proofs.Common.{◌≡◌, ◌∙◌, true, List, map, ap, sym}
use Rattle.std.specs.List.{find, filter, filter_map}
use Rattle.load_model.specs.declared.element.Element.{Element}
use Rattle.load_model.specs.declared.names.Tag.TheVariants as tag
use Rattle.load_model.specs.Left.{is}
use Rattle.load_model.specs.Styles.{in_parts, is_default_style, name_of, named}
use Rattle.sheet_kept.specs.Held.{seen}
use Rattle.sheet_names.specs.Known.{names_with}
use Rattle.sheet_names.specs.Keys.{names_among, styles_among}
use Rattle.sheet_names.proofs.SheetLemmas.{all_pass, first_default, lent_elements}
use Rattle.sheet_names.proofs.sheet.sheet_of.Goals as goal

pub returns : goal.returns
returns c =
    let elements : List Element = map (λ one. one.element) (in_parts c.args.root.now) in
    let held : map seen c.as_slice-all.result.now ≡ in_parts c.args.root.now = ap (map seen) c.as_slice-all.ensures.value ∙ c.in_ok-held.ensures in
    let are : map (λ one. one.element.now) c.as_slice-all.result.now ≡ elements = sym (lent_elements c.as_slice-all.result.now) ∙ ap (map (λ one. one.element)) held in
    let all : map (λ one. one.element.now) c.as_slice-all.result.now ≡ filter (λ element. true) elements = are ∙ sym (all_pass elements) in
    record {
      parts_are = c.in_ok-parts.ensures;
      held_is = c.in_ok-held.ensures;
      styles_are = c.in_ok-styles.ensures.styles_are ∙ ap styles_among held;
      default_is = c.first_default-default_style.ensures ∙ ap (find is_default_style) are ∙ sym (first_default elements);
      outline_is = c.first_outline-outline.ensures ∙ ap (find (is tag.OutlineStyle)) all;
      lists_are = c.in_ok-lists.ensures.elements_are ∙ ap (named (is tag.ListStyle)) all;
      layouts_are = c.in_ok-layouts.ensures.elements_are ∙ ap (named (is tag.PageLayout)) all;
      masters_are = c.in_ok-masters.ensures.elements_are;
      names_are = record {
        styles_are = λ of. c.in_ok-styles.ensures.names_are of ∙ ap (λ kept. names_with of (names_among (styles_among kept))) held;
        lists_are = c.in_ok-lists.ensures.names_are ∙ ap (λ kept. filter_map name_of (named (is tag.ListStyle) kept)) all;
        layouts_are = c.in_ok-layouts.ensures.names_are ∙ ap (λ kept. filter_map name_of (named (is tag.PageLayout) kept)) all;
        masters_are = c.in_ok-masters.ensures.names_are;
      };
    }
