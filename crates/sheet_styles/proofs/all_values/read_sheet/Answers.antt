use Rattle.std.proofs.Common.{◌≡◌, ◌∙◌, Option, [], ◌++◌, true, false, not, map, ap, ap₂}
use Rattle.std.specs.List.{flat_map, filter}
use Rattle.std.specs.Option.{option_map_or, option_to_list}
use Rattle.doc_model.specs.declared.style.Family.TheVariants as family
use Rattle.doc_model.specs.Empty.{unstated}
use Rattle.load_model.specs.declared.element.Element.{Element}
use Rattle.load_model.specs.declared.names.Tag.TheVariants as tag
use Rattle.load_model.specs.Left as left
use Rattle.load_model.specs.Left.{Left, both, nothing, all_of, all_but, only_attributes, attributes_of}
use Rattle.load_model.specs.Styles.{Names, names_of, style_parts, in_parts, read_in_parts, kept_styles, kept_default, kept_lists, kept_outline, kept_layouts, style_left, default_left, list_left, outline_left, layout_left, style_properties, levels}
use Rattle.load_model.specs.Values.{attributes_left}
use Rattle.element_parts.specs.Shown.{shown}
use Rattle.sheet_kept.specs.Held.{seen}
use Rattle.sheet_values.specs.Read.{styles_in, layouts_in}
use Rattle.sheet_styles.specs.Read.{styles_with, all_left}
use Rattle.sheet_styles.proofs.KnownLemmas.{styles_known, lefts_known}
use Rattle.sheet_styles.proofs.all_values.read_sheet.Goals as goal

pub returns : goal.returns
returns c = λ root is.
    let names : Names = names_of root in
    let kept = c.args.sheet.now.names in
    let own : Element → Left = λ part. only_attributes (attributes_left [] (attributes_of part)) in
    let styles : map seen c.as_slice-kept_styles.result.now ≡ kept_styles root = ap (map seen) c.as_slice-kept_styles.ensures.value ∙ is.styles_are in
    let lists : map (λ one. one.now) c.as_slice-kept_lists.result.now ≡ kept_lists root = ap (map (λ one. one.now)) c.as_slice-kept_lists.ensures.value ∙ is.lists_are in
    let layouts : map (λ one. one.now) c.as_slice-kept_layouts.result.now ≡ kept_layouts root = ap (map (λ one. one.now)) c.as_slice-kept_layouts.ensures.value ∙ is.layouts_are in
    let parts : map (λ one. one.now) c.as_slice-parts.result.now ≡ style_parts root = ap (map (λ one. one.now)) c.as_slice-parts.ensures.value ∙ is.parts_are in
    let of_parts : Left = all_of (map own (style_parts root)) in
    let of_held : Left = all_but (read_in_parts root) (map (λ in_part. in_part.element) (in_parts root)) in
    let of_styles : Left = all_of (map (λ in_part. style_left names in_part.element) (kept_styles root)) in
    let of_default : Left = all_of (map default_left (option_to_list (kept_default root))) in
    let of_lists : Left = all_of (map list_left (kept_lists root)) in
    let of_outline : Left = all_of (map outline_left (option_to_list (kept_outline root))) in
    let of_layouts : Left = all_of (map layout_left (kept_layouts root)) in
    let two : Left = both (both nothing of_parts) of_held in
    let three : Left = both two of_styles in
    let four : Left = both three of_default in
    let five : Left = both four of_lists in
    let six : Left = both five of_outline in
    record {
      styles_are =
          c.in_ok-styles.ensures.styles_are ∙ ap (λ all. styles_with kept false all ++ styles_with kept true all) styles
          ∙ ap₂ (λ one other. one ++ other) (styles_known kept names is.names_are (filter (λ in_part. not in_part.auto) (kept_styles root))) (styles_known kept names is.names_are (filter (λ in_part. in_part.auto) (kept_styles root)));
      defaults_are = c.defaults.ensures ∙ ap (λ part. option_map_or (style_properties family.Paragraph) part unstated) is.default_is;
      lists_are = c.in_ok-lists.ensures.styles_are ∙ ap (flat_map styles_in) lists;
      outline_is = c.in_ok-outline.ensures.style_is ∙ ap (λ (part : Option Element). record { name = []; levels = option_map_or (levels (left.is tag.OutlineLevel)) part [] }) is.outline_is;
      layouts_are = c.in_ok-layouts.ensures.layouts_are ∙ ap (flat_map layouts_in) layouts;
      left_is =
          c.both-left.ensures six of_layouts
          (c.both-6.ensures five of_outline
          (c.both-5.ensures four of_lists
          (c.both-4.ensures three of_default
          (c.both-3.ensures two of_styles
          (c.both-2.ensures (both nothing of_parts) of_held
          (c.both.ensures nothing of_parts c.nothing.ensures (c.parts_left.ensures ∙ ap (λ all. shown (all_of (map own all))) parts))
          (c.held_left.ensures root is))
          (c.in_ok-styles.ensures.left_is ∙ ap (λ all. shown (all_left kept all)) styles ∙ ap shown (lefts_known kept names is.names_are (kept_styles root))))
          (c.default_left.ensures ∙ ap (λ part. shown (all_of (map default_left (option_to_list part)))) is.default_is))
          (c.in_ok-lists.ensures.left_is ∙ ap (λ all. shown (all_of (map list_left all))) lists))
          (c.in_ok-outline.ensures.left_is ∙ ap (λ part. shown (all_of (map outline_left (option_to_list part)))) is.outline_is))
          (c.in_ok-layouts.ensures.left_is ∙ ap (λ all. shown (all_of (map layout_left all))) layouts);
    }
