use Rattle.std.proofs.Common.{◌≡◌, ℕ, Option, ◌+◌, ◌-◌, ◌∙◌, length, map, ap, sym}
use Rattle.std.specs.Option.{option_to_list}
use Rattle.std.proofs.lemmas.List.{length-map}
use Rattle.load_model.specs.declared.element.Element.{Element}
use Rattle.load_model.specs.Left.{only_elements}
use Rattle.load_model.specs.Styles.{in_parts, kept_styles, kept_default, kept_lists, kept_outline, kept_layouts}
use Rattle.element_parts.specs.Shown.{shown}
use Rattle.sheet_kept.specs.Held.{seen}
use Rattle.sheet_styles.proofs.KnownLemmas.{count_lent}
use Rattle.sheet_styles.proofs.all_values.held_left.Goals as goal

pub returns : goal.returns
returns c = λ root is.
    let count : Option Element → ℕ = λ part. length (option_to_list part) in
    let held : length c.as_slice-held.result.now ≡ length (map (λ in_part. in_part.element) (in_parts root)) =
    count_lent seen _ c.args.sheet.now.held.items (in_parts root) c.as_slice-held.ensures.value is.held_is ∙ sym (length-map (in_parts root) (λ in_part. in_part.element)) in
    let all : ℕ = length (map (λ in_part. in_part.element) (in_parts root)) in
    let styles : length c.as_slice-styles.result.now ≡ length (kept_styles root) = count_lent seen _ c.args.sheet.now.styles.items (kept_styles root) c.as_slice-styles.ensures.value is.styles_are in
    let defaults : c.part_count.result ≡ count (kept_default root) = c.part_count.ensures ∙ ap count is.default_is in
    let lists : length c.as_slice-lists.result.now ≡ length (kept_lists root) = count_lent (λ one. one.now) _ c.args.sheet.now.lists.items (kept_lists root) c.as_slice-lists.ensures.value is.lists_are in
    let outlines : c.part_count-2.result ≡ count (kept_outline root) = c.part_count-2.ensures ∙ ap count is.outline_is in
    let layouts : length c.as_slice-layouts.result.now ≡ length (kept_layouts root) = count_lent (λ one. one.now) _ c.args.sheet.now.layouts.items (kept_layouts root) c.as_slice-layouts.ensures.value is.layouts_are in
    c.elements.ensures ∙ ap (λ number. shown (only_elements number)) (c.unread.ensures
    ∙ ap (λ n. n - (length c.as_slice-styles.result.now + c.part_count.result + length c.as_slice-lists.result.now + c.part_count-2.result + length c.as_slice-layouts.result.now)) held
    ∙ ap (λ n. all - (n + c.part_count.result + length c.as_slice-lists.result.now + c.part_count-2.result + length c.as_slice-layouts.result.now)) styles
    ∙ ap (λ n. all - (length (kept_styles root) + n + length c.as_slice-lists.result.now + c.part_count-2.result + length c.as_slice-layouts.result.now)) defaults
    ∙ ap (λ n. all - (length (kept_styles root) + count (kept_default root) + n + c.part_count-2.result + length c.as_slice-layouts.result.now)) lists
    ∙ ap (λ n. all - (length (kept_styles root) + count (kept_default root) + length (kept_lists root) + n + length c.as_slice-layouts.result.now)) outlines
    ∙ ap (λ n. all - (length (kept_styles root) + count (kept_default root) + length (kept_lists root) + count (kept_outline root) + n)) layouts)
