use Rattle.std.proofs.Common.{◌≡◌, ◌∙◌, ℕ, List, length, map, sym, ap}
use Rattle.std.specs.List.{flat_map}
use Rattle.std.specs.Option.{option_to_list}
use Rattle.load_model.specs.declared.element.Element.{Element}
use Rattle.load_model.specs.declared.names.Tag.TheVariants as tag
use Rattle.load_model.specs.Headers.{master_left}
use Rattle.load_model.specs.Left.{Left, all_of, children, first}
use Rattle.load_model.specs.Offences.{too_long}
use Rattle.load_model.specs.Styles.{kept_masters, names_of}
use Rattle.element_parts.specs.Shown.{shown}
use Rattle.std.proofs.lemmas.List.{length-map}
use Rattle.head_read.specs.Masters.{counted_in, masters_in, part_left}
use Rattle.head_read.proofs.kept_masters.read_masters.Goals as goal

pub returns : goal.returns
returns c = λ is.
    let root = c.args.root.now in
    let names = names_of root in
    let kept : map (λ one. one.now) c.as_slice-kept.result.now ≡ kept_masters root = ap (map (λ one. one.now)) c.as_slice-kept.ensures.value ∙ is.masters_are in
    let read = c.in_ok-masters.ensures names is.names_are in
    let count : length c.as_slice-kept.result.now ≡ length (kept_masters root) = sym (length-map c.as_slice-kept.result.now (λ one. one.now)) ∙ ap length kept in
    let parts : ℕ → Left = λ number. all_of (map (part_left number) (option_to_list (first tag.MasterStyles (children root)))) in
    record {
      masters_are = read.masters_are ∙ ap (flat_map (masters_in names)) kept;
      left_is = c.both.ensures (parts (length (kept_masters root))) (all_of (map (master_left names) (kept_masters root)))
          (c.part_left.ensures ∙ ap (λ (number : ℕ). shown (parts number)) count)
          (read.left_is ∙ ap (λ (elements : List Element). shown (all_of (map (master_left names) elements))) kept);
      too_long_are = read.too_long_are ∙ ap (λ (elements : List Element). too_long (flat_map (counted_in names) elements)) kept;
    }
