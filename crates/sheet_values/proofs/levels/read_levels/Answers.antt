use Rattle.std.proofs.Common.{◌≡◌, ◌∙◌, List, length, map, ap, sym}
use Rattle.std.proofs.lemmas.List.{length-map}
use Rattle.load_model.specs.declared.element.Element.{Element, out-Element}
use Rattle.load_model.specs.Left.{all_of, all_but, children}
use Rattle.element_parts.proofs.Inner.{elems_of_turns}
use Rattle.element_parts.specs.Shown.{shown}
use Rattle.sheet_values.specs.LevelKinds.{kept_among, level_left, level_numbers, levels_among}
use Rattle.sheet_values.proofs.levels.read_levels.Goals as goal

pub returns : goal.returns
returns c =
    let element : Element = c.args.element.now in
    let all : List Element = kept_among c.args.of (children element) in
    let keeps : map (λ one. one.now) c.as_slice-kept.result.now ≡ all =
    ap (map (λ one. one.now)) c.as_slice-kept.ensures.value ∙ c.in_ok-kept.ensures
    ∙ ap (λ turns. kept_among c.args.of (map (λ turn. turn.elem) turns)) c.turns.ensures ∙ ap (kept_among c.args.of) (elems_of_turns (out-Element element).nodes) in
    let count : length c.as_slice-kept.result.now ≡ length all = sym (length-map c.as_slice-kept.result.now (λ one. one.now)) ∙ ap length keeps in
    record {
      levels_are = c.in_ok-levels.ensures ∙ ap (levels_among level_numbers) keeps;
      left_is = c.both-left.ensures (all_but (length all) (children element)) (all_of (map level_left all))
          (c.children_left.ensures ∙ ap (λ read. shown (all_but read (children element))) count)
          (c.own_lefts.ensures ∙ ap (λ kept. shown (all_of (map level_left kept))) keeps);
    }
