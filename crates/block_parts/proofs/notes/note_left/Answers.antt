use Rattle.std.proofs.Common.{◌∙◌, ◌-◌, ap, map, sym}
use Rattle.std.specs.Option.{option_map, option_to_list}
use Rattle.load_model.specs.declared.element.Element.{out-Element}
use Rattle.element_parts.specs.Shown.{shown}
use Rattle.block_parts.specs.Notes.{attributes_in, citations}
use Rattle.block_parts.proofs.NoteLemmas.{attributes_joined, left_by_turns}
use Rattle.block_parts.proofs.notes.note_left.Goals as goal

pub returns : goal.returns
returns c =
    let element = c.args.element.now in
    let body = option_to_list (option_map (λ found. found.now) c.first-body.result) in
    let cited = citations (map (λ turn. turn.elem) c.turns-turns.result.now) in
    left_by_turns (out-Element element).nodes body c.turns-turns.result.now c.len.result c.body_count.result c.citations.result c.saturating_sub-others.result c.elements.result c.both.result c.both-2.result
    c.turns-turns.ensures (ap option_to_list c.first-body.ensures) c.len.ensures c.body_count.ensures c.citations.ensures (c.saturating_sub-others.ensures ∙ ap (λ n. n - c.citations.result) c.saturating_sub.ensures) c.elements.ensures
    (c.both.ensures (attributes_in body) (attributes_in cited) c.body_left.ensures c.citations_left.ensures ∙ ap shown (sym (attributes_joined body cited)))
    c.both-2.ensures
