use Rattle.std.proofs.Common.{List, map, take, subst}
use Rattle.load_model.specs.declared.element.Element.{Element}
use Rattle.tree_faults.specs.Texts.{Goes}
use Rattle.tree_faults.proofs.PlaceLemmas.{turns_more}
use Rattle.tree_faults.proofs.texts.push_further_turns.Goals as goal

pub turns-preserved : goal.turns-preserved
turns-preserved c =
    let turns = c.args.turns.now in
    let at = c.turns.turn-index in
    subst (λ (some : List Element). Goes c.args.wanted some c.args.places.now.items c.push_one.new.places.items c.in_ok-met.met) (turns_more turns at c.turn-item.result c.turns-test.true c.turn-item.is)
    (c.in_ok-met.ensures (map (λ turn. turn.elem) (take at turns)) c.args.places.now.items c.turns.invariant)
