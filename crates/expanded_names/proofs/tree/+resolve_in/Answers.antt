use Rattle.std.proofs.Common.{◌≡◌, ◌<◌, ◌∷◌, [], ◌++◌, ℕ, List, map, length, refl, sym, ap, ap₂, cond, vec_len, subst, ◌∙◌, append_assoc, arith, rules}
use Rattle.std.specs.List.{AllByRecursion as Each}
use Rattle.std.specs.Vec.Iter.{into_iter_items}
use Rattle.markup_nodes.specs.declared.words.Attr.{Attr}
use Rattle.markup_nodes.specs.declared.nodes.Turn.{Turn}
use Rattle.markup_nodes.specs.declared.tree.Elem.{Elem, out-Elem}
use Rattle.markup_nodes.specs.declared.tree.Elem.TheViews.{size-Elem}
use Rattle.load_model.specs.declared.element.Element.{Element as Read}
use Rattle.load_model.specs.Names.{bindings_within, tag_of, element_name, resolved_attribute, has_bad_names, places_of_bad_names}
use Rattle.expanded_names.specs.Scope.{in_force, Holds}
use Rattle.expanded_names.specs.Places.{first_place, turn_in}
use Rattle.expanded_names.proofs.Declared.{without_alike}
use Rattle.expanded_names.proofs.TreeLemmas.{all_smaller, nothing_left, element_is, nodes_are, bad_is, bad_in_turns, first_of_both, holds_alike}
use Rattle.expanded_names.proofs.tree.+resolve_in.Goals as goal

pub turns-init : goal.turns-init
turns-init t c =
    let gives = c.into_iter-turn-iterator.ensures.into_iter_gives in
    let all : Each (λ (turn : Turn Elem). size-Elem turn.elem < size-Elem c.args.elem) c.into_parts-first.result.1.items =
    all_smaller c.args.elem c.into_parts-first.result.0 c.into_parts-first.result.1.items c.into_parts-first.ensures in
    let P : List (Turn Elem) → Type 0 = λ turns. Each (λ (turn : Turn Elem). size-Elem turn.elem < size-Elem c.args.elem) turns in
    record {
      smaller = subst P (sym gives.0) all;
      counted = (let counted : vec_len c.into_parts-first.result.1 ≡ length c.into_parts-first.result.1.items = search rules in gives.1 ∙ counted ∙ ap length (sym gives.0));
      scope = λ prefix. refl;
      read = λ within holds. ap (λ (read : List (Turn Read)). read ++ map (turn_in within) (into_iter_items c.into_iter-turn-iterator.result)) (sym c.in_ok-read.ensures.items);
      bad = λ within holds. refl;
    }

pub turns-preserved : goal.turns-preserved
turns-preserved t c =
    let at = c.turns in
    let turn = c.in-Some.turn in
    let steps : into_iter_items at.turn-iterator ≡ turn ∷ into_iter_items c.next.new.self = c.in-Some.ensures.steps.0 in
    record {
      smaller = (rw steps at at.invariant.smaller).1;
      counted = (let was = at.invariant.counted in let gone = c.in-Some.ensures.steps.1 in let short = ap length steps in omega arith);
      scope = λ prefix. c.in_ok-elem.ensures.scope prefix ∙ at.invariant.scope prefix;
      read = λ within holds.
          (let pushed : c.push.new.self.items ≡ at.read.items ++ turn_in within turn ∷ [] =
          c.in_ok-push.ensures.items
          ∙ ap (λ (elem : Read). at.read.items ++ record { elem = elem; after = turn.after } ∷ [])
          (c.in_ok-elem.ensures.element within (holds_alike c.enter.new.scope at.scope within at.invariant.scope holds)) in
          at.invariant.read within holds ∙ ap (λ (turns : List (Turn Elem)). at.read.items ++ map (turn_in within) turns) steps
          ∙ sym (append_assoc at.read.items (turn_in within turn ∷ []) (map (turn_in within) (into_iter_items c.next.new.self)))
          ∙ ap (λ (read : List (Turn Read)). read ++ map (turn_in within) (into_iter_items c.next.new.self)) (sym pushed));
      bad = λ within holds.
          ap (λ bad. first_place bad (bad_in_turns within (into_iter_items c.next.new.self))) (c.in_ok-elem.ensures.bad within (holds_alike c.enter.new.scope at.scope within at.invariant.scope holds))
          ∙ first_of_both at.bad (places_of_bad_names turn.elem within) (bad_in_turns within (into_iter_items c.next.new.self))
          ∙ ap (λ (turns : List (Turn Elem)). first_place at.bad (bad_in_turns within turns)) (sym steps) ∙ at.invariant.bad within holds;
    }

pub returns-clause-element : goal.returns-clause-element
returns-clause-element t c = λ around holds.
    let within = bindings_within (out-Elem c.args.elem).attrs around in
    let of_attrs : List Attr → Type 0 = λ attrs. Holds c.enter.new.scope (bindings_within attrs around) in
    let entered : Holds c.enter.new.scope within = subst of_attrs c.get.ensures (c.in_ok-shadows.ensures.bindings around holds) in
    let none = c.in-None.ensures.steps in
    let empty : into_iter_items c.turns.turn-iterator ≡ [] = nothing_left _ (sym c.turns.invariant.counted ∙ none.0) in
    element_is c.args.elem around c.tag_in-tag.result c.in_ok-attributes.attributes c.from_parts.result
    (c.tag_in-tag.ensures within entered ∙ ap (λ name. tag_of (element_name name within)) c.get-4.ensures)
    (c.in_ok-attributes.ensures within entered ∙ ap (map (resolved_attribute within)) c.into_vec.ensures)
    (nodes_are c.args.elem within c.into_parts-first.result.0 c.into_parts-first.result.1.items (into_iter_items c.into_iter-turn-iterator.result) (into_iter_items c.turns.turn-iterator) c.turns.read.items c.from_parts.result
    c.into_parts-first.ensures c.into_iter-turn-iterator.ensures.into_iter_gives.0 empty (c.turns.invariant.read within entered) c.from_parts.ensures)

pub returns-clause-bad : goal.returns-clause-bad
returns-clause-bad t c = λ around holds.
    let within = bindings_within (out-Elem c.args.elem).attrs around in
    let of_attrs : List Attr → Type 0 = λ attrs. Holds c.enter.new.scope (bindings_within attrs around) in
    let entered : Holds c.enter.new.scope within = subst of_attrs c.get.ensures (c.in_ok-shadows.ensures.bindings around holds) in
    let none = c.in-None.ensures.steps in
    let empty : into_iter_items c.turns.turn-iterator ≡ [] = nothing_left _ (sym c.turns.invariant.counted ∙ none.0) in
    let noted : c.note_bad_names.new.bad ≡ first_place c.args.bad.now (cond (has_bad_names (out-Elem c.args.elem).name (out-Elem c.args.elem).attrs within) ((out-Elem c.args.elem).place ∷ []) []) =
    c.in_ok-note_bad_names.ensures within entered
    ∙ ap₂ (λ (name : List ℕ) (attrs : List Attr). first_place c.args.bad.now (cond (has_bad_names name attrs within) ((out-Elem c.args.elem).place ∷ []) [])) c.get-2.ensures c.get-3.ensures in
    bad_is c.args.elem around c.into_parts-first.result.0 c.into_parts-first.result.1.items (into_iter_items c.into_iter-turn-iterator.result) (into_iter_items c.turns.turn-iterator)
    c.args.bad.now c.note_bad_names.new.bad c.turns.bad c.into_parts-first.ensures c.into_iter-turn-iterator.ensures.into_iter_gives.0 empty
    noted
    (c.turns.invariant.bad within entered)

pub returns-clause-scope : goal.returns-clause-scope
returns-clause-scope t c = λ prefix.
    c.in_ok-leave.ensures prefix ∙ without_alike c.in_ok-shadows.shadows.items (in_force c.turns.scope) (in_force c.enter.new.scope) c.turns.invariant.scope prefix ∙ c.in_ok-shadows.ensures.shadows prefix
