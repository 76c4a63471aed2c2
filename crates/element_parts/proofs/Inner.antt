-- The elements that an element holds.
use Rattle.std.proofs.Common.{◌≡◌, Bool, true, false, cond, List, [], ◌∷◌, map, refl, ap, Some}
use Rattle.std.specs.List.{find}
use Rattle.std.specs.Option.{option_map}
use Rattle.markup_nodes.specs.Node.{Node, Element as Inner, Char}
use Rattle.markup_nodes.specs.Nodes.{elems, turns_of}
use Rattle.markup_nodes.specs.declared.nodes.Turn.{Turn}
use Rattle.load_model.specs.declared.element.Element.{Element}
use Rattle.load_model.specs.declared.names.Tag.{Tag}
use Rattle.load_model.specs.Left.{is}
use Rattle.element_parts.specs.Turns.{first_turn}

-- the elements of turns are those of the nodes
pub elems_of_turns : {X : Type 0} (nodes : List (Node X)) → map (λ turn. turn.elem) (turns_of nodes) ≡ elems nodes
elems_of_turns [] = refl
elems_of_turns (Inner x ∷ nodes) = ap (λ more. x ∷ more) (elems_of_turns nodes)
elems_of_turns (Char c ∷ nodes) = elems_of_turns nodes

pub first_of_turns : (wanted : Tag) (nodes : List (Node Element)) → first_turn wanted (turns_of nodes) ≡ find (is wanted) (elems nodes)
first_of_turns wanted [] = refl
first_of_turns wanted (Char c ∷ nodes) = first_of_turns wanted nodes
first_of_turns wanted (Inner x ∷ nodes) = by_test (first_of_turns wanted nodes) (is wanted x) where
  by_test : first_turn wanted (turns_of nodes) ≡ find (is wanted) (elems nodes) → (b : Bool)
      → option_map (λ (turn : Turn Element). turn.elem) (cond b (Some (record { elem = x; after = Rattle.markup_nodes.specs.Nodes.leading nodes })) (find (λ (turn : Turn Element). is wanted turn.elem) (turns_of nodes)))
      ≡ cond b (Some x) (find (is wanted) (elems nodes))
  by_test more true = refl
  by_test more false = more
