-- An element is deeper than those in it.
use Rattle.std.proofs.Common.{◌≡◌, ◌<◌, ◌≤◌, ◌+◌, ℕ, suc, zero, List, [], ◌∷◌, length, slice_index_or, refl, ap, arith}
use Prim.Native.Nat.{max}
use Rattle.markup_nodes.specs.Node.{Node, Element, Char}
use Rattle.markup_nodes.specs.Nodes.{turns_of}
use Rattle.markup_nodes.specs.declared.nodes.Turn.{Turn}
use Rattle.load_model.specs.declared.element.Element.{Element as Elem, out-Element}
use Rattle.load_model.specs.declared.element.Element.TheViews.{size-Element, size_is-Element, weight-Element-nodes}

-- the greatest depth among nodes
abbrev pub depth : List (Node Elem) → ℕ
depth [] = 0
depth (Element elem ∷ nodes) = max (size-Element elem) (depth nodes)
depth (Char c ∷ nodes) = max 0 (depth nodes)

turn_depth : (nodes : List (Node Elem)) (at : ℕ) (turn : Turn Elem) → at < length (turns_of nodes) → turn ≡ slice_index_or (turns_of nodes) at turn → size-Element turn.elem ≤ depth nodes
turn_depth [] at turn l e = absurd (omega (arith, l))
turn_depth (Char c ∷ nodes) at turn l e = omega (arith, turn_depth nodes at turn l e)
turn_depth (Element elem ∷ nodes) zero turn l e = rw e (omega arith)
turn_depth (Element elem ∷ nodes) (suc at) turn l e = let h = turn_depth nodes at turn (omega (arith, l)) e in omega (arith, h)

same : (nodes : List (Node Elem)) → weight-Element-nodes nodes ≡ depth nodes
same [] = refl
same (Element elem ∷ nodes) = ap (max (size-Element elem)) (same nodes)
same (Char c ∷ nodes) = ap (max 0) (same nodes)

size_inner : (elem : Elem) → size-Element elem ≡ max 0 (max 0 (max 0 (max (weight-Element-nodes (out-Element elem).nodes) 0))) + 1
size_inner elem = size_is-Element elem

size_depth : (elem : Elem) → size-Element elem ≡ depth (out-Element elem).nodes + 1
size_depth elem = let a = size_inner elem in let b = same (out-Element elem).nodes in omega (arith, a, b)

-- a turn's element by its number
pub smaller : (elem : Elem) (at : ℕ) (turn : Turn Elem) → at < length (turns_of (out-Element elem).nodes) → turn ≡ slice_index_or (turns_of (out-Element elem).nodes) at turn → size-Element turn.elem < size-Element elem
smaller elem at turn l e = let a = turn_depth (out-Element elem).nodes at turn l e in let b = size_depth elem in omega (arith, a, b)
