-- The content that an element holds, by its elements with the characters behind each.
use Rattle.std.proofs.Common.{◌≡◌, ℕ, ◌+◌, List, [], ◌∷◌, ◌++◌, map, refl, sym, ap, ap₂, ◌∙◌, append_assoc, arith}
use Rattle.std.specs.List.{flat_map, fold}
use Rattle.markup_nodes.specs.Node.{Node, Element as Inner, Char as Letter}
use Rattle.markup_nodes.specs.Nodes.{leading, turns_of}
use Rattle.markup_nodes.specs.declared.nodes.Turn.{Turn}
use Rattle.load_model.specs.declared.element.Element.{Element, out-Element}
use Rattle.load_model.specs.Blocks.{Known, Around, ReadContent, node_content}
use Rattle.load_model.specs.Content.{Raw, raw_character}
use Rattle.load_model.specs.Left.{Left, both, all_of, nothing}
use Rattle.content_read.specs.Held.{given, content_at, content_in}

abbrev counts : ℕ → ℕ → Left
counts elements attributes = record { elements = elements; attributes = attributes }

abbrev content_by : List Raw → Left → ReadContent
content_by raws left = record { raws = raws; left = left }

module _ (known : Known) (around : Around) where
  -- a run of characters
  abbrev pub run : List ℕ → List Raw
  run characters = map (raw_character around.spans) characters

  -- an element with the characters behind it
  abbrev pub turn_raws : Turn Element → List Raw
  turn_raws turn = (content_at known turn.elem around).raws ++ run turn.after

  abbrev pub turn_left : Turn Element → Left
  turn_left turn = (content_at known turn.elem around).left

  -- the content of a first run and of turns
  abbrev pub turns_content : List ℕ → List (Turn Element) → ReadContent
  turns_content first turns = record { raws = run first ++ flat_map turn_raws turns; left = all_of (map turn_left turns) }

  -- that of nodes
  both_nothing : (left : Left) → both left nothing ≡ left
  both_nothing left = ap₂ counts (none left.elements) (none left.attributes) where
    none : (n : ℕ) → n + 0 ≡ n
    none n = omega arith

  nodes_raws : (nodes : List (Node Element)) → flat_map (λ (part : ReadContent). part.raws) (map (node_content around) (map (given known) nodes)) ≡ run (leading nodes) ++ flat_map turn_raws (turns_of nodes)
  nodes_raws [] = refl
  nodes_raws (Inner element ∷ nodes) =
      ap (λ (more : List Raw). (content_at known element around).raws ++ more) (nodes_raws nodes)
      ∙ sym (append_assoc (content_at known element around).raws (run (leading nodes)) (flat_map turn_raws (turns_of nodes)))
  nodes_raws (Letter c ∷ nodes) = ap (λ (more : List Raw). raw_character around.spans c ∷ more) (nodes_raws nodes)

  nodes_left : (front : Left) (nodes : List (Node Element))
      → fold both front (map (λ (part : ReadContent). part.left) (map (node_content around) (map (given known) nodes))) ≡ fold both front (map turn_left (turns_of nodes))
  nodes_left front [] = refl
  nodes_left front (Inner element ∷ nodes) = nodes_left (both front (content_at known element around).left) nodes
  nodes_left front (Letter c ∷ nodes) =
      ap (λ (start : Left). fold both start (map (λ (part : ReadContent). part.left) (map (node_content around) (map (given known) nodes)))) (both_nothing front) ∙ nodes_left front nodes

  pub by_turns : (element : Element) → turns_content (leading (out-Element element).nodes) (turns_of (out-Element element).nodes) ≡ content_in known element around
  by_turns element = sym (ap₂ content_by (nodes_raws (out-Element element).nodes) (nodes_left nothing (out-Element element).nodes))
