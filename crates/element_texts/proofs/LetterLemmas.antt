-- The characters among nodes: told by runs, and whatever the elements among them give.
use Rattle.std.proofs.Common.{◌≡◌, ℕ, List, [], ◌∷◌, ◌++◌, map, refl, sym, ap, ◌∙◌, append_assoc}
use Rattle.std.specs.List.{flat_map}
use Rattle.std.proofs.lemmas.List.{map-append, append-nil}
use mathlib.Core.Former.{this}
use Rattle.markup_nodes.specs.formers.nodes.Nodes.{the_former}
use Rattle.markup_nodes.specs.Node.{Node, Element as Inner, Char as Letter}
use Rattle.markup_nodes.specs.Nodes.{leading, turns_of}
use Rattle.markup_nodes.specs.declared.nodes.Turn.{Turn}
use Rattle.load_model.specs.Content.{spaced}
use Rattle.load_model.specs.Blocks as blocks
use Rattle.load_model.specs.Headers as headers
use Rattle.element_texts.specs.Letters.{letters}

module _ {X : Type 0} where
  -- the characters behind elements
  abbrev pub behind : List (Turn X) → List ℕ
  behind turns = flat_map (λ (turn : Turn X). turn.after) turns

  pub letters_by_runs : (nodes : List (Node X)) → letters nodes ≡ leading nodes ++ behind (turns_of nodes)
  letters_by_runs [] = refl
  letters_by_runs (Inner x ∷ nodes) = letters_by_runs nodes
  letters_by_runs (Letter c ∷ nodes) = ap (λ (more : List ℕ). c ∷ more) (letters_by_runs nodes)

  -- those of some turns and of one more
  pub behind_more : (turns : List (Turn X)) (turn : Turn X) → behind (turns ++ turn ∷ []) ≡ behind turns ++ turn.after
  behind_more [] turn = append-nil turn.after
  behind_more (one ∷ turns) turn = ap (λ (more : List ℕ). one.after ++ more) (behind_more turns turn) ∙ sym (append_assoc one.after (behind turns) turn.after)

module _ {X Y : Type 0} where
  -- whatever elements give
  pub letters_given : (give : X → Y) (nodes : List (Node X)) → letters ((the_former this).map X Y give nodes) ≡ letters nodes
  letters_given give [] = refl
  letters_given give (Inner x ∷ nodes) = letters_given give nodes
  letters_given give (Letter c ∷ nodes) = ap (λ (more : List ℕ). c ∷ more) (letters_given give nodes)

-- as the definitions of content have them
pub own_in_text : (nodes : List (Node blocks.Gives)) → blocks.own_text nodes ≡ letters nodes
own_in_text [] = refl
own_in_text (Inner gives ∷ nodes) = own_in_text nodes
own_in_text (Letter c ∷ nodes) = ap (λ (more : List ℕ). c ∷ more) (own_in_text nodes)

pub own_in_header : (nodes : List (Node headers.Gives)) → headers.own_text nodes ≡ letters nodes
own_in_header [] = refl
own_in_header (Inner gives ∷ nodes) = own_in_header nodes
own_in_header (Letter c ∷ nodes) = ap (λ (more : List ℕ). c ∷ more) (own_in_header nodes)

module _ {X Y : Type 0} (change : Node X → Node Y) (inner : (x : X) → letters (change (Inner x) ∷ []) ≡ []) (letter : (c : ℕ) → letters (change (Letter c) ∷ []) ≡ c ∷ []) where
  in_front : (node : Node Y) (nodes : List (Node Y)) → letters (node ∷ nodes) ≡ letters (node ∷ []) ++ letters nodes
  in_front (Inner y) nodes = refl
  in_front (Letter c) nodes = refl

  -- nodes that are changed but for their characters
  pub letters_kept : (nodes : List (Node X)) → letters (map change nodes) ≡ letters nodes
  letters_kept [] = refl
  letters_kept (Inner x ∷ nodes) =
      in_front (change (Inner x)) (map change nodes) ∙ ap (λ (front : List ℕ). front ++ letters (map change nodes)) (inner x) ∙ letters_kept nodes
  letters_kept (Letter c ∷ nodes) =
      in_front (change (Letter c)) (map change nodes) ∙ ap (λ (front : List ℕ). front ++ letters (map change nodes)) (letter c) ∙ ap (λ (more : List ℕ). c ∷ more) (letters_kept nodes)

-- a text with spaces for white space, and one more character
pub spaced_more : (text : List ℕ) (c : ℕ) → spaced (text ++ c ∷ []) ≡ spaced text ++ spaced (c ∷ [])
spaced_more text c = map-append _ text (c ∷ [])

pub spaced_both : (one other : List ℕ) → spaced (one ++ other) ≡ spaced one ++ spaced other
spaced_both one other = map-append _ one other
