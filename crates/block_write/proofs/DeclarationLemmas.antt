-- A part that holds something.
use Rattle.std.proofs.Common.{◌≡◌, ◌==◌, ℕ, false, List, [], ◌∷◌, ◌++◌, length, codes, map, sym, ◌∙◌}
use Rattle.std.proofs.lemmas.List.{append-nil}
use Rattle.markup_nodes.specs.Node.{Node}
use Rattle.markup_nodes.specs.declared.tree.Elem.{Elem}
use Rattle.tree_text.specs.Writing.{tag_text, end_text, child_text, content_text}
use Rattle.value_write.proofs.ElementLemmas.{filled_text}
use Rattle.written_model.specs.Elements.{part, element}

pub part_text : {X : Type 0} (name : List ℕ) (f : X → Node Elem) (xs : List X) → (length xs == 0) ≡ false
    → tag_text name [] ++ (codes ">" ++ (content_text (map f xs) ++ end_text name)) ≡ content_text (part name (map f xs))
part_text name f [] some = cc
part_text name f (x ∷ xs) some = sym (append-nil (child_text (element name [] (map f (x ∷ xs)))) ∙ filled_text name [] (f x) (map f xs))
