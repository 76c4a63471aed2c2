-- Whether a list has an item, for lists as they are built.
use Rattle.std.proofs.Common.{◌≡◌, ℕ, List, [], ◌∷◌, ◌++◌, map, length, Option, Some, None, refl, ap, suc, ne_eqb, arith}
use Rattle.std.specs.Prelude.{◌||◌, ◌==◌, not, is_some}
use Rattle.markup_nodes.specs.Node.{Node}
use Rattle.markup_nodes.specs.declared.words.Attr.{Attr}
use Rattle.markup_nodes.specs.declared.tree.Elem.{Elem}
use Rattle.spelling_model.specs.Spelling.{is_there}
use Rattle.written_model.specs.Elements.{where_stated, properties, part}

pub there-append : {X : Type 0} (xs ys : List X) → is_there (xs ++ ys) ≡ (is_there xs || is_there ys)
there-append [] ys = refl
there-append (x ∷ xs) ys = refl

pub there-map : {X Y : Type 0} (f : X → Y) (xs : List X) → is_there (map f xs) ≡ is_there xs
there-map f [] = refl
there-map f (x ∷ xs) = refl

pub there-stated : {X : Type 0} (name : List ℕ) (text : X → List ℕ) (value : Option X) → is_there (where_stated name text value) ≡ is_some value
there-stated name text None = refl
there-stated name text (Some value) = refl

pub there-properties : (name : List ℕ) (attrs : List Attr) → is_there (properties name attrs) ≡ is_there attrs
there-properties name [] = refl
there-properties name (attr ∷ attrs) = refl

pub there-length : {X : Type 0} (xs : List X) → not (length xs == 0) ≡ is_there xs
there-length [] = refl
there-length (x ∷ xs) = ap not (ne_eqb (suc (length xs)) 0 (λ e. omega arith))

pub there-part : (name : List ℕ) (nodes : List (Node Elem)) → is_there (part name nodes) ≡ is_there nodes
there-part name [] = refl
there-part name (node ∷ nodes) = refl
