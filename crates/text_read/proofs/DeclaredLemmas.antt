-- Declarations by what their elements give.
use Rattle.std.proofs.Common.{◌≡◌, ℕ, ◌-◌, Bool, true, false, cond, ◌&&◌, List, [], ◌∷◌, map, length, refl, sym, ap, ap₂, ◌∙◌, arith, is_some}
use Rattle.std.specs.List.{filter}
use Rattle.std.proofs.lemmas.List.{length-map}
use Rattle.markup_nodes.specs.Nodes.{elems}
use Rattle.load_model.specs.declared.names.Key.TheVariants as key
use Rattle.load_model.specs.declared.names.Tag.{Tag}
use Rattle.load_model.specs.declared.element.Attribute.{Attribute}
use Rattle.load_model.specs.declared.element.Element.{Element, out-Element}
use Rattle.load_model.specs.Blocks.{Known, Gives, Declared, ReadBlocks, gives_of, declaration_blocks, no_blocks, left_by}
use Rattle.load_model.specs.Left.{both, nothing, only_elements, attributes_of, children, is_same_tag}
use Rattle.load_model.specs.Values as value
use Rattle.load_model.specs.Values.{rule, stated, stated_or}
use Rattle.read_blocks.specs.NamedInside.{is_declared, declared_by, declared_among, declarations_in, with_declarations}
use Rattle.content_read.specs.Held.{held}
use Rattle.content_read.proofs.HeldLemmas.{gives_out}
use Rattle.text_read.proofs.WalkLemmas.{held_elems}

abbrev is_named : Tag → Gives → Bool
is_named which one = is_same_tag one.tag which && is_some (stated key.TextName value.name one.attributes)

abbrev declared_of : Gives → Declared
declared_of one = record { place = one.place; name = stated_or key.TextName value.name [] one.attributes; left = both (left_by (rule key.TextName value.name ∷ []) one.attributes) (only_elements one.children) }

abbrev declared_with : Bool → List Attribute → ℕ → ℕ → List Declared → ReadBlocks
declared_with sequences attributes count read declared = record (no_blocks nothing) {
  declarations = record { sequences = sequences; declared = declared; left = both (left_by [] attributes) (only_elements (count - read)) } ∷ [];
}

module _ (model : Known) (which : Tag) where
  named_first : (b : Bool) (x : Element) (xs : List Element) (ys : List Gives) → ys ≡ map (gives_of model) xs → cond b (gives_of model x ∷ ys) ys ≡ map (gives_of model) (cond b (x ∷ xs) xs)
  named_first true x xs ys e = ap (λ (more : List Gives). gives_of model x ∷ more) e
  named_first false x xs ys e = e

  named_given : (elements : List Element) → filter (is_named which) (map (gives_of model) elements) ≡ map (gives_of model) (filter (is_declared which) elements)
  named_given [] = refl
  named_given (x ∷ xs) =
      ap (λ (one : Gives). cond (is_named which one) (gives_of model x ∷ filter (is_named which) (map (gives_of model) xs)) (filter (is_named which) (map (gives_of model) xs))) (gives_out model x)
      ∙ named_first (is_declared which x) x (filter (is_declared which) xs) (filter (is_named which) (map (gives_of model) xs)) (named_given xs)

  one_declared : (element : Element) → declared_of (gives_of model element) ≡ declared_by element
  one_declared element =
      ap declared_of (gives_out model element)
      ∙ ap (λ n. (let one : Declared = record {
        place = (out-Element element).place;
        name = stated_or key.TextName value.name [] (attributes_of element);
        left = both (left_by (rule key.TextName value.name ∷ []) (attributes_of element)) (only_elements n);
      } in one)) (count element)
    where
      count : (element : Element) → length (elems (held model element)) ≡ length (children element) - 0
      count element = let e : length (elems (held model element)) ≡ length (children element) = ap length (held_elems model element) ∙ length-map (children element) (gives_of model) in omega (arith, e)

  all_declared : (elements : List Element) → map declared_of (map (gives_of model) elements) ≡ map declared_by elements
  all_declared [] = refl
  all_declared (x ∷ xs) = ap₂ (λ (first : Declared) (more : List Declared). first ∷ more) (one_declared x) (all_declared xs)

  pub declarations_given : (sequences : Bool) (element : Element) → with_declarations (declarations_in sequences which element) ≡ declaration_blocks sequences which (attributes_of element) (map (gives_of model) (children element))
  declarations_given sequences element =
      let read = filter (is_declared which) (children element) in
      let attributes = attributes_of element in
      sym (ap (λ (named : List Gives). declared_with sequences attributes (length (map (gives_of model) (children element))) (length named) (map declared_of named)) (named_given (children element))
      ∙ ap₂ (λ m n. declared_with sequences attributes m n (map declared_of (map (gives_of model) read))) (length-map (children element) (gives_of model)) (length-map read (gives_of model) ∙ sym (length-map read declared_by))
      ∙ ap (declared_with sequences attributes (length (children element)) (length (map declared_by read))) (all_declared read))
