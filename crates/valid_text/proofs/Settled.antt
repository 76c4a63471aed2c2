-- Whether what is kept by its name has one, and stands where it is read.
use Rattle.std.proofs.Common.{◌≡◌, ℕ, ◌&&◌, ◌||◌, not, Bool, true, false, List, [], ◌∷◌, map, refl, ap, ◌∙◌, is_some}
use Rattle.std.specs.List.{list_all}
use mathlib.Core.Former.{this}
use Rattle.markup_nodes.specs.formers.nodes.Nodes.{the_former}
use Rattle.markup_nodes.specs.Node.{Node, Element, Char}
use Rattle.markup_nodes.specs.Nodes.{elems}
use Rattle.load_model.specs.declared.names.Key.TheVariants as key
use Rattle.load_model.specs.declared.names.Tag.{Tag}
use Rattle.load_model.specs.declared.names.Tag.TheVariants as tag
use Rattle.load_model.specs.declared.element.Attribute.{Attribute}
use Rattle.load_model.specs.declared.element.Element.{Element as Read, out-Element}
use Rattle.load_model.specs.declared.element.Element.TheOpen.{Element-F}
use Rattle.load_model.specs.declared.element.Element.TheFolds.{fold-Element, fold_out-Element}
use Rattle.load_model.specs.Left.{attributes_of, is_same_tag, tag_of}
use Rattle.load_model.specs.Met.{Kept, is_at}
use Rattle.load_model.specs.Values as value
use Rattle.load_model.specs.Values.{stated}

-- a section that is kept has a name and stands in no note, and a mark that is kept has a name
abbrev pub own_settled : Kept → Bool → Tag → ℕ → List Attribute → Bool
own_settled kept within tag.Section place attributes = not (is_at kept.sections place) || (not within && is_some (stated key.TextName value.name attributes))
own_settled kept within tag.Bookmark place attributes = not (is_at kept.marks place) || is_some (stated key.TextName value.name attributes)
own_settled kept within tag.BookmarkStart place attributes = not (is_at kept.marks place) || is_some (stated key.TextName value.name attributes)
own_settled kept within tag.BookmarkEnd place attributes = not (is_at kept.marks place) || is_some (stated key.TextName value.name attributes)
own_settled kept within _ place attributes = true

-- whether what an element holds is a note's
abbrev pub within_note : Bool → Tag → Bool
within_note within tag.Note = true
within_note within _ = within

pub stays_within : (which : Tag) → within_note true which ≡ true
stays_within tag.Note = refl
stays_within _ = refl

-- a text is no note
pub text_without : (which : Tag) → is_same_tag which tag.Text ≡ true → within_note false which ≡ false
text_without tag.Note e = absurd cc
text_without _ e = refl

-- the same of an element and all in it
abbrev pub settled : Kept → Read → Bool → Bool
settled kept = fold-Element (Bool → Bool) of_element where
  of_element : Element-F (Bool → Bool) → Bool → Bool
  of_element element within = own_settled kept within element.tag element.place element.attributes && list_all (λ one. one (within_note within element.tag)) (elems element.nodes)

elems_settled : (kept : Kept) (nodes : List (Node Read)) → elems ((the_former this).map Read (Bool → Bool) (settled kept) nodes) ≡ map (settled kept) (elems nodes)
elems_settled kept [] = refl
elems_settled kept (Element element ∷ nodes) = ap (λ (more : List (Bool → Bool)). settled kept element ∷ more) (elems_settled kept nodes)
elems_settled kept (Char c ∷ nodes) = elems_settled kept nodes

pub settled_out : (kept : Kept) (element : Read) (within : Bool)
    → settled kept element within ≡ (own_settled kept within (tag_of element) (out-Element element).place (attributes_of element)
    && list_all (λ (one : Bool → Bool). one (within_note within (tag_of element))) (map (settled kept) (elems (out-Element element).nodes)))
settled_out kept element within =
    ap (λ (whole : Bool → Bool). whole within) (fold_out-Element (Bool → Bool) _ element)
    ∙ ap (λ (inner : List (Bool → Bool)). own_settled kept within (tag_of element) (out-Element element).place (attributes_of element) && list_all (λ (one : Bool → Bool). one (within_note within (tag_of element))) inner) (elems_settled kept (out-Element element).nodes)
