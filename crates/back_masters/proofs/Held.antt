-- The header and the footer among what a master holds.
use Rattle.std.proofs.Common.{◌≡◌, ℕ, ◌+◌, ◌≤◌, cond, List, [], ◌∷◌, ◌++◌, map, length, codes, refl, ap, ap₂, ◌∙◌, append-nil, Option, Some, None, option_to_list}
use Rattle.std.specs.List.{flat_map, AllByRecursion as Each}
use Rattle.markup_nodes.specs.declared.tree.Elem.{Elem}
use Rattle.markup_nodes.specs.Node.{Node}
use Rattle.doc_model.specs.declared.page_layout.HeadPar.{HeadPar}
use Rattle.load_model.specs.declared.names.Tag.{Tag}
use Rattle.load_model.specs.declared.names.Tag.TheVariants as tag
use Rattle.load_model.specs.declared.element.Element.{Element}
use Rattle.load_model.specs.Headers.{head_elements, head_paragraph, header_left}
use Rattle.load_model.specs.Left.{Left, all_but, all_of, first, is_same_tag, nothing, tag_of}
use Rattle.load_model.specs.Styles.{Names}
use Rattle.written_model.specs.Elements.{part}
use Rattle.written_model.specs.Styles as written
use Rattle.back_styles.specs.Shown.{held_of}
use Rattle.back_styles.proofs.Parts.{held_both, tag_shown}
use Rattle.back_heads.specs.Heads.{IsHeaderBack, IsReadableHead, header_read}
use Rattle.back_heads.proofs.Headers.{header_back}
use Rattle.back_masters.proofs.Keys as named

abbrev pub header_name : List ℕ
header_name = codes "style:header"

abbrev pub footer_name : List ℕ
footer_name = codes "style:footer"

-- a header with these paragraphs, where it is written
abbrev pub written_part : List ℕ → List HeadPar → List (Node Elem)
written_part name pars = part name (map written.head_paragraph pars)

abbrev pub read_part : List ℕ → List HeadPar → Option Element
read_part name [] = None
read_part name (par ∷ pars) = Some (header_read name (par ∷ pars))

part_held : (name : List ℕ) (pars : List HeadPar) → held_of (written_part name pars) ≡ option_to_list (read_part name pars)
part_held name [] = refl
part_held name (par ∷ pars) = refl

-- what a master holds
abbrev pub heads_held : List HeadPar → List HeadPar → List Element
heads_held header footer = held_of (written_part header_name header ++ written_part footer_name footer)

abbrev two : List HeadPar → List HeadPar → List Element
two header footer = option_to_list (read_part header_name header) ++ option_to_list (read_part footer_name footer)

held_two : (header footer : List HeadPar) → heads_held header footer ≡ two header footer
held_two header footer = held_both (written_part header_name header) (written_part footer_name footer) ∙ ap₂ (λ (one other : List Element). one ++ other) (part_held header_name header) (part_held footer_name footer)

-- the first of a tag, in front of others
first_is : (wanted which : Tag) (element : Element) (more : List Element) → tag_of element ≡ which → first wanted (element ∷ more) ≡ cond (is_same_tag which wanted) (Some element) (first wanted more)
first_is wanted which element more is = ap (λ (of : Tag). cond (is_same_tag of wanted) (Some element) (first wanted more)) is

header_first : (wanted : Tag) (par : HeadPar) (pars : List HeadPar) (more : List Element)
    → first wanted (header_read header_name (par ∷ pars) ∷ more) ≡ cond (is_same_tag tag.Header wanted) (Some (header_read header_name (par ∷ pars))) (first wanted more)
header_first wanted par pars more = first_is wanted tag.Header (header_read header_name (par ∷ pars)) more (tag_shown header_name [] (map written.head_paragraph (par ∷ pars)) tag.Header named.header_tag)

footer_first : (wanted : Tag) (par : HeadPar) (pars : List HeadPar) (more : List Element)
    → first wanted (header_read footer_name (par ∷ pars) ∷ more) ≡ cond (is_same_tag tag.Footer wanted) (Some (header_read footer_name (par ∷ pars))) (first wanted more)
footer_first wanted par pars more = first_is wanted tag.Footer (header_read footer_name (par ∷ pars)) more (tag_shown footer_name [] (map written.head_paragraph (par ∷ pars)) tag.Footer named.footer_tag)

-- each is found where it is written
header_in : (header footer : List HeadPar) → first tag.Header (two header footer) ≡ read_part header_name header
header_in [] [] = refl
header_in [] (par ∷ pars) = footer_first tag.Header par pars []
header_in (par ∷ pars) footer = header_first tag.Header par pars (option_to_list (read_part footer_name footer))

footer_in : (header footer : List HeadPar) → first tag.Footer (two header footer) ≡ read_part footer_name footer
footer_in [] [] = refl
footer_in [] (par ∷ pars) = footer_first tag.Footer par pars []
footer_in (par ∷ pars) [] = header_first tag.Footer par pars []
footer_in (par ∷ pars) (one ∷ more) = header_first tag.Footer par pars (header_read footer_name (one ∷ more) ∷ []) ∙ footer_first tag.Footer one more []

pub header_found : (header footer : List HeadPar) → first tag.Header (heads_held header footer) ≡ read_part header_name header
header_found header footer = ap (first tag.Header) (held_two header footer) ∙ header_in header footer

pub footer_found : (header footer : List HeadPar) → first tag.Footer (heads_held header footer) ≡ read_part footer_name footer
footer_found header footer = ap (first tag.Footer) (held_two header footer) ∙ footer_in header footer

-- none is left out
counted : (header footer : List HeadPar) → all_but (length (option_to_list (read_part header_name header)) + length (option_to_list (read_part footer_name footer))) (two header footer) ≡ nothing
counted [] [] = refl
counted [] (par ∷ pars) = refl
counted (par ∷ pars) [] = refl
counted (par ∷ pars) (one ∷ more) = refl

pub all_counted : (header footer : List HeadPar) → all_but (length (option_to_list (read_part header_name header)) + length (option_to_list (read_part footer_name footer))) (heads_held header footer) ≡ nothing
all_counted header footer = ap (all_but (length (option_to_list (read_part header_name header)) + length (option_to_list (read_part footer_name footer)))) (held_two header footer) ∙ counted header footer

module _ (names : Names) where
  -- its paragraphs are read back
  pub part_back : (name : List ℕ) (pars : List HeadPar) → Each IsReadableHead pars → length pars ≤ 16
      → flat_map (λ (header : Element). map (head_paragraph names) (head_elements header)) (option_to_list (read_part name pars)) ≡ pars
  part_back name [] each few = refl
  part_back name (par ∷ pars) each few =
      let back : IsHeaderBack names name (par ∷ pars) = header_back names name (par ∷ pars) each few in
      append-nil (map (head_paragraph names) (head_elements (header_read name (par ∷ pars)))) ∙ back.value

  -- nothing is left out in it
  part_lefts : (name : List ℕ) (pars : List HeadPar) → Each IsReadableHead pars → length pars ≤ 16 → Each (λ one. header_left names one ≡ nothing) (option_to_list (read_part name pars))
  part_lefts name [] each few = tt
  part_lefts name (par ∷ pars) each few = let back : IsHeaderBack names name (par ∷ pars) = header_back names name (par ∷ pars) each few in (back.left, tt)

  both_lefts : (xs ys : List Element) → Each (λ one. header_left names one ≡ nothing) xs → Each (λ one. header_left names one ≡ nothing) ys → all_of (map (header_left names) (xs ++ ys)) ≡ nothing
  both_lefts [] [] each others = refl
  both_lefts [] (y ∷ ys) each others = ap (λ (left : Left). all_of (left ∷ map (header_left names) ys)) others.0 ∙ both_lefts [] ys each others.1
  both_lefts (x ∷ xs) ys each others = ap (λ (left : Left). all_of (left ∷ map (header_left names) (xs ++ ys))) each.0 ∙ both_lefts xs ys each.1 others

  pub none_left : (header footer : List HeadPar) → Each IsReadableHead header → length header ≤ 16 → Each IsReadableHead footer → length footer ≤ 16
      → all_of (map (header_left names) (option_to_list (read_part header_name header) ++ option_to_list (read_part footer_name footer))) ≡ nothing
  none_left header footer each few others less =
      both_lefts (option_to_list (read_part header_name header)) (option_to_list (read_part footer_name footer)) (part_lefts header_name header each few) (part_lefts footer_name footer others less)
