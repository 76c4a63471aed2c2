-- The paragraphs of a header or footer are read back from the element that holds them.
use Rattle.std.proofs.Common.{◌≡◌, ℕ, ◌-◌, ◌≤◌, ◌||◌, true, Bool, cond, List, [], ◌∷◌, map, filter, length, codes, refl, ap, ap₂, ◌∙◌, arith}
use Rattle.std.specs.List.{AllByRecursion as Each}
use Rattle.std.specs.Prelude.{take}
use Rattle.std.proofs.lemmas.List.{take_all, length-map}
use Rattle.doc_model.specs.declared.page_layout.HeadPar.{HeadPar}
use Rattle.load_model.specs.declared.names.Tag.{Tag}
use Rattle.load_model.specs.declared.names.Tag.TheVariants as tag
use Rattle.load_model.specs.declared.element.Attribute.{Attribute}
use Rattle.load_model.specs.declared.element.Element.{Element}
use Rattle.load_model.specs.Blocks.{left_by}
use Rattle.load_model.specs.Headers.{head_elements, head_left, head_paragraph, is_paragraph}
use Rattle.load_model.specs.Left.{Left, all_but, all_of, children, is_same_tag, nothing, only_elements}
use Rattle.load_model.specs.Styles.{Names}
use Rattle.written_model.specs.Content.{head_content}
use Rattle.written_model.specs.Styles as written
use Rattle.back_paragraphs.proofs.Keys.{paragraph_tag}
use Rattle.back_styles.specs.Shown.{held_of}
use Rattle.back_styles.proofs.Parts.{attributes_shown, children_shown, tag_shown}
use Rattle.back_heads.specs.Heads.{IsHeadBack, IsHeaderBack, IsReadableHead, header_read, paragraph_read}
use Rattle.back_heads.proofs.Heads.{head_back}

none : (n : ℕ) → n - n ≡ 0
none n = omega arith

-- each is a paragraph
one_kept : (par : HeadPar) → is_paragraph (paragraph_read par) ≡ true
one_kept par = ap (λ (of : Tag). is_same_tag of tag.Paragraph || is_same_tag of tag.Heading) (tag_shown (codes "text:p") [] (head_content par.items) tag.Paragraph paragraph_tag)

all_kept : (pars : List HeadPar) → filter is_paragraph (map paragraph_read pars) ≡ map paragraph_read pars
all_kept [] = refl
all_kept (par ∷ pars) =
    ap (λ (kept : Bool). cond kept (paragraph_read par ∷ filter is_paragraph (map paragraph_read pars)) (filter is_paragraph (map paragraph_read pars))) (one_kept par)
    ∙ ap (λ (more : List Element). paragraph_read par ∷ more) (all_kept pars)

all_held : (pars : List HeadPar) → held_of (map written.head_paragraph pars) ≡ map paragraph_read pars
all_held [] = refl
all_held (par ∷ pars) = ap (λ (more : List Element). paragraph_read par ∷ more) (all_held pars)

module _ (names : Names) where
  all_back : (pars : List HeadPar) → Each IsReadableHead pars → map (head_paragraph names) (map paragraph_read pars) ≡ pars
  all_back [] each = refl
  all_back (par ∷ pars) each =
      let back : IsHeadBack names par = head_back names par each.0 in
      ap₂ (λ (one : HeadPar) (more : List HeadPar). one ∷ more) back.value (all_back pars each.1)

  none_left : (pars : List HeadPar) → Each IsReadableHead pars → all_of (map (head_left names) (map paragraph_read pars)) ≡ nothing
  none_left [] each = refl
  none_left (par ∷ pars) each =
      let back : IsHeadBack names par = head_back names par each.0 in
      ap (λ (left : Left). all_of (left ∷ map (head_left names) (map paragraph_read pars))) back.left ∙ none_left pars each.1

  module _ (name : List ℕ) (pars : List HeadPar) (each : Each IsReadableHead pars) (few : length pars ≤ 16) where
    held : children (header_read name pars) ≡ map paragraph_read pars
    held = children_shown name [] (map written.head_paragraph pars) ∙ all_held pars

    elements : head_elements (header_read name pars) ≡ map paragraph_read pars
    elements =
        ap (λ (all : List Element). take 16 (filter is_paragraph all)) held ∙ ap (take 16) (all_kept pars)
        ∙ take_all 16 (map paragraph_read pars) (omega (arith, length-map pars paragraph_read))

    pub header_back : IsHeaderBack names name pars
    header_back = record {
      value = ap (map (head_paragraph names)) elements ∙ all_back pars each;
      left =
          ap₂ (λ (attributes : List Attribute) (found : List Element). all_of (left_by [] attributes ∷ all_but (length found) (children (header_read name pars)) ∷ all_of (map (head_left names) found) ∷ []))
          (attributes_shown name [] (map written.head_paragraph pars)) elements
          ∙ ap (λ (inner : List Element). all_of (nothing ∷ all_but (length (map paragraph_read pars)) inner ∷ all_of (map (head_left names) (map paragraph_read pars)) ∷ [])) held
          ∙ ap₂ (λ (count : ℕ) (left : Left). all_of (nothing ∷ only_elements count ∷ left ∷ [])) (none (length (map paragraph_read pars))) (none_left pars each);
    }
