-- What is read of a tree.
use Rattle.std.proofs.Common.{◌≡◌, ℕ, Bool, true, false, cond, ◌&&◌, List, [], ◌∷◌, map, refl, sym, ap, ◌∙◌, Some}
use Rattle.std.specs.List.{find, filter}
use Rattle.std.specs.Option.{option_map_or}
use Rattle.std.specs.Str.{bytes_eq}
use Rattle.std.proofs.lemmas.Slice.Eq.{bytes_eq-Decides}
use Rattle.doc_model.specs.declared.style.Family.TheVariants as family
use Rattle.style_model.specs.Lineage.{is_same_family}
use Rattle.load_model.specs.declared.element.Element.{Element}
use Rattle.load_model.specs.declared.names.Tag.TheVariants as tag
use Rattle.load_model.specs.Left.{is, children}
use Rattle.load_model.specs.Styles.{InPart, Names, is_default_style, family_of, reference, master_reference}
use Rattle.sheet_kept.specs.Held.{seen, held_by}
use Rattle.sheet_kept.specs.declared.held.InPart.{InPart as Lent}

-- a test that all pass leaves all
pub all_pass : {X : Type 0} (xs : List X) → filter (λ x. true) xs ≡ xs
all_pass [] = refl
all_pass (x ∷ xs) = ap (λ more. x ∷ more) (all_pass xs)

-- the first default style of those of paragraphs
pub first_default : (elements : List Element) → find (is tag.DefaultStyle) (filter is_default_style elements) ≡ find is_default_style elements
first_default [] = refl
first_default (element ∷ elements) = by_tests (is tag.DefaultStyle element) refl (option_map_or (is_same_family family.Paragraph) (family_of element) false) (first_default elements) where
  by_tests : (of : Bool) → is tag.DefaultStyle element ≡ of → (paragraphs : Bool) → find (is tag.DefaultStyle) (filter is_default_style elements) ≡ find is_default_style elements
      → find (is tag.DefaultStyle) (cond (of && paragraphs) (element ∷ filter is_default_style elements) (filter is_default_style elements)) ≡ cond (of && paragraphs) (Some element) (find is_default_style elements)
  by_tests true e true more = ap (λ b. cond b (Some element) (find (is tag.DefaultStyle) (filter is_default_style elements))) e
  by_tests true e false more = more
  by_tests false e paragraphs more = more

-- elements that are lent, by what holds them
pub lent_elements : (lent : List Lent) → map (λ one. one.element) (map seen lent) ≡ map (λ one. one.element.now) lent
lent_elements [] = refl
lent_elements (one ∷ lent) = ap (λ more. one.element.now ∷ more) (lent_elements lent)

pub held_elements : (part : Element) → map (λ one. one.element) (held_by part) ≡ children part
held_elements part = over (children part) where
  over : (elements : List Element) → map (λ (one : InPart). one.element) (map (λ element. record { auto = is tag.AutomaticStyles part; element = element }) elements) ≡ elements
  over [] = refl
  over (element ∷ elements) = ap (λ more. element ∷ more) (over elements)

-- the master that a style states, by whether it is the empty text
pub master_empty : (names : Names) (text : List ℕ) → bytes_eq text [] ≡ true → Some text ≡ master_reference names text
master_empty names text e = ap (λ own. Some own) ((bytes_eq-Decides text []).0 e) ∙ sym (ap (λ b. cond b (Some []) (reference names.masters text)) e)

pub master_other : (names : Names) (text : List ℕ) → bytes_eq text [] ≡ false → reference names.masters text ≡ master_reference names text
master_other names text e = sym (ap (λ b. cond b (Some []) (reference names.masters text)) e)
