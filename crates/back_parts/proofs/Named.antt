-- The names of a valid document that its style parts give.
use Rattle.std.proofs.Common.{◌≢◌, ℕ, List, [], ◌∷◌, ◌++◌, map, option_to_list}
use Rattle.std.specs.List.{flat_map, AllByRecursion as Each}
use Rattle.doc_model.specs.declared.document.Document.{Document}
use Rattle.doc_model.specs.declared.paragraph.Note.{Note, out-Note}
use Rattle.doc_model.specs.Parts.{all_fields, all_items, mark_name, mark_of, names_of_field, names_of_paragraph, names_of_section, names_of_style, notes, sections, span_names}
use Rattle.doc_model.specs.Reading.{paragraphs}
use Rattle.doc_model.specs.Valid.{IsValid}
use Rattle.back_fields.specs.Fit.{IsName, IsNameOrNone}
use Rattle.back_references.proofs.Short.{names_short}
use Rattle.back_parts.proofs.Lists.{each_front, each_behind, each_part, each_of_made, each_joined}

-- each style, list style, layout and master has a name that is read
pub record AreNamed (doc : Document) : Type 0 where
  pub styles : Each (λ style. IsName style.name) doc.styles
  pub lists : Each (λ list. IsName list.name) doc.lists
  pub layouts : Each (λ layout. IsName layout.name) doc.layouts
  pub masters : Each (λ master. IsName master.name) doc.masters

-- four sorts of names before others
record AreEach (P : List ℕ → Type 0) (s l p m : List (List ℕ)) : Type 0 where
  of_styles : Each P s
  of_lists : Each P l
  of_layouts : Each P p
  of_masters : Each P m

four : (P : List ℕ → Type 0) (o : List ℕ) (s l p m a b c d e f g h : List (List ℕ)) → Each P (s ++ l ++ o ∷ p ++ m ++ a ++ b ++ c ++ d ++ e ++ f ++ g ++ h) → AreEach P s l p m
four P o s l p m a b c d e f g h each =
    let own : Each P (s ++ l ++ o ∷ p ++ m) =
    each_front P (s ++ l ++ o ∷ p ++ m) a (each_front P (s ++ l ++ o ∷ p ++ m ++ a) b (each_front P (s ++ l ++ o ∷ p ++ m ++ a ++ b) c (each_front P (s ++ l ++ o ∷ p ++ m ++ a ++ b ++ c) d
    (each_front P (s ++ l ++ o ∷ p ++ m ++ a ++ b ++ c ++ d) e (each_front P (s ++ l ++ o ∷ p ++ m ++ a ++ b ++ c ++ d ++ e) f
    (each_front P (s ++ l ++ o ∷ p ++ m ++ a ++ b ++ c ++ d ++ e ++ f) g (each_front P (s ++ l ++ o ∷ p ++ m ++ a ++ b ++ c ++ d ++ e ++ f ++ g) h each))))))) in
    let before : Each P (s ++ l ++ o ∷ p) = each_front P (s ++ l ++ o ∷ p) m own in
    let both : Each P (s ++ l) = each_front P (s ++ l) (o ∷ p) before in
    record {
      of_styles = each_front P s l both;
      of_lists = each_behind P s l both;
      of_layouts = (each_behind P (s ++ l) (o ∷ p) before).1;
      of_masters = each_behind P (s ++ l ++ o ∷ p) m own;
    }

-- names that aren't empty and are short
both_hold : {X : Type 0} (name : X → List ℕ) (xs : List X) → Each (λ x. name x ≢ []) xs → Each (λ x. IsNameOrNone (name x)) xs → Each (λ x. IsName (name x)) xs
both_hold name = each_joined (λ x. name x ≢ []) (λ x. IsNameOrNone (name x)) (λ x. IsName (name x)) (λ x some few. (some, few))

-- the first of some names of each
first_of : {X : Type 0} (name : X → List ℕ) (more : X → List (List ℕ)) (xs : List X) → Each (λ x. Each IsNameOrNone (name x ∷ more x)) xs → Each (λ x. IsNameOrNone (name x)) xs
first_of name more [] each = tt
first_of name more (x ∷ xs) each = (each.0.0, first_of name more xs each.1)

pub names_given : (doc : Document) → IsValid doc → AreNamed doc
names_given doc valid =
    let all =
    four IsNameOrNone doc.outline.name (flat_map names_of_style doc.styles) (map (λ list. list.name) doc.lists) (map (λ layout. layout.name) doc.layouts) (flat_map (λ master. master.name ∷ master.layout ∷ master.next ∷ []) doc.masters)
    doc.variables doc.sequences (flat_map names_of_section (sections doc)) (flat_map names_of_paragraph (paragraphs doc)) (span_names doc)
    (flat_map names_of_field (all_fields doc)) (map mark_name (flat_map mark_of (all_items doc))) (map (λ (note : Note). (out-Note note).id) (notes doc)) (names_short doc valid.limits) in
    record {
      styles = both_hold (λ style. style.name) doc.styles valid.style_names_given (first_of (λ style. style.name) (λ style. style.parent ∷ style.next ∷ option_to_list style.master) doc.styles (each_part IsNameOrNone names_of_style doc.styles all.of_styles));
      lists = both_hold (λ list. list.name) doc.lists (each_of_made (λ name. name ≢ []) (λ list. list.name) doc.lists valid.list_names.0) (each_of_made IsNameOrNone (λ list. list.name) doc.lists all.of_lists);
      layouts = both_hold (λ layout. layout.name) doc.layouts (each_of_made (λ name. name ≢ []) (λ layout. layout.name) doc.layouts valid.layout_names.0) (each_of_made IsNameOrNone (λ layout. layout.name) doc.layouts all.of_layouts);
      masters = both_hold (λ master. master.name) doc.masters (each_of_made (λ name. name ≢ []) (λ master. master.name) doc.masters valid.master_names.0)
          (first_of (λ master. master.name) (λ master. master.layout ∷ master.next ∷ []) doc.masters (each_part IsNameOrNone (λ master. master.name ∷ master.layout ∷ master.next ∷ []) doc.masters all.of_masters));
    }
