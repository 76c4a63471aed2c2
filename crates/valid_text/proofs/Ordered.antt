-- In a tree whose places rise whatever is kept by its place is named.
use Rattle.std.proofs.Common.{◌≡◌, ℕ, ◌<◌, ◌≤◌, ◌==◌, ◌||◌, not, Bool, true, false, cond, List, [], ◌∷◌, ◌++◌, map, sym, ap, subst, Option, Some, eqb-true, arith}
use Rattle.std.specs.List.{flat_map, AllByRecursion as Each, list_all, list_any}
use Rattle.std.specs.Option.{option_map_or}
use Rattle.std.specs.Str.{bytes_eq}
use Rattle.load_model.specs.declared.element.Element.{Element as Read, out-Element}
use Rattle.load_model.specs.Left.{children, firsts}
use Rattle.load_model.specs.Loaded.{met_of, text_of}
use Rattle.load_model.specs.Met as met
use Rattle.load_model.specs.Met.{Met, MetMark, MetSection, has_whole, is_at, is_complete, is_mark, kept_marks, kept_of, kept_sections, marks_met, met_in, new_marks, sections_met}
use Rattle.tree_places.specs.Order.{IsInOrder, places_in}
use Rattle.tree_places.proofs.Trees.{places_out}
use Rattle.tree_places.proofs.Within.{pairs_of}
use Rattle.valid_text.proofs.Drafts.{text_found}
use Rattle.valid_text.proofs.Has.{Has, has_any, has_each, has_mapped}
use Rattle.valid_text.proofs.Lists.{each_also, each_append, each_filter, each_part}
use Rattle.valid_text.proofs.Meets.{AreIn, IsPositive, every_meets, inner_positive, marks_among, sections_among}
use Rattle.valid_text.proofs.Named.{At, Ordered, covered_settled, ordered_back, ordered_front}
use Rattle.valid_text.proofs.Settled.{settled}

-- what is kept is some of what is met
each_first : {X : Type 0} (P : X → Type 0) (same : X → X → Bool) (xs : List X) → Each P xs → Each P (firsts same xs)
each_first P same [] each = tt
each_first P same (x ∷ xs) each = (each.0, each_filter P (λ other. not (same x other)) (firsts same xs) (each_first P same xs each.1))

each_new : (P : MetMark → Type 0) (before kept marks : List MetMark) → Each P kept → Each P marks → Each P (new_marks before kept marks)
each_new P before kept [] is each = is
each_new P before kept (mark ∷ marks) is each =
    by_test (list_any (is_mark mark.kind mark.name) before || has_whole mark.name kept) (each_new P (before ++ mark ∷ []) kept marks is each.1)
    (each_new P (before ++ mark ∷ []) (kept ++ mark ∷ []) marks (each_append P kept (mark ∷ []) is (each.0, tt)) each.1)
  where
    by_test : (b : Bool) → Each P (new_marks (before ++ mark ∷ []) kept marks) → Each P (new_marks (before ++ mark ∷ []) (kept ++ mark ∷ []) marks)
        → Each P (cond b (new_marks (before ++ mark ∷ []) kept marks) (new_marks (before ++ mark ∷ []) (kept ++ mark ∷ []) marks))
    by_test true one other = one
    by_test false one other = other

module _ (sections marks : List ℕ) where
  abbrev SectionStands : MetSection → Type 0
  SectionStands section = Has (At section.place) sections

  abbrev MarkStands : MetMark → Type 0
  MarkStands mark = Has (At mark.place) marks

  sections_stand : (all : List Met) → AreIn sections marks all → Each SectionStands (sections_met all)
  sections_stand [] each = tt
  sections_stand (met.Section section ∷ all) each = (each.0, sections_stand all each.1)
  sections_stand (met.Mark mark ∷ all) each = sections_stand all each.1
  sections_stand (met.Note note ∷ all) each = sections_stand all each.1
  sections_stand (met.Reference field ∷ all) each = sections_stand all each.1
  sections_stand (met.Sequence field ∷ all) each = sections_stand all each.1
  sections_stand (met.Variable field ∷ all) each = sections_stand all each.1
  sections_stand (met.Table place ∷ all) each = sections_stand all each.1

  marks_stand : (all : List Met) → AreIn sections marks all → Each MarkStands (marks_met all)
  marks_stand [] each = tt
  marks_stand (met.Section section ∷ all) each = marks_stand all each.1
  marks_stand (met.Mark mark ∷ all) each = (each.0, marks_stand all each.1)
  marks_stand (met.Note note ∷ all) each = marks_stand all each.1
  marks_stand (met.Reference field ∷ all) each = marks_stand all each.1
  marks_stand (met.Sequence field ∷ all) each = marks_stand all each.1
  marks_stand (met.Variable field ∷ all) each = marks_stand all each.1
  marks_stand (met.Table place ∷ all) each = marks_stand all each.1

  -- a place of what is kept
  place_stands : {X : Type 0} (place : X → ℕ) (places : List ℕ) (xs : List X) → Each (λ x. Has (At (place x)) places) xs → (q : ℕ) → is_at (map place xs) q ≡ true → Has (At q) places
  place_stands place places xs each q is =
      has_each (λ x. Has (At (place x)) places) (λ x. (place x == q) ≡ true) (Has (At q) places) (λ x has e. subst (λ (n : ℕ). Has (At n) places) (eqb-true (place x) q e) has) xs each
      (has_mapped (λ (other : ℕ). (other == q) ≡ true) place xs (has_any (λ (other : ℕ). other == q) (map place xs) is))

  pub kept_section_stands : (all : List Met) → AreIn sections marks all → (q : ℕ) → is_at (kept_of all).sections q ≡ true → Has (At q) sections
  kept_section_stands all are q is =
      place_stands (λ (section : MetSection). section.place) sections (kept_sections all) (each_first SectionStands (λ one other. bytes_eq one.name other.name) (sections_met all) (sections_stand all are)) q is

  pub kept_mark_stands : (all : List Met) → AreIn sections marks all → (q : ℕ) → is_at (kept_of all).marks q ≡ true → Has (At q) marks
  kept_mark_stands all are q is =
      let new = new_marks [] [] (marks_met all) in
      place_stands (λ (mark : MetMark). mark.place) marks (kept_marks all) (each_filter MarkStands (is_complete new) new (each_new MarkStands [] [] (marks_met all) tt (marks_stand all are))) q is

-- the text of a tree in order
abbrev IsApart : Read → Type 0
IsApart element = Ordered (places_in element) × IsPositive element

each_ordered : (elements : List Read) → Ordered (flat_map places_in elements) → Each IsPositive elements → Each IsApart elements
each_ordered [] ordered positive = tt
each_ordered (element ∷ elements) ordered positive =
    ((ordered_front (places_in element) (flat_map places_in elements) ordered, positive.0), each_ordered elements (ordered_back (places_in element) (flat_map places_in elements) ordered) positive.1)

abbrev OutOrdered : Read → Type 0
OutOrdered element = Ordered ((out-Element element).place ∷ flat_map places_in (children element))

inner_apart : (element : Read) → IsApart element → Each IsApart (children element)
inner_apart element is = let all : OutOrdered element = subst Ordered (places_out element) is.0 in each_ordered (children element) all.1 (inner_positive element is.1)

root_apart : (root : Read) → IsInOrder root → Each IsApart (children root)
root_apart root order =
    let all : OutOrdered root = subst Ordered (places_out root) (pairs_of (λ place other. place < other) (places_in root) order) in
    each_ordered (children root) all.1 (each_part (λ (place : ℕ). 1 ≤ place) places_in (children root)
    (each_also (λ (other : ℕ). (out-Element root).place < other) (λ (place : ℕ). 1 ≤ place) (λ other less. omega (arith, less)) (flat_map places_in (children root)) all.0))

pub order_settled : (root : Read) → IsInOrder root → (text : Read) → text_of root ≡ Some text
    → list_all (λ (one : Bool → Bool). one false) (map (settled (kept_of (met_of root))) (children text)) ≡ true
order_settled root order text e =
    let is : IsApart text = text_found IsApart inner_apart root (root_apart root order) text e in
    let all : OutOrdered text = subst Ordered (places_out text) is.0 in
    let sections = sections_among false (children text) in
    let marks = marks_among false (children text) in
    let met_is : met_of root ≡ met_in text = ap (λ (found : Option Read). option_map_or met_in found []) e in
    let are : AreIn sections marks (met_of root) = subst (AreIn sections marks) (sym met_is) ((every_meets text).inside false (record { text = 0; in_list = false; sections = [] }) (λ e none. absurd cc) is.1) in
    covered_settled (kept_of (met_of root)) (children text) false all.1
    (λ q has is. kept_section_stands sections marks (met_of root) are q is) (λ q has is. kept_mark_stands sections marks (met_of root) are q is)
