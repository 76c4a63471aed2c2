-- What an element gives: around each section in it there are those of a place, or none, or those around one before it, and that one; and sections stand at the places of elements, in their order.
use Rattle.std.proofs.Common.{◌≡◌, ◌⊎◌, inl, inr, ℕ, ◌==◌, Bool, true, false, cond, List, [], ◌∷◌, ◌++◌, map, Any, refl, sym, ap, ◌∙◌, subst, arith, length-append, Option, Some, None}
use Rattle.std.specs.List.{flat_map, AllByRecursion as Each}
use Rattle.std.proofs.lemmas.List.{get_or_append_left, map-append}
use Rattle.std.proofs.lemmas.List.Quantifiers.{Any-push}
use Rattle.markup_nodes.specs.Nodes.{elems}
use Rattle.load_model.specs.declared.names.Key.TheVariants as key
use Rattle.load_model.specs.declared.names.Tag.{Tag}
use Rattle.load_model.specs.declared.names.Tag.TheVariants as tag
use Rattle.load_model.specs.declared.element.Attribute.{Attribute}
use Rattle.load_model.specs.declared.element.Element.{Element, out-Element}
use Rattle.load_model.specs.Values as value
use Rattle.load_model.specs.Values.{stated}
use Rattle.load_model.specs.Left.{is_same_tag}
use Rattle.load_model.specs.Met.{
  Met,
  MetSection,
  MarkKind,
  Section,
  Note,
  Variable,
  Whole,
  Start,
  End,
  Where,
  Gives,
  gives_of,
  in_note,
  each,
  first_given,
  named_at,
  reads_sections,
  section_met,
  note_met,
  mark_met,
  sequence_met,
  in_blocks,
  in_list,
  in_content,
  is_dropped,
  sections_met,
}
use Rattle.met_read.specs.Walk.{held}
use Rattle.met_read.proofs.WalkLemmas.{blocks_out, entry_out, content_out, inside_out}
use Rattle.section_faults.specs.Nested.{StandsIn}
use Rattle.section_faults.proofs.KeptLemmas.{place_of}
use Rattle.tree_places.proofs.Within.{Within, within_more, within_both, within_behind, within_append}
use Rattle.section_faults.proofs.RoomLemmas.{sections_append}
use Rattle.tree_places.specs.Order.{places_in}
use Rattle.tree_places.proofs.Trees.{every_element, places_out}

-- one behind these, where sections of a place are read
abbrev pub StandsFrom : List ℕ → List MetSection → MetSection → Type 0
StandsFrom outer before section = (section.around ≡ outer) ⊎ StandsIn before section

abbrev pub AllFrom : List ℕ → List MetSection → List MetSection → Type 0
AllFrom outer before [] = Unit {0}
AllFrom outer before (section ∷ more) = StandsFrom outer before section × AllFrom outer (before ++ section ∷ []) more

-- what is met where these sections are around, in elements at these places
pub record IsGood (outer places : List ℕ) (met : List Met) : Type 0 where
  pub inside : (before : List MetSection) → AllFrom outer before (sections_met met)
  pub there : Within (map place_of (sections_met met)) places

pub good_none : (outer places : List ℕ) (met : List Met) → sections_met met ≡ [] → IsGood outer places met
good_none outer places met e = record {
  inside = λ before. subst (AllFrom outer before) (sym e) tt;
  there = subst (λ (some : List MetSection). Within (map place_of some) places) (sym e) tt;
}

both_from : (outer : List ℕ) (before some more : List MetSection) → AllFrom outer before some → ((front : List MetSection) → AllFrom outer front more) → AllFrom outer before (some ++ more)
both_from outer before [] more h k = k before
both_from outer before (section ∷ some) more h k = (h.0, both_from outer (before ++ section ∷ []) some more h.1 k)

good_append : (outer front behind : List ℕ) (some more : List Met) → IsGood outer front some → IsGood outer behind more → IsGood outer (front ++ behind) (some ++ more)
good_append outer front behind some more h k =
    let e = sym (sections_append some more) in
    record {
      inside = λ before. subst (AllFrom outer before) e (both_from outer before (sections_met some) (sections_met more) (h.inside before) k.inside);
      there = subst (λ (all : List MetSection). Within (map place_of all) (front ++ behind)) e (subst (λ (all : List ℕ). Within all (front ++ behind)) (sym (map-append place_of (sections_met some) (sections_met more)))
          (within_append (map place_of (sections_met some)) front (map place_of (sections_met more)) behind h.there k.there));
    }

good_more : (outer places : List ℕ) (place : ℕ) (met : List Met) → IsGood outer places met → IsGood outer (place ∷ places) met
good_more outer places place met h = record { inside = h.inside; there = within_more place (map place_of (sections_met met)) places h.there }

good_behind : (outer front places : List ℕ) (met : List Met) → IsGood outer places met → IsGood outer (front ++ places) met
good_behind outer front places met h = record { inside = h.inside; there = within_behind front (map place_of (sections_met met)) places h.there }

-- sections of no place
none_from : (outer : List ℕ) (before some : List MetSection) → AllFrom [] before some → AllFrom outer before some
none_from outer before [] h = tt
none_from outer before (section ∷ some) h = (inr (elim h.0 [ inl none ↦ inl none | inr inside ↦ inside ]), none_from outer (before ++ section ∷ []) some h.1)

good_note : (outer places : List ℕ) (met : List Met) → IsGood [] places met → IsGood outer places met
good_note outer places met h = record { inside = λ before. none_from outer before (sections_met met) (h.inside before); there = h.there }

-- sections in a section that stands before them
any_front : {X : Type 0} (P : X → Type 0) (xs ys : List X) → Any P xs → Any P (xs ++ ys)
any_front P xs ys found =
    let size = length-append xs ys in
    let l = found.2 in
    (found.0, found.1, omega (arith, size, l), get_or_append_left xs ys found.1 found.0 found.2 ∙ found.3, found.4)

abbrev Holder : List ℕ → List MetSection → Type 0
Holder inner before = Any (λ (holder : MetSection). inner ≡ holder.around ++ holder.place ∷ []) before

held_by : (inner around : List ℕ) (before : List MetSection) → around ≡ inner → Holder inner before → Holder around before
held_by inner around before is holder = (holder.0, holder.1, holder.2, holder.3, is ∙ holder.4)

held_from : (outer inner : List ℕ) (before some : List MetSection) → Holder inner before → AllFrom inner before some → AllFrom outer before some
held_from outer inner before [] holder h = tt
held_from outer inner before (section ∷ some) holder h = (
  inr (elim h.0 [
    | inl is ↦ inr (held_by inner section.around before is holder)
    | inr inside ↦ inside
  ]),
  held_from outer inner (before ++ section ∷ []) some (any_front (λ (one : MetSection). inner ≡ one.around ++ one.place ∷ []) before (section ∷ []) holder) h.1,
)

good_section : (outer places : List ℕ) (section : MetSection) (met : List Met) → section.around ≡ outer → IsGood (outer ++ section.place ∷ []) places met → IsGood outer (section.place ∷ places) (Section section ∷ met)
good_section outer places section met is h = record {
  inside = λ before. (
    inl is,
    held_from outer (outer ++ section.place ∷ []) (before ++ section ∷ []) (sections_met met)
        (Any-push (λ (one : MetSection). outer ++ section.place ∷ [] ≡ one.around ++ one.place ∷ []) before section (ap (λ (around : List ℕ). around ++ section.place ∷ []) (sym is)))
        (h.inside (before ++ section ∷ [])),
  );
  there = within_both section.place (map place_of (sections_met met)) places h.there;
}

-- what an element gives wherever it stands
abbrev pub IsNestedElement : Element → Type 0
IsNestedElement element =
    ((at : Where) → IsGood at.sections (places_in element) ((gives_of element).blocks at)) × ((at : Where) → IsGood at.sections (places_in element) ((gives_of element).entry at))
    × ((at : Where) → IsGood at.sections (places_in element) ((gives_of element).content at)) × ((at : Where) → IsGood at.sections (places_in element) ((gives_of element).inside at))

abbrev inner : List Element → List ℕ
inner elements = flat_map places_in elements

each_good : (role : Gives → Where → List Met) (at : Where) → ((one : Element) → IsNestedElement one → IsGood at.sections (places_in one) (role (gives_of one) at)) → (elements : List Element) → Each IsNestedElement elements
    → IsGood at.sections (inner elements) (each role at (map gives_of elements))
each_good role at so [] known = good_none at.sections [] [] refl
each_good role at so (one ∷ more) known =
    good_append at.sections (places_in one) (inner more) (role (gives_of one) at) (each role at (map gives_of more)) (so one known.0) (each_good role at so more known.1)

first_good : (at : Where) (elements : List Element) → Each IsNestedElement elements → IsGood at.sections (inner elements) (each (λ one. one.inside) at (first_given tag.NoteBody (map gives_of elements)))
first_good at [] known = good_none at.sections [] [] refl
first_good at (one ∷ more) known = by_tag (is_same_tag (gives_of one).tag tag.NoteBody) (first_good at more known.1) where
  by_tag : (b : Bool) → IsGood at.sections (inner more) (each (λ (given : Gives). given.inside) at (first_given tag.NoteBody (map gives_of more)))
      → IsGood at.sections (inner (one ∷ more)) (each (λ (given : Gives). given.inside) at (cond b (gives_of one ∷ []) (first_given tag.NoteBody (map gives_of more))))
  by_tag true rest = good_append at.sections (places_in one) (inner more) ((gives_of one).inside at) [] (known.0.3 at) (good_none at.sections (inner more) [] refl)
  by_tag false rest = good_behind at.sections (places_in one) (inner more) (each (λ (given : Gives). given.inside) at (first_given tag.NoteBody (map gives_of more))) rest

module _ (place : ℕ) (elements : List Element) (known : Each IsNestedElement elements) where
  abbrev gives : List Gives
  gives = map gives_of elements

  abbrev whole : List ℕ
  whole = place ∷ inner elements

  blocks_inner : (at : Where) → IsGood at.sections (inner elements) (each (λ one. one.blocks) at gives)
  blocks_inner at = each_good (λ one. one.blocks) at (λ one h. h.0 at) elements known

  blocks_good : (at : Where) → IsGood at.sections whole (each (λ one. one.blocks) at gives)
  blocks_good at = good_more at.sections (inner elements) place (each (λ one. one.blocks) at gives) (blocks_inner at)

  entries_good : (at : Where) → IsGood at.sections whole (each (λ one. one.entry) at gives)
  entries_good at = good_more at.sections (inner elements) place (each (λ one. one.entry) at gives) (each_good (λ one. one.entry) at (λ one h. h.1 at) elements known)

  content_good : (at : Where) → IsGood at.sections whole (each (λ one. one.content) at gives)
  content_good at = good_more at.sections (inner elements) place (each (λ one. one.content) at gives) (each_good (λ one. one.content) at (λ one h. h.2 at) elements known)

  abbrev below : Where → Where
  below at = record at { sections = at.sections ++ place ∷ [] }

  section_in : (name : Option (List ℕ)) (at : Where) → IsGood at.sections whole (section_met place name gives at)
  section_in None at = blocks_good at
  section_in (Some name) at = by_place (reads_sections at) where
    by_place : (b : Bool) → IsGood at.sections whole (cond b (Section (record { place = place; name = name; around = at.sections }) ∷ each (λ one. one.blocks) (below at) gives) (each (λ one. one.blocks) at gives))
    by_place true = good_section at.sections (inner elements) (record { place = place; name = name; around = at.sections }) (each (λ one. one.blocks) (below at) gives) refl (blocks_inner (below at))
    by_place false = blocks_good at

  notes_in : (outer : List ℕ) (id : Option (List ℕ)) → IsGood outer (place ∷ []) (map Note (named_at place id))
  notes_in outer None = good_none outer (place ∷ []) [] refl
  notes_in outer (Some name) = good_none outer (place ∷ []) (Note (record { place = place; name = name }) ∷ []) refl

  abbrev bodies : List Met
  bodies = each (λ one. one.inside) (in_note place) (first_given tag.NoteBody gives)

  note_in : (id : Option (List ℕ)) (at : Where) → IsGood at.sections whole (note_met place id gives at)
  note_in id at = by_text (at.text == 0) where
    by_text : (b : Bool) → IsGood at.sections whole (cond b (map Note (named_at place id) ++ bodies) [])
    by_text true =
        good_append at.sections (place ∷ []) (inner elements) (map Note (named_at place id)) bodies (notes_in at.sections id)
        (good_note at.sections (inner elements) bodies (first_good (in_note place) elements known))
    by_text false = good_none at.sections whole [] refl

  mark_in : (kind : MarkKind) (name : Option (List ℕ)) (at : Where) → sections_met (mark_met kind place name at) ≡ []
  mark_in kind None at = refl
  mark_in kind (Some name) at = refl

  variable_in : (name : Option (List ℕ)) → sections_met (map Variable (named_at place name)) ≡ []
  variable_in None = refl
  variable_in (Some name) = refl

  sequence_in : (name refname : Option (List ℕ)) → sections_met (sequence_met place name refname) ≡ []
  sequence_in None refname = refl
  sequence_in (Some name) None = refl
  sequence_in (Some name) (Some refname) = refl

  dropped_in : (b : Bool) (at : Where) → IsGood at.sections whole (cond b [] (each (λ one. one.content) at gives))
  dropped_in true at = good_none at.sections whole [] refl
  dropped_in false at = content_good at

  in_blocks_good : (which : Tag) (attributes : List Attribute) (at : Where) → IsGood at.sections whole (in_blocks which place attributes gives at)
  in_blocks_good tag.Paragraph attributes at = content_good at
  in_blocks_good tag.Heading attributes at = content_good at
  in_blocks_good tag.List attributes at = entries_good (record at { in_list = true })
  in_blocks_good tag.Section attributes at = section_in (stated key.TextName value.name attributes) at
  in_blocks_good tag.Index attributes at = blocks_good at
  in_blocks_good which attributes at = good_none at.sections whole (in_blocks which place attributes gives at) refl

  in_list_good : (which : Tag) (at : Where) → IsGood at.sections whole (in_list which gives at)
  in_list_good tag.ListItem at = blocks_good at
  in_list_good tag.ListHeader at = blocks_good at
  in_list_good which at = good_none at.sections whole (in_list which gives at) refl

  abbrev told : Tag → List Attribute → Where → List Met
  told which attributes at = in_content which place attributes gives at

  in_content_good : (which : Tag) (attributes : List Attribute) (at : Where) → IsGood at.sections whole (told which attributes at)
  in_content_good tag.Note attributes at = note_in (stated key.Id value.name attributes) at
  in_content_good tag.Bookmark attributes at = good_none at.sections whole (told tag.Bookmark attributes at) (mark_in Whole (stated key.TextName value.name attributes) at)
  in_content_good tag.BookmarkStart attributes at = good_none at.sections whole (told tag.BookmarkStart attributes at) (mark_in Start (stated key.TextName value.name attributes) at)
  in_content_good tag.BookmarkEnd attributes at = good_none at.sections whole (told tag.BookmarkEnd attributes at) (mark_in End (stated key.TextName value.name attributes) at)
  in_content_good tag.Sequence attributes at =
      good_none at.sections whole (told tag.Sequence attributes at) (sequence_in (stated key.TextName value.name attributes) (stated key.ReferenceName value.name attributes))
  in_content_good tag.VariableSet attributes at = good_none at.sections whole (told tag.VariableSet attributes at) (variable_in (stated key.TextName value.name attributes))
  in_content_good tag.VariableGet attributes at = good_none at.sections whole (told tag.VariableGet attributes at) (variable_in (stated key.TextName value.name attributes))
  in_content_good tag.Spaces attributes at = good_none at.sections whole [] refl
  in_content_good tag.Tab attributes at = good_none at.sections whole [] refl
  in_content_good tag.LineBreak attributes at = good_none at.sections whole [] refl
  in_content_good tag.Chapter attributes at = good_none at.sections whole [] refl
  in_content_good tag.PageNumber attributes at = good_none at.sections whole [] refl
  in_content_good tag.PageCount attributes at = good_none at.sections whole [] refl
  in_content_good tag.BookmarkReference attributes at = good_none at.sections whole [] refl
  in_content_good tag.SequenceReference attributes at = good_none at.sections whole [] refl
  in_content_good tag.NoteReference attributes at = good_none at.sections whole [] refl
  in_content_good other attributes at = dropped_in (is_dropped other) at

-- one element
of_parts : (outer : List ℕ) (element : Element) (met parts : List Met) → met ≡ parts → IsGood outer ((out-Element element).place ∷ inner (elems (out-Element element).nodes)) parts → IsGood outer (places_in element) met
of_parts outer element met parts e h =
    subst (λ (some : List Met). IsGood outer (places_in element) some) (sym e) (subst (λ (places : List ℕ). IsGood outer places parts) (sym (places_out element)) h)

nested_element : (element : Element) → Each IsNestedElement (elems (out-Element element).nodes) → IsNestedElement element
nested_element element known =
    let x = out-Element element in
    let elements = elems x.nodes in (
      λ at. of_parts at.sections element ((gives_of element).blocks at) (in_blocks x.tag x.place x.attributes (held element) at) (blocks_out element at) (in_blocks_good x.place elements known x.tag x.attributes at),
      λ at. of_parts at.sections element ((gives_of element).entry at) (in_list x.tag (held element) at) (entry_out element at) (in_list_good x.place elements known x.tag at),
      λ at. of_parts at.sections element ((gives_of element).content at) (in_content x.tag x.place x.attributes (held element) at) (content_out element at) (in_content_good x.place elements known x.tag x.attributes at),
      λ at. of_parts at.sections element ((gives_of element).inside at) (each (λ one. one.blocks) at (held element)) (inside_out element at) (blocks_good x.place elements known at),
    )

pub every_nested : (element : Element) → IsNestedElement element
every_nested = every_element IsNestedElement nested_element
