-- The places of what is met in a text stand within those of its elements.
use Rattle.std.proofs.Common.{◌≡◌, ℕ, ◌==◌, not, Bool, true, false, cond, List, [], ◌∷◌, ◌++◌, map, refl, sym, ap, append-nil, Option, Some, None}
use Rattle.std.specs.List.{flat_map, filter, AllByRecursion as Each}
use Rattle.std.specs.Option.{option_map_or}
use Rattle.std.proofs.lemmas.Grind.{flat_map-append}
use Rattle.markup_nodes.specs.Nodes.{elems}
use Rattle.load_model.specs.declared.names.Key.TheVariants as key
use Rattle.load_model.specs.declared.names.Tag.{Tag}
use Rattle.load_model.specs.declared.names.Tag.TheVariants as tag
use Rattle.load_model.specs.declared.element.Attribute.{Attribute}
use Rattle.load_model.specs.declared.element.Element.{Element, out-Element}
use Rattle.load_model.specs.Values as value
use Rattle.load_model.specs.Values.{stated}
use Rattle.load_model.specs.Left.{is_same_tag, is_one_of}
use Rattle.load_model.specs.Met.{
  Met,
  MetSection,
  MetMark,
  MetName,
  MarkKind,
  Section,
  Mark,
  Note,
  Reference,
  Sequence,
  Variable,
  Table,
  Whole,
  Start,
  End,
  Where,
  Gives,
  gives_of,
  in_note,
  each,
  first_given,
  named_at,
  reads_sections,
  section_met,
  note_met,
  mark_met,
  sequence_met,
  in_blocks,
  in_list,
  in_content,
  is_dropped,
  met_in,
  sequences_met,
  variables_met,
  first_of_each_name,
}
use Rattle.load_model.specs.Loaded.{text_of, met_of, kept_declarations, used_names}
use Rattle.met_read.specs.Walk.{held}
use Rattle.met_read.proofs.WalkLemmas.{blocks_out, entry_out, content_out, inside_out}
use Rattle.declared_names.specs.Merge.{IsRising}
use Rattle.tree_places.specs.Order.{places_in, IsInOrder}
use Rattle.tree_places.proofs.Within.{Within, within_more, within_self, within_behind, within_front, within_append, within_through, within_map, within_filter, within_is, within_all, each_weaker}
use Rattle.tree_places.proofs.Trees.{every_element, places_out}
use Rattle.text_places.proofs.Lists.{within_firsts, rise_within, text_within}

-- what is told of one thing that is met stands within its place
module _ (told : Met → List ℕ) (own_section : (section : MetSection) → Within (told (Section section)) (section.place ∷ [])) (own_mark : (mark : MetMark) → Within (told (Mark mark)) (mark.place ∷ []))
    (own_note : (note : MetName) → Within (told (Note note)) (note.place ∷ [])) (own_variable : (field : MetName) → Within (told (Variable field)) (field.place ∷ []))
    (own_table : (place : ℕ) → Within (told (Table place)) (place ∷ [])) (own_sequence : (place : ℕ) (name refname : Option (List ℕ)) → Within (flat_map told (sequence_met place name refname)) (place ∷ [])) where
  abbrev all : List Met → List ℕ
  all met = flat_map told met

  abbrev inner : List Element → List ℕ
  inner elements = flat_map places_in elements

  -- what an element gives wherever it stands
  abbrev IsTold : Element → Type 0
  IsTold element =
      ((at : Where) → Within (all ((gives_of element).blocks at)) (places_in element)) × ((at : Where) → Within (all ((gives_of element).entry at)) (places_in element))
      × ((at : Where) → Within (all ((gives_of element).content at)) (places_in element)) × ((at : Where) → Within (all ((gives_of element).inside at)) (places_in element))

  -- several elements, each read alike
  each_told : (role : Gives → Where → List Met) (at : Where) (elements : List Element) → Each (λ (one : Element). Within (all (role (gives_of one) at)) (places_in one)) elements
      → Within (all (each role at (map gives_of elements))) (inner elements)
  each_told role at [] known = tt
  each_told role at (one ∷ more) known =
      within_is (all (each role at (map gives_of (one ∷ more)))) (all (role (gives_of one) at) ++ all (each role at (map gives_of more))) (inner (one ∷ more))
      (flat_map-append told (role (gives_of one) at) (each role at (map gives_of more)))
      (within_append (all (role (gives_of one) at)) (places_in one) (all (each role at (map gives_of more))) (inner more) known.0 (each_told role at more known.1))

  blocks_told : (at : Where) (elements : List Element) → Each IsTold elements → Within (all (each (λ one. one.blocks) at (map gives_of elements))) (inner elements)
  blocks_told at elements known =
      each_told (λ one. one.blocks) at elements (each_weaker IsTold (λ (one : Element). Within (all ((gives_of one).blocks at)) (places_in one)) (λ one h. h.0 at) elements known)

  entries_told : (at : Where) (elements : List Element) → Each IsTold elements → Within (all (each (λ one. one.entry) at (map gives_of elements))) (inner elements)
  entries_told at elements known =
      each_told (λ one. one.entry) at elements (each_weaker IsTold (λ (one : Element). Within (all ((gives_of one).entry at)) (places_in one)) (λ one h. h.1 at) elements known)

  content_told : (at : Where) (elements : List Element) → Each IsTold elements → Within (all (each (λ one. one.content) at (map gives_of elements))) (inner elements)
  content_told at elements known =
      each_told (λ one. one.content) at elements (each_weaker IsTold (λ (one : Element). Within (all ((gives_of one).content at)) (places_in one)) (λ one h. h.2 at) elements known)

  first_told : (at : Where) (elements : List Element) → Each IsTold elements → Within (all (each (λ one. one.inside) at (first_given tag.NoteBody (map gives_of elements)))) (inner elements)
  first_told at [] known = tt
  first_told at (one ∷ more) known = by_tag (is_same_tag (gives_of one).tag tag.NoteBody) (first_told at more known.1) where
    by_tag : (b : Bool) → Within (all (each (λ (given : Gives). given.inside) at (first_given tag.NoteBody (map gives_of more)))) (inner more)
        → Within (all (each (λ (given : Gives). given.inside) at (cond b (gives_of one ∷ []) (first_given tag.NoteBody (map gives_of more))))) (inner (one ∷ more))
    by_tag true h =
        within_is (all ((gives_of one).inside at ++ [])) (all ((gives_of one).inside at)) (inner (one ∷ more)) (ap all (append-nil ((gives_of one).inside at)))
        (within_front (all ((gives_of one).inside at)) (places_in one) (inner more) (known.0.3 at))
    by_tag false h = within_behind (places_in one) (all (each (λ (given : Gives). given.inside) at (first_given tag.NoteBody (map gives_of more)))) (inner more) h

  -- by the tag of the element that holds them
  module _ (place : ℕ) (elements : List Element) (known : Each IsTold elements) where
    abbrev gives : List Gives
    gives = map gives_of elements

    abbrev whole : List ℕ
    whole = place ∷ inner elements

    blocks_in : (at : Where) → Within (all (each (λ one. one.blocks) at gives)) whole
    blocks_in at = within_more place (all (each (λ one. one.blocks) at gives)) (inner elements) (blocks_told at elements known)

    entries_in : (at : Where) → Within (all (each (λ one. one.entry) at gives)) whole
    entries_in at = within_more place (all (each (λ one. one.entry) at gives)) (inner elements) (entries_told at elements known)

    content_in : (at : Where) → Within (all (each (λ one. one.content) at gives)) whole
    content_in at = within_more place (all (each (λ one. one.content) at gives)) (inner elements) (content_told at elements known)

    -- a thing of its own
    one_in : (met : Met) → Within (told met) (place ∷ []) → Within (all (met ∷ [])) whole
    one_in met h = within_append (told met) (place ∷ []) [] (inner elements) h tt

    section_in : (name : Option (List ℕ)) (at : Where) → Within (all (section_met place name gives at)) whole
    section_in None at = blocks_in at
    section_in (Some name) at = by_place (reads_sections at) where
      section : MetSection
      section = record { place = place; name = name; around = at.sections }

      within : Where
      within = record at { sections = at.sections ++ place ∷ [] }

      by_place : (b : Bool) → Within (all (cond b (Section section ∷ each (λ one. one.blocks) within gives) (each (λ one. one.blocks) at gives))) whole
      by_place true = within_append (told (Section section)) (place ∷ []) (all (each (λ one. one.blocks) within gives)) (inner elements) (own_section section) (blocks_told within elements known)
      by_place false = blocks_in at

    notes_in : (id : Option (List ℕ)) → Within (all (map Note (named_at place id))) (place ∷ [])
    notes_in None = tt
    notes_in (Some name) = within_append (told (Note (record { place = place; name = name }))) (place ∷ []) [] [] (own_note (record { place = place; name = name })) tt

    note_in : (id : Option (List ℕ)) (at : Where) → Within (all (note_met place id gives at)) whole
    note_in id at = by_text (at.text == 0) where
      bodies : List Met
      bodies = each (λ one. one.inside) (in_note place) (first_given tag.NoteBody gives)

      by_text : (b : Bool) → Within (all (cond b (map Note (named_at place id) ++ bodies) [])) whole
      by_text true =
          within_is (all (map Note (named_at place id) ++ bodies)) (all (map Note (named_at place id)) ++ all bodies) whole (flat_map-append told (map Note (named_at place id)) bodies)
          (within_append (all (map Note (named_at place id))) (place ∷ []) (all bodies) (inner elements) (notes_in id) (first_told (in_note place) elements known))
      by_text false = tt

    mark_in : (kind : MarkKind) (name : Option (List ℕ)) (at : Where) → Within (all (mark_met kind place name at)) whole
    mark_in kind None at = tt
    mark_in kind (Some name) at =
        one_in (Mark (record { place = place; text = at.text; kind = kind; name = name })) (own_mark (record { place = place; text = at.text; kind = kind; name = name }))

    variable_in : (name : Option (List ℕ)) → Within (all (map Variable (named_at place name))) whole
    variable_in None = tt
    variable_in (Some name) = one_in (Variable (record { place = place; name = name })) (own_variable (record { place = place; name = name }))

    sequence_in : (name refname : Option (List ℕ)) → Within (all (sequence_met place name refname)) whole
    sequence_in name refname = within_front (all (sequence_met place name refname)) (place ∷ []) (inner elements) (own_sequence place name refname)

    dropped_in : (b : Bool) (at : Where) → Within (all (cond b [] (each (λ one. one.content) at gives))) whole
    dropped_in true at = tt
    dropped_in false at = content_in at

    in_blocks_told : (which : Tag) (attributes : List Attribute) (at : Where) → Within (all (in_blocks which place attributes gives at)) whole
    in_blocks_told tag.Paragraph attributes at = content_in at
    in_blocks_told tag.Heading attributes at = content_in at
    in_blocks_told tag.List attributes at = entries_in (record at { in_list = true })
    in_blocks_told tag.Section attributes at = section_in (stated key.TextName value.name attributes) at
    in_blocks_told tag.Index attributes at = blocks_in at
    in_blocks_told tag.Table attributes at = one_in (Table place) (own_table place)
    in_blocks_told _ attributes at = tt

    in_list_told : (which : Tag) (at : Where) → Within (all (in_list which gives at)) whole
    in_list_told tag.ListItem at = blocks_in at
    in_list_told tag.ListHeader at = blocks_in at
    in_list_told _ at = tt

    in_content_told : (which : Tag) (attributes : List Attribute) (at : Where) → Within (all (in_content which place attributes gives at)) whole
    in_content_told tag.Note attributes at = note_in (stated key.Id value.name attributes) at
    in_content_told tag.Bookmark attributes at = mark_in Whole (stated key.TextName value.name attributes) at
    in_content_told tag.BookmarkStart attributes at = mark_in Start (stated key.TextName value.name attributes) at
    in_content_told tag.BookmarkEnd attributes at = mark_in End (stated key.TextName value.name attributes) at
    in_content_told tag.Sequence attributes at = sequence_in (stated key.TextName value.name attributes) (stated key.ReferenceName value.name attributes)
    in_content_told tag.VariableSet attributes at = variable_in (stated key.TextName value.name attributes)
    in_content_told tag.VariableGet attributes at = variable_in (stated key.TextName value.name attributes)
    in_content_told tag.Spaces attributes at = tt
    in_content_told tag.Tab attributes at = tt
    in_content_told tag.LineBreak attributes at = tt
    in_content_told tag.Chapter attributes at = tt
    in_content_told tag.PageNumber attributes at = tt
    in_content_told tag.PageCount attributes at = tt
    in_content_told tag.BookmarkReference attributes at = tt
    in_content_told tag.SequenceReference attributes at = tt
    in_content_told tag.NoteReference attributes at = tt
    in_content_told other attributes at = dropped_in (is_dropped other) at

  -- one element
  of_parts : (element : Element) (met parts : List Met) → met ≡ parts → Within (all parts) ((out-Element element).place ∷ inner (elems (out-Element element).nodes)) → Within (all met) (places_in element)
  of_parts element met parts e h =
      within_is (all met) (all parts) (places_in element) (ap all e) (within_all (all parts) ((out-Element element).place ∷ inner (elems (out-Element element).nodes)) (places_in element) h (sym (places_out element)))

  element_told : (element : Element) → Each IsTold (elems (out-Element element).nodes) → IsTold element
  element_told element known =
      let x = out-Element element in
      let elements = elems x.nodes in (
        λ at. of_parts element ((gives_of element).blocks at) (in_blocks x.tag x.place x.attributes (held element) at) (blocks_out element at) (in_blocks_told x.place elements known x.tag x.attributes at),
        λ at. of_parts element ((gives_of element).entry at) (in_list x.tag (held element) at) (entry_out element at) (in_list_told x.place elements known x.tag at),
        λ at. of_parts element ((gives_of element).content at) (in_content x.tag x.place x.attributes (held element) at) (content_out element at) (in_content_told x.place elements known x.tag x.attributes at),
        λ at. of_parts element ((gives_of element).inside at) (each (λ one. one.blocks) at (held element)) (inside_out element at) (blocks_in x.place elements known at),
      )

  all_told : (element : Element) → IsTold element
  all_told = every_element IsTold element_told

  -- what is met in the text of a root
  of_text : (text : Option Element) → all (option_map_or met_in text []) ≡ option_map_or (λ (one : Element). all (met_in one)) text []
  of_text None = refl
  of_text (Some text) = refl

  pub met_within : (root : Element) → Within (all (met_of root)) (places_in root)
  met_within root =
      within_is (all (met_of root)) (option_map_or (λ (one : Element). all (met_in one)) (text_of root) []) (places_in root) (of_text (text_of root))
      (text_within (λ (one : Element). all (met_in one)) (λ one. (all_told one).3 (record { text = 0; in_list = false; sections = [] })) root)

-- the fields that count by a sequence, and those of variables
abbrev sequence_place : Met → List ℕ
sequence_place (Sequence field) = field.place ∷ []
sequence_place _ = []

abbrev variable_place : Met → List ℕ
variable_place (Variable field) = field.place ∷ []
variable_place _ = []

one_sequence : (place : ℕ) (name refname : Option (List ℕ)) → Within (flat_map sequence_place (sequence_met place name refname)) (place ∷ [])
one_sequence place None refname = tt
one_sequence place (Some name) None = within_self (place ∷ [])
one_sequence place (Some name) (Some refname) = within_self (place ∷ [])

no_variable : (place : ℕ) (name refname : Option (List ℕ)) → Within (flat_map variable_place (sequence_met place name refname)) (place ∷ [])
no_variable place None refname = tt
no_variable place (Some name) None = tt
no_variable place (Some name) (Some refname) = tt

abbrev places_of : List MetName → List ℕ
places_of names = map (λ (one : MetName). one.place) names

sequence_places : (met : List Met) → places_of (sequences_met met) ≡ flat_map sequence_place met
sequence_places [] = refl
sequence_places (Sequence field ∷ met) = ap (λ (more : List ℕ). field.place ∷ more) (sequence_places met)
sequence_places (Section section ∷ met) = sequence_places met
sequence_places (Mark mark ∷ met) = sequence_places met
sequence_places (Note note ∷ met) = sequence_places met
sequence_places (Reference field ∷ met) = sequence_places met
sequence_places (Variable field ∷ met) = sequence_places met
sequence_places (Table place ∷ met) = sequence_places met

variable_places : (met : List Met) → places_of (variables_met met) ≡ flat_map variable_place met
variable_places [] = refl
variable_places (Variable field ∷ met) = ap (λ (more : List ℕ). field.place ∷ more) (variable_places met)
variable_places (Section section ∷ met) = variable_places met
variable_places (Mark mark ∷ met) = variable_places met
variable_places (Note note ∷ met) = variable_places met
variable_places (Reference field ∷ met) = variable_places met
variable_places (Sequence field ∷ met) = variable_places met
variable_places (Table place ∷ met) = variable_places met

sequences_within : (root : Element) → Within (places_of (sequences_met (met_of root))) (places_in root)
sequences_within root =
    within_is (places_of (sequences_met (met_of root))) (flat_map sequence_place (met_of root)) (places_in root) (sequence_places (met_of root))
    (met_within sequence_place (λ section. tt) (λ mark. tt) (λ note. tt) (λ field. tt) (λ place. tt) one_sequence root)

variables_within : (root : Element) → Within (places_of (variables_met (met_of root))) (places_in root)
variables_within root =
    within_is (places_of (variables_met (met_of root))) (flat_map variable_place (met_of root)) (places_in root) (variable_places (met_of root))
    (met_within variable_place (λ section. tt) (λ mark. tt) (λ note. tt) (λ field. within_self (field.place ∷ [])) (λ place. tt) no_variable root)

-- first uses of some of them
uses_within : (test : MetName → Bool) (names : List MetName) (places : List ℕ) → Within (places_of names) places → Within (places_of (first_of_each_name (filter test names))) places
uses_within test names places h =
    within_through (places_of (first_of_each_name (filter test names))) (places_of names) places
    (within_map (λ (one : MetName). one.place) (first_of_each_name (filter test names)) names
    (within_through (first_of_each_name (filter test names)) (filter test names) names (within_firsts _ (filter test names)) (within_filter test names)))
    h

abbrev is_undeclared : Bool → Element → MetName → Bool
is_undeclared sequences root used = not (is_one_of (map (λ declared. declared.name) (kept_declarations sequences root)) used.name)

used_within : (sequences : Bool) (root : Element) → Within (places_of (used_names sequences root)) (places_in root)
used_within true root = uses_within (is_undeclared true root) (sequences_met (met_of root)) (places_in root) (sequences_within root)
used_within false root = uses_within (is_undeclared false root) (variables_met (met_of root)) (places_in root) (variables_within root)

pub used_rise : (sequences : Bool) (root : Element) → IsInOrder root → IsRising (places_of (used_names sequences root))
used_rise sequences root h = rise_within (places_of (used_names sequences root)) (places_in root) (used_within sequences root) h
