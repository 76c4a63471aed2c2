-- What is met stands at places that are named.
use Rattle.std.proofs.Common.{◌≡◌, ℕ, ◌≤◌, ◌==◌, ◌&&◌, inl, not, Bool, true, false, cond, List, [], ◌∷◌, ◌++◌, map, refl, sym, ap, subst, Option, Some, None, is_some, eqb-true, arith}
use Rattle.std.specs.List.{flat_map, AllByRecursion as Each}
use Rattle.std.proofs.lemmas.Bool.{and_parts}
use Rattle.markup_nodes.specs.Nodes.{elems}
use Rattle.load_model.specs.declared.names.Key.TheVariants as key
use Rattle.load_model.specs.declared.names.Tag.{Tag}
use Rattle.load_model.specs.declared.names.Tag.TheVariants as tag
use Rattle.load_model.specs.declared.element.Attribute.{Attribute}
use Rattle.load_model.specs.declared.element.Element.{Element as Read, out-Element}
use Rattle.load_model.specs.Left.{attributes_of, children, is_same_tag, tag_of}
use Rattle.load_model.specs.Met as met
use Rattle.load_model.specs.Met.{Met, MarkKind, Where, each, in_blocks, in_content, in_list, in_note, is_dropped, mark_met, named_at as name_met, note_met, reads_sections, section_met, sequence_met}
use Rattle.load_model.specs.Values as value
use Rattle.load_model.specs.Values.{stated}
use Rattle.tree_places.specs.Order.{places_in}
use Rattle.tree_places.proofs.Trees.{places_out}
use Rattle.valid_text.proofs.Has.{Has, has_back, has_front}
use Rattle.valid_text.proofs.Lists.{each_also, each_append, each_part}
use Rattle.valid_text.proofs.Named.{At, marks_at, named_out, named_with, only_mark, only_section, own_mark, own_section, sections_at}
use Rattle.valid_text.proofs.Settled.{stays_within, within_note}
use Rattle.valid_text.proofs.Steps.{every, met_out, tag_met}

-- a section or a mark that is met stands at one of these places
abbrev pub StandsIn : List ℕ → List ℕ → Met → Type 0
StandsIn sections marks (met.Section section) = Has (At section.place) sections
StandsIn sections marks (met.Mark mark) = Has (At mark.place) marks
StandsIn sections marks _ = Unit {0}

abbrev pub AreIn : List ℕ → List ℕ → List Met → Type 0
AreIn sections marks all = Each (StandsIn sections marks) all

-- among more places
abbrev Among : List ℕ → List ℕ → Type 0
Among places more = (q : ℕ) → Has (At q) places → Has (At q) more

stands_more : (sections marks more others : List ℕ) → Among sections more → Among marks others → (one : Met) → StandsIn sections marks one → StandsIn more others one
stands_more sections marks more others s m (met.Section section) is = s section.place is
stands_more sections marks more others s m (met.Mark mark) is = m mark.place is
stands_more sections marks more others s m (met.Note note) is = tt
stands_more sections marks more others s m (met.Reference field) is = tt
stands_more sections marks more others s m (met.Sequence field) is = tt
stands_more sections marks more others s m (met.Variable field) is = tt
stands_more sections marks more others s m (met.Table place) is = tt

are_more : (sections marks more others : List ℕ) → Among sections more → Among marks others → (all : List Met) → AreIn sections marks all → AreIn more others all
are_more sections marks more others s m all is = each_also (StandsIn sections marks) (StandsIn more others) (stands_more sections marks more others s m) all is

-- within a note nothing is met in the body's text
abbrev IsNoted : Bool → Where → Type 0
IsNoted within here = within ≡ true → here.text ≡ 0 → ⊥

-- no place is 0
abbrev pub IsPositive : Read → Type 0
IsPositive element = Each (λ (place : ℕ). 1 ≤ place) (places_in element)

pub inner_positive : (element : Read) → IsPositive element → Each IsPositive (children element)
inner_positive element is = each_part (λ (place : ℕ). 1 ≤ place) places_in (children element) (subst (Each (λ (place : ℕ). 1 ≤ place)) (places_out element) is).1

abbrev pub sections_among : Bool → List Read → List ℕ
sections_among within elements = flat_map (λ (one : Read). sections_at one within) elements

abbrev pub marks_among : Bool → List Read → List ℕ
marks_among within elements = flat_map (λ (one : Read). marks_at one within) elements

-- an element, wherever it stands
pub record Meets (element : Read) : Type 0 where
  pub content : (within : Bool) (here : Where) → IsNoted within here → IsPositive element → AreIn (sections_at element within) (marks_at element within) ((met.gives_of element).content here)
  pub blocks : (within : Bool) (here : Where) → IsNoted within here → IsPositive element → AreIn (sections_at element within) (marks_at element within) ((met.gives_of element).blocks here)
  pub entry : (within : Bool) (here : Where) → IsNoted within here → IsPositive element → AreIn (sections_at element within) (marks_at element within) ((met.gives_of element).entry here)
  pub inside : (within : Bool) (here : Where) → IsNoted within here → IsPositive element → AreIn (sections_among within (children element)) (marks_among within (children element)) ((met.gives_of element).inside here)

-- elements in a row
module _ (role : met.Gives → List Met) (within : Bool) (of_one : (element : Read) → Meets element → IsPositive element → AreIn (sections_at element within) (marks_at element within) (role (met.gives_of element))) where
  role_meets : (elements : List Read) → Each Meets elements → Each IsPositive elements → AreIn (sections_among within elements) (marks_among within elements) (flat_map role (map met.gives_of elements))
  role_meets [] good positive = tt
  role_meets (element ∷ elements) good positive =
      let s = sections_at element within in
      let m = marks_at element within in
      let ss = sections_among within elements in
      let ms = marks_among within elements in
      each_append (StandsIn (s ++ ss) (m ++ ms)) (role (met.gives_of element)) (flat_map role (map met.gives_of elements))
      (are_more s m (s ++ ss) (m ++ ms) (λ q has. has_front (At q) s ss has) (λ q has. has_front (At q) m ms has) (role (met.gives_of element)) (of_one element good.0 positive.0))
      (are_more ss ms (s ++ ss) (m ++ ms) (λ q has. has_back (At q) s ss has) (λ q has. has_back (At q) m ms has) (flat_map role (map met.gives_of elements)) (role_meets elements good.1 positive.1))

-- what an element holds within a note stands in it
note_sections : (element : Read) → Among (sections_among true (children element)) (sections_at element true)
note_sections element q has =
    subst (Has (At q)) (sym (named_out own_section only_section element true))
    (has_back (At q) (own_section true (tag_of element) (out-Element element).place (attributes_of element)) (sections_among (within_note true (tag_of element)) (children element))
    (subst (λ (b : Bool). Has (At q) (sections_among b (children element))) (sym (stays_within (tag_of element))) has))

note_marks : (element : Read) → Among (marks_among true (children element)) (marks_at element true)
note_marks element q has =
    subst (Has (At q)) (sym (named_out own_mark only_mark element true))
    (has_back (At q) (own_mark true (tag_of element) (out-Element element).place (attributes_of element)) (marks_among (within_note true (tag_of element)) (children element))
    (subst (λ (b : Bool). Has (At q) (marks_among b (children element))) (sym (stays_within (tag_of element))) has))

-- the first of a tag
first_meets : (here : Where) → IsNoted true here → (elements : List Read) → Each Meets elements → Each IsPositive elements → AreIn (sections_among true elements) (marks_among true elements) (each (λ one. one.inside) here (met.first_given tag.NoteBody (map met.gives_of elements)))
first_meets here noted [] good positive = tt
first_meets here noted (element ∷ elements) good positive =
    subst (λ (b : Bool). AreIn (sections_among true (element ∷ elements)) (marks_among true (element ∷ elements)) (each (λ one. one.inside) here (cond b (met.gives_of element ∷ []) (met.first_given tag.NoteBody (map met.gives_of elements)))))
    (sym (ap (λ (one : Tag). is_same_tag one tag.NoteBody) (tag_met element)))
    (by_test (is_same_tag (tag_of element) tag.NoteBody) (first_meets here noted elements good.1 positive.1))
  where
    by_test : (b : Bool) → AreIn (sections_among true elements) (marks_among true elements) (each (λ one. one.inside) here (met.first_given tag.NoteBody (map met.gives_of elements)))
        → AreIn (sections_among true (element ∷ elements)) (marks_among true (element ∷ elements)) (each (λ one. one.inside) here (cond b (met.gives_of element ∷ []) (met.first_given tag.NoteBody (map met.gives_of elements))))
    by_test true more =
        each_append (StandsIn (sections_among true (element ∷ elements)) (marks_among true (element ∷ elements))) ((met.gives_of element).inside here) []
        (are_more (sections_among true (children element)) (marks_among true (children element)) (sections_among true (element ∷ elements)) (marks_among true (element ∷ elements))
        (λ q has. has_front (At q) (sections_at element true) (sections_among true elements) (note_sections element q has)) (λ q has. has_front (At q) (marks_at element true) (marks_among true elements) (note_marks element q has))
        ((met.gives_of element).inside here) (good.0.inside true here noted positive.0)) tt
    by_test false more =
        are_more (sections_among true elements) (marks_among true elements) (sections_among true (element ∷ elements)) (marks_among true (element ∷ elements))
        (λ q has. has_back (At q) (sections_at element true) (sections_among true elements) has) (λ q has. has_back (At q) (marks_at element true) (marks_among true elements) has)
        (each (λ one. one.inside) here (met.first_given tag.NoteBody (map met.gives_of elements))) more

module _ (place : ℕ) (there : 1 ≤ place) (attributes : List Attribute) (elements : List Read) (good : Each Meets elements) (positive : Each IsPositive elements) (within : Bool) where
  abbrev gives : List met.Gives
  gives = map met.gives_of elements

  abbrev Are : Tag → List Met → Type 0
  Are which all = AreIn (named_with own_section only_section within which place attributes elements) (named_with own_mark only_mark within which place attributes elements) all

  lifted : (which : Tag) (all : List Met) → AreIn (sections_among (within_note within which) elements) (marks_among (within_note within which) elements) all → Are which all
  lifted which all is =
      are_more (sections_among (within_note within which) elements) (marks_among (within_note within which) elements) (named_with own_section only_section within which place attributes elements) (named_with own_mark only_mark within which place attributes elements)
      (λ q has. has_back (At q) (own_section within which place attributes) (sections_among (within_note within which) elements) has) (λ q has. has_back (At q) (own_mark within which place attributes) (marks_among (within_note within which) elements) has) all is

  -- in each role
  contents : (here : Where) → IsNoted within here → AreIn (sections_among within elements) (marks_among within elements) (each (λ one. one.content) here gives)
  contents here noted = role_meets (λ (one : met.Gives). one.content here) within (λ element meets positive. meets.content within here noted positive) elements good positive

  blocks : (here : Where) → IsNoted within here → AreIn (sections_among within elements) (marks_among within elements) (each (λ one. one.blocks) here gives)
  blocks here noted = role_meets (λ (one : met.Gives). one.blocks here) within (λ element meets positive. meets.blocks within here noted positive) elements good positive

  entries : (here : Where) → IsNoted within here → AreIn (sections_among within elements) (marks_among within elements) (each (λ one. one.entry) here gives)
  entries here noted = role_meets (λ (one : met.Gives). one.entry here) within (λ element meets positive. meets.entry within here noted positive) elements good positive

  -- a note
  notes_in : (sections marks : List ℕ) (id : Option (List ℕ)) → AreIn sections marks (map met.Note (name_met place id))
  notes_in sections marks None = tt
  notes_in sections marks (Some id) = (tt, tt)

  variables_in : (sections marks : List ℕ) (name : Option (List ℕ)) → AreIn sections marks (map met.Variable (name_met place name))
  variables_in sections marks None = tt
  variables_in sections marks (Some name) = (tt, tt)

  sequence_in : (sections marks : List ℕ) (name refname : Option (List ℕ)) → AreIn sections marks (sequence_met place name refname)
  sequence_in sections marks None refname = tt
  sequence_in sections marks (Some name) None = (tt, tt)
  sequence_in sections marks (Some name) (Some refname) = (tt, (tt, tt))

  note_meets : (id : Option (List ℕ)) (here : Where) (b : Bool) → Are tag.Note (cond b (map met.Note (name_met place id) ++ each (λ one. one.inside) (in_note place) (met.first_given tag.NoteBody gives)) [])
  note_meets id here false = tt
  note_meets id here true =
      each_append (StandsIn (named_with own_section only_section within tag.Note place attributes elements) (named_with own_mark only_mark within tag.Note place attributes elements)) (map met.Note (name_met place id))
      (each (λ one. one.inside) (in_note place) (met.first_given tag.NoteBody gives)) (notes_in _ _ id)
      (lifted tag.Note (each (λ one. one.inside) (in_note place) (met.first_given tag.NoteBody gives)) (first_meets (in_note place) (λ e none. never none) elements good positive))
    where
      never : place ≡ 0 → ⊥
      never none = absurd (omega (arith, there, none))

  -- a mark
  mark_meets : (sections more : List ℕ) (kind : MarkKind) (found : Option (List ℕ)) (here : Where) → AreIn sections (cond (is_some found) (place ∷ []) [] ++ more) (mark_met kind place found here)
  mark_meets sections more kind None here = tt
  mark_meets sections more kind (Some name) here = (inl refl, tt)

  passed : (which : Tag) (b : Bool) (all : List Met) → AreIn (sections_among (within_note within which) elements) (marks_among (within_note within which) elements) all → Are which (cond b [] all)
  passed which true all is = tt
  passed which false all is = lifted which all is

  content_meets : (which : Tag) (here : Where) → IsNoted within here → Are which (in_content which place attributes gives here)
  content_meets tag.Note here noted = note_meets (stated key.Id value.name attributes) here (here.text == 0)
  content_meets tag.Bookmark here noted = mark_meets _ _ met.Whole (stated key.TextName value.name attributes) here
  content_meets tag.BookmarkStart here noted = mark_meets _ _ met.Start (stated key.TextName value.name attributes) here
  content_meets tag.BookmarkEnd here noted = mark_meets _ _ met.End (stated key.TextName value.name attributes) here
  content_meets tag.Sequence here noted = sequence_in _ _ (stated key.TextName value.name attributes) (stated key.ReferenceName value.name attributes)
  content_meets tag.VariableSet here noted = variables_in _ _ (stated key.TextName value.name attributes)
  content_meets tag.VariableGet here noted = variables_in _ _ (stated key.TextName value.name attributes)
  content_meets tag.Spaces here noted = tt
  content_meets tag.Tab here noted = tt
  content_meets tag.LineBreak here noted = tt
  content_meets tag.Chapter here noted = tt
  content_meets tag.PageNumber here noted = tt
  content_meets tag.PageCount here noted = tt
  content_meets tag.BookmarkReference here noted = tt
  content_meets tag.SequenceReference here noted = tt
  content_meets tag.NoteReference here noted = tt
  content_meets other here noted = passed other (is_dropped other) (each (λ one. one.content) here gives) (contents here noted)

  -- a section
  abbrev AreBy : Option (List ℕ) → List Met → Type 0
  AreBy found all = AreIn (cond (not within && is_some found) (place ∷ []) [] ++ sections_among within elements) (marks_among within elements) all

  section_lifted : (found : Option (List ℕ)) (all : List Met) → AreIn (sections_among within elements) (marks_among within elements) all → AreBy found all
  section_lifted found all is =
      are_more (sections_among within elements) (marks_among within elements) (cond (not within && is_some found) (place ∷ []) [] ++ sections_among within elements) (marks_among within elements)
      (λ q has. has_back (At q) (cond (not within && is_some found) (place ∷ []) []) (sections_among within elements) has) (λ q has. has) all is

  own_there : (here : Where) (name : List ℕ) (w : Bool) → IsNoted w here → here.text ≡ 0 → Has (At place) (cond (not w && is_some (Some name)) (place ∷ []) [] ++ sections_among within elements)
  own_there here name true noted is = absurd (noted refl is)
  own_there here name false noted is = inl refl

  section_meets : (found : Option (List ℕ)) (here : Where) → IsNoted within here → AreBy found (section_met place found gives here)
  section_meets None here noted = section_lifted None (each (λ one. one.blocks) here gives) (blocks here noted)
  section_meets (Some name) here noted = by_read (reads_sections here) refl where
    by_read : (b : Bool) → reads_sections here ≡ b
        → AreBy (Some name) (cond b (met.Section (record { place = place; name = name; around = here.sections }) ∷ each (λ one. one.blocks) (record here { sections = here.sections ++ place ∷ [] }) gives) (each (λ one. one.blocks) here gives))
    by_read true e = (
      own_there here name within noted (eqb-true here.text 0 (and_parts (here.text == 0) (not here.in_list) e).0),
      section_lifted (Some name) (each (λ one. one.blocks) (record here { sections = here.sections ++ place ∷ [] }) gives) (blocks (record here { sections = here.sections ++ place ∷ [] }) noted),
    )
    by_read false e = section_lifted (Some name) (each (λ one. one.blocks) here gives) (blocks here noted)

  blocks_meets : (which : Tag) (here : Where) → IsNoted within here → Are which (in_blocks which place attributes gives here)
  blocks_meets tag.Paragraph here noted = contents here noted
  blocks_meets tag.Heading here noted = contents here noted
  blocks_meets tag.List here noted = entries (record here { in_list = true }) noted
  blocks_meets tag.Section here noted = section_meets (stated key.TextName value.name attributes) here noted
  blocks_meets tag.Index here noted = blocks here noted
  blocks_meets tag.Table here noted = (tt, tt)
  blocks_meets _ here noted = tt

  entry_meets : (which : Tag) (here : Where) → IsNoted within here → Are which (in_list which gives here)
  entry_meets tag.ListItem here noted = blocks here noted
  entry_meets tag.ListHeader here noted = blocks here noted
  entry_meets _ here noted = tt

-- every element
place_there : (element : Read) → IsPositive element → 1 ≤ (out-Element element).place
place_there element is = (subst (Each (λ (place : ℕ). 1 ≤ place)) (places_out element) is).0

module _ (element : Read) (good : Each Meets (elems (out-Element element).nodes)) where
  closed : (within : Bool) (given : met.Gives → List Met) (all : List Met) → given (met.gives_of element) ≡ all
      → AreIn (named_with own_section only_section within (tag_of element) (out-Element element).place (attributes_of element) (children element)) (named_with own_mark only_mark within (tag_of element) (out-Element element).place (attributes_of element) (children element)) all
      → AreIn (sections_at element within) (marks_at element within) (given (met.gives_of element))
  closed within given all e is =
      subst (AreIn (sections_at element within) (marks_at element within)) (sym e)
      (subst (λ (sections : List ℕ). AreIn sections (marks_at element within) all) (sym (named_out own_section only_section element within))
      (subst (λ (marks : List ℕ). AreIn (named_with own_section only_section within (tag_of element) (out-Element element).place (attributes_of element) (children element)) marks all) (sym (named_out own_mark only_mark element within)) is))

  element_meets : Meets element
  element_meets = record {
    content = λ within here noted positive. closed within (λ (one : met.Gives). one.content here) _ (ap (λ (one : met.Gives). one.content here) (met_out element))
        (content_meets (out-Element element).place (place_there element positive) (attributes_of element) (children element) good (inner_positive element positive) within (tag_of element) here noted);
    blocks = λ within here noted positive. closed within (λ (one : met.Gives). one.blocks here) _ (ap (λ (one : met.Gives). one.blocks here) (met_out element))
        (blocks_meets (out-Element element).place (place_there element positive) (attributes_of element) (children element) good (inner_positive element positive) within (tag_of element) here noted);
    entry = λ within here noted positive. closed within (λ (one : met.Gives). one.entry here) _ (ap (λ (one : met.Gives). one.entry here) (met_out element))
        (entry_meets (out-Element element).place (place_there element positive) (attributes_of element) (children element) good (inner_positive element positive) within (tag_of element) here noted);
    inside = λ within here noted positive. subst (AreIn (sections_among within (children element)) (marks_among within (children element))) (sym (ap (λ (one : met.Gives). one.inside here) (met_out element)))
        (blocks (out-Element element).place (place_there element positive) (attributes_of element) (children element) good (inner_positive element positive) within here noted);
  }

pub every_meets : (element : Read) → Meets element
every_meets = every Meets element_meets
