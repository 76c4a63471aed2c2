-- What is met as a text is read that has a name of its own: sections, notes, marks, sequence and variable fields, in the order of the file; and tables. Which of them are kept is told by their places.
use Rattle.std.specs.Prelude.{ℕ, ◌==◌, ◌&&◌, ◌||◌, not, Bool, true, false, if◌then◌else◌, List, [], ◌∷◌, ◌++◌, map, filter, filter_map, Option, Some, None}
use Rattle.std.specs.List.{flat_map, list_any}
use Rattle.std.specs.Str.{bytes_eq}
use Rattle.markup_nodes.specs.Nodes.{elems}
use Rattle.load_model.specs.declared.names.Key.TheVariants as key
use Rattle.load_model.specs.declared.names.Tag.{Tag}
use Rattle.load_model.specs.declared.names.Tag.TheVariants as tag
use Rattle.load_model.specs.declared.element.Element.{Element}
use Rattle.load_model.specs.declared.element.Element.TheOpen.{Element-F}
use Rattle.load_model.specs.declared.element.Element.TheFolds.{fold-Element}
use Rattle.load_model.specs.declared.element.Attribute.{Attribute}
use Rattle.load_model.specs.Values as value
use Rattle.load_model.specs.Values.{stated}
use Rattle.load_model.specs.Left.{is_same_tag, firsts}

-- what a mark is: a whole bookmark, or one end of it
pub data MarkKind : Type 0 where
  Whole : MarkKind
  Start : MarkKind
  End : MarkKind

-- a mark that is met: its place in the file, the text that it stands in, what it is, and the name of its bookmark
pub record MetMark : Type 0 where
  pub place : ℕ
  pub text : ℕ
  pub kind : MarkKind
  pub name : List ℕ

-- a section that is met where sections are read: its place in the file, its name, and the places of those around it, the outermost first
pub record MetSection : Type 0 where
  pub place : ℕ
  pub name : List ℕ
  pub around : List ℕ

-- a thing that is met: its place in the file and a name
pub record MetName : Type 0 where
  pub place : ℕ
  pub name : List ℕ

-- what is met
pub data Met : Type 0 where
  Section : (section : MetSection) → Met
  Mark : (mark : MetMark) → Met
  Note : (note : MetName) → Met
  -- a sequence field with its reference name, and then with the sequence that it counts
  Reference : (field : MetName) → Met
  Sequence : (field : MetName) → Met
  Variable : (field : MetName) → Met
  Table : (place : ℕ) → Met

-- where things are met: in a text, which is told by the place of its note, or 0 for the body; in a list or not; and in sections
pub record Where : Type 0 where
  pub text : ℕ
  pub in_list : Bool
  pub sections : List ℕ

-- where what a note holds is met
abbrev pub in_note : ℕ → Where
in_note place = record { text = place; in_list = false; sections = [] }

-- what an element gives where blocks, entries of lists, and the content of paragraphs are read, and what it holds gives where blocks are
pub record Gives : Type 0 where
  pub tag : Tag
  pub blocks : Where → List Met
  pub entry : Where → List Met
  pub content : Where → List Met
  pub inside : Where → List Met

-- what the elements give that an element holds
abbrev pub each : (Gives → Where → List Met) → Where → List Gives → List Met
each role here gives = flat_map (λ one. role one here) gives

-- the first of a tag
abbrev pub first_given : Tag → List Gives → List Gives
first_given wanted [] = []
first_given wanted (one ∷ more) = if is_same_tag one.tag wanted then one ∷ [] else first_given wanted more

-- a name that an attribute states, with the place of its element
abbrev pub named_at : ℕ → Option (List ℕ) → List MetName
named_at place None = []
named_at place (Some name) = record { place = place; name = name } ∷ []

-- whether sections are read here: in the body's text, outside of lists
abbrev pub reads_sections : Where → Bool
reads_sections here = here.text == 0 && not here.in_list

-- a section with what it holds. One without a good name is passed, and so is one where sections aren't read
abbrev pub section_met : ℕ → Option (List ℕ) → List Gives → Where → List Met
section_met place None gives here = each (λ one. one.blocks) here gives
section_met place (Some name) gives here =
    if reads_sections here
    then Section (record { place = place; name = name; around = here.sections }) ∷ each (λ one. one.blocks) (record here { sections = here.sections ++ place ∷ [] }) gives
    else each (λ one. one.blocks) here gives

-- a note with what its first body holds. One in a note is dropped
abbrev pub note_met : ℕ → Option (List ℕ) → List Gives → Where → List Met
note_met place id gives here =
    if here.text == 0
    then map Note (named_at place id) ++ each (λ one. one.inside) (in_note place) (first_given tag.NoteBody gives)
    else []

-- a mark with a name
abbrev pub mark_met : MarkKind → ℕ → Option (List ℕ) → Where → List Met
mark_met kind place None here = []
mark_met kind place (Some name) here = Mark (record { place = place; text = here.text; kind = kind; name = name }) ∷ []

-- a sequence field, which counts where it has a name
abbrev pub sequence_met : ℕ → Option (List ℕ) → Option (List ℕ) → List Met
sequence_met place None refname = []
sequence_met place (Some name) refname = map Reference (named_at place refname) ++ Sequence (record { place = place; name = name }) ∷ []

-- what stands where blocks are read
abbrev pub in_blocks : Tag → ℕ → List Attribute → List Gives → Where → List Met
in_blocks tag.Paragraph place attributes gives here = each (λ one. one.content) here gives
in_blocks tag.Heading place attributes gives here = each (λ one. one.content) here gives
in_blocks tag.List place attributes gives here = each (λ one. one.entry) (record here { in_list = true }) gives
in_blocks tag.Section place attributes gives here = section_met place (stated key.TextName value.name attributes) gives here
in_blocks tag.Index place attributes gives here = each (λ one. one.blocks) here gives
in_blocks tag.Table place attributes gives here = Table place ∷ []
in_blocks _ place attributes gives here = []

-- what stands where the entries of a list are read
abbrev pub in_list : Tag → List Gives → Where → List Met
in_list tag.ListItem gives here = each (λ one. one.blocks) here gives
in_list tag.ListHeader gives here = each (λ one. one.blocks) here gives
in_list _ gives here = []

-- whether the content of a paragraph has no rule for an element of office and draw, or for ruby text: it is dropped
abbrev pub is_dropped : Tag → Bool
is_dropped tag.Document = true
is_dropped tag.CommonStyles = true
is_dropped tag.AutomaticStyles = true
is_dropped tag.MasterStyles = true
is_dropped tag.Body = true
is_dropped tag.Text = true
is_dropped tag.RubyText = true
is_dropped tag.Foreign = true
is_dropped _ = false

-- what stands where the content of a paragraph is read
abbrev pub in_content : Tag → ℕ → List Attribute → List Gives → Where → List Met
in_content tag.Note place attributes gives here = note_met place (stated key.Id value.name attributes) gives here
in_content tag.Bookmark place attributes gives here = mark_met Whole place (stated key.TextName value.name attributes) here
in_content tag.BookmarkStart place attributes gives here = mark_met Start place (stated key.TextName value.name attributes) here
in_content tag.BookmarkEnd place attributes gives here = mark_met End place (stated key.TextName value.name attributes) here
in_content tag.Sequence place attributes gives here = sequence_met place (stated key.TextName value.name attributes) (stated key.ReferenceName value.name attributes)
in_content tag.VariableSet place attributes gives here = map Variable (named_at place (stated key.TextName value.name attributes))
in_content tag.VariableGet place attributes gives here = map Variable (named_at place (stated key.TextName value.name attributes))
in_content tag.Spaces place attributes gives here = []
in_content tag.Tab place attributes gives here = []
in_content tag.LineBreak place attributes gives here = []
in_content tag.Chapter place attributes gives here = []
in_content tag.PageNumber place attributes gives here = []
in_content tag.PageCount place attributes gives here = []
in_content tag.BookmarkReference place attributes gives here = []
in_content tag.SequenceReference place attributes gives here = []
in_content tag.NoteReference place attributes gives here = []
in_content other place attributes gives here = if is_dropped other then [] else each (λ one. one.content) here gives

-- what an element gives
abbrev pub gives_of : Element → Gives
gives_of = fold-Element Gives of_element where
  of_element : Element-F Gives → Gives
  of_element element = record {
    tag = element.tag;
    blocks = in_blocks element.tag element.place element.attributes (elems element.nodes);
    entry = in_list element.tag (elems element.nodes);
    content = in_content element.tag element.place element.attributes (elems element.nodes);
    inside = λ here. each (λ one. one.blocks) here (elems element.nodes);
  }

-- what is met in the text of the body
abbrev pub met_in : Element → List Met
met_in text = (gives_of text).inside (record { text = 0; in_list = false; sections = [] })

-- the sections, marks, notes, reference names, sequences, variables and tables that are met
abbrev pub sections_met : List Met → List MetSection
sections_met met = filter_map of_met met where
  of_met : Met → Option MetSection
  of_met (Section section) = Some section
  of_met _ = None

abbrev pub marks_met : List Met → List MetMark
marks_met met = filter_map of_met met where
  of_met : Met → Option MetMark
  of_met (Mark mark) = Some mark
  of_met _ = None

abbrev pub notes_met : List Met → List MetName
notes_met met = filter_map of_met met where
  of_met : Met → Option MetName
  of_met (Note note) = Some note
  of_met _ = None

abbrev pub references_met : List Met → List MetName
references_met met = filter_map of_met met where
  of_met : Met → Option MetName
  of_met (Reference field) = Some field
  of_met _ = None

abbrev pub sequences_met : List Met → List MetName
sequences_met met = filter_map of_met met where
  of_met : Met → Option MetName
  of_met (Sequence field) = Some field
  of_met _ = None

abbrev pub variables_met : List Met → List MetName
variables_met met = filter_map of_met met where
  of_met : Met → Option MetName
  of_met (Variable field) = Some field
  of_met _ = None

abbrev pub tables_met : List Met → List ℕ
tables_met met = filter_map of_met met where
  of_met : Met → Option ℕ
  of_met (Table place) = Some place
  of_met _ = None

-- the first of each name
abbrev pub first_of_each_name : List MetName → List MetName
first_of_each_name met = firsts (λ one other. bytes_eq one.name other.name) met

-- the sections that are kept: the first of each name
abbrev pub kept_sections : List Met → List MetSection
kept_sections met = firsts (λ one other. bytes_eq one.name other.name) (sections_met met)

-- whether two kinds of marks are the same
abbrev pub is_same_mark_kind : MarkKind → MarkKind → Bool
is_same_mark_kind Whole Whole = true
is_same_mark_kind Start Start = true
is_same_mark_kind End End = true
is_same_mark_kind _ _ = false

-- whether a mark is one of a kind and name
abbrev pub is_mark : MarkKind → List ℕ → MetMark → Bool
is_mark kind name mark = is_same_mark_kind mark.kind kind && bytes_eq mark.name name

-- whether one mark is the partner of another: the other end of the same bookmark, in the same text
abbrev pub is_partner : MetMark → MetMark → Bool
is_partner one other = bytes_eq one.name other.name && one.text == other.text && are_ends one.kind other.kind where
  are_ends : MarkKind → MarkKind → Bool
  are_ends Start End = true
  are_ends End Start = true
  are_ends _ _ = false

-- whether marks make a whole bookmark of a name: a point, or both ends in one text
abbrev pub has_whole : List ℕ → List MetMark → Bool
has_whole name marks = list_any (is_mark Whole name) marks || list_any (λ mark. is_mark Start name mark && list_any (is_partner mark) marks) marks

-- the marks whose names are new: no mark of the kind and name stood before, and no whole bookmark of the name. Those before, and those of them that have new names, are given
abbrev pub new_marks : List MetMark → List MetMark → List MetMark → List MetMark
new_marks before kept [] = kept
new_marks before kept (mark ∷ marks) =
    if list_any (is_mark mark.kind mark.name) before || has_whole mark.name kept
    then new_marks (before ++ mark ∷ []) kept marks
    else new_marks (before ++ mark ∷ []) (kept ++ mark ∷ []) marks

-- whether a mark is whole, or has its partner among some
abbrev pub is_complete : List MetMark → MetMark → Bool
is_complete marks mark = is_same_mark_kind mark.kind Whole || list_any (is_partner mark) marks

-- the marks that are kept: those of new names that are whole or have a partner
abbrev pub kept_marks : List Met → List MetMark
kept_marks met = complete (new_marks [] [] (marks_met met)) where
  complete : List MetMark → List MetMark
  complete marks = filter (is_complete marks) marks

-- what is known as a text is read: the places of sections and marks that are kept, and of notes and sequence fields whose own name is
pub record Kept : Type 0 where
  pub sections : List ℕ
  pub marks : List ℕ
  pub notes : List ℕ
  pub references : List ℕ

-- what is kept of what is met
abbrev pub kept_of : List Met → Kept
kept_of met = record {
  sections = map (λ section. section.place) (kept_sections met);
  marks = map (λ mark. mark.place) (kept_marks met);
  notes = map (λ note. note.place) (first_of_each_name (notes_met met));
  references = map (λ field. field.place) (first_of_each_name (references_met met));
}

-- whether a place is one of these
abbrev pub is_at : List ℕ → ℕ → Bool
is_at places place = list_any (λ other. other == place) places
