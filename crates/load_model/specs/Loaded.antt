-- The document and the report of a tree whose names are resolved.
use Rattle.std.specs.Prelude.{ℕ, ◌+◌, ◌-◌, ◌==◌, ◌||◌, not, Bool, true, false, min, List, [], ◌∷◌, ◌++◌, map, filter, length, codes, Option, option_map, option_to_list}
use Rattle.std.specs.Option.{option_map_or, option_and_then}
use Rattle.std.specs.List.{flat_map, position_or_len}
use Rattle.std.specs.Str.{bytes_eq}
use Rattle.doc_model.specs.declared.page_layout.NoteStart.TheVariants as counting
use Rattle.doc_model.specs.declared.paragraph.ListPos.{ListPos}
use Rattle.doc_model.specs.declared.paragraph.Par.{Par, out-Par, roll-Par}
use Rattle.doc_model.specs.declared.document.Document.{Document}
use Rattle.doc_model.specs.declared.report.Report.{Report}
use Rattle.doc_model.specs.Alike.{in_document}
use Rattle.doc_model.specs.Reading.{paragraphs, number_of}
use Rattle.load_model.specs.declared.names.Key.TheVariants as key
use Rattle.load_model.specs.declared.names.Tag.TheVariants as tag
use Rattle.load_model.specs.declared.element.Element.{Element, out-Element}
use Rattle.load_model.specs.Values as value
use Rattle.load_model.specs.Values.{rule, stated_or, value_of}
use Rattle.load_model.specs.Left.{Left, nothing, only_elements, both, all_of, all_but, children, attributes_of, first, firsts, is_one_of}
use Rattle.load_model.specs.Styles.{names_of, style_parts, styles, defaults, outline, list_styles, layouts, style_parts_left}
use Rattle.load_model.specs.Headers.{masters, masters_left}
use Rattle.load_model.specs.Met.{Met, MetName, met_in, kept_of, variables_met, sequences_met, first_of_each_name}
use Rattle.load_model.specs.Blocks.{Known, ReadBlocks, ReadDeclarations, Declared, gives_of, no_blocks, without_sources, left_by, or_empty}

-- the body and the text that are read: the first of each
abbrev pub body_of : Element → Option Element
body_of root = first tag.Body (children root)

abbrev pub text_of : Element → Option Element
text_of root = option_and_then (λ body. first tag.Text (children body)) (body_of root)

-- what is met in the text
abbrev pub met_of : Element → List Met
met_of root = option_map_or met_in (text_of root) []

-- what is known as the text is read
abbrev pub known_of : Element → Known
known_of root = record { names = names_of root; kept = kept_of (met_of root) }

-- what is read in the text, outside of lists and notes
abbrev pub read_text : Element → ReadBlocks
read_text root = option_map_or (λ text. without_sources ((gives_of (known_of root) text).inside (record { level = 0; style = []; in_note = false }))) (text_of root) (no_blocks nothing)

-- the declarations of one kind, in the order of the file, and those that are kept: the first of each name
abbrev pub stated_declarations : Bool → Element → List Declared
stated_declarations sequences root = flat_map (λ part. part.declared) (filter (is_kind sequences) (read_text root).declarations) where
  is_kind : Bool → ReadDeclarations → Bool
  is_kind true part = part.sequences
  is_kind false part = not part.sequences

abbrev pub kept_declarations : Bool → Element → List Declared
kept_declarations sequences root = firsts (λ one other. bytes_eq one.name other.name) (stated_declarations sequences root)

-- the names that are used without a declaration, each at its first use
abbrev pub used_names : Bool → Element → List MetName
used_names sequences root = first_of_each_name (filter (λ used. not (is_one_of (map (λ declared. declared.name) (kept_declarations sequences root)) used.name)) (used sequences)) where
  used : Bool → List MetName
  used true = sequences_met (met_of root)
  used false = variables_met (met_of root)

-- the declared names: the stated ones, and then those that are used, in the order of first use
abbrev pub declared_names : Bool → Element → List (List ℕ)
declared_names sequences root = map (λ declared. declared.name) (kept_declarations sequences root) ++ map (λ used. used.name) (used_names sequences root)

-- whether a file is a master document: by its media type, or as its text says
abbrev pub is_global : Element → Bool
is_global root =
    option_map_or (bytes_eq (codes "application/vnd.oasis.opendocument.text-master")) (value_of key.Mimetype (attributes_of root)) false
    || option_map_or (λ text. stated_or key.Global value.truth false (attributes_of text)) (text_of root) false

-- the document, in which the place of its element is each paragraph's number, and a list place has as many levels as there are lists
abbrev pub draft_of : Element → Document
draft_of root = record {
  global = is_global root;
  defaults = defaults root;
  styles = styles (names_of root) root;
  lists = list_styles root;
  outline = outline root;
  layouts = layouts root;
  masters = masters (names_of root) root;
  variables = declared_names false root;
  sequences = declared_names true root;
  counting = counting.Document;
  body = or_empty (option_map_or (λ text. (out-Element text).place) (text_of root) 0) (read_text root).blocks;
}

-- a list place of at most ten levels
abbrev pub at_most_ten : ListPos → ListPos
at_most_ten place = record place { level = min place.level 10 }

-- the paragraph with its number in reading order, from 1, where the numbers of all are given
abbrev pub numbered : List ℕ → Par → Par
numbered numbers par = roll-Par (record (out-Par par) { id = record { 0 = position_or_len (λ number. number == number_of par) numbers + 1 }; list = option_map at_most_ten (out-Par par).list })

-- the document of a tree
abbrev pub loaded : Element → Document
loaded root = in_document (numbered (map number_of (paragraphs (draft_of root)))) (draft_of root)

-- what is left out in declarations: between them, in those that are kept, and the others
abbrev pub declarations_left : Element → Left
declarations_left root = all_of (all_of (map (λ part. part.left) (read_text root).declarations) ∷ of_kind false ∷ of_kind true ∷ []) where
  of_kind : Bool → Left
  of_kind sequences = both (all_of (map (λ declared. declared.left) (kept_declarations sequences root))) (only_elements (length (stated_declarations sequences root) - length (kept_declarations sequences root)))

-- what is left out in the text
abbrev pub text_left : Element → Left
text_left root = all_of (all_of (map (λ text. left_by (rule key.Global value.truth ∷ []) (attributes_of text)) (option_to_list (text_of root))) ∷ (read_text root).left ∷ declarations_left root ∷ [])

-- what is left out in the body, of whose elements the text alone has a rule
abbrev pub body_left : Element → Left
body_left root = all_of (map (λ body. both (left_by [] (attributes_of body)) (all_but (length (option_to_list (text_of root))) (children body))) (option_to_list (body_of root)))

-- how many elements of the root are read
abbrev pub read_in_root : Element → ℕ
read_in_root root = length (style_parts root) + length (option_to_list (first tag.MasterStyles (children root))) + length (option_to_list (body_of root))

-- what is left out of a file
abbrev pub left_of : Element → Left
left_of root =
    all_of (left_by (rule key.Mimetype value.any_text ∷ []) (attributes_of root) ∷ all_but (read_in_root root) (children root)
    ∷ style_parts_left (names_of root) root ∷ masters_left (names_of root) root ∷ body_left root ∷ text_left root ∷ [])

-- a count stops at the greatest number of 32 bits
abbrev pub counted : ℕ → ℕ
counted count = min count 4294967295

-- the report of a tree: how many elements and attributes are left out. No source is fetched
abbrev pub report_of : Element → Report
report_of root = record { elements = counted (left_of root).elements; attributes = counted (left_of root).attributes; sources = 0 }
