-- The offences of a tree: why it isn't read as a document. All are said of the whole tree at once; the one at the least place is the first, and at one place the first kind in their order.
use Rattle.std.specs.Prelude.{ℕ, ◌+◌, nat_lt, nat_le, ◌||◌, not, Bool, true, false, if◌then◌else◌, List, [], ◌∷◌, ◌++◌, map, filter, length, take, drop, codes, Option, Some, None, option_to_list}
use Rattle.std.specs.Option.{option_map_or}
use Rattle.std.specs.List.{flat_map, list_any}
use Rattle.std.specs.Str.{bytes_eq}
use Rattle.markup_nodes.specs.declared.tree.Elem.{Elem}
use Rattle.doc_model.specs.declared.style.Style.{Style}
use Rattle.doc_model.specs.declared.refusal.Limit.{Limit}
use Rattle.doc_model.specs.declared.refusal.Limit.TheVariants as limit
use Rattle.doc_model.specs.Reading.{paragraphs, number_of}
use Rattle.doc_model.specs.Parts.{items_of}
use Rattle.doc_model.specs.Limits.{limit_number}
use Rattle.style_model.specs.Lineage.{would_loop}
use Rattle.load_model.specs.declared.names.Key.TheVariants as key
use Rattle.load_model.specs.declared.names.Tag.{Tag}
use Rattle.load_model.specs.declared.names.Tag.TheVariants as tag
use Rattle.load_model.specs.declared.element.Element.{Element, out-Element}
use Rattle.load_model.specs.declared.offence.TreeOffence.{TreeOffence}
use Rattle.load_model.specs.declared.offence.TreeOffenceKind.{TreeOffenceKind}
use Rattle.load_model.specs.declared.offence.TreeOffenceKind.TheVariants as kind
use Rattle.load_model.specs.Names.{places_of_bad_names, resolved}
use Rattle.load_model.specs.Values.{value_of}
use Rattle.load_model.specs.Left.{children, attributes_of, is}
use Rattle.load_model.specs.Styles.{InPart, names_of, kept_styles, style_in, styles, kept_lists, kept_layouts, kept_masters}
use Rattle.load_model.specs.Headers.{head_of, head_elements, head_paragraph}
use Rattle.load_model.specs.Met.{Met, MetSection, tables_met, kept_sections, is_at}
use Rattle.load_model.specs.Loaded.{body_of, met_of, draft_of, kept_declarations, used_names}

-- the place of an element
abbrev pub place_of : Element → ℕ
place_of element = (out-Element element).place

-- offences of one kind at some places
abbrev pub offences_at : TreeOffenceKind → List ℕ → List TreeOffence
offences_at kind places = map (λ place. record { kind = kind; place = place }) places

-- a place, where this holds
abbrev pub place_if : Bool → ℕ → List ℕ
place_if holds place = if holds then place ∷ [] else []

-- whether a media type is that of a text or of a master document
abbrev pub is_mimetype : List ℕ → Bool
is_mimetype text = bytes_eq text (codes "application/vnd.oasis.opendocument.text") || bytes_eq text (codes "application/vnd.oasis.opendocument.text-master")

-- the elements of a tag among those that an element holds, behind the first of them
abbrev pub further : Tag → List Element → List Element
further wanted elements = drop 1 (filter (is wanted) elements)

-- where no body has a text, and where a second body or text is
abbrev pub places_without_text : Element → List ℕ
places_without_text root =
    place_if (not (list_any (λ body. list_any (is tag.Text) (children body)) (filter (is tag.Body) (children root)))) (place_of root)
    ++ map place_of (further tag.Body (children root))
    ++ flat_map (λ body. map place_of (further tag.Text (children body))) (option_to_list (body_of root))

-- the styles that are their own ancestors
abbrev pub places_of_loops : Element → List ℕ
places_of_loops root = flat_map place_of_loop (kept_styles root) where
  all : List Style
  all = styles (names_of root) root

  place_of_loop : InPart → List ℕ
  place_of_loop in_part = flat_map (λ style. place_if (would_loop all style.family style.name style.parent) (place_of in_part.element)) (style_in (names_of root) in_part)

-- the place of the first of some elements with which there are more than a limit allows, if there are
abbrev pub beyond : Limit → List ℕ → List ℕ
beyond limit places = take 1 (drop (limit_number limit) places)

-- how many items a paragraph has, with its place
pub record Counted : Type 0 where
  pub place : ℕ
  pub items : ℕ

-- the paragraphs of the text, and those of headers and footers
abbrev pub counted_paragraphs : Element → List Counted
counted_paragraphs root = map (λ par. record { place = number_of par; items = length (items_of par) }) (paragraphs (draft_of root))

abbrev pub counted_heads : Element → List Counted
counted_heads root = flat_map of_master (kept_masters root) where
  of_header : Element → List Counted
  of_header header = map (λ element. record { place = place_of element; items = length (head_paragraph (names_of root) element).items }) (head_elements header)

  of_master : Element → List Counted
  of_master master = flat_map of_header (option_to_list (head_of tag.Header master) ++ option_to_list (head_of tag.Footer master))

-- the paragraphs that have too many items
abbrev pub too_long : List Counted → List ℕ
too_long counted = map (λ par. par.place) (filter (λ par. nat_lt (limit_number limit.ItemsOfParagraph) par.items) counted)

-- the first of some paragraphs with which there are too many items, where there are so many before them
abbrev pub first_too_many : ℕ → List Counted → List ℕ
first_too_many before [] = []
first_too_many before (par ∷ more) = if nat_lt (limit_number limit.Items) (before + par.items) then par.place ∷ [] else first_too_many (before + par.items) more

-- the places of the sections that stand in so many others that they pass the limit of depth
abbrev pub too_deep : List Met → List ℕ
too_deep met = map (λ section. section.place) (filter (λ section. nat_le (limit_number limit.SectionDepth) (kept_around section)) (kept_sections met)) where
  kept_around : MetSection → ℕ
  kept_around section = length (filter (is_at (map (λ other. other.place) (kept_sections met))) section.around)

-- two lists of places that rise, as one that rises
abbrev pub merged : List ℕ → List ℕ → List ℕ
merged places [] = places
merged places (place ∷ more) = filter (λ other. nat_lt other place) places ++ place ∷ merged (filter (λ other. not (nat_lt other place)) places) more

-- the declarations in the order of the file, and behind them the first uses of names that have none
abbrev pub declaration_places : Element → List ℕ
declaration_places root = merged (stated false) (stated true) ++ merged (used false) (used true) where
  stated : Bool → List ℕ
  stated sequences = map (λ declared. declared.place) (kept_declarations sequences root)

  used : Bool → List ℕ
  used sequences = map (λ used. used.place) (used_names sequences root)

-- where a limit is passed
abbrev pub places_beyond : Limit → Element → List ℕ
places_beyond limit.Paragraphs root = beyond limit.Paragraphs (map (λ par. par.place) (counted_paragraphs root))
places_beyond limit.ItemsOfParagraph root = too_long (counted_paragraphs root ++ counted_heads root)
places_beyond limit.Items root = first_too_many 0 (counted_paragraphs root)
places_beyond limit.Sections root = beyond limit.Sections (map (λ section. section.place) (kept_sections (met_of root)))
places_beyond limit.SectionDepth root = too_deep (met_of root)
places_beyond limit.Styles root = beyond limit.Styles (map (λ in_part. place_of in_part.element) (kept_styles root))
places_beyond limit.ListStyles root = beyond limit.ListStyles (map place_of (kept_lists root))
places_beyond limit.Layouts root = beyond limit.Layouts (map place_of (kept_layouts root))
places_beyond limit.Masters root = beyond limit.Masters (map place_of (kept_masters root))
places_beyond limit.Declarations root = beyond limit.Declarations (declaration_places root)
-- longer names are bad values, and no operation is done and no number is given
places_beyond limit.NameLength root = []
places_beyond limit.Operations root = []
places_beyond limit.Identifiers root = []

-- the limits of a document in their order
abbrev pub limits : List Limit
limits = limit.Paragraphs ∷ limit.ItemsOfParagraph ∷ limit.Items ∷ limit.Sections ∷ limit.SectionDepth ∷ limit.Styles ∷ limit.ListStyles ∷ limit.Layouts ∷ limit.Masters ∷ limit.Declarations ∷ []

-- all offences of a tree, kind by kind in their order
abbrev pub offences : Elem → List TreeOffence
offences tree = of_root (resolved tree) where
  of_root : Element → List TreeOffence
  of_root root =
      offences_at kind.Names (places_of_bad_names tree [])
      ++ offences_at kind.Root (place_if (not (is tag.Document root)) (place_of root))
      ++ offences_at kind.Mime (place_if (not (option_map_or is_mimetype (value_of key.Mimetype (attributes_of root)) false)) (place_of root))
      ++ offences_at kind.NoText (places_without_text root)
      ++ offences_at kind.StyleLoop (places_of_loops root)
      ++ flat_map (λ limit. offences_at (kind.Limit limit) (places_beyond limit root)) limits
      ++ offences_at kind.Table (tables_met (met_of root))

-- the first of some offences, or one at a lesser place
abbrev pub least_of : TreeOffence → List TreeOffence → TreeOffence
least_of offence [] = offence
least_of offence (other ∷ others) = if nat_lt other.place offence.place then least_of other others else least_of offence others

-- the offence at the least place, and of those at one place the first in the list
abbrev pub least : List TreeOffence → Option TreeOffence
least [] = None
least (offence ∷ others) = Some (least_of offence others)

-- the first offence of a tree, if it has one
abbrev pub first_offence : Elem → Option TreeOffence
first_offence tree = least (offences tree)
