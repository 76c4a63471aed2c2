-- Each paragraph that is read has the place of an element of its own.
use Rattle.std.proofs.Common.{◌≡◌, ◌≢◌, ◌<◌, ◌==◌, ◌&&◌, ℕ, nat_lt, not, Bool, true, false, cond, List, [], ◌∷◌, ◌++◌, map, length, replicate, refl, sym, ap, ◌∙◌, subst, append-nil, arith, Option, Some, None}
use Rattle.std.specs.Prelude.{AllPairs}
use Rattle.std.specs.List.{flat_map, AllByRecursion as Each}
use Rattle.std.specs.Option.{option_map_or}
use Rattle.std.proofs.lemmas.Grind.{flat_map-append}
use Rattle.markup_nodes.specs.Node.{Node, Element as Inner, Char as Letter}
use Rattle.markup_nodes.specs.Nodes.{elems}
use Rattle.doc_model.specs.declared.style.Family.TheVariants as family
use Rattle.doc_model.specs.declared.block.Block.{Block}
use Rattle.doc_model.specs.declared.field.Field.{Field}
use Rattle.doc_model.specs.declared.field.NoteClass.TheVariants as class
use Rattle.doc_model.specs.declared.paragraph.Mark.{Mark}
use Rattle.doc_model.specs.declared.paragraph.Mark.TheVariants.{Point, Start, End}
use Rattle.doc_model.specs.declared.paragraph.Par.{Par}
use Rattle.doc_model.specs.declared.paragraph.Item.{Item}
use Rattle.doc_model.specs.declared.paragraph.Note.{Note}
use Rattle.doc_model.specs.declared.paragraph.What.{What}
use Rattle.doc_model.specs.declared.paragraph.What.TheOpen.{What-F}
use Rattle.doc_model.specs.Reading.{paragraphs, number_of}
use Rattle.load_model.specs.declared.names.Key.TheVariants as key
use Rattle.load_model.specs.declared.names.Tag.{Tag}
use Rattle.load_model.specs.declared.names.Tag.TheVariants as tag
use Rattle.load_model.specs.declared.element.Attribute.{Attribute}
use Rattle.load_model.specs.declared.element.Element.{Element, out-Element}
use Rattle.load_model.specs.Values as value
use Rattle.load_model.specs.Values.{Rule, stated_or, value_of}
use Rattle.load_model.specs.Styles.{style_reference}
use Rattle.load_model.specs.Left.{nothing, is_same_tag}
use Rattle.load_model.specs.Met.{is_at}
use Rattle.load_model.specs.Content.{Read, item_in, spaced}
use Rattle.load_model.specs.Fields.{field_of, own_name}
use Rattle.load_model.specs.Blocks.{Known, Around, Lists, Gives, gives_of, ReadBlocks, content_of, own_text, mark_content, field_content, span_content, first_given, lists_of_note, or_empty, paragraphs_of, blocks_alone, note_blocks, note_content, element_content, paragraph_rules, heading_rules, paragraph_block, is_directly_in, first_changed, inner_list, list_blocks, entry_blocks, kept_section, section_blocks, element_blocks, joined_blocks, no_blocks, blocks_with, without_declarations, without_sources, one_element}
use Rattle.load_model.specs.Loaded.{text_of, known_of, draft_of}
use Rattle.tree_places.specs.Order.{places_in, IsInOrder}
use Rattle.tree_places.proofs.Within.{Within, within_more, within_self, within_behind, within_front, within_append, within_through, within_is, within_all, each_weaker, Pairs, pairs_of, all_pairs, pairs_within, pairs_weaker}
use Rattle.tree_places.proofs.Trees.{every_element, places_out}
use Rattle.text_places.proofs.Lists.{text_within}
use Rattle.text_places.proofs.Held.{with_nodes, given, gives_out, elems_given}
use Rattle.text_places.proofs.Numbers.{notes_in, block_numbers, numbers_of, all_numbers, layer_block_numbers, section_block_numbers, empty_within, pars_within, changed_within, raw_number, raw_numbers, no_numbers, note_numbers, none_of, character_numbers, numbers_read}

abbrev inner : List Element → List ℕ
inner elements = flat_map places_in elements

module _ (known : Known) where
  abbrev given_of : Element → Gives
  given_of element = gives_of known element

  -- the numbers in what an element gives wherever it stands
  abbrev IsTold : Element → Type 0
  IsTold element =
      ((around : Around) → Within (raw_numbers ((given_of element).content around).raws) (places_in element)) × ((lists : Lists) → Within (numbers_of ((given_of element).blocks lists).blocks) (places_in element))
      × ((lists : Lists) → Within (numbers_of ((given_of element).entry lists).blocks) (places_in element)) × ((lists : Lists) → Within (numbers_of ((given_of element).inside lists).blocks) (inner (elems (out-Element element).nodes)))

  -- several elements where blocks are read
  each_told : (role : Gives → ReadBlocks) (elements : List Element) → Each (λ (one : Element). Within (numbers_of (role (given_of one)).blocks) (places_in one)) elements
      → Within (numbers_of (joined_blocks (map role (map given_of elements))).blocks) (inner elements)
  each_told role [] all = tt
  each_told role (one ∷ more) all =
      within_is (numbers_of (joined_blocks (map role (map given_of (one ∷ more)))).blocks) (numbers_of (role (given_of one)).blocks ++ numbers_of (joined_blocks (map role (map given_of more))).blocks) (inner (one ∷ more))
      (flat_map-append block_numbers (role (given_of one)).blocks (joined_blocks (map role (map given_of more))).blocks)
      (within_append (numbers_of (role (given_of one)).blocks) (places_in one) (numbers_of (joined_blocks (map role (map given_of more))).blocks) (inner more) all.0 (each_told role more all.1))

  blocks_told : (lists : Lists) (elements : List Element) → Each IsTold elements → Within (numbers_of (joined_blocks (map (λ (one : Gives). one.blocks lists) (map given_of elements))).blocks) (inner elements)
  blocks_told lists elements all =
      each_told (λ one. one.blocks lists) elements (each_weaker IsTold (λ (one : Element). Within (numbers_of ((given_of one).blocks lists).blocks) (places_in one)) (λ one h. h.1 lists) elements all)

  entries_told : (lists : Lists) (elements : List Element) → Each IsTold elements → Within (numbers_of (joined_blocks (map (λ (one : Gives). one.entry lists) (map given_of elements))).blocks) (inner elements)
  entries_told lists elements all =
      each_told (λ one. one.entry lists) elements (each_weaker IsTold (λ (one : Element). Within (numbers_of ((given_of one).entry lists).blocks) (places_in one)) (λ one h. h.2 lists) elements all)

  -- nodes where content is read
  content_told : (around : Around) (nodes : List (Node Element)) → Each IsTold (elems nodes) → Within (raw_numbers (content_of around (map (given known) nodes)).raws) (inner (elems nodes))
  content_told around [] all = tt
  content_told around (Inner one ∷ nodes) all =
      within_is (raw_numbers (content_of around (map (given known) (Inner one ∷ nodes))).raws) (raw_numbers ((given_of one).content around).raws ++ raw_numbers (content_of around (map (given known) nodes)).raws) (inner (one ∷ elems nodes))
      (flat_map-append raw_number ((given_of one).content around).raws (content_of around (map (given known) nodes)).raws)
      (within_append (raw_numbers ((given_of one).content around).raws) (places_in one) (raw_numbers (content_of around (map (given known) nodes)).raws) (inner (elems nodes)) (all.0.0 around) (content_told around nodes all.1))
  content_told around (Letter c ∷ nodes) all =
      within_is (raw_numbers (content_of around (map (given known) (Letter c ∷ nodes))).raws) (raw_numbers (content_of around (map (given known) nodes)).raws) (inner (elems nodes))
      (ap (λ (front : List ℕ). front ++ raw_numbers (content_of around (map (given known) nodes)).raws) (character_numbers around.spans c)) (content_told around nodes all)

  -- the first body of a note
  abbrev numbers_in : List Gives → List ℕ
  numbers_in bodies = numbers_of (joined_blocks (map (λ (body : Gives). blocks_alone (body.inside lists_of_note)) bodies)).blocks

  first_told : (elements : List Element) → Each IsTold elements → Within (numbers_of (note_blocks (map given_of elements)).blocks) (inner elements)
  first_told [] all = tt
  first_told (one ∷ more) all = by_tag (is_same_tag (given_of one).tag tag.NoteBody) (first_told more all.1) where
    held_in : Within (numbers_of ((given_of one).inside lists_of_note).blocks) (places_in one)
    held_in =
        within_all (numbers_of ((given_of one).inside lists_of_note).blocks) ((out-Element one).place ∷ inner (elems (out-Element one).nodes)) (places_in one)
        (within_more (out-Element one).place (numbers_of ((given_of one).inside lists_of_note).blocks) (inner (elems (out-Element one).nodes)) (all.0.3 lists_of_note)) (sym (places_out one))

    by_tag : (b : Bool) → Within (numbers_in (first_given tag.NoteBody (map given_of more))) (inner more) → Within (numbers_in (cond b (given_of one ∷ []) (first_given tag.NoteBody (map given_of more)))) (inner (one ∷ more))
    by_tag true h =
        within_is (numbers_in (given_of one ∷ [])) (numbers_of ((given_of one).inside lists_of_note).blocks) (inner (one ∷ more)) (ap numbers_of (append-nil ((given_of one).inside lists_of_note).blocks))
        (within_front (numbers_of ((given_of one).inside lists_of_note).blocks) (places_in one) (inner more) held_in)
    by_tag false h = within_behind (places_in one) (numbers_in (first_given tag.NoteBody (map given_of more))) (inner more) h

  -- elements that are read by what they hold
  module _ (place : ℕ) (elements : List Element) (all : Each IsTold elements) where
    abbrev gives : List Gives
    gives = map given_of elements

    abbrev whole : List ℕ
    whole = place ∷ inner elements

    blocks_in : (lists : Lists) → Within (numbers_of (joined_blocks (map (λ (one : Gives). one.blocks lists) gives)).blocks) whole
    blocks_in lists = within_more place (numbers_of (joined_blocks (map (λ (one : Gives). one.blocks lists) gives)).blocks) (inner elements) (blocks_told lists elements all)

    note_in : (around : Around) (attributes : List Attribute) → Within (raw_numbers (note_content known around place attributes gives).raws) whole
    note_in around attributes = by_note around.in_note refl where
      by_note : (b : Bool) → around.in_note ≡ b → Within (raw_numbers (note_content known around place attributes gives).raws) whole
      by_note true e = rw e tt
      by_note false e = rw e (
          within_is _ (map number_of (paragraphs_of (or_empty place (note_blocks gives).blocks))) whole (note_numbers around.spans (record {
            id = stated_or key.Id (own_name (is_at known.kept.notes place)) [] attributes;
            class = stated_or key.NoteClass value.note_class class.Footnote attributes;
            pars = paragraphs_of (or_empty place (note_blocks gives).blocks);
          }))
          (within_through (map number_of (paragraphs_of (or_empty place (note_blocks gives).blocks))) (numbers_of (or_empty place (note_blocks gives).blocks)) whole (pars_within (or_empty place (note_blocks gives).blocks))
          (empty_within place (note_blocks gives).blocks (inner elements) (first_told elements all))))

    -- a list, whose blocks may begin counting
    abbrev begins : Lists → List Attribute → Bool
    begins lists attributes = lists.level == 0 && not (stated_or key.ContinueNumbering value.truth false attributes)

    list_in : (attributes : List Attribute) (lists : Lists) → Within (numbers_of (list_blocks known lists attributes gives).blocks) whole
    list_in attributes lists = by_begins (begins lists attributes) where
      entries : ReadBlocks
      entries = joined_blocks (map (λ (one : Gives). one.entry (inner_list known lists attributes)) gives)

      within : Within (numbers_of entries.blocks) whole
      within = within_more place (numbers_of entries.blocks) (inner elements) (entries_told (inner_list known lists attributes) elements all)

      changed : List Block
      changed = first_changed (λ block. true) (λ one. record one { fresh = true }) entries.blocks

      by_begins : (b : Bool) → Within (numbers_of (cond b (record entries { blocks = changed }) entries).blocks) whole
      by_begins true = within_through (numbers_of changed) (numbers_of entries.blocks) whole (changed_within (λ block. true) (λ one. record one { fresh = true }) entries.blocks) within
      by_begins false = within

    entry_in : (which : Tag) (attributes : List Attribute) (lists : Lists) → Within (numbers_of (entry_blocks which attributes gives lists).blocks) whole
    entry_in tag.ListItem attributes lists =
        let blocks = (joined_blocks (map (λ (one : Gives). one.blocks lists) gives)).blocks in
        within_through (numbers_of (first_changed (is_directly_in lists.level) (λ one. record one { item = true }) blocks)) (numbers_of blocks) whole
        (changed_within (is_directly_in lists.level) (λ one. record one { item = true }) blocks) (blocks_in lists)
    entry_in tag.ListHeader attributes lists = blocks_in lists
    entry_in _ attributes lists = tt

    section_in : (attributes : List Attribute) (lists : Lists) → Within (numbers_of (section_blocks known lists place attributes gives).blocks) whole
    section_in attributes lists = by_kept (is_at known.kept.sections place) where
      read : ReadBlocks
      read = joined_blocks (map (λ (one : Gives). one.blocks lists) gives)

      by_kept : (b : Bool) → Within (numbers_of (cond b (kept_section known place attributes (without_declarations read)) (blocks_with one_element read)).blocks) whole
      by_kept true =
          within_is (numbers_of (kept_section known place attributes (without_declarations read)).blocks) (numbers_of (or_empty place read.blocks)) whole (section_block_numbers _)
          (empty_within place read.blocks (inner elements) (blocks_told lists elements all))
      by_kept false = blocks_in lists

  -- elements that are read by their nodes
  module _ (place : ℕ) (nodes : List (Node Element)) (all : Each IsTold (elems nodes)) where
    abbrev held : List (Node Gives)
    held = map (given known) nodes

    abbrev whole_of : List ℕ
    whole_of = place ∷ inner (elems nodes)

    content_in : (around : Around) → Within (raw_numbers (content_of around held).raws) whole_of
    content_in around = within_more place (raw_numbers (content_of around held).raws) (inner (elems nodes)) (content_told around nodes all)

    paragraph_in : (lists : Lists) (level : ℕ) (rules : List Rule) (attributes : List Attribute) → Within (numbers_of (paragraph_block known lists place level rules attributes held).blocks) whole_of
    paragraph_in lists level rules attributes =
        let raws = (content_of (record { spans = []; in_note = lists.in_note }) held).raws in
        within_is (numbers_of (paragraph_block known lists place level rules attributes held).blocks) (place ∷ raw_numbers raws) whole_of
        (layer_block_numbers _ ∙ ap (λ (more : List ℕ). place ∷ more) (numbers_read [] raws))
        (within_append (place ∷ []) (place ∷ []) (raw_numbers raws) (inner (elems nodes)) (within_self (place ∷ [])) (content_told (record { spans = []; in_note = lists.in_note }) nodes all))

    -- an item without a number
    leaf_in : (spans : List (List ℕ)) (what : What-F What Item Note Par) → notes_in what ≡ [] → (count : ℕ) → Within (raw_numbers (map Read (replicate count (item_in spans what)))) whole_of
    leaf_in spans what e count =
        within_is (raw_numbers (map Read (replicate count (item_in spans what)))) [] whole_of (none_of (item_in spans what) (no_numbers spans what e) count) tt

    mark_in : (around : Around) (mark : List ℕ → Mark) (attributes : List Attribute) (some : List Gives) → Within (raw_numbers (mark_content known around place mark attributes some).raws) whole_of
    mark_in around mark attributes some = by_kept (is_at known.kept.marks place) refl where
      by_kept : (b : Bool) → is_at known.kept.marks place ≡ b → Within (raw_numbers (mark_content known around place mark attributes some).raws) whole_of
      by_kept true e = rw e (leaf_in around.spans (What-F.Mark (mark (stated_or key.TextName value.name [] attributes))) refl 1)
      by_kept false e = rw e tt

    field_in : (around : Around) (which : Tag) (attributes : List Attribute) → Within (raw_numbers (field_content known around which place attributes held).raws) whole_of
    field_in around which attributes = by_field (field_of which (is_at known.kept.references place) (spaced (own_text held)) attributes) refl where
      by_field : (field : Option Field) → field_of which (is_at known.kept.references place) (spaced (own_text held)) attributes ≡ field → Within (raw_numbers (field_content known around which place attributes held).raws) whole_of
      by_field None e = rw e tt
      by_field (Some field) e = rw e (leaf_in around.spans (What-F.Field field) refl 1)

    span_in : (around : Around) (attributes : List Attribute) → Within (raw_numbers (span_content known around attributes held).raws) whole_of
    span_in around attributes = by_value (value_of key.StyleName attributes) refl where
      by_depth : (text name : List ℕ) → value_of key.StyleName attributes ≡ Some text → style_reference known.names family.Text text ≡ Some name → (b : Bool) → nat_lt (length around.spans) 8 ≡ b
          → Within (raw_numbers (span_content known around attributes held).raws) whole_of
      by_depth text name e f true g = rw (e, f, g) (content_in (record around { spans = around.spans ++ name ∷ [] }))
      by_depth text name e f false g = rw (e, f, g) (content_in around)

      by_name : (text : List ℕ) → value_of key.StyleName attributes ≡ Some text → (name : Option (List ℕ)) → style_reference known.names family.Text text ≡ name
          → Within (raw_numbers (span_content known around attributes held).raws) whole_of
      by_name text e None f = rw (e, f) (content_in around)
      by_name text e (Some name) f = by_depth text name e f (nat_lt (length around.spans) 8) refl

      by_value : (stated : Option (List ℕ)) → value_of key.StyleName attributes ≡ stated → Within (raw_numbers (span_content known around attributes held).raws) whole_of
      by_value None e = rw e (content_in around)
      by_value (Some text) e = by_name text e (style_reference known.names family.Text text) refl

    of_elems : (role : List Gives → List ℕ) → Within (role (map given_of (elems nodes))) whole_of → Within (role (elems held)) whole_of
    of_elems role h = within_is (role (elems held)) (role (map given_of (elems nodes))) whole_of (ap role (elems_given known nodes)) h

    in_content : (which : Tag) (attributes : List Attribute) (around : Around) → Within (raw_numbers (element_content known which place attributes held around).raws) whole_of
    in_content tag.Span attributes around = span_in around attributes
    in_content tag.Spaces attributes around = leaf_in around.spans (What-F.Char 0x20) refl (stated_or key.Count (value.number 1 4294967295) 1 attributes)
    in_content tag.Tab attributes around = leaf_in around.spans What-F.Tab refl 1
    in_content tag.LineBreak attributes around = leaf_in around.spans What-F.Break refl 1
    in_content tag.Note attributes around = of_elems (λ some. raw_numbers (note_content known around place attributes some).raws) (note_in place (elems nodes) all around attributes)
    in_content tag.Bookmark attributes around = mark_in around Point attributes (elems held)
    in_content tag.BookmarkStart attributes around = mark_in around Start attributes (elems held)
    in_content tag.BookmarkEnd attributes around = mark_in around End attributes (elems held)
    in_content tag.Sequence attributes around = field_in around tag.Sequence attributes
    in_content tag.VariableSet attributes around = field_in around tag.VariableSet attributes
    in_content tag.VariableGet attributes around = field_in around tag.VariableGet attributes
    in_content tag.Chapter attributes around = field_in around tag.Chapter attributes
    in_content tag.PageNumber attributes around = field_in around tag.PageNumber attributes
    in_content tag.PageCount attributes around = field_in around tag.PageCount attributes
    in_content tag.BookmarkReference attributes around = field_in around tag.BookmarkReference attributes
    in_content tag.SequenceReference attributes around = field_in around tag.SequenceReference attributes
    in_content tag.NoteReference attributes around = field_in around tag.NoteReference attributes
    in_content tag.Document attributes around = tt
    in_content tag.CommonStyles attributes around = tt
    in_content tag.AutomaticStyles attributes around = tt
    in_content tag.MasterStyles attributes around = tt
    in_content tag.Body attributes around = tt
    in_content tag.Text attributes around = tt
    in_content tag.RubyText attributes around = tt
    in_content tag.Foreign attributes around = tt
    in_content _ attributes around = content_in around

    in_blocks : (which : Tag) (attributes : List Attribute) (lists : Lists) → Within (numbers_of (element_blocks known which place attributes held lists).blocks) whole_of
    in_blocks tag.Paragraph attributes lists = paragraph_in lists 0 (paragraph_rules known) attributes
    in_blocks tag.Heading attributes lists = paragraph_in lists (stated_or key.OutlineLevel value.heading_level 1 attributes) (heading_rules known) attributes
    in_blocks tag.List attributes lists = of_elems (λ some. numbers_of (list_blocks known lists attributes some).blocks) (list_in place (elems nodes) all attributes lists)
    in_blocks tag.Section attributes lists = of_elems (λ some. numbers_of (section_blocks known lists place attributes some).blocks) (section_in place (elems nodes) all attributes lists)
    in_blocks tag.Index attributes lists = of_elems (λ some. numbers_of (joined_blocks (map (λ one. one.blocks lists) some)).blocks) (blocks_in place (elems nodes) all lists)
    in_blocks _ attributes lists = tt

  -- one element
  of_parts : (element : Element) (told parts : List ℕ) → told ≡ parts → Within parts ((out-Element element).place ∷ inner (elems (out-Element element).nodes)) → Within told (places_in element)
  of_parts element told parts e h =
      within_is told parts (places_in element) e (within_all parts ((out-Element element).place ∷ inner (elems (out-Element element).nodes)) (places_in element) h (sym (places_out element)))

  element_told : (element : Element) → Each IsTold (elems (out-Element element).nodes) → IsTold element
  element_told element all =
      let x = out-Element element in
      let made = with_nodes known element (map (given known) x.nodes) in
      let same = gives_out known element in (
        λ around. of_parts element (raw_numbers ((given_of element).content around).raws) (raw_numbers (made.content around).raws) (ap (λ (one : Gives). raw_numbers (one.content around).raws) same) (in_content x.place x.nodes all x.tag x.attributes around),
        λ lists. of_parts element (numbers_of ((given_of element).blocks lists).blocks) (numbers_of (made.blocks lists).blocks) (ap (λ (one : Gives). numbers_of (one.blocks lists).blocks) same) (in_blocks x.place x.nodes all x.tag x.attributes lists),
        λ lists. of_parts element (numbers_of ((given_of element).entry lists).blocks) (numbers_of (made.entry lists).blocks) (ap (λ (one : Gives). numbers_of (one.entry lists).blocks) same)
            (of_elems x.place x.nodes all (λ some. numbers_of (entry_blocks x.tag x.attributes some lists).blocks) (entry_in x.place (elems x.nodes) all x.tag x.attributes lists)),
        λ lists. within_is (numbers_of ((given_of element).inside lists).blocks) (numbers_of (joined_blocks (map (λ (one : Gives). one.blocks lists) (map given_of (elems x.nodes)))).blocks) (inner (elems x.nodes))
            (ap (λ (one : Gives). numbers_of (one.inside lists).blocks) same ∙ ap (λ (some : List Gives). numbers_of (joined_blocks (map (λ (one : Gives). one.blocks lists) some)).blocks) (elems_given known x.nodes)) (blocks_told lists (elems x.nodes) all),
      )

  pub all_told : (element : Element) → IsTold element
  all_told = every_element IsTold element_told

-- the paragraphs of the body
abbrev outside : Lists
outside = record { level = 0; style = []; in_note = false }

abbrev blocks_of : Known → Option Element → List Block
blocks_of known text =
    or_empty (option_map_or (λ one. (out-Element one).place) text 0) (option_map_or (λ one. without_sources ((gives_of known one).inside outside)) text (no_blocks nothing)).blocks

abbrev text_numbers : Known → Element → List ℕ
text_numbers known text = numbers_of (or_empty (out-Element text).place ((gives_of known text).inside outside).blocks)

numbers_in_text : (known : Known) (text : Element) → Within (text_numbers known text) (places_in text)
numbers_in_text known text =
    within_all (text_numbers known text) ((out-Element text).place ∷ inner (elems (out-Element text).nodes)) (places_in text)
    (empty_within (out-Element text).place ((gives_of known text).inside outside).blocks (inner (elems (out-Element text).nodes)) ((all_told known text).3 outside)) (sym (places_out text))

less_apart : (x y : ℕ) → x < y → x ≢ y
less_apart x y l e = omega (arith, l, e)

apart_text : (known : Known) (text : Option Element) (places : List ℕ) → Within (option_map_or (text_numbers known) text []) places → AllPairs (λ place other. place < other) places
    → Pairs (λ number other. number ≢ other) (numbers_of (blocks_of known text))
apart_text known None places h rise = subst (Pairs (λ number other. number ≢ other)) (sym (layer_block_numbers (record { id = record { 0 = 0 }; style = []; level = 0; list = None; items = [] }))) (tt, tt)
apart_text known (Some text) places h rise =
    pairs_weaker (λ place other. place < other) (λ number other. number ≢ other) less_apart (text_numbers known text)
    (pairs_within (λ place other. place < other) (text_numbers known text) places h (pairs_of (λ place other. place < other) places rise))

pub numbers_apart : (root : Element) → IsInOrder root → AllPairs (λ number other. number ≢ other) (map number_of (paragraphs (draft_of root)))
numbers_apart root rise =
    all_pairs (λ number other. number ≢ other) (map number_of (paragraphs (draft_of root)))
    (subst (Pairs (λ number other. number ≢ other)) (sym (all_numbers (blocks_of (known_of root) (text_of root))))
    (apart_text (known_of root) (text_of root) (places_in root) (text_within (text_numbers (known_of root)) (numbers_in_text (known_of root)) root) rise))
