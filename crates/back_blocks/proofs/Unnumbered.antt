-- The numbers of paragraphs aren't written.
use Rattle.std.proofs.Common.{◌≡◌, ℕ, ◌+◌, ◌&&◌, zero, suc, not, Bool, true, false, cond, List, [], ◌∷◌, ◌++◌, map, codes, decimal, refl, sym, ap, ap₂, ◌∙◌, bytes_eq, Option, Some, None}
use Rattle.std.specs.Cmp.Lexicographic.{pointwise}
use Rattle.std.specs.List.{AllByRecursion as Each}
use Rattle.markup_nodes.specs.declared.tree.Elem.{Elem}
use Rattle.markup_nodes.specs.Node.{Node}
use Rattle.doc_model.specs.declared.block.Block.{Block}
use Rattle.doc_model.specs.declared.block.Block.TheOpen.{Section-F}
use Rattle.doc_model.specs.declared.block.Section.{Section}
use Rattle.doc_model.specs.declared.document.Document.{Document}
use Rattle.doc_model.specs.declared.paragraph.Item.{Item, out-Item, roll-Item}
use Rattle.doc_model.specs.declared.paragraph.ListPos.{ListPos}
use Rattle.doc_model.specs.declared.paragraph.Note.{Note, out-Note, roll-Note}
use Rattle.doc_model.specs.declared.paragraph.Par.{Par, out-Par, roll-Par}
use Rattle.doc_model.specs.declared.paragraph.What.{What, out-What}
use Rattle.doc_model.specs.declared.paragraph.What.TheOpen.{What-F, Par-F}
use Rattle.doc_model.specs.declared.paragraph.What.TheViews.{out-roll-What, out-roll-Note, out-roll-Par, roll-out-Item, roll-out-What}
use Rattle.doc_model.specs.Alike.{in_block, in_note, in_paragraph, unnumbered}
use Rattle.doc_model.specs.Parts.{is_mark, what_of}
use Rattle.block_facts.proofs.Blocks.{of_block, par_block, par_changes, section_block, section_changes}
use Rattle.load_model.specs.Content.{item_in}
use Rattle.spelling_model.specs.Spelling.{Piece, As, Spaces, Placed, behind_space, is_space, is_there, is_word, pieces_of, placed, stands_for_itself, without_marks}
use Rattle.written_model.specs.Blocks.{bare_paragraph, block_element, listed_paragraph, note_element, paragraph, source_element}
use Rattle.written_model.specs.Content.{Spanned, content, in_spans, span_depth, spanned, what_node}
use Rattle.written_model.specs.Elements.{attribute, element, empty_element, unless_empty, where_true}
use Rattle.written_model.specs.Values.{class_text}
use Rattle.written_model.specs.Written.{written}
use Rattle.back_blocks.proofs.Opened.{element_par, element_section}

-- the paragraph with the number 0, and an item with those of its note
abbrev bare_par : Par → Par
bare_par par = roll-Par (record (out-Par par) { id = record { 0 = 0 } })

abbrev bare : Item → Item
bare item = in_note bare_par item

-- a paragraph by its parts
abbrev bare_with : List ℕ → ℕ → List (Node Elem) → Node Elem
bare_with style zero nodes = element (codes "text:p") (unless_empty (codes "text:style-name") style) nodes
bare_with style (suc level) nodes = element (codes "text:h") (unless_empty (codes "text:style-name") style ++ attribute (codes "text:outline-level") (decimal (suc level)) ∷ []) nodes

abbrev par_with : List ℕ → ℕ → Option ListPos → List (Node Elem) → Node Elem
par_with style level None nodes = bare_with style level nodes
par_with style level (Some place) nodes = listed_paragraph place (bare_with style level nodes)

abbrev Layer : Type 0
Layer = Par-F What Item Note Par

bare_opens : (note_node : Note → Node Elem) (par : Par) → bare_paragraph note_node par ≡ bare_with (out-Par par).style (out-Par par).level (content note_node (out-Par par).items)
bare_opens note_node par = by_level (out-Par par).level refl where
  by_level : (level : ℕ) → (out-Par par).level ≡ level → bare_paragraph note_node par ≡ bare_with (out-Par par).style (out-Par par).level (content note_node (out-Par par).items)
  by_level zero e = rw e refl
  by_level (suc level) e = rw e refl

par_opens : (note_node : Note → Node Elem) (par : Par) → paragraph note_node par ≡ par_with (out-Par par).style (out-Par par).level (out-Par par).list (content note_node (out-Par par).items)
par_opens note_node par = by_list (out-Par par).list refl where
  by_list : (list : Option ListPos) → (out-Par par).list ≡ list → paragraph note_node par ≡ par_with (out-Par par).style (out-Par par).level (out-Par par).list (content note_node (out-Par par).items)
  by_list None e = rw e (bare_opens note_node par)
  by_list (Some place) e = rw e (ap (listed_paragraph place) (bare_opens note_node par))

-- in a note
par_same : (note_node : Note → Node Elem) (par : Par) → paragraph note_node (bare_par par) ≡ paragraph note_node par
par_same note_node par =
    par_opens note_node (bare_par par) ∙ ap (λ (x : Layer). par_with x.style x.level x.list (content note_node x.items)) (out-roll-Par (record (out-Par par) { id = record { 0 = 0 } })) ∙ sym (par_opens note_node par)

pars_same : (note_node : Note → Node Elem) (pars : List Par) → map (paragraph note_node) (map bare_par pars) ≡ map (paragraph note_node) pars
pars_same note_node [] = refl
pars_same note_node (par ∷ pars) = ap₂ (λ (one : Node Elem) (more : List (Node Elem)). one ∷ more) (par_same note_node par) (pars_same note_node pars)

note_same : (note : Note) → note_element (roll-Note (record (out-Note note) { pars = map bare_par (out-Note note).pars })) ≡ note_element note
note_same note =
    simp out-roll-Note
    (ap (λ (nodes : List (Node Elem)). element (codes "text:note") (unless_empty (codes "text:id") (out-Note note).id ++ attribute (codes "text:note-class") (class_text (out-Note note).class) ∷ [])
    (empty_element (codes "text:note-citation") [] ∷ element (codes "text:note-body") [] nodes ∷ [])) (pars_same (λ inner. empty_element (codes "text:note") []) (out-Note note).pars))

-- what an item is stays, but for its note
record IsSame (item : Item) : Type 0 where
  space : is_space (bare item) ≡ is_space item
  mark : is_mark (bare item) ≡ is_mark item
  node : what_node note_element (what_of (bare item)) ≡ what_node note_element (what_of item)

same_kind : (spans : List (List ℕ)) (what : What-F What Item Note Par) → IsSame (item_in spans what)
same_kind spans (What-F.Char c) = record { space = simp out-roll-What; mark = simp out-roll-What; node = simp out-roll-What }
same_kind spans What-F.Tab = record { space = simp out-roll-What; mark = simp out-roll-What; node = simp out-roll-What }
same_kind spans What-F.Break = record { space = simp out-roll-What; mark = simp out-roll-What; node = simp out-roll-What }
same_kind spans (What-F.Field field) = record { space = simp out-roll-What; mark = simp out-roll-What; node = simp out-roll-What }
same_kind spans (What-F.Note note) = record { space = simp out-roll-What; mark = simp out-roll-What; node = simp out-roll-What (note_same note) }
same_kind spans (What-F.Mark mark) = record { space = simp out-roll-What; mark = simp out-roll-What; node = simp out-roll-What }

item_is : (item : Item) → item_in (out-Item item).spans (out-What (out-Item item).what) ≡ item
item_is item = ap (λ (what : What). roll-Item (record (out-Item item) { what = what })) (roll-out-What (out-Item item).what) ∙ roll-out-Item item

same : (item : Item) → IsSame item
same item =
    let own = same_kind (out-Item item).spans (out-What (out-Item item).what) in
    record {
      space = ap (λ (one : Item). is_space (bare one)) (sym (item_is item)) ∙ own.space ∙ ap is_space (item_is item);
      mark = ap (λ (one : Item). is_mark (bare one)) (sym (item_is item)) ∙ own.mark ∙ ap is_mark (item_is item);
      node = ap (λ (one : Item). what_node note_element (what_of (bare one))) (sym (item_is item)) ∙ own.node ∙ ap (λ (one : Item). what_node note_element (what_of one)) (item_is item);
    }

-- the items round a place
marks_same : (items : List Item) → without_marks (map bare items) ≡ map bare (without_marks items)
marks_same [] = refl
marks_same (item ∷ items) =
    ap₂ (λ (mark : Bool) (more : List Item). cond (not mark) (bare item ∷ more) more) (same item).mark (marks_same items) ∙ by_mark (is_mark item) where
      by_mark : (mark : Bool) → cond (not mark) (bare item ∷ map bare (without_marks items)) (map bare (without_marks items)) ≡ map bare (cond (not mark) (item ∷ without_marks items) (without_marks items))
      by_mark true = refl
      by_mark false = refl

word_same : (items : List Item) → is_word (map bare items) ≡ is_word items
word_same [] = refl
word_same (item ∷ items) = ap not (same item).space

there_same : (items : List Item) → is_there (map bare items) ≡ is_there items
there_same [] = refl
there_same (item ∷ items) = refl

abbrev place_of : List Item → Item → List Item → Placed
place_of before item after = record { before = before; item = item; after = after }

stands_same : (before : List Item) (item : Item) (after : List Item) → stands_for_itself (place_of (map bare before) (bare item) (map bare after)) ≡ stands_for_itself (place_of before item after)
stands_same before item after =
    ap₂ (λ (word there : Bool). word && there) (ap is_word (marks_same before) ∙ word_same (without_marks before)) (ap is_there (marks_same after) ∙ there_same (without_marks after))

-- the pieces
abbrev bare_piece : Piece → Piece
bare_piece (As item) = As (bare item)
bare_piece (Spaces spans count) = Spaces spans count

space_same : (spans : List (List ℕ)) (pieces : List Piece) → behind_space spans (map bare_piece pieces) ≡ map bare_piece (behind_space spans pieces)
space_same spans [] = refl
space_same spans (As item ∷ pieces) = refl
space_same spans (Spaces others count ∷ pieces) = by_test (pointwise bytes_eq spans others) where
  by_test : (b : Bool) → cond b (Spaces spans (count + 1) ∷ map bare_piece pieces) (Spaces spans 1 ∷ Spaces others count ∷ map bare_piece pieces)
      ≡ map bare_piece (cond b (Spaces spans (count + 1) ∷ pieces) (Spaces spans 1 ∷ Spaces others count ∷ pieces))
  by_test true = refl
  by_test false = refl

pieces_same : (before items : List Item) → pieces_of (placed (map bare before) (map bare items)) ≡ map bare_piece (pieces_of (placed before items))
pieces_same before [] = refl
pieces_same before (item ∷ after) =
    ap₂ (λ (space stands : Bool). by_need (space && not stands) (pieces_of (placed (map bare (item ∷ before)) (map bare after)))) (same item).space (stands_same before item after)
    ∙ ap (by_need (is_space item && not (stands_for_itself (place_of before item after)))) (pieces_same (item ∷ before) after)
    ∙ last (is_space item && not (stands_for_itself (place_of before item after))) (pieces_of (placed (item ∷ before) after)) where
      by_need : Bool → List Piece → List Piece
      by_need need more = cond need (behind_space (out-Item item).spans more) (As (bare item) ∷ more)

      last : (need : Bool) (more : List Piece) → by_need need (map bare_piece more) ≡ map bare_piece (cond need (behind_space (out-Item item).spans more) (As item ∷ more))
      last true more = space_same (out-Item item).spans more
      last false more = refl

spanned_same : (pieces : List Piece) → map (spanned note_element) (map bare_piece pieces) ≡ map (spanned note_element) pieces
spanned_same [] = refl
spanned_same (As item ∷ pieces) = ap₂ (λ (node : Node Elem) (more : List Spanned). record { spans = (out-Item item).spans; node = node } ∷ more) (same item).node (spanned_same pieces)
spanned_same (Spaces spans count ∷ pieces) = ap (λ (more : List Spanned). spanned note_element (Spaces spans count) ∷ more) (spanned_same pieces)

content_same : (items : List Item) → content note_element (map bare items) ≡ content note_element items
content_same items = ap (λ (nodes : List Spanned). in_spans (span_depth nodes) nodes) (ap (map (spanned note_element)) (pieces_same [] items) ∙ spanned_same (pieces_of (placed [] items)))

-- paragraphs and blocks
whole_par_same : (par : Par) → paragraph note_element (in_paragraph bare_par par) ≡ paragraph note_element par
whole_par_same par =
    par_opens note_element (in_paragraph bare_par par)
    ∙ ap (λ (x : Layer). par_with x.style x.level x.list (content note_element x.items)) (out-roll-Par (record (out-Par (bare_par par)) { items = map bare (out-Par (bare_par par)).items }))
    ∙ ap (λ (x : Layer). par_with x.style x.level x.list (content note_element (map bare x.items))) (out-roll-Par (record (out-Par par) { id = record { 0 = 0 } }))
    ∙ ap (par_with (out-Par par).style (out-Par par).level (out-Par par).list) (content_same (out-Par par).items) ∙ sym (par_opens note_element par)

abbrev Stays : Block → Type 0
Stays block = block_element (in_block bare_par block) ≡ block_element block

par_stays : (par : Par) → Stays (par_block par)
par_stays par = ap block_element (par_changes bare_par par) ∙ element_par (in_paragraph bare_par par) ∙ whole_par_same par ∙ sym (element_par par)

list_stays : (blocks : List Block) → Each Stays blocks → map block_element (map (in_block bare_par) blocks) ≡ map block_element blocks
list_stays [] each = refl
list_stays (block ∷ blocks) each = ap₂ (λ (one : Node Elem) (more : List (Node Elem)). one ∷ more) each.0 (list_stays blocks each.1)

section_stays : (x : Section-F Block Section) → Each Stays x.blocks → Stays (section_block x)
section_stays x each =
    ap block_element (section_changes bare_par x) ∙ element_section (record x { blocks = map (in_block bare_par) x.blocks })
    ∙ ap (λ (nodes : List (Node Elem)). element (codes "text:section")
    (unless_empty (codes "text:style-name") x.style ++ unless_empty (codes "text:name") x.name ++ where_true (codes "text:protected") (codes "true") x.protected ++ where_true (codes "text:display") (codes "none") x.hidden)
    (source_element x.source ++ nodes)) (list_stays x.blocks each)
    ∙ sym (element_section x)

each_stays : (blocks : List Block) → Each Stays blocks
each_stays [] = tt
each_stays (block ∷ blocks) = (of_block Stays par_stays section_stays block, each_stays blocks)

pub numbers_unwritten : (doc : Document) → written (unnumbered doc) ≡ written doc
numbers_unwritten doc = rw (list_stays doc.body (each_stays doc.body)) refl
