-- Content as it is kept.
use Rattle.std.proofs.Common.{◌≡◌, ℕ, ◌+◌, Bool, true, false, cond, List, [], ◌∷◌, ◌++◌, map, length, take, replicate, suc, zero, refl, sym, ap, ap₂, ◌∙◌, append_assoc, append-nil, arith, subst, Option, Some, None, Result, Ok, Err, IfOk}
use Rattle.std.proofs.lemmas.Bool.{false≢true}
use Rattle.std.proofs.lemmas.List.{map-append}
use Rattle.std.specs.List.{flat_map}
use Rattle.markup_nodes.specs.Node.{Node}
use Rattle.markup_nodes.specs.Nodes.{elems, leading, turns_of}
use Rattle.markup_nodes.specs.declared.nodes.Turn.{Turn}
use Rattle.doc_model.specs.Alike.{in_note}
use Rattle.doc_model.specs.declared.field.Field.{Field}
use Rattle.doc_model.specs.declared.paragraph.Item.{Item}
use Rattle.doc_model.specs.declared.paragraph.Mark.{Mark}
use Rattle.doc_model.specs.declared.paragraph.Mark.TheVariants.{Point, Start, End}
use Rattle.doc_model.specs.declared.paragraph.What.TheOpen.{What-F}
use Rattle.doc_model.specs.declared.paragraph.What.TheViews.{out-roll-What}
use Rattle.load_model.specs.declared.names.Tag.{Tag}
use Rattle.load_model.specs.declared.names.Tag.TheVariants as tag
use Rattle.load_model.specs.declared.element.Attribute.{Attribute}
use Rattle.load_model.specs.declared.element.Element.{Element, out-Element}
use Rattle.load_model.specs.Blocks.{Known, Around, Gives, ReadContent, element_content, content_with, leaf_items, mark_content, no_content, one_element, field_content, own_text}
use Rattle.load_model.specs.Content.{Raw, Blank, Read, item_in, raw_character, is_white, spaced}
use Rattle.load_model.specs.Fields.{field_of, field_rules, is_field}
use Rattle.load_model.specs.Left.{Left, both, nothing, all_of, tag_of}
use Rattle.load_model.specs.Met.{is_at, is_dropped}
use Rattle.load_model.specs.declared.names.Key.TheVariants as key
use Rattle.load_model.specs.Values as value
use Rattle.load_model.specs.Values.{Rule, rule, stated_or}
use Rattle.element_parts.specs.Shown.{shown}
use Rattle.element_parts.specs.declared.left.LeftOut.{LeftOut}
use Rattle.item_spaces.specs.declared.spacing.SpacedItems.{SpacedItems}
use Rattle.read_blocks.proofs.AddLemmas.{flat_behind, all_behind}
use Rattle.read_blocks.specs.Kept.{at_ten, kept_raw, kept_raws}
use Rattle.read_blocks.proofs.ItemLemmas.{char_stays}
use Rattle.content_read.specs.Adds.{Adds, Gains}
use Rattle.content_read.specs.Held.{content_at, content_in, held}
use Rattle.content_read.specs.Roles.{is_alone, IsBeside}
use Rattle.content_read.proofs.AddLemmas.{gains_then, gains_is, adds_is}
use Rattle.content_read.proofs.HeldLemmas.{content_out}
use Rattle.content_read.proofs.TurnLemmas.{run, turn_raws, turn_left, turns_content, by_turns}
use Rattle.text_read.specs.Walk.{kept_content}

pub kept_joined : (in_note : Bool) (xs ys : List Raw) → kept_raws in_note (xs ++ ys) ≡ kept_raws in_note xs ++ kept_raws in_note ys
kept_joined true xs ys = refl
kept_joined false xs ys = map-append kept_raw xs ys

-- characters stay as they are
char_kept : (spans : List (List ℕ)) (c : ℕ) → kept_raw (raw_character spans c) ≡ raw_character spans c
char_kept spans c = by_white (is_white c) where
  by_white : (b : Bool) → kept_raw (cond b (Blank spans) (Read (item_in spans (What-F.Char c)))) ≡ cond b (Blank spans) (Read (item_in spans (What-F.Char c)))
  by_white true = refl
  by_white false = ap Read (char_stays spans c)

run_stays : (spans : List (List ℕ)) (characters : List ℕ) → map kept_raw (map (raw_character spans) characters) ≡ map (raw_character spans) characters
run_stays spans [] = refl
run_stays spans (c ∷ cs) = ap₂ (λ (first : Raw) (more : List Raw). first ∷ more) (char_kept spans c) (run_stays spans cs)

pub run_kept : (in_note : Bool) (spans : List (List ℕ)) (characters : List ℕ) → kept_raws in_note (map (raw_character spans) characters) ≡ map (raw_character spans) characters
run_kept true spans characters = refl
run_kept false spans characters = run_stays spans characters

-- elements that are read by themselves stay as they are
abbrev Stays : ReadContent → Type 0
Stays content = map kept_raw content.raws ≡ content.raws

tab_stays : (spans : List (List ℕ)) → in_note at_ten (item_in spans What-F.Tab) ≡ item_in spans What-F.Tab
tab_stays spans = simp out-roll-What

break_stays : (spans : List (List ℕ)) → in_note at_ten (item_in spans What-F.Break) ≡ item_in spans What-F.Break
break_stays spans = simp out-roll-What

field_stays : (spans : List (List ℕ)) (field : Field) → in_note at_ten (item_in spans (What-F.Field field)) ≡ item_in spans (What-F.Field field)
field_stays spans field = simp out-roll-What

mark_stays : (spans : List (List ℕ)) (mark : Mark) → in_note at_ten (item_in spans (What-F.Mark mark)) ≡ item_in spans (What-F.Mark mark)
mark_stays spans mark = simp out-roll-What

spaces_stay : (spans : List (List ℕ)) (count : ℕ) → map kept_raw (map Read (replicate count (item_in spans (What-F.Char 0x20)))) ≡ map Read (replicate count (item_in spans (What-F.Char 0x20)))
spaces_stay spans zero = refl
spaces_stay spans (suc count) = ap₂ (λ (first : Item) (more : List Raw). Read first ∷ more) (char_stays spans 0x20) (spaces_stay spans count)

one_stays : (rules : List Rule) (attributes : List Attribute) (gives : List Gives) (item : Item) → in_note at_ten item ≡ item → Stays (leaf_items rules attributes gives (item ∷ []))
one_stays rules attributes gives item e = ap (λ (one : Item). Read one ∷ []) e

either_stays : (b : Bool) (one other : ReadContent) → Stays one → Stays other → Stays (cond b one other)
either_stays true one other e f = e
either_stays false one other e f = f

module _ (known : Known) (place : ℕ) (attributes : List Attribute) (nodes : List (Node Gives)) (around : Around) where
  marks_stay : (mark : List ℕ → Mark) → Stays (mark_content known around place mark attributes (elems nodes))
  marks_stay mark =
      let marked = mark (stated_or key.TextName value.name [] attributes) in
      let kept = leaf_items (rule key.TextName value.name ∷ []) attributes (elems nodes) (item_in around.spans (What-F.Mark marked) ∷ []) in
      either_stays (is_at known.kept.marks place) kept (no_content one_element) (one_stays (rule key.TextName value.name ∷ []) attributes (elems nodes) (item_in around.spans (What-F.Mark marked)) (mark_stays around.spans marked)) refl

  abbrev field_by : Tag → Option Field → ReadContent
  field_by which None = no_content one_element
  field_by which (Some field) = leaf_items (field_rules which (is_at known.kept.references place)) attributes (elems nodes) (item_in around.spans (What-F.Field field) ∷ [])

  found_stays : (which : Tag) (found : Option Field) → Stays (field_by which found)
  found_stays which None = refl
  found_stays which (Some field) = one_stays (field_rules which (is_at known.kept.references place)) attributes (elems nodes) (item_in around.spans (What-F.Field field)) (field_stays around.spans field)

  fields_stay : (which : Tag) → Stays (field_content known around which place attributes nodes)
  fields_stay which = found_stays which (field_of which (is_at known.kept.references place) (spaced (own_text nodes)) attributes)

  alone_stays : (which : Tag) → is_alone which ≡ true → Stays (element_content known which place attributes nodes around)
  alone_stays tag.Spaces h = spaces_stay around.spans _
  alone_stays tag.Tab h = one_stays [] attributes (elems nodes) (item_in around.spans What-F.Tab) (tab_stays around.spans)
  alone_stays tag.LineBreak h = one_stays [] attributes (elems nodes) (item_in around.spans What-F.Break) (break_stays around.spans)
  alone_stays tag.Bookmark h = marks_stay Point
  alone_stays tag.BookmarkStart h = marks_stay Start
  alone_stays tag.BookmarkEnd h = marks_stay End
  alone_stays tag.Sequence h = fields_stay tag.Sequence
  alone_stays tag.VariableSet h = fields_stay tag.VariableSet
  alone_stays tag.VariableGet h = fields_stay tag.VariableGet
  alone_stays tag.Chapter h = fields_stay tag.Chapter
  alone_stays tag.PageNumber h = fields_stay tag.PageNumber
  alone_stays tag.PageCount h = fields_stay tag.PageCount
  alone_stays tag.BookmarkReference h = fields_stay tag.BookmarkReference
  alone_stays tag.SequenceReference h = fields_stay tag.SequenceReference
  alone_stays tag.NoteReference h = fields_stay tag.NoteReference
  alone_stays tag.Document h = refl
  alone_stays tag.CommonStyles h = refl
  alone_stays tag.AutomaticStyles h = refl
  alone_stays tag.MasterStyles h = refl
  alone_stays tag.Body h = refl
  alone_stays tag.Text h = refl
  alone_stays tag.RubyText h = refl
  alone_stays tag.Foreign h = refl
  alone_stays _ h = absurd (cc)

pub alone_kept : (in_note : Bool) (known : Known) (element : Element) (around : Around) → is_alone (tag_of element) ≡ true → content_at known element around ≡ kept_content in_note (content_at known element around)
alone_kept true known element around h = refl
alone_kept false known element around h =
    let out = content_out known element around in
    let place = (out-Element element).place in
    let attributes = (out-Element element).attributes in
    let stays = alone_stays known place attributes (held known element) around (tag_of element) h in
    ap (λ (raws : List Raw). record (content_at known element around) { raws = raws }) (ap (λ (one : ReadContent). one.raws) out ∙ sym stays ∙ ap (λ (one : ReadContent). map kept_raw one.raws) (sym out))

-- one turn more
module _ (in_note : Bool) (known : Known) (around : Around) where
  abbrev kept_turns : List ℕ → List (Turn Element) → ReadContent
  kept_turns front turns = kept_content in_note (turns_content known around front turns)

  pub first_kept : (old new : SpacedItems) (left : LeftOut) (front : List ℕ) → Gains old new (run known around front) → left ≡ shown nothing → Adds old new left (kept_content in_note (turns_content known around front []))
  first_kept old new left front gains e = record {
    items = gains_is old new (run known around front) (kept_raws in_note (run known around front ++ [])) (sym (ap (kept_raws in_note) (append-nil (run known around front)) ∙ run_kept in_note around.spans front)) gains;
    left_is = e;
  }

  more_raws : (front : List ℕ) (turns : List (Turn Element)) (turn : Turn Element)
      → kept_raws in_note (turns_content known around front turns).raws ++ (kept_raws in_note (content_at known turn.elem around).raws ++ run known around turn.after) ≡ kept_raws in_note (turns_content known around front (turns ++ turn ∷ [])).raws
  more_raws front turns turn =
      let here = (content_at known turn.elem around).raws in
      ap (λ (after : List Raw). kept_raws in_note (turns_content known around front turns).raws ++ (kept_raws in_note here ++ after)) (sym (run_kept in_note around.spans turn.after))
      ∙ ap (λ (more : List Raw). kept_raws in_note (turns_content known around front turns).raws ++ more) (sym (kept_joined in_note here (run known around turn.after)))
      ∙ sym (kept_joined in_note (turns_content known around front turns).raws (turn_raws known around turn))
      ∙ ap (kept_raws in_note) (append_assoc (run known around front) (flat_map (turn_raws known around) turns) (turn_raws known around turn)
      ∙ ap (λ (more : List Raw). run known around front ++ more) (sym (flat_behind (turn_raws known around) turns turn)))

  pub turn_kept : (first middle behind last : SpacedItems) (left more total : LeftOut) (front : List ℕ) (turns : List (Turn Element)) (turn : Turn Element)
      → Adds first middle left (kept_content in_note (turns_content known around front turns)) → Adds middle behind more (kept_content in_note (content_at known turn.elem around)) → Gains behind last (run known around turn.after)
      → ((one two : Left) → left ≡ shown one → more ≡ shown two → total ≡ shown (both one two)) → Adds first last total (kept_content in_note (turns_content known around front (turns ++ turn ∷ [])))
  turn_kept first middle behind last left more total front turns turn before here after joined = record {
    items = gains_is first last _ _ (more_raws front turns turn)
        (gains_then first middle last (kept_raws in_note (turns_content known around front turns).raws) (kept_raws in_note (content_at known turn.elem around).raws ++ run known around turn.after) before.items
        (gains_then middle behind last (kept_raws in_note (content_at known turn.elem around).raws) (run known around turn.after) here.items after));
    left_is = joined _ _ before.left_is here.left_is ∙ ap shown (sym (all_behind (turn_left known around) turns turn));
  }

-- content with more that is left out beside it
pub beside_kept : (in_note : Bool) (old new : SpacedItems) (left more total : LeftOut) (inside content : ReadContent) → IsBeside left inside content → Adds old new more (kept_content in_note inside)
    → ((one two : Left) → left ≡ shown one → more ≡ shown two → total ≡ shown (both one two)) → Adds old new total (kept_content in_note content)
beside_kept in_note old new left more total inside content beside adds joined =
    adds_is old new total (kept_content in_note (content_with beside.more inside)) (kept_content in_note content) (ap (kept_content in_note) (sym beside.content_is)) (record {
      items = adds.items;
      left_is = joined beside.more inside.left beside.left_is adds.left_is;
    })
