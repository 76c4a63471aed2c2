-- What items are is read back.
use Rattle.std.proofs.Common.{◌≡◌, ℕ, ◌≤◌, zero, suc, Bool, List, [], ◌∷◌, map, replicate, codes, decimal, refl, ap, ap₂, ◌∙◌, arith, Option, is_some}
use Rattle.std.specs.Option.{option_map_or}
use Rattle.markup_nodes.specs.declared.tree.Elem.{Elem}
use Rattle.markup_nodes.specs.Node.{Node}
use Rattle.doc_model.specs.declared.paragraph.Item.{Item, out-Item}
use Rattle.doc_model.specs.declared.paragraph.Mark.{Mark}
use Rattle.doc_model.specs.declared.paragraph.Mark.TheVariants.{Point, Start, End}
use Rattle.doc_model.specs.declared.paragraph.Note.{Note}
use Rattle.doc_model.specs.declared.paragraph.Par.{Par}
use Rattle.doc_model.specs.declared.paragraph.What.{What}
use Rattle.doc_model.specs.declared.paragraph.What.TheOpen.{What-F}
use Rattle.doc_model.specs.Parts.{what_of, mark_name}
use Rattle.load_model.specs.declared.names.Key.TheVariants as key
use Rattle.load_model.specs.declared.names.Tag.TheVariants as tag
use Rattle.load_model.specs.Blocks.{Around, ReadContent, mark_content, node_content, spaces_content}
use Rattle.load_model.specs.Content.{Raw, Read, item_in, raw_character}
use Rattle.load_model.specs.Left.{Left, both, nothing}
use Rattle.load_model.specs.Styles.{Names}
use Rattle.load_model.specs.Values as value
use Rattle.load_model.specs.Values.{rule}
use Rattle.written_model.specs.Content.{mark_element, spaces_element, what_node}
use Rattle.written_model.specs.Elements.{attribute}
use Rattle.back_fields.specs.Fit.{IsName}
use Rattle.back_fields.specs.Given.{all_kept, given, whole}
use Rattle.back_fields.proofs.Attributes.{at, named_first, left_first}
use Rattle.back_fields.proofs.Fields.{element_read, field_back}
use Rattle.back_fields.proofs.Keys as field_name
use Rattle.back_spaces.specs.Raws.{raw_of}
use Rattle.back_spaces.proofs.RawLemmas.{whole as whole_item}
use Rattle.back_values.proofs.Numbers.{number_back}
use Rattle.back_values.proofs.Texts.{name_back}
use Rattle.back_items.specs.Items.{IsRead}
use Rattle.back_items.proofs.Keys as named

module _ (names : Names) (around : Around) where
  -- a mark that is kept
  mark_read : (mark : List ℕ → Mark) (name : List ℕ) → IsName name → mark_content (all_kept names) around 0 mark (at key.TextName name ∷ []) [] ≡ whole (Read (item_in around.spans (What-F.Mark (mark name))) ∷ [])
  mark_read mark name is =
      ap₂ (λ (found : Option (List ℕ)) (left : Left). read_with found left) (name_back name is.0 is.1) (left_first (rule key.TextName value.name ∷ []) (at key.TextName name) [] (ap is_some (name_back name is.0 is.1)) refl) where
        read_with : Option (List ℕ) → Left → ReadContent
        read_with found left = record { raws = Read (item_in around.spans (What-F.Mark (mark (option_map_or (λ value. value) found [])))) ∷ []; left = both left nothing }

  mark_back : (mark : Mark) → IsName (mark_name mark) → node_content around (given names (mark_element mark)) ≡ whole (Read (item_in around.spans (What-F.Mark mark)) ∷ [])
  mark_back (Point name) is =
      element_read names around (codes "text:bookmark") (attribute (codes "text:name") name ∷ []) [] tag.Bookmark (at key.TextName name ∷ []) named.bookmark_tag (named_first (codes "text:name") name key.TextName [] [] field_name.name_key refl) ∙ mark_read Point name is
  mark_back (Start name) is =
      element_read names around (codes "text:bookmark-start") (attribute (codes "text:name") name ∷ []) [] tag.BookmarkStart (at key.TextName name ∷ []) named.bookmark_start_tag (named_first (codes "text:name") name key.TextName [] [] field_name.name_key refl)
      ∙ mark_read Start name is
  mark_back (End name) is =
      element_read names around (codes "text:bookmark-end") (attribute (codes "text:name") name ∷ []) [] tag.BookmarkEnd (at key.TextName name ∷ []) named.bookmark_end_tag (named_first (codes "text:name") name key.TextName [] [] field_name.name_key refl)
      ∙ mark_read End name is

  -- spaces
  abbrev space : Item
  space = item_in around.spans (What-F.Char 0x20)

  all_read : (count : ℕ) → map Read (replicate count space) ≡ replicate count (Read space)
  all_read zero = refl
  all_read (suc count) = ap (λ (more : List Raw). Read space ∷ more) (all_read count)

  counted_read : (count : ℕ) → 1 ≤ count → count ≤ 4294967295 → spaces_content around (at key.Count (decimal count) ∷ []) [] ≡ whole (replicate count (Read space))
  counted_read count low high =
      ap₂ (λ (found : Option ℕ) (left : Left). read_with found left) (number_back 1 4294967295 count low high (omega arith))
      (left_first (rule key.Count (value.number 1 4294967295) ∷ []) (at key.Count (decimal count)) [] (ap is_some (number_back 1 4294967295 count low high (omega arith))) refl)
      ∙ ap whole (all_read count) where
        read_with : Option ℕ → Left → ReadContent
        read_with found left = record { raws = map Read (replicate (option_map_or (λ value. value) found 1) space); left = both left nothing }

  pub spaces_back : (count : ℕ) → 1 ≤ count → count ≤ 4294967295 → node_content around (given names (spaces_element count)) ≡ whole (replicate count (Read space))
  spaces_back zero low high = absurd (omega arith)
  spaces_back (suc zero) low high = element_read names around (codes "text:s") [] [] tag.Spaces [] named.spaces_tag refl
  spaces_back (suc (suc more)) low high =
      element_read names around (codes "text:s") (attribute (codes "text:c") (decimal (suc (suc more))) ∷ []) [] tag.Spaces (at key.Count (decimal (suc (suc more))) ∷ []) named.spaces_tag
      (named_first (codes "text:c") (decimal (suc (suc more))) key.Count [] [] named.count_key refl)
      ∙ counted_read (suc (suc more)) low high

-- what an item is read as, by what it is
abbrev raw_what : List (List ℕ) → What-F What Item Note Par → Raw
raw_what spans (What-F.Char c) = raw_character spans c
raw_what spans what = Read (item_in spans what)

raw_is : (item : Item) → raw_what (out-Item item).spans (what_of item) ≡ raw_of item
raw_is item = by_what (what_of item) refl where
  by_what : (what : What-F What Item Note Par) → what_of item ≡ what → raw_what (out-Item item).spans (what_of item) ≡ raw_of item
  by_what (What-F.Char c) e = rw e refl
  by_what What-F.Tab e = rw e (ap Read (whole_item item What-F.Tab e))
  by_what What-F.Break e = rw e (ap Read (whole_item item What-F.Break e))
  by_what (What-F.Field field) e = rw e (ap Read (whole_item item (What-F.Field field) e))
  by_what (What-F.Note note) e = rw e (ap Read (whole_item item (What-F.Note note) e))
  by_what (What-F.Mark mark) e = rw e (ap Read (whole_item item (What-F.Mark mark) e))

module _ (names : Names) (in_note : Bool) (note_node : Note → Node Elem) where
  what_read : (spans : List (List ℕ)) (what : What-F What Item Note Par) → IsRead names in_note note_node spans what
      → node_content (record { spans = spans; in_note = in_note }) (given names (what_node note_node what)) ≡ whole (raw_what spans what ∷ [])
  what_read spans (What-F.Char c) is = refl
  what_read spans What-F.Tab is = element_read names (record { spans = spans; in_note = in_note }) (codes "text:tab") [] [] tag.Tab [] named.tab_tag refl
  what_read spans What-F.Break is = element_read names (record { spans = spans; in_note = in_note }) (codes "text:line-break") [] [] tag.LineBreak [] named.break_tag refl
  what_read spans (What-F.Field field) is = field_back names (record { spans = spans; in_note = in_note }) field is
  what_read spans (What-F.Note note) is = is
  what_read spans (What-F.Mark mark) is = mark_back names (record { spans = spans; in_note = in_note }) mark is

  pub item_read : (item : Item) → IsRead names in_note note_node (out-Item item).spans (what_of item)
      → node_content (record { spans = (out-Item item).spans; in_note = in_note }) (given names (what_node note_node (what_of item))) ≡ whole (raw_of item ∷ [])
  item_read item is = what_read (out-Item item).spans (what_of item) is ∙ ap (λ (raw : Raw). whole (raw ∷ [])) (raw_is item)
