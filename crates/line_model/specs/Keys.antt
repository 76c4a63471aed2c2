-- The keys of paragraphs, and when two are the same.
use Rattle.std.specs.Prelude.{ℕ, pos, ◌==◌, ◌&&◌, Bool, true, false, not, if◌then◌else◌, List, [], ◌∷◌}
use Rattle.std.specs.List.{flat_map}
use Rattle.std.specs.Str.{bytes_eq, encode_utf8_all}
use Rattle.std.specs.Ordering.{int_eq}
use Rattle.doc_model.specs.declared.style.Align.{Align}
use Rattle.doc_model.specs.declared.style.Align.TheVariants.{Start, Center, End}
use Rattle.doc_model.specs.declared.tabs.TabStop.{TabStop}
use Rattle.doc_model.specs.declared.paragraph.Par.{Par}
use Rattle.doc_model.specs.declared.paragraph.Item.{Item}
use Rattle.doc_model.specs.declared.paragraph.What.{What}
use Rattle.doc_model.specs.declared.paragraph.What.TheOpen.{What-F}
use Rattle.doc_model.specs.declared.paragraph.Note.{Note}
use Rattle.doc_model.specs.Parts.{items_of, what_of}
use Rattle.line_model.specs.declared.key.Key.{Key}

-- the text of a paragraph: its characters, with U+9 for a tab and U+A for a break, and nothing for other items
abbrev pub text_of : Par → List ℕ
text_of par = flat_map (λ item. of_what (what_of item)) (items_of par) where
  of_what : What-F What Item Note Par → List ℕ
  of_what (What-F.Char c) = c ∷ []
  of_what What-F.Tab = 0x9 ∷ []
  of_what What-F.Break = 0xa ∷ []
  of_what _ = []

-- the columns of a page of 8.5 by 11 inches with margins of 0.7874 inches, which stands where no layout is stated
abbrev pub unstated_columns : ℕ
unstated_columns = 69

-- the key of a paragraph that states nothing: its text, on a page that no layout is stated for
abbrev pub key_of : Par → Key
key_of par = record {
  hidden = false;
  text = encode_utf8_all (text_of par);
  notes = [];
  columns = unstated_columns;
  left = pos 0;
  right = pos 0;
  indent = pos 0;
  level = 0;
  align = Start;
  tabs = [];
}

-- whether two keys are the same, part by part
abbrev pub is_same_key : Key → Key → Bool
is_same_key key other =
    is_same_truth key.hidden other.hidden && bytes_eq key.text other.text && bytes_eq key.notes other.notes && key.columns == other.columns
    && int_eq key.left other.left && int_eq key.right other.right && int_eq key.indent other.indent && key.level == other.level
    && is_same_align key.align other.align && are_same_tabs key.tabs other.tabs where
      is_same_truth : Bool → Bool → Bool
      is_same_truth true truth = truth
      is_same_truth false truth = not truth

      is_same_align : Align → Align → Bool
      is_same_align Start Start = true
      is_same_align Center Center = true
      is_same_align End End = true
      is_same_align _ _ = false

      are_same_tabs : List TabStop → List TabStop → Bool
      are_same_tabs [] [] = true
      are_same_tabs (tab ∷ tabs) (other ∷ others) = tab.position == other.position && is_same_truth tab.right other.right && are_same_tabs tabs others
      are_same_tabs _ _ = false
