-- The values of attributes, and how many attributes of an element are left out.
use Rattle.std.specs.Prelude.{ℕ, ℤ, pos, neg_ℤ, ◌+◌, ◌==◌, nat_le, ◌&&◌, ◌||◌, not, Bool, true, false, if◌then◌else◌, List, [], ◌∷◌, map, filter, find, take_while, drop, length, codes, Option, Some, None, option_map, is_some}
use Rattle.std.specs.Option.{option_and_then, option_map_or}
use Rattle.std.specs.List.{list_all}
use Rattle.std.specs.Str.{bytes_eq}
use Rattle.std.specs.Str.Parse.{digits_value}
use Rattle.doc_model.specs.declared.style.Family.{Family}
use Rattle.doc_model.specs.declared.style.Family.TheVariants as family
use Rattle.doc_model.specs.declared.style.Align.{Align}
use Rattle.doc_model.specs.declared.style.Align.TheVariants as align
use Rattle.doc_model.specs.declared.style.BreakAt.{BreakAt}
use Rattle.doc_model.specs.declared.style.BreakAt.TheVariants as break
use Rattle.doc_model.specs.declared.style.PageStart.{PageStart}
use Rattle.doc_model.specs.declared.style.PageStart.TheVariants as start
use Rattle.doc_model.specs.declared.field.Format.{Format}
use Rattle.doc_model.specs.declared.field.Format.TheVariants as format
use Rattle.doc_model.specs.declared.field.ChapterShow.{ChapterShow}
use Rattle.doc_model.specs.declared.field.ChapterShow.TheVariants as chapter
use Rattle.doc_model.specs.declared.field.Select.{Select}
use Rattle.doc_model.specs.declared.field.Select.TheVariants as page
use Rattle.doc_model.specs.declared.field.RefForm.{RefForm}
use Rattle.doc_model.specs.declared.field.RefForm.TheVariants as reference
use Rattle.doc_model.specs.declared.field.SeqForm.{SeqForm}
use Rattle.doc_model.specs.declared.field.SeqForm.TheVariants as sequence
use Rattle.doc_model.specs.declared.field.NoteClass.{NoteClass}
use Rattle.doc_model.specs.declared.field.NoteClass.TheVariants as class
use Rattle.style_model.specs.Lengths.{Measure, Inch, Centimeter, Millimeter, Point, Pica, LengthText, measure_text, fraction_digits, size_of, signed}
use Rattle.load_model.specs.declared.names.Key.{Key}
use Rattle.load_model.specs.declared.names.Key.TheVariants as key
use Rattle.load_model.specs.declared.element.Attribute.{Attribute}

-- a value by a table of the texts that stand for one
abbrev pub by_table : {X : Type 0} → List (List ℕ × X) → List ℕ → Option X
by_table table text = option_map (λ row. row.1) (find (λ row. bytes_eq row.0 text) table)

-- whether a character is a decimal digit
abbrev pub is_digit : ℕ → Bool
is_digit c = nat_le 0x30 c && nat_le c 0x39

-- whether a text is a number: decimal digits, at least one
abbrev pub is_number : List ℕ → Bool
is_number text = not (bytes_eq text []) && list_all is_digit text

-- a number in a range, written in decimal digits
abbrev pub number : ℕ → ℕ → List ℕ → Option ℕ
number least greatest text = if is_number text && nat_le least (digits_value 10 text) && nat_le (digits_value 10 text) greatest then Some (digits_value 10 text) else None

-- what stands behind a minus sign, if a text begins with one
abbrev pub behind_minus : List ℕ → Option (List ℕ)
behind_minus [] = None
behind_minus (c ∷ cs) = if c == 0x2d then Some cs else None

-- a number of pages to add: from -9999 to 9999
abbrev pub page_adjust : List ℕ → Option ℤ
page_adjust text = of_minus (behind_minus text) where
  of_minus : Option (List ℕ) → Option ℤ
  of_minus None = option_map pos (number 0 9999 text)
  of_minus (Some digits) = option_map (λ size. neg_ℤ (pos size)) (number 0 9999 digits)

-- truth values
abbrev pub truth : List ℕ → Option Bool
truth = by_table ((codes "true", true) ∷ (codes "false", false) ∷ [])

-- a name: any text of at most 1024 characters but the empty one
abbrev pub name : List ℕ → Option (List ℕ)
name text = if bytes_eq text [] || not (nat_le (length text) 1024) then None else Some text

-- a name that may be empty
abbrev pub name_or_none : List ℕ → Option (List ℕ)
name_or_none text = if nat_le (length text) 1024 then Some text else None

-- any text
abbrev pub any_text : List ℕ → Option (List ℕ)
any_text text = Some text

-- one character
abbrev pub one_character : List ℕ → Option ℕ
one_character (c ∷ []) = Some c
one_character _ = None

abbrev pub family_of_text : List ℕ → Option Family
family_of_text = by_table ((codes "paragraph", family.Paragraph) ∷ (codes "text", family.Text) ∷ (codes "section", family.Section) ∷ [])

abbrev pub alignment : List ℕ → Option Align
alignment = by_table ((codes "start", align.Start) ∷ (codes "left", align.Start) ∷ (codes "justify", align.Start) ∷ (codes "end", align.End) ∷ (codes "right", align.End) ∷ (codes "center", align.Center) ∷ [])

abbrev pub break_at : List ℕ → Option BreakAt
break_at = by_table ((codes "auto", break.Auto) ∷ (codes "column", break.Column) ∷ (codes "page", break.Page) ∷ [])

-- whether a paragraph is kept together, or with the next one
abbrev pub keep : List ℕ → Option Bool
keep = by_table ((codes "auto", false) ∷ (codes "always", true) ∷ [])

-- how many lines stand together at a page's end
abbrev pub line_count : List ℕ → Option ℕ
line_count = number 0 255

abbrev pub page_start : List ℕ → Option PageStart
page_start text = if bytes_eq text (codes "auto") then Some start.Auto else option_map start.At (number 0 65535 text)

-- whether text is shown
abbrev pub display : List ℕ → Option Bool
display = by_table ((codes "true", true) ∷ (codes "condition", true) ∷ (codes "none", false) ∷ [])

abbrev pub number_format : List ℕ → Option Format
number_format = by_table ((codes "1", format.Digits) ∷ (codes "a", format.LowerLetter) ∷ (codes "A", format.UpperLetter) ∷ (codes "i", format.LowerRoman) ∷ (codes "I", format.UpperRoman) ∷ ([], format.Empty) ∷ [])

-- what a chapter field shows
abbrev pub chapter_display : List ℕ → Option ChapterShow
chapter_display = by_table ((codes "name", chapter.Name) ∷ (codes "number", chapter.Number) ∷ (codes "plain-number", chapter.PlainNumber) ∷ (codes "number-and-name", chapter.NumberAndName) ∷ (codes "plain-number-and-name", chapter.PlainNumberAndName) ∷ [])

abbrev pub page_select : List ℕ → Option Select
page_select = by_table ((codes "previous", page.Previous) ∷ (codes "current", page.Current) ∷ (codes "next", page.Next) ∷ [])

abbrev pub reference_form : List ℕ → Option RefForm
reference_form = by_table ((codes "text", reference.Text) ∷ (codes "page", reference.Page) ∷ (codes "chapter", reference.Chapter) ∷ (codes "direction", reference.Direction) ∷ [])

abbrev pub sequence_form : List ℕ → Option SeqForm
sequence_form = by_table ((codes "text", sequence.Text) ∷ (codes "page", sequence.Page) ∷ (codes "chapter", sequence.Chapter) ∷ (codes "direction", sequence.Direction) ∷ (codes "value", sequence.Value) ∷ (codes "category-and-value", sequence.CategoryAndValue) ∷ (codes "caption", sequence.Caption) ∷ [])

abbrev pub note_class : List ℕ → Option NoteClass
note_class = by_table ((codes "footnote", class.Footnote) ∷ (codes "endnote", class.Endnote) ∷ [])

-- the level of a list or a heading: 1 to 10
abbrev pub level : List ℕ → Option ℕ
level = number 1 10

-- the level of a heading: a number from 1 up, of which those above 10 are read as 10
abbrev pub heading_level : List ℕ → Option ℕ
heading_level text = if is_number text && nat_le 1 (digits_value 10 text) then Some (if nat_le (digits_value 10 text) 10 then digits_value 10 text else 10) else None

-- what a length is measured in, by the text behind its digits
abbrev pub measure : List ℕ → Option Measure
measure = by_table (map (λ one. (measure_text one, one)) (Inch ∷ Centimeter ∷ Millimeter ∷ Point ∷ Pica ∷ []))

-- the digits behind a point, if a text begins with one
abbrev pub fraction : List ℕ → Option (List ℕ)
fraction [] = None
fraction (c ∷ cs) = if c == 0x2e then Some (take_while is_digit cs) else None

-- what stands behind the point and its digits
abbrev pub behind_fraction : List ℕ → List ℕ
behind_fraction text = of_point (fraction text) where
  of_point : Option (List ℕ) → List ℕ
  of_point None = text
  of_point (Some digits) = drop (length digits + 1) text

-- a text without a sign as a length: digits, perhaps a point with digits, and a measure
abbrev pub unsigned_length : Bool → List ℕ → Option LengthText
unsigned_length below_zero text = of_rest (drop (length (take_while is_digit text)) text) where
  of_rest : List ℕ → Option LengthText
  of_rest rest = option_map (λ one. record { below_zero = below_zero; whole = take_while is_digit text; fraction = fraction rest; measure = one }) (measure (behind_fraction rest))

-- a text as a length, whatever digits it has
abbrev pub any_length : List ℕ → Option LengthText
any_length text = of_minus (behind_minus text) where
  of_minus : Option (List ℕ) → Option LengthText
  of_minus None = unsigned_length false text
  of_minus (Some rest) = unsigned_length true rest

-- whether a length has at most nine digits before its point and nine behind it, and at least one in all
abbrev pub has_few_digits : LengthText → Bool
has_few_digits given = nat_le (length given.whole) 9 && nat_le (length (fraction_digits given.fraction)) 9 && nat_le 1 (length given.whole + length (fraction_digits given.fraction))

-- a length in units: its size is at most 100000000
abbrev pub length_value : List ℕ → Option ℤ
length_value text = option_and_then (λ given. if has_few_digits given && nat_le (size_of given) 100000000 then Some (signed given.below_zero (size_of given)) else None) (any_length text)

-- whether two keys are the same
abbrev pub is_same_key : Key → Key → Bool
is_same_key one other = number_of one == number_of other where
  number_of : Key → ℕ
  number_of key.Uncounted = 0
  number_of key.Mimetype = 1
  number_of key.Global = 2
  number_of key.Name = 3
  number_of key.Family = 4
  number_of key.Parent = 5
  number_of key.Next = 6
  number_of key.Master = 7
  number_of key.DefaultOutlineLevel = 8
  number_of key.Margin = 9
  number_of key.MarginLeft = 10
  number_of key.MarginRight = 11
  number_of key.MarginTop = 12
  number_of key.MarginBottom = 13
  number_of key.Indent = 14
  number_of key.Align = 15
  number_of key.BreakBefore = 16
  number_of key.BreakAfter = 17
  number_of key.KeepNext = 18
  number_of key.KeepTogether = 19
  number_of key.Widows = 20
  number_of key.Orphans = 21
  number_of key.PageNumber = 22
  number_of key.Display = 23
  number_of key.PageWidth = 24
  number_of key.PageHeight = 25
  number_of key.Layout = 26
  number_of key.Level = 27
  number_of key.NumberFormat = 28
  number_of key.NumberPrefix = 29
  number_of key.NumberSuffix = 30
  number_of key.StartValue = 31
  number_of key.DisplayLevels = 32
  number_of key.BulletChar = 33
  number_of key.TextName = 34
  number_of key.StyleName = 35
  number_of key.OutlineLevel = 36
  number_of key.Protected = 37
  number_of key.Href = 38
  number_of key.SectionName = 39
  number_of key.Id = 40
  number_of key.NoteClass = 41
  number_of key.ReferenceName = 42
  number_of key.ReferenceFormat = 43
  number_of key.Count = 44
  number_of key.ContinueNumbering = 45
  number_of key.SelectPage = 46
  number_of key.PageAdjust = 47
  number_of key.Other = 48

-- the value of an attribute, if it is there
abbrev pub value_of : Key → List Attribute → Option (List ℕ)
value_of wanted attributes = option_map (λ attribute. attribute.text) (find (λ attribute. is_same_key attribute.key wanted) attributes)

-- what an attribute states: nothing where it is absent or has a bad value
abbrev pub stated : {X : Type 0} → Key → (List ℕ → Option X) → List Attribute → Option X
stated wanted read attributes = option_and_then read (value_of wanted attributes)

-- what an attribute states, or what holds where it states nothing
abbrev pub stated_or : {X : Type 0} → Key → (List ℕ → Option X) → X → List Attribute → X
stated_or wanted read otherwise attributes = option_map_or (λ value. value) (stated wanted read attributes) otherwise

-- an attribute that has a rule, with the values that are good
pub record Rule : Type 0 where
  pub key : Key
  pub is_good : List ℕ → Bool

-- a rule by how its value is read
abbrev pub rule : {X : Type 0} → Key → (List ℕ → Option X) → Rule
rule key read = record { key = key; is_good = λ text. is_some (read text) }

-- whether an attribute is read by some rules
abbrev pub is_read : List Rule → Attribute → Bool
is_read rules attribute = option_map_or (λ rule. rule.is_good attribute.text) (find (λ rule. is_same_key rule.key attribute.key) rules) false

-- how many attributes are left out and counted: those that no rule reads, but for the ones that are never counted
abbrev pub attributes_left : List Rule → List Attribute → ℕ
attributes_left rules attributes = length (filter (λ attribute. not (is_read rules attribute) && not (is_same_key attribute.key key.Uncounted)) attributes)
