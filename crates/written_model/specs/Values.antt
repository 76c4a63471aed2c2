-- Values of attributes, each by the first of its spellings.
use Rattle.std.specs.Prelude.{ℕ, ℤ, pos, negsuc, ◌+◌, Bool, true, false, List, [], ◌++◌, codes, decimal}
use Rattle.doc_model.specs.declared.style.Family.{Family}
use Rattle.doc_model.specs.declared.style.Family.TheVariants as family
use Rattle.doc_model.specs.declared.style.Align.{Align}
use Rattle.doc_model.specs.declared.style.Align.TheVariants as align
use Rattle.doc_model.specs.declared.style.BreakAt.{BreakAt}
use Rattle.doc_model.specs.declared.style.BreakAt.TheVariants as break
use Rattle.doc_model.specs.declared.style.PageStart.{PageStart}
use Rattle.doc_model.specs.declared.style.PageStart.TheVariants as start
use Rattle.doc_model.specs.declared.field.Format.{Format}
use Rattle.doc_model.specs.declared.field.Format.TheVariants as format
use Rattle.doc_model.specs.declared.field.ChapterShow.{ChapterShow}
use Rattle.doc_model.specs.declared.field.ChapterShow.TheVariants as chapter
use Rattle.doc_model.specs.declared.field.Select.{Select}
use Rattle.doc_model.specs.declared.field.Select.TheVariants as page
use Rattle.doc_model.specs.declared.field.RefForm.{RefForm}
use Rattle.doc_model.specs.declared.field.RefForm.TheVariants as reference
use Rattle.doc_model.specs.declared.field.SeqForm.{SeqForm}
use Rattle.doc_model.specs.declared.field.SeqForm.TheVariants as sequence
use Rattle.doc_model.specs.declared.field.NoteClass.{NoteClass}
use Rattle.doc_model.specs.declared.field.NoteClass.TheVariants as class

abbrev pub truth : Bool → List ℕ
truth true = codes "true"
truth false = codes "false"

abbrev pub family_text : Family → List ℕ
family_text family.Paragraph = codes "paragraph"
family_text family.Text = codes "text"
family_text family.Section = codes "section"

abbrev pub align_text : Align → List ℕ
align_text align.Start = codes "start"
align_text align.Center = codes "center"
align_text align.End = codes "end"

abbrev pub break_text : BreakAt → List ℕ
break_text break.Auto = codes "auto"
break_text break.Column = codes "column"
break_text break.Page = codes "page"

-- whether a paragraph is kept together, or with the next one
abbrev pub keep_text : Bool → List ℕ
keep_text true = codes "always"
keep_text false = codes "auto"

abbrev pub page_start_text : PageStart → List ℕ
page_start_text start.Auto = codes "auto"
page_start_text (start.At number) = decimal number

abbrev pub display_text : Bool → List ℕ
display_text true = codes "true"
display_text false = codes "none"

abbrev pub format_text : Format → List ℕ
format_text format.Digits = codes "1"
format_text format.LowerLetter = codes "a"
format_text format.UpperLetter = codes "A"
format_text format.LowerRoman = codes "i"
format_text format.UpperRoman = codes "I"
format_text format.Empty = []

abbrev pub chapter_text : ChapterShow → List ℕ
chapter_text chapter.Name = codes "name"
chapter_text chapter.Number = codes "number"
chapter_text chapter.PlainNumber = codes "plain-number"
chapter_text chapter.NumberAndName = codes "number-and-name"
chapter_text chapter.PlainNumberAndName = codes "plain-number-and-name"

abbrev pub select_text : Select → List ℕ
select_text page.Previous = codes "previous"
select_text page.Current = codes "current"
select_text page.Next = codes "next"

abbrev pub reference_text : RefForm → List ℕ
reference_text reference.Text = codes "text"
reference_text reference.Page = codes "page"
reference_text reference.Chapter = codes "chapter"
reference_text reference.Direction = codes "direction"

abbrev pub sequence_text : SeqForm → List ℕ
sequence_text sequence.Text = codes "text"
sequence_text sequence.Page = codes "page"
sequence_text sequence.Chapter = codes "chapter"
sequence_text sequence.Direction = codes "direction"
sequence_text sequence.Value = codes "value"
sequence_text sequence.CategoryAndValue = codes "category-and-value"
sequence_text sequence.Caption = codes "caption"

abbrev pub class_text : NoteClass → List ℕ
class_text class.Footnote = codes "footnote"
class_text class.Endnote = codes "endnote"

-- a whole number: digits, with a minus sign before those of one below 0
abbrev pub whole_text : ℤ → List ℕ
whole_text (pos number) = decimal number
whole_text (negsuc more) = codes "-" ++ decimal (more + 1)
