-- The values of attributes are legal.
use Rattle.std.proofs.Common.{Bool, true, false, refl}
use Rattle.markup_parts.specs.Chars.{is_legal}
use Rattle.doc_model.specs.declared.style.Family.{Family}
use Rattle.doc_model.specs.declared.style.Family.TheVariants as family
use Rattle.doc_model.specs.declared.style.Align.{Align}
use Rattle.doc_model.specs.declared.style.Align.TheVariants as align
use Rattle.doc_model.specs.declared.style.BreakAt.{BreakAt}
use Rattle.doc_model.specs.declared.style.BreakAt.TheVariants as break
use Rattle.doc_model.specs.declared.style.PageStart.{PageStart}
use Rattle.doc_model.specs.declared.style.PageStart.TheVariants as start
use Rattle.doc_model.specs.declared.field.Format.{Format}
use Rattle.doc_model.specs.declared.field.Format.TheVariants as format
use Rattle.doc_model.specs.declared.field.ChapterShow.{ChapterShow}
use Rattle.doc_model.specs.declared.field.ChapterShow.TheVariants as chapter
use Rattle.doc_model.specs.declared.field.Select.{Select}
use Rattle.doc_model.specs.declared.field.Select.TheVariants as page
use Rattle.doc_model.specs.declared.field.RefForm.{RefForm}
use Rattle.doc_model.specs.declared.field.RefForm.TheVariants as reference
use Rattle.doc_model.specs.declared.field.SeqForm.{SeqForm}
use Rattle.doc_model.specs.declared.field.SeqForm.TheVariants as sequence
use Rattle.doc_model.specs.declared.field.NoteClass.{NoteClass}
use Rattle.doc_model.specs.declared.field.NoteClass.TheVariants as class
use Rattle.written_model.specs.Values.{truth, family_text, align_text, break_text, keep_text, page_start_text, display_text, format_text, chapter_text, select_text, reference_text, sequence_text, class_text}
use Rattle.back_writable.proofs.Chars.{AreLegal, decimal_legal}

pub truth_legal : (value : Bool) → AreLegal (truth value)
unfolding is_legal
truth_legal true = refl
truth_legal false = refl

pub family_legal : (value : Family) → AreLegal (family_text value)
unfolding is_legal
family_legal family.Paragraph = refl
family_legal family.Text = refl
family_legal family.Section = refl

pub align_legal : (value : Align) → AreLegal (align_text value)
unfolding is_legal
align_legal align.Start = refl
align_legal align.Center = refl
align_legal align.End = refl

pub break_legal : (value : BreakAt) → AreLegal (break_text value)
unfolding is_legal
break_legal break.Auto = refl
break_legal break.Column = refl
break_legal break.Page = refl

pub keep_legal : (value : Bool) → AreLegal (keep_text value)
unfolding is_legal
keep_legal true = refl
keep_legal false = refl

pub page_start_legal : (value : PageStart) → AreLegal (page_start_text value)
unfolding is_legal
page_start_legal start.Auto = refl
page_start_legal (start.At number) = decimal_legal number

pub display_legal : (value : Bool) → AreLegal (display_text value)
unfolding is_legal
display_legal true = refl
display_legal false = refl

pub format_legal : (value : Format) → AreLegal (format_text value)
unfolding is_legal
format_legal format.Digits = refl
format_legal format.LowerLetter = refl
format_legal format.UpperLetter = refl
format_legal format.LowerRoman = refl
format_legal format.UpperRoman = refl
format_legal format.Empty = refl

pub chapter_legal : (value : ChapterShow) → AreLegal (chapter_text value)
unfolding is_legal
chapter_legal chapter.Name = refl
chapter_legal chapter.Number = refl
chapter_legal chapter.PlainNumber = refl
chapter_legal chapter.NumberAndName = refl
chapter_legal chapter.PlainNumberAndName = refl

pub select_legal : (value : Select) → AreLegal (select_text value)
unfolding is_legal
select_legal page.Previous = refl
select_legal page.Current = refl
select_legal page.Next = refl

pub reference_legal : (value : RefForm) → AreLegal (reference_text value)
unfolding is_legal
reference_legal reference.Text = refl
reference_legal reference.Page = refl
reference_legal reference.Chapter = refl
reference_legal reference.Direction = refl

pub sequence_legal : (value : SeqForm) → AreLegal (sequence_text value)
unfolding is_legal
sequence_legal sequence.Text = refl
sequence_legal sequence.Page = refl
sequence_legal sequence.Chapter = refl
sequence_legal sequence.Direction = refl
sequence_legal sequence.Value = refl
sequence_legal sequence.CategoryAndValue = refl
sequence_legal sequence.Caption = refl

pub class_legal : (value : NoteClass) → AreLegal (class_text value)
unfolding is_legal
class_legal class.Footnote = refl
class_legal class.Endnote = refl
