-- Words are read back.
use Rattle.std.proofs.Common.{◌≡◌, Bool, true, false, refl, Some}
use Rattle.doc_model.specs.declared.field.ChapterShow.{ChapterShow}
use Rattle.doc_model.specs.declared.field.ChapterShow.TheVariants as chapter
use Rattle.doc_model.specs.declared.field.Format.{Format}
use Rattle.doc_model.specs.declared.field.Format.TheVariants as format
use Rattle.doc_model.specs.declared.field.NoteClass.{NoteClass}
use Rattle.doc_model.specs.declared.field.NoteClass.TheVariants as class
use Rattle.doc_model.specs.declared.field.RefForm.{RefForm}
use Rattle.doc_model.specs.declared.field.RefForm.TheVariants as reference
use Rattle.doc_model.specs.declared.field.Select.{Select}
use Rattle.doc_model.specs.declared.field.Select.TheVariants as page
use Rattle.doc_model.specs.declared.field.SeqForm.{SeqForm}
use Rattle.doc_model.specs.declared.field.SeqForm.TheVariants as sequence
use Rattle.doc_model.specs.declared.style.Align.{Align}
use Rattle.doc_model.specs.declared.style.Align.TheVariants as align
use Rattle.doc_model.specs.declared.style.BreakAt.{BreakAt}
use Rattle.doc_model.specs.declared.style.BreakAt.TheVariants as break
use Rattle.doc_model.specs.declared.style.Family.{Family}
use Rattle.doc_model.specs.declared.style.Family.TheVariants as family
use Rattle.load_model.specs.Values as value
use Rattle.written_model.specs.Values as text

pub truth_back : (one : Bool) → value.truth (text.truth one) ≡ Some one
truth_back true = refl
truth_back false = refl

pub family_back : (one : Family) → value.family_of_text (text.family_text one) ≡ Some one
family_back family.Paragraph = refl
family_back family.Text = refl
family_back family.Section = refl

pub align_back : (one : Align) → value.alignment (text.align_text one) ≡ Some one
align_back align.Start = refl
align_back align.Center = refl
align_back align.End = refl

pub break_back : (one : BreakAt) → value.break_at (text.break_text one) ≡ Some one
break_back break.Auto = refl
break_back break.Column = refl
break_back break.Page = refl

pub keep_back : (one : Bool) → value.keep (text.keep_text one) ≡ Some one
keep_back true = refl
keep_back false = refl

pub display_back : (one : Bool) → value.display (text.display_text one) ≡ Some one
display_back true = refl
display_back false = refl

pub format_back : (one : Format) → value.number_format (text.format_text one) ≡ Some one
format_back format.Digits = refl
format_back format.LowerLetter = refl
format_back format.UpperLetter = refl
format_back format.LowerRoman = refl
format_back format.UpperRoman = refl
format_back format.Empty = refl

pub chapter_back : (one : ChapterShow) → value.chapter_display (text.chapter_text one) ≡ Some one
chapter_back chapter.Name = refl
chapter_back chapter.Number = refl
chapter_back chapter.PlainNumber = refl
chapter_back chapter.NumberAndName = refl
chapter_back chapter.PlainNumberAndName = refl

pub select_back : (one : Select) → value.page_select (text.select_text one) ≡ Some one
select_back page.Previous = refl
select_back page.Current = refl
select_back page.Next = refl

pub reference_back : (one : RefForm) → value.reference_form (text.reference_text one) ≡ Some one
reference_back reference.Text = refl
reference_back reference.Page = refl
reference_back reference.Chapter = refl
reference_back reference.Direction = refl

pub sequence_back : (one : SeqForm) → value.sequence_form (text.sequence_text one) ≡ Some one
sequence_back sequence.Text = refl
sequence_back sequence.Page = refl
sequence_back sequence.Chapter = refl
sequence_back sequence.Direction = refl
sequence_back sequence.Value = refl
sequence_back sequence.CategoryAndValue = refl
sequence_back sequence.Caption = refl

pub class_back : (one : NoteClass) → value.note_class (text.class_text one) ≡ Some one
class_back class.Footnote = refl
class_back class.Endnote = refl
