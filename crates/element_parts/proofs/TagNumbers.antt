-- Tags are the same where their numbers are.
use Rattle.std.proofs.Common.{◌≡◌, ℕ, refl, ap₂}
use Rattle.std.proofs.Math.Dec.{eqb}
use denote.Enum.Bare.{sameb}
use denote.Enum.Declared.{tag_of}
use Rattle.load_model.specs.contracts.names.Tag.{the_type}
use Rattle.load_model.specs.declared.names.Tag.{Tag}
use Rattle.load_model.specs.declared.names.Tag.TheVariants as tag
use Rattle.load_model.specs.Left.{is_same_tag}

-- the number of a tag
abbrev place : Tag → ℕ
place tag.Document = 0
place tag.CommonStyles = 1
place tag.AutomaticStyles = 2
place tag.MasterStyles = 3
place tag.Body = 4
place tag.Text = 5
place tag.DefaultStyle = 6
place tag.Style = 7
place tag.ParagraphProperties = 8
place tag.TextProperties = 9
place tag.PageLayout = 10
place tag.PageLayoutProperties = 11
place tag.MasterPage = 12
place tag.Header = 13
place tag.Footer = 14
place tag.ListStyle = 15
place tag.OutlineStyle = 16
place tag.NumberLevel = 17
place tag.BulletLevel = 18
place tag.OutlineLevel = 19
place tag.VariableDeclarations = 20
place tag.VariableDeclaration = 21
place tag.SequenceDeclarations = 22
place tag.SequenceDeclaration = 23
place tag.Paragraph = 24
place tag.Heading = 25
place tag.List = 26
place tag.ListItem = 27
place tag.ListHeader = 28
place tag.Section = 29
place tag.SectionSource = 30
place tag.Index = 31
place tag.Span = 32
place tag.Spaces = 33
place tag.Tab = 34
place tag.LineBreak = 35
place tag.Note = 36
place tag.NoteCitation = 37
place tag.NoteBody = 38
place tag.Sequence = 39
place tag.VariableSet = 40
place tag.VariableGet = 41
place tag.Chapter = 42
place tag.PageNumber = 43
place tag.PageCount = 44
place tag.BookmarkReference = 45
place tag.SequenceReference = 46
place tag.NoteReference = 47
place tag.Bookmark = 48
place tag.BookmarkStart = 49
place tag.BookmarkEnd = 50
place tag.RubyText = 51
place tag.Table = 52
place tag.Foreign = 53
place tag.Other = 54

placed : (one : Tag) → tag_of the_type one ≡ place one
placed tag.Document = refl
placed tag.CommonStyles = refl
placed tag.AutomaticStyles = refl
placed tag.MasterStyles = refl
placed tag.Body = refl
placed tag.Text = refl
placed tag.DefaultStyle = refl
placed tag.Style = refl
placed tag.ParagraphProperties = refl
placed tag.TextProperties = refl
placed tag.PageLayout = refl
placed tag.PageLayoutProperties = refl
placed tag.MasterPage = refl
placed tag.Header = refl
placed tag.Footer = refl
placed tag.ListStyle = refl
placed tag.OutlineStyle = refl
placed tag.NumberLevel = refl
placed tag.BulletLevel = refl
placed tag.OutlineLevel = refl
placed tag.VariableDeclarations = refl
placed tag.VariableDeclaration = refl
placed tag.SequenceDeclarations = refl
placed tag.SequenceDeclaration = refl
placed tag.Paragraph = refl
placed tag.Heading = refl
placed tag.List = refl
placed tag.ListItem = refl
placed tag.ListHeader = refl
placed tag.Section = refl
placed tag.SectionSource = refl
placed tag.Index = refl
placed tag.Span = refl
placed tag.Spaces = refl
placed tag.Tab = refl
placed tag.LineBreak = refl
placed tag.Note = refl
placed tag.NoteCitation = refl
placed tag.NoteBody = refl
placed tag.Sequence = refl
placed tag.VariableSet = refl
placed tag.VariableGet = refl
placed tag.Chapter = refl
placed tag.PageNumber = refl
placed tag.PageCount = refl
placed tag.BookmarkReference = refl
placed tag.SequenceReference = refl
placed tag.NoteReference = refl
placed tag.Bookmark = refl
placed tag.BookmarkStart = refl
placed tag.BookmarkEnd = refl
placed tag.RubyText = refl
placed tag.Table = refl
placed tag.Foreign = refl
placed tag.Other = refl

pub same_tags : (one other : Tag) → sameb the_type one other ≡ is_same_tag one other
same_tags one other = ap₂ eqb (placed one) (placed other)
