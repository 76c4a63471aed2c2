-- How an element is read where the content of a paragraph is.
use Rattle.std.specs.Prelude.{◌≡◌, ◌++◌, ◌∷◌, [], ◌||◌, Bool, true, chars}
use Rattle.load_model.specs.declared.names.Tag.{Tag}
use Rattle.load_model.specs.declared.names.Tag.TheVariants as tag
use Rattle.load_model.specs.declared.element.Element.{Element}
use Rattle.load_model.specs.Blocks.{Known, Around, ReadContent, content_with}
use Rattle.load_model.specs.Fields.{is_field}
use Rattle.load_model.specs.Left.{Left}
use Rattle.load_model.specs.Met.{is_dropped}
use Rattle.element_parts.specs.Shown.{shown}
use Rattle.element_parts.specs.declared.left.LeftOut.{LeftOut}
use Rattle.content_read.specs.Held.{content_at, content_in}
use Rattle.content_read.specs.declared.roles.Role.{Role}
use Rattle.content_read.specs.declared.roles.Role.TheVariants as role

-- whether an element is read by itself: its content isn't that of what it holds, and it is no note
abbrev pub is_alone : Tag → Bool
is_alone tag.Spaces = true
is_alone tag.Tab = true
is_alone tag.LineBreak = true
is_alone tag.Bookmark = true
is_alone tag.BookmarkStart = true
is_alone tag.BookmarkEnd = true
is_alone other = is_field other || is_dropped other

-- the content is what is held, and more is left out
pub record IsBeside (left : LeftOut) (inside content : ReadContent) : Type 0 where
  pub more : Left
  pub left_is : left ≡ shown more
  pub content_is : content ≡ content_with more inside

-- an element that is read by itself, or a note, is told by its tag
abbrev pub HasTag : Role → Tag → Type 0
HasTag role.Alone which = is_alone which ≡ true
HasTag role.Note which = which ≡ tag.Note
HasTag (role.Passed left) which = Unit {0}
HasTag (role.Span name left) which = Unit {0}

-- the content of any other is that of what it holds: as it is, or in one more span
abbrev pub IsRead : Role → Known → Element → Around → Type 0
IsRead role.Alone known element around = Unit {0}
IsRead role.Note known element around = Unit {0}
IsRead (role.Passed left) known element around = IsBeside left (content_in known element around) (content_at known element around)
IsRead (role.Span name left) known element around = IsBeside left (content_in known element (record around { spans = around.spans ++ chars name.now ∷ [] })) (content_at known element around)
