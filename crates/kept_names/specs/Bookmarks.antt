-- What came of each bookmark.
use Rattle.std.specs.Prelude.{◌≡◌, ℕ, ◌==◌, ◌&&◌, ◌||◌, Bool, true, false, if◌then◌else◌, List, [], filter, map, chars, Option, Some, None, unwrap_or}
use Rattle.std.specs.List.{list_any}
use Rattle.std.specs.Borrow.{Bor}
use Rattle.std.specs.Map.{lookup}
use Rattle.std.specs.Str.{bytes_eq, IsUtf8}
use Rattle.load_model.specs.Met.{Met, MetMark, Mark, is_mark, is_complete, new_marks}
use Rattle.met_read.specs.declared.things.MarkKind.{MarkKind}
use Rattle.met_read.specs.declared.things.MarkKind.TheVariants as kind
use Rattle.met_read.specs.Read.{kind_of}
use Rattle.kept_names.specs.declared.bookmarks.Came.{Came}
use Rattle.kept_names.specs.declared.bookmarks.Came.TheVariants as came
use Rattle.kept_names.specs.declared.bookmarks.Bookmark.{Bookmark}

-- the mark that is met, if it is one
abbrev pub mark_in : Met → Option MetMark
mark_in (Mark mark) = Some mark
mark_in _ = None

-- whether something came
abbrev pub is_met : Came → Bool
is_met came.Never = false
is_met came.Dropped = true
is_met (came.Kept text) = true

-- whether a mark is kept
abbrev pub is_kept : Came → Bool
is_kept came.Never = false
is_kept came.Dropped = false
is_kept (came.Kept text) = true

-- whether a mark is kept in a text
abbrev pub is_in : ℕ → Came → Bool
is_in text came.Never = false
is_in text came.Dropped = false
is_in text (came.Kept other) = other == text

-- what came of a kind of mark
abbrev pub of_kind : MarkKind → Bookmark → Came
of_kind kind.Whole bookmark = bookmark.whole
of_kind kind.Start bookmark = bookmark.start
of_kind kind.End bookmark = bookmark.end

-- the bookmark of which this came of a kind
abbrev pub with_kind : MarkKind → Came → Bookmark → Bookmark
with_kind kind.Whole came bookmark = record bookmark { whole = came }
with_kind kind.Start came bookmark = record bookmark { start = came }
with_kind kind.End came bookmark = record bookmark { end = came }

-- whether the end that came has its start in the same text
abbrev pub has_start : Came → Came → Bool
has_start start came.Never = false
has_start start came.Dropped = false
has_start start (came.Kept text) = is_in text start

-- whether a whole bookmark is kept
abbrev pub is_whole : Bookmark → Bool
is_whole bookmark = is_kept bookmark.whole || has_start bookmark.start bookmark.end

-- what came behind one more mark in a text, where a whole bookmark is kept already or isn't
abbrev pub next : Bool → ℕ → Came → Came
next is_whole text came.Never = if is_whole then came.Dropped else came.Kept text
next is_whole text came.Dropped = came.Dropped
next is_whole text (came.Kept other) = came.Kept other

-- what came of a bookmark behind a mark
abbrev pub after_mark : MarkKind → ℕ → Bookmark → Bookmark
after_mark kind text bookmark = with_kind kind (next (is_whole bookmark) text (of_kind kind bookmark)) bookmark

-- whether a kept mark is whole, or its partner is kept
abbrev pub completes : MarkKind → ℕ → Bookmark → Bool
completes kind.Whole text bookmark = true
completes kind.Start text bookmark = is_in text bookmark.end
completes kind.End text bookmark = is_in text bookmark.start

-- nothing came of a bookmark
abbrev pub never : Bookmark
never = record { whole = came.Never; start = came.Never; end = came.Never }

-- a mark of a kind and name in a text
abbrev pub is_mark_in : MarkKind → List ℕ → ℕ → MetMark → Bool
is_mark_in kind name text mark = is_mark (kind_of kind) name mark && mark.text == text

-- what came of the bookmark of a name, by the marks before and those that are kept
pub record Knows (bookmark : Bookmark) (name : List ℕ) (before marks : List MetMark) : Type 0 where
  pub met : (kind : MarkKind) → is_met (of_kind kind bookmark) ≡ list_any (is_mark (kind_of kind) name) before
  pub kept : (kind : MarkKind) → is_kept (of_kind kind bookmark) ≡ list_any (is_mark (kind_of kind) name) marks
  pub kept_in : (kind : MarkKind) (text : ℕ) → is_in text (of_kind kind bookmark) ≡ list_any (is_mark_in kind name text) marks

-- what came of the bookmark of a name
abbrev pub bookmark_in : List (Bor (List ℕ) × Bookmark) → List ℕ → Bookmark
bookmark_in bookmarks text = unwrap_or (lookup (λ name. bytes_eq text name.now) bookmarks) never

-- what came of each bookmark is known
abbrev pub Tells : List (Bor (List ℕ) × Bookmark) → List MetMark → List MetMark → Type 0
Tells bookmarks before kept = (text : List ℕ) → IsUtf8 text → Knows (bookmark_in bookmarks text) (chars text) before kept

-- the marks of new names are kept, and what came of each bookmark is known
pub record Follows (bookmarks : List (Bor (List ℕ) × Bookmark)) (kept marks : List MetMark) : Type 0 where
  pub kept_are : kept ≡ new_marks [] [] marks
  pub tells : Tells bookmarks marks kept

-- the places of those marks of new names that are whole or have a partner
abbrev pub complete_places : List MetMark → List ℕ
complete_places marks = map (λ mark. mark.place) (filter (is_complete (new_marks [] [] marks)) (new_marks [] [] marks))
