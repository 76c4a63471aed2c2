-- Replies as they are printed.
use Rattle.std.specs.Prelude.{ℕ, ◌==◌, nat_lt, if◌then◌else◌, false, List, [], ◌∷◌, ◌++◌, length, codes, decimal, Option, Some, None}
use Rattle.std.specs.List.{flat_map}
use Rattle.std.specs.Char.{encode_utf8}
use Rattle.std.specs.Str.{encode_utf8_all}
use Rattle.std.specs.Fmt.{digits}
use Rattle.doc_model.specs.declared.page.Page.{Page}
use Rattle.doc_model.specs.declared.refusal.Limit.{Limit}
use Rattle.doc_model.specs.declared.refusal.Limit.TheVariants.{Paragraphs, ItemsOfParagraph, Items, Sections, SectionDepth, Styles, ListStyles, Layouts, Masters, Declarations, NameLength, Operations, Identifiers}
use Rattle.doc_model.specs.declared.refusal.NameSort.{NameSort}
use Rattle.doc_model.specs.declared.refusal.NameSort.TheVariants as sort
use Rattle.doc_model.specs.declared.refusal.Refusal.{Refusal}
use Rattle.doc_model.specs.declared.refusal.Refusal.TheVariants.{PastEnd, BadRange, BadChar}
use Rattle.doc_model.specs.declared.refusal.Refusal.TheVariants as refusal
use Rattle.desk_model.specs.declared.reply.Reply.{Reply}
use Rattle.desk_model.specs.declared.reply.Reply.TheVariants as reply
use Rattle.line_model.specs.declared.job.Job.{Job}
use Rattle.line_model.specs.declared.job.Stamp.{Stamp}

-- the word of a limit
abbrev pub limit_word : Limit → List ℕ
limit_word Paragraphs = codes "paragraphs"
limit_word ItemsOfParagraph = codes "items-of-paragraph"
limit_word Items = codes "items"
limit_word Sections = codes "sections"
limit_word SectionDepth = codes "section-depth"
limit_word Styles = codes "styles"
limit_word ListStyles = codes "list-styles"
limit_word Layouts = codes "layouts"
limit_word Masters = codes "masters"
limit_word Declarations = codes "declarations"
limit_word NameLength = codes "name"
limit_word Operations = codes "operations"
limit_word Identifiers = codes "identifiers"

-- a character between quotes: quote, backslash, line feed and tab behind a backslash, and others below U+20 by their number
abbrev pub quoted_char : ℕ → List ℕ
quoted_char c =
    if c == 0x22 then codes "\\\"" else if c == 0x5c then codes "\\\\" else if c == 0xa then codes "\\n" else if c == 0x9 then codes "\\t"
    else if nat_lt c 0x20 then codes "\\u{" ++ (digits 16 false c ++ codes "}") else encode_utf8 c

-- a text in quotes
abbrev pub quoted : List ℕ → List ℕ
quoted text = codes "\"" ++ (flat_map quoted_char text ++ codes "\"")

-- the word of what a name names
abbrev pub sort_word : NameSort → List ℕ
sort_word sort.Style = codes "style"
sort_word sort.ListStyle = codes "list-style"
sort_word sort.Master = codes "master"
sort_word sort.Bookmark = codes "bookmark"
sort_word sort.Section = codes "section"
sort_word sort.Sequence = codes "sequence"
sort_word sort.Variable = codes "variable"
sort_word sort.Reference = codes "reference"
sort_word sort.Note = codes "note"
sort_word sort.Property = codes "property"

-- the words of a refusal
abbrev pub refusal_words : Refusal → List ℕ
refusal_words (refusal.NoPar par) = codes "no-par " ++ decimal par.0
refusal_words (PastEnd par count) = codes "past-end " ++ (decimal par.0 ++ (codes " " ++ decimal count))
refusal_words (BadRange from to) = codes "bad-range " ++ (decimal from ++ (codes " " ++ decimal to))
refusal_words (BadChar offset) = codes "bad-char " ++ decimal offset
refusal_words (refusal.Limit limit number) = codes "limit " ++ (limit_word limit ++ (codes " " ++ decimal number))
refusal_words (refusal.NoName sort name) = codes "no-name " ++ (sort_word sort ++ (codes " " ++ quoted name))
refusal_words (refusal.NameTaken sort name) = codes "name-taken " ++ (sort_word sort ++ (codes " " ++ quoted name))
refusal_words (refusal.Protected name) = codes "protected " ++ quoted name
refusal_words (refusal.StyleLoop name) = codes "style-loop " ++ quoted name
refusal_words (refusal.InUse name par) = codes "in-use " ++ (quoted name ++ (codes " " ++ decimal par.0))
refusal_words (refusal.NotTogether first second) = codes "not-together " ++ (decimal first.0 ++ (codes " " ++ decimal second.0))
refusal_words (refusal.Level level) = codes "level " ++ decimal level
refusal_words (refusal.LastPar par) = codes "last-par " ++ decimal par.0

-- the two numbers of a stamp
abbrev pub stamp_words : Stamp → List ℕ
stamp_words stamp = decimal stamp.revision ++ (codes " " ++ decimal stamp.epoch)

-- the present stamp, or that the paragraph is gone
abbrev pub now_words : Option Stamp → List ℕ
now_words (Some stamp) = stamp_words stamp
now_words None = codes "none"

-- a page, with its rows
abbrev pub page_words : Page → ℕ → List ℕ
page_words page count =
    codes "page " ++ (decimal page.index ++ (codes " of " ++ (decimal count ++ (codes " number " ++ (decimal page.number ++ (codes "\n"
    ++ flat_map (λ row. encode_utf8_all row ++ codes "\n") page.rows))))))

-- a word before a number, on a line
abbrev pub number_line : List ℕ → ℕ → List ℕ
number_line word number = word ++ (codes " " ++ (decimal number ++ codes "\n"))

-- the words of a reply, with the line feed at their end; saved bytes follow theirs as they are
abbrev pub reply_words : Reply → List ℕ
reply_words (reply.Changed version) = number_line (codes "changed") version
reply_words (reply.Refused index why) = codes "refused " ++ (decimal index ++ (codes " " ++ (refusal_words why ++ codes "\n")))
reply_words reply.NothingToUndo = codes "nothing-to-undo\n"
reply_words reply.NothingToRedo = codes "nothing-to-redo\n"
reply_words (reply.Changes number) = number_line (codes "changes") number
reply_words reply.Settled = codes "settled\n"
reply_words (reply.Moved debt) = number_line (codes "moved") debt
reply_words (reply.Job job) = codes "job " ++ (decimal job.par.0 ++ (codes " " ++ (stamp_words job.stamp ++ codes "\n")))
reply_words (reply.Stale had now) = codes "stale had " ++ (stamp_words had ++ (codes " now " ++ (now_words now ++ codes "\n")))
reply_words reply.Already = codes "already\n"
reply_words (reply.Entered debt) = number_line (codes "entered") debt
reply_words (reply.Page page count) = page_words page count
reply_words (reply.NotYet debt) = number_line (codes "not-yet") debt
reply_words (reply.NoPage count) = number_line (codes "no-page") count
reply_words (reply.Text text) = codes "text " ++ (quoted text ++ codes "\n")
reply_words (reply.NoPar par) = number_line (codes "no-par") par.0
reply_words (reply.Saved bytes) = codes "saved " ++ (decimal (length bytes) ++ (codes "\n" ++ bytes))
reply_words (reply.Snapped version) = number_line (codes "snapped") version
reply_words (reply.Debt debt) = number_line (codes "debt") debt
reply_words (reply.Version version) = number_line (codes "version") version

-- the answer to a publish under a name that no job is kept under
abbrev pub no_job_words : List ℕ
no_job_words = codes "none\n"

-- the answer to a settle that made so many turns
abbrev pub settled_words : ℕ → List ℕ
settled_words turns = number_line (codes "settled") turns

-- an answer behind the number of its line
abbrev pub numbered_words : ℕ → List ℕ → List ℕ
numbered_words line words = decimal line ++ (codes ": " ++ words)
