-- The limits of a document, in the order in which a passed one is named.
use Rattle.std.specs.Prelude.{ℕ, ◌+◌, ◌≤◌, List, [], ◌∷◌, ◌++◌, map, max, fold, length, sum_by, find, nat_lt, Option, filter, Bool, true, false}
use Rattle.std.specs.List.{AllByRecursion as Each}
use Rattle.doc_model.specs.declared.refusal.Limit.{Limit}
use Rattle.doc_model.specs.declared.refusal.Limit.TheVariants.{Paragraphs, ItemsOfParagraph, Items, Sections, SectionDepth, Styles, ListStyles, Layouts, Masters, Declarations, NameLength, Operations, Identifiers}
use Rattle.doc_model.specs.declared.block.Kind.{Kind}
use Rattle.doc_model.specs.declared.block.Kind.TheVariants.{Row, Cell}
use Rattle.doc_model.specs.declared.document.Document.{Document}
use Rattle.doc_model.specs.Reading.{paragraphs}
use Rattle.doc_model.specs.Parts.{items_of, sections, depth_of, head_paragraphs, names}

-- the number of each limit
abbrev pub limit_number : Limit → ℕ
limit_number Paragraphs = 65536
limit_number ItemsOfParagraph = 32768
limit_number Items = 4194304
limit_number Sections = 8192
limit_number SectionDepth = 32
limit_number Styles = 16384
limit_number ListStyles = 4096
limit_number Layouts = 1024
limit_number Masters = 1024
limit_number Declarations = 4096
limit_number NameLength = 1024
limit_number Operations = 1024
limit_number Identifiers = 4294967295

-- rows and cells of tables don't count as sections
abbrev pub counts_as_section : Kind → Bool
counts_as_section Row = false
counts_as_section (Cell span) = false
counts_as_section _ = true

-- the greatest of some numbers, or 0
abbrev pub greatest : List ℕ → ℕ
greatest numbers = fold max 0 numbers

-- what a limit of a document limits
abbrev pub measure : Document → Limit → ℕ
measure doc Paragraphs = length (paragraphs doc)
measure doc ItemsOfParagraph = greatest (map (λ par. length (items_of par)) (paragraphs doc) ++ map (λ par. length par.items) (head_paragraphs doc))
measure doc Items = sum_by (λ par. length (items_of par)) (paragraphs doc)
measure doc Sections = length (filter (λ section. counts_as_section section.kind) (sections doc))
measure doc SectionDepth = greatest (map depth_of doc.body)
measure doc Styles = length doc.styles
measure doc ListStyles = length doc.lists
measure doc Layouts = length doc.layouts
measure doc Masters = length doc.masters
measure doc Declarations = length doc.variables + length doc.sequences
measure doc NameLength = greatest (map length (names doc))
-- these two limit groups of edits and the numbers that they give, and no document
measure doc Operations = 0
measure doc Identifiers = 0

-- the limits of a document in their order
abbrev pub document_limits : List Limit
document_limits = Paragraphs ∷ ItemsOfParagraph ∷ Items ∷ Sections ∷ SectionDepth ∷ Styles ∷ ListStyles ∷ Layouts ∷ Masters ∷ Declarations ∷ NameLength ∷ []

-- the first limit that the document passes, if it passes one
abbrev pub first_passed : Document → Option Limit
first_passed doc = find (λ limit. nat_lt (limit_number limit) (measure doc limit)) document_limits

-- the document passes no limit
abbrev pub IsWithinLimits : Document → Type 0
IsWithinLimits doc = Each (λ limit. measure doc limit ≤ limit_number limit) document_limits
