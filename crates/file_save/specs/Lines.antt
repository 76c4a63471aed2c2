-- The lines that tell what is left out of a file, and why a file isn't loaded.
use Rattle.std.specs.Prelude.{ℕ, ◌==◌, ◌&&◌, Bool, if◌then◌else◌, List, ◌++◌, codes, decimal, Option, None, Some}
use Rattle.doc_model.specs.declared.report.Report.{Report}
use Rattle.doc_model.specs.declared.refusal.Limit.{Limit}
use Rattle.doc_model.specs.Limits.{limit_number}
use Rattle.desk_model.specs.Replies.{limit_word}
use Rattle.doc_load.specs.declared.offence.Offence.{Offence}
use Rattle.doc_load.specs.declared.offence.OffenceKind.{OffenceKind}
use Rattle.doc_load.specs.declared.offence.OffenceKind.TheVariants as kind

-- whether a report tells of nothing
abbrev pub is_nothing : Report → Bool
is_nothing report = (report.elements == 0) && ((report.attributes == 0) && (report.sources == 0))

-- the line of a report
abbrev pub told_line : Report → List ℕ
told_line report = codes "report elements " ++ (decimal report.elements ++ (codes " attributes " ++ (decimal report.attributes ++ (codes " sources " ++ (decimal report.sources ++ codes "\n")))))

-- the line of a report, if it tells of something
abbrev pub report_line : Report → Option (List ℕ)
report_line report = if is_nothing report then None else Some (told_line report)

-- the words of a limit that is passed
abbrev pub limit_words : Limit → List ℕ
limit_words limit = codes "limit " ++ (limit_word limit ++ (codes " " ++ decimal (limit_number limit)))

-- the words of a kind of offence
abbrev pub kind_words : OffenceKind → List ℕ
kind_words kind.NotUtf8 = codes "not-utf8"
kind_words kind.Form = codes "form"
kind_words kind.Doctype = codes "doctype"
kind_words kind.Deep = codes "deep"
kind_words kind.Names = codes "names"
kind_words kind.Root = codes "root"
kind_words kind.Mime = codes "mime"
kind_words kind.NoText = codes "no-text"
kind_words kind.StyleLoop = codes "style-loop"
kind_words (kind.Limit limit) = limit_words limit
kind_words kind.Table = codes "table"

-- the line of an offence
abbrev pub offence_line : Offence → List ℕ
offence_line offence = codes "refused: " ++ (kind_words offence.kind ++ (codes " at " ++ (decimal offence.place ++ codes "\n")))
