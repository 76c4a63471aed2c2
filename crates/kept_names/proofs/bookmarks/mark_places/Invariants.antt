use Rattle.std.proofs.Common.{map}
use Rattle.met_read.specs.Read.{mark_of}
use Rattle.kept_names.specs.Bookmarks.{Follows}
use Rattle.kept_names.proofs.MarkLemmas.{marks_to}
use Rattle.kept_names.proofs.bookmarks.mark_places.Given as goal

abbrev pub invariant-loop-one : goal.invariant-loop-one
invariant-loop-one l = Follows l.bookmarks.entries (map mark_of l.kept.items) (marks_to l.met l.one-index)
