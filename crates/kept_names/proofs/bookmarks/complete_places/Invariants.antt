use Rattle.std.proofs.Common.{List, map, take}
use Rattle.load_model.specs.Met.{MetMark}
use Rattle.met_read.specs.Read.{mark_of}
use Rattle.kept_names.specs.Bookmarks.{Follows}
use Rattle.kept_names.specs.Places.{AreSame}
use Rattle.kept_names.proofs.MarkLemmas.{complete_in}
use Rattle.kept_names.proofs.bookmarks.complete_places.Given as goal

abbrev pub invariant-loop-mark : goal.invariant-loop-mark
invariant-loop-mark l = (marks : List MetMark) → Follows l.bookmarks.entries (map mark_of l.kept) marks → AreSame l.places (complete_in (map mark_of l.kept) (map mark_of (take l.mark-index l.kept)))
