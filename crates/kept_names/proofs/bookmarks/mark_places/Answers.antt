use Rattle.std.proofs.Common.{map}
use Rattle.met_read.specs.Read.{mark_of}
use Rattle.kept_names.proofs.MarkLemmas.{marks_to, follows_mark, follows_other}
use Rattle.kept_names.proofs.bookmarks.mark_places.Goals as goal
use Rattle.kept_names.proofs.bookmarks.mark_places.Goals.{in-Some+in_ok-add_mark-in-Some, in-None}

pub loop-one-preserved : goal.loop-one-preserved
loop-one-preserved c =
    elim c.match-mark_in.branch [
      | in-Some+in_ok-add_mark-in-Some w ↦
          rw (w.bookmarks-is, w.kept-is) (follows_mark c.args.met.now c.loop-one.one-index _ w.add_mark.new.bookmarks.entries (map mark_of w.add_mark.new.kept.items) (mark_of w.in-Some.mark) c.loop-one-test.true w.in-Some.ensures
          (w.in_ok-add_mark-in-Some.ensures (marks_to c.args.met.now c.loop-one.one-index) c.loop-one.invariant))
      | in-None w ↦
          rw (w.bookmarks-is, w.kept-is) (follows_other c.args.met.now c.loop-one.one-index _ c.loop-one.bookmarks.entries (map mark_of c.loop-one.kept.items) c.loop-one-test.true w.in-None.ensures c.loop-one.invariant)
    ]
